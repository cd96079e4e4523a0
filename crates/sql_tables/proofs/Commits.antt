-- What is left of statements in a transaction, once its commit was tried.
use Rattle.std.proofs.Common.{◌≡◌, ◌∙◌, ◌≤◌, ℕ, Bool, true, false, Ok, Err, Result, IsOk, IsErr, IsTrue, OnOk, arith, sym, subst}
use Rattle.sqlite.specs.Tree.{Trees}
use Rattle.sqlite.specs.Effect.{Database}
use Rattle.sqlite.specs.Store.{Ghosts}
use Rattle.sqlite.specs.State.{HasCleanDisk, KeepsCommit, Shows, Survives}
use Rattle.sqlite.specs.Held.{Held, state}
use Rattle.sqlite.specs.declared.error.Error.{Error}
use Rattle.sqlite_trees.specs.View.{doubt}
use Rattle.sqlite.proofs.StateLemmas.{survives_then}
use Rattle.sqlite.proofs.Callers.{survives_begin}
use Rattle.sql_tables.specs.OneTransaction.{IsOneTransaction}

on_ok : {P : Type 0} (done : Result ℕ Error) → IsOk done → OnOk done P → P
on_ok (Ok n) is it = it
on_ok (Err e) is it = cc

-- `old` is the connection before the transaction, `begun` and `last` before and after its statements, and `tried` and `end` after it
module _ {S : Type 0} (g : Ghosts S) (old begun last tried end : Held S) (done : Result ℕ Error)
    (is : begun ≡ record old { in_transaction = true }) (same : tried ≡ end) where
  -- a crash leaves what it could leave before, or all that they did
  all_or_none : (Ran : Database → Type 0) → (HasCleanDisk (state g last) → OnOk done (Ran (state g last).now))
      → Survives (state g begun) (state g last) (λ _. ⊥)
      → Survives (state g last) (state g tried) (λ trees. IsOk done × (trees ≡ (state g last).now.trees))
      → Survives (state g old) (state g end) (λ trees. (db : Database) × Ran db × (trees ≡ db.trees))
  all_or_none Ran all inside finish =
      let P : Trees → Type 0 = λ trees. (db : Database) × Ran db × (trees ≡ db.trees) in
      let whole = survives_then (state g old) (state g last) (state g tried) _ _ P (λ _ db none. absurd none)
      (λ clean db made. (_, on_ok done made.0 (all (omega (arith, finish.clean))), made.1))
      (survives_begin g old (state g last) _ (rw is at inside)) finish in
      subst (λ h. Survives (state g old) (state g h) P) same whole

  -- where it was undone, the connection is as it was
  none_left : (IsTrue (state g old).is_open → (state g old).now ≡ (state g old).committed)
      → (HasCleanDisk (state g last) → IsTrue begun.in_transaction → OnOk done (IsTrue (state g last).in_transaction))
      → (HasCleanDisk (state g last) → IsTrue begun.in_transaction → KeepsCommit (state g begun) (state g last))
      → doubt (state g last).is_clean ≤ doubt (state g tried).is_clean
      → (HasCleanDisk (state g tried) → IsTrue (state g tried).is_open → OnOk done (IsTrue (state g last).in_transaction)
      → IsTrue (state g last).is_open × ((state g tried).now ≡ (state g last).committed)
      × ((state g tried).committed ≡ (state g last).committed))
      → HasCleanDisk (state g end) → IsTrue (state g end).is_open → ((state g end).now ≡ (state g old).now)
      × ((state g end).committed ≡ (state g old).committed)
  none_left settled inside kept fewer undone clean up =
      let late : HasCleanDisk (state g tried) = rw same clean in
      let before : HasCleanDisk (state g last) = omega (arith, fewer, late) in
      let mode : IsTrue begun.in_transaction = rw is in
      let back = undone late (subst (λ (h : Held _). IsTrue (state g h).is_open) (sym same) up) (inside before mode) in
      let held : KeepsCommit (state g old) (state g last) = let h = rw is at (kept before mode) in
      record { was_open = h.was_open; committed = h.committed } in
      let still = held.committed back.0 in
      subst (λ (h : Held _). ((state g h).now ≡ (state g old).now) × ((state g h).committed ≡ (state g old).committed)) same
      (back.1 ∙ still ∙ sym (settled (held.was_open back.0)), back.2 ∙ still)

  -- after the commit all of it is there, and the connection is open
  module _ (shows : HasCleanDisk (state g tried) → Shows (state g last) (state g tried) (state g last).now (state g last).now false)
      (clean : HasCleanDisk (state g end)) where
    late : HasCleanDisk (state g tried)
    late = rw same clean

    is_made : (Ran : Database → Type 0) → (HasCleanDisk (state g last) → OnOk done (Ran (state g last).now)) → IsOk done
        → doubt (state g last).is_clean ≤ doubt (state g tried).is_clean
        → Ran (state g end).committed
    is_made Ran all whole kept = subst (λ h. Ran (state g h).committed) same
        (subst Ran (sym (shows late).committed_is) (on_ok done whole (all (omega (arith, kept, late)))))

    is_up : IsTrue (state g end).is_open
    is_up = subst (λ h. IsTrue (state g h).is_open) same (shows late).is_open

  -- what is said of the whole, by what is said of the statements and of their commit
  module _ (Ran : Held S → Database → Type 0)
      (ran : HasCleanDisk (state g last) → (before : Held S) → begun ≡ record before { in_transaction = true }
      → OnOk done (Ran before (state g last).now)) (stays : Survives (state g begun) (state g last) (λ _. ⊥))
      (ended : tried.in_transaction ≡ false)
      (finish : Survives (state g last) (state g tried) (λ trees. IsOk done × (trees ≡ (state g last).now.trees))) where
    crash : Survives (state g old) (state g end) (λ trees. (db : Database) × Ran old db × (trees ≡ db.trees))
    crash = all_or_none (Ran old) (λ clean. ran clean old is) stays finish

    -- the whole of it, once it is committed
    pub one_made : (IsTrue (state g end).is_open → (state g end).now ≡ (state g end).committed)
        → (HasCleanDisk (state g tried) → Shows (state g last) (state g tried) (state g last).now (state g last).now false)
        → IsOk done → IsOneTransaction g Ran old end (Ok true)
    one_made settled shows whole = record {
      all = λ clean _. is_made shows clean (Ran old) (λ late. ran late old is) whole finish.clean;
      settled = λ _. settled;
      up = λ clean _. is_up shows clean;
      ended = λ _. subst (λ (h : Held _). h.in_transaction ≡ false) same ended;
      refused = λ bad. absurd (cc);
      busy = λ bad. absurd (cc);
      stopped = tt;
      none = λ clean up. tt;
      crash = crash;
    }

    -- and where it is not
    pub one_undone : (IsTrue (state g old).is_open → (state g old).now ≡ (state g old).committed)
        → (HasCleanDisk (state g last) → IsTrue begun.in_transaction → OnOk done (IsTrue (state g last).in_transaction))
        → (HasCleanDisk (state g last) → IsTrue begun.in_transaction → KeepsCommit (state g begun) (state g last))
        → (HasCleanDisk (state g tried) → IsTrue (state g tried).is_open → OnOk done (IsTrue (state g last).in_transaction)
        → IsTrue (state g last).is_open × ((state g tried).now ≡ (state g last).committed)
        × ((state g tried).committed ≡ (state g last).committed))
        → (r : Result Bool Error) → IsErr r → IsOneTransaction g Ran old end r
    one_undone settled inside kept undone (Ok b) bad = cc
    one_undone settled inside kept undone (Err e) _ = record {
      all = λ clean. tt;
      settled = tt;
      up = λ clean. tt;
      ended = tt;
      refused = tt;
      busy = tt;
      stopped = subst (λ (h : Held _). h.in_transaction ≡ false) same ended;
      none = none_left settled inside kept finish.clean undone;
      crash = crash;
    }
