-- Objects that are written again one after the other, in a transaction.
use Rattle.std.proofs.Common.{◌≡◌, ℕ, List, [], ◌∷◌, ◌++◌, take, length, get_or, false, true, inl, Ok, Err, Result, OnOk, ◌≤◌, IsTrue, refl, sym, subst, ◌<◌, ◌+◌, arith}
use Rattle.std.proofs.lemmas.List.{take_more, take_all}
use Rattle.sql_statements.specs.declared.sql.TheConstants.{REPLACE_OBJECT, SET_RECORD}
use Rattle.sqlite_value.specs.declared.value.Value.TheVariants.{Blob, Int}
use Rattle.sqlite.specs.Store.{Ghosts}
use Rattle.sqlite.specs.State.{State, HasCleanDisk, Executes, ExecutesInside, KeepsCommit, Survives}
use Rattle.sqlite.specs.Held.{Held, state}
use Rattle.sqlite.specs.Order.{Row}
use Rattle.sqlite.specs.declared.error.Error.{Error}
use Rattle.sqlite.proofs.InsideLemmas.{inside_keeps, keeps_then}
use Rattle.sqlite.proofs.StateLemmas.{survives_then}
use Rattle.sql_tables.specs.declared.renewals.Renewal.{Renewal}
use Rattle.sql_tables.specs.RanEach.{RanEach, RanRenewals}
use Rattle.sql_tables.proofs.Inside.{Inside}

abbrev pub again_text : List ℕ
again_text = REPLACE_OBJECT.now

-- so many were written, and nothing was committed
abbrev pub Wrote : {S : Type 0} → Ghosts S → List Renewal → Held S → Held S → Type 0
Wrote g es begun now =
    Survives (state g begun) (state g now) (λ _. ⊥)
    × (HasCleanDisk (state g now) → IsTrue begun.in_transaction → IsTrue now.in_transaction
    × KeepsCommit (state g begun) (state g now) × RanEach g es begun now)

keeps_none : (s : State) → KeepsCommit s s
keeps_none s = record { was_open = λ up. up; committed = λ up. refl }

survives_none : (s : State) → Survives s s (λ _. ⊥)
survives_none s = record {
  clean = omega arith;
  shield = λ shield. shield;
  counts = omega arith;
  limit = refl;
  closes = λ clean up. inl up;
  crash = λ clean db may. inl may;
}

pub wrote_none : {S : Type 0} (g : Ghosts S) (begun : Held S) → Wrote g [] begun begun
wrote_none g begun = (survives_none (state g begun), λ clean mode. (mode, keeps_none (state g begun), refl))

ran_more : {S : Type 0} (g : Ghosts S) (es : List Renewal) (e : Renewal) (begun old new : Held S) (count : ℕ)
    → RanEach g es begun old → Executes again_text (Int e.id ∷ Blob e.body.items ∷ []) (state g old) (state g new) (Ok count)
    → RanEach g (es ++ e ∷ []) begun new
ran_more g [] e begun old new count same ran = (
  new,
  (
    count,
    subst (λ (h : Held _). Executes again_text (Int e.id ∷ Blob e.body.items ∷ []) (state g h) (state g new)
        (Ok count)) (sym same) ran,
  ),
  refl,
)
ran_more g (x ∷ es) e begun old new count each ran = (each.0, each.1, ran_more g es e each.0 old new count each.2 ran)

pub nothing_left : {S : Type 0} (g : Ghosts S) (begun old new : Held S) → Survives (state g begun) (state g old) (λ _. ⊥)
    → Survives (state g old) (state g new) (λ _. ⊥) → Survives (state g begun) (state g new) (λ _. ⊥)
nothing_left g begun old new one two =
    survives_then (state g begun) (state g old) (state g new) _ _ (λ _. ⊥) (λ _ db none. none) (λ _ db none. none) one two

pub wrote_more : {S : Type 0} (g : Ghosts S) (all : List Renewal) (at : ℕ) (e : Renewal) (begun old new : Held S) (count : ℕ)
    → at < length all → e ≡ get_or all at e → Wrote g (take at all) begun old
    → Survives (state g old) (state g new) (λ _. ⊥)
    → (HasCleanDisk (state g new) → IsTrue old.in_transaction
    → ExecutesInside 0 again_text (Int e.id ∷ Blob e.body.items ∷ []) (state g old) (state g new) (Ok count))
    → Wrote g (take (at + 1) all) begun new
wrote_more g all at e begun old new count low is wrote lasts ran = (
  nothing_left g begun old new wrote.0 lasts,
  λ clean mode.
      let before = wrote.1 (omega (arith, lasts.clean)) mode in
      let now = ran clean before.0 in (
        now.1.mode,
        keeps_then (state g begun) (state g old) (state g new) before.1
            (inside_keeps (state g old) (state g new) 0 false again_text (Int e.id ∷ Blob e.body.items ∷ []) (Ok count) now),
        subst (λ (es : List Renewal). RanEach g es begun new) (sym (take_more all at e low))
            (subst (λ (x : Renewal). RanEach g (take at all ++ x ∷ []) begun new) is
            (ran_more g (take at all) e begun old new count before.2 now.0)),
      ),
)

pub all_written : {S : Type 0} (g : Ghosts S) (all : List Renewal) (n : ℕ) (begun now : Held S) → length all ≤ n
    → Wrote g (take n all) begun now → HasCleanDisk (state g now) → IsTrue begun.in_transaction → IsTrue now.in_transaction
    × RanEach g all begun now
all_written g all n begun now whole wrote clean mode = let it = wrote.1 clean mode in
    (it.0, subst (λ (es : List Renewal). RanEach g es begun now) (take_all n all whole) it.2)

pub stopped_keeps : {S : Type 0} (g : Ghosts S) (es : List Renewal) (begun old new : Held S) (params : Row) (r : Result ℕ Error)
    → Wrote g es begun old → Survives (state g old) (state g new) (λ _. ⊥)
    → (HasCleanDisk (state g new) → IsTrue old.in_transaction → ExecutesInside 0 again_text params (state g old) (state g new) r)
    → HasCleanDisk (state g new) → IsTrue begun.in_transaction → KeepsCommit (state g begun) (state g new)
stopped_keeps g es begun old new params r wrote lasts ran clean mode =
    let before = wrote.1 (omega (arith, lasts.clean)) mode in
    keeps_then (state g begun) (state g old) (state g new) before.1
    (inside_keeps (state g old) (state g new) 0 false again_text params r (ran clean before.0))

-- and then the record
module _ {S : Type 0} (g : Ghosts S) (all : List Renewal) (bytes : List ℕ) (begun mid last : Held S) (r : Result ℕ Error)
    (each : HasCleanDisk (state g mid) → IsTrue begun.in_transaction → IsTrue mid.in_transaction × RanEach g all begun mid)
    (one : Inside SET_RECORD.now (Blob bytes ∷ []) (state g mid) (state g last) r)
    (stays : Survives (state g mid) (state g last) (λ _. ⊥)) (clean : HasCleanDisk (state g last)) where
  mid_clean : HasCleanDisk (state g mid)
  mid_clean = omega (arith, stays.clean)

  pub all_ran : (before : Held S) → begun ≡ record before { in_transaction = true }
      → OnOk r (RanRenewals g all bytes before (state g last).now)
  all_ran before is = made r one
    where
      made : (r : Result ℕ Error) → Inside SET_RECORD.now (Blob bytes ∷ []) (state g mid) (state g last) r
          → OnOk r (RanRenewals g all bytes before (state g last).now)
      made (Err e) one = tt
      made (Ok n) one =
          let ran = each mid_clean (rw is) in
          record { mid = mid; last = last; count = n; each = rw is at ran.1; one = (one clean ran.0).0; is = refl }
