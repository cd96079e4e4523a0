-- What the transaction of a reset makes of a connection.
use Rattle.std.proofs.Common.{◌≡◌, inl, inr, ℕ, List, Bool, true, false, Ok, Err, Result, OnErr, IfOk, IsTrue, refl, sym, ap, subst, ◌∙◌, arith}
use Rattle.sqlite.specs.Tree.{Trees}
use Rattle.sqlite.specs.Effect.{Database, IsDatabase}
use Rattle.sqlite.specs.Store.{Ghosts}
use Rattle.sqlite.specs.declared.error.Error.{Error}
use Rattle.sqlite.specs.State.{State, HasCleanDisk, Survives}
use Rattle.sqlite.specs.Held.{Held, state}
use Rattle.sql_statements.specs.Bodies.{Bodies, bodies_after_reset}
use Rattle.sql_statements.specs.Store.{HasRows, HasTables, IsAtRows, HoldsRows, IsReady, Unwritten, RowsChanged, RowsFailed}
use Rattle.sql_statements.specs.Tables.{token_schema}
use Rattle.sql_statements.specs.Ran.{RanPair}
use Rattle.sql_statements.proofs.Lift.{not_sent, held_on, tables_in}
use Rattle.sql_statements.proofs.Reset.{clear_text, set_text, reset_is}

module _ {S : Type 0} (g : Ghosts S) (old : State) (mid new : Held S) (to : List ℕ) (kept : Unwritten old (state g mid))
    (ready : IsReady (state g mid))
    (lasts : Survives (state g mid) (state g new)
    (λ trees. (db : Database) × RanPair g clear_text set_text to mid db × (trees ≡ db.trees))) where
  mid_clean : HasCleanDisk (state g new) → HasCleanDisk (state g mid)
  mid_clean clean = omega (arith, lasts.clean)

  at_mid : HasCleanDisk (state g new) → (c : Bodies) → HoldsRows old c → IsAtRows (state g mid) c
  at_mid clean c h = held_on old (state g mid) c kept h (mid_clean clean) (ready (mid_clean clean))

  was_up : HasCleanDisk (state g new) → IsTrue old.is_open
  was_up clean = kept.was_open (mid_clean clean) (ready (mid_clean clean))

  pub pair_made : (HasCleanDisk (state g new) → RanPair g clear_text set_text to mid (state g new).committed)
      → (IsTrue (state g new).is_open → (state g new).now ≡ (state g new).committed)
      → (HasCleanDisk (state g new) → IsTrue (state g new).is_open) → new.in_transaction ≡ false
      → ((db : Trees) → IsTrue (state g new).is_open → (state g new).may_leave db → db ≡ (state g new).committed.trees)
      → RowsChanged old (state g new) (bodies_after_reset to)
  pair_made ran same up ended alone = record {
    clean = omega (arith, kept.clean, lasts.clean);
    held = λ c h clean open_now.
        let is = made c h clean in
        let now = same open_now in
        record {
          schema = ap (λ (d : Database). d.schema) now ∙ is.0;
          settled = sym now;
          autocommit = ended;
          stores = subst (λ (d : Database). HasRows d.trees (bodies_after_reset to c)) (sym now) is.1;
          sound = subst (λ (d : Database). IsDatabase d) (sym now) is.2;
        };
    was_open = was_up;
    crash = λ c h clean left may.
        let trees = alone left (up clean) may in
        let is = made c h clean in
        subst (λ (t : Trees). HasTables t (bodies_after_reset to c)) (sym trees)
        (tables_in (state g new).committed (bodies_after_reset to c) is.0 is.1 is.2);
  }
    where
      made : (c : Bodies) → HoldsRows old c → HasCleanDisk (state g new) → ((state g new).committed.schema ≡ token_schema)
          × HasRows (state g new).committed.trees (bodies_after_reset to c) × IsDatabase (state g new).committed
      made c h clean = let at = at_mid clean c h in reset_is g mid to c (state g new).committed at.schema at.stores (ran clean)

  pub pair_failed : (HasCleanDisk (state g new) → IsTrue (state g new).is_open → ((state g new).now ≡ (state g mid).now)
      × ((state g new).committed ≡ (state g mid).committed)) → new.in_transaction ≡ false
      → RowsFailed old (state g new) (bodies_after_reset to)
  pair_failed neither stopped = record {
    clean = omega (arith, kept.clean, lasts.clean);
    held = λ c h clean open_now.
        let at = at_mid clean c h in
        let both = neither clean open_now in
        record {
          schema = ap (λ (d : Database). d.schema) both.0 ∙ at.schema;
          settled = both.1 ∙ at.settled ∙ sym both.0;
          autocommit = stopped;
          stores = subst (λ (d : Database). HasRows d.trees c) (sym both.0) at.stores;
          sound = subst (λ (d : Database). IsDatabase d) (sym both.0) at.sound;
        };
    was_open = λ clean up. was_up clean;
    crash = λ c h clean left may.
        let at = at_mid clean c h in
        elim (lasts.crash clean left may) [
          | inl before ↦ inl (kept.crash (mid_clean clean) left before)
          | inr ran ↦ let is = reset_is g mid to c ran.0 at.schema at.stores ran.1 in
              inr (
                was_up clean,
                subst (λ (t : Trees). HasTables t (bodies_after_reset to c)) (sym ran.2)
                    (tables_in ran.0 (bodies_after_reset to c) is.0 is.1 is.2),
              )
        ];
  }

  pub pair_refused : new ≡ mid → RowsFailed old (state g new) (bodies_after_reset to)
  pair_refused same = not_sent old (state g new) (bodies_after_reset to) (subst (λ (h : Held S). Unwritten old (state g h)) (sym same) kept)

  pub pair_ends : (r : Result Bool Error)
      → (HasCleanDisk (state g new) → IfOk r (λ done. IsTrue done → RanPair g clear_text set_text to mid (state g new).committed))
      → IfOk r (λ done. IsTrue done → IsTrue (state g new).is_open → (state g new).now ≡ (state g new).committed)
      → (HasCleanDisk (state g new) → IfOk r (λ done. IsTrue done → IsTrue (state g new).is_open))
      → IfOk r (λ done. IsTrue done → new.in_transaction ≡ false) → IfOk r (λ done. done ≡ false → new ≡ mid)
      → OnErr r (new.in_transaction ≡ false)
      → (HasCleanDisk (state g new) → IsTrue (state g new).is_open
      → OnErr r (((state g new).now ≡ (state g mid).now) × ((state g new).committed ≡ (state g mid).committed)))
      → ((db : Trees) → IsTrue (state g new).is_open → (state g new).may_leave db → db ≡ (state g new).committed.trees)
      → IfOk r (λ done. IsTrue done → RowsChanged old (state g new) (bodies_after_reset to))
      × IfOk r (λ done. done ≡ false → RowsFailed old (state g new) (bodies_after_reset to))
      × OnErr r (RowsFailed old (state g new) (bodies_after_reset to))
  pair_ends (Ok true) both same up ended refused stopped neither alone =
      ((λ _. pair_made (λ clean. both clean refl) (same refl) (λ clean. up clean refl) (ended refl) alone), (λ e. absurd (cc)), tt)
  pair_ends (Ok false) both same up ended refused stopped neither alone = ((λ e. absurd (cc)), (λ _. pair_refused (refused refl)), tt)
  pair_ends (Err e) both same up ended refused stopped neither alone = (tt, tt, pair_failed neither stopped)
