-- A statement that wrote nothing leaves what the store holds.
use Rattle.std.proofs.Common.{◌≡◌, IsTrue, refl, sym, subst, ◌∙◌, ap, arith}
use Rattle.sqlite.specs.State.{State, HasCleanDisk}
use Rattle.sqlite.specs.Effect.{Database, IsDatabase}
use Rattle.keep.specs.Contents.{Contents}
use Rattle.sql_statements.specs.Tables.{token_schema}
use Rattle.sql_statements.specs.Store.{ShowsNow, Unwritten}
use Rattle.keep_sql_model.specs.Store.{Holds, IsAt, Stayed, Stores}

at_same : (new : State) (db : Database) (c : Contents) → ShowsNow new db → db.schema ≡ token_schema → Stores db.trees c
    → IsDatabase db → IsAt new c
at_same new db c shows schema stores sound = record {
  schema = ap (λ (d : Database). d.schema) shows.now ∙ schema;
  settled = shows.settled ∙ sym shows.now;
  autocommit = shows.autocommit;
  stores = subst (λ (d : Database). Stores d.trees c) (sym shows.now) stores;
  sound = subst (λ (d : Database). IsDatabase d) (sym shows.now) sound;
}

pub unwritten_stayed : (old new : State) → Unwritten old new → Stayed old new
unwritten_stayed old new it = record {
  clean = it.clean;
  held = λ c h clean up.
      let at = h (was_clean clean) (it.was_open clean up) in
      let shows = it.sees old.now (λ _ _. record { now = refl; settled = at.settled; autocommit = at.autocommit }) clean up in
      at_same new old.now c shows at.schema at.stores at.sound;
  crash = λ c left h may. (was_clean may.0, (may.1.0, it.crash may.0 may.1.0 may.1.1, may.1.2));
}
  where
    was_clean : HasCleanDisk new → HasCleanDisk old
    was_clean clean = omega (arith, it.clean)
