-- A store of contents that an opening finds.
use Rattle.std.proofs.Common.{◌≡◌, inl, ℕ, List, [], ◌∷◌, map, refl, sym, ap, subst, ◌∙◌}
use Rattle.sqlite_disk.specs.declared.Disk.{Ghosts}
use Rattle.sqlite_wal.specs.Recovery.{Image}
use Rattle.sqlite.specs.Tree.{Trees}
use Rattle.sqlite.specs.declared.FileStore.{FileStore}
use Rattle.sqlite.specs.State.{HasCleanDisk}
use Rattle.sqlite.specs.Files.{file_state, over_files}
use Rattle.sqlite.specs.Effect.{Database}
use Rattle.sqlite_catalog.specs.Listing.{IsSound}
use Rattle.keep.specs.Contents.{Contents}
use Rattle.sql_statements.specs.Tables.{token_schema}
use Rattle.keep_sql_model.specs.Store.{Body, IsStore, Stores, encoded_record}
use Rattle.keep_sql_model.specs.Formats.{AreBodies, StoresEither}
use Rattle.keep_sql_model.specs.Opening.{Adopts}
use Rattle.keep_sql_model.specs.OpenedFile.{OpenedFile}
use Rattle.keep_sql_model.specs.SqlState.{SqlState, sql_terms}
use Rattle.keep_sql_model.proofs.Copies.{one_schema}
use Rattle.keep_sql_model.proofs.Lifts.{rows_are, stored}

-- ---- what is stored in format 2 is stored in either

new_bodies : (objects : List (ℕ × Body)) → AreBodies (map stored objects) objects
new_bodies [] = tt
new_bodies (e ∷ es) = (refl, inl refl, new_bodies es)

pub stored_either : (trees : Trees) (c : Contents) → Stores trees c → StoresEither trees c
stored_either trees c it = record {
  record_body = encoded_record c.token_record;
  bodies = map stored c.objects;
  record_is = it.record_is;
  is_record_body = inl (refl, it.is_record);
  objects_are = it.objects_are ∙ rows_are c.objects;
  are_bodies = new_bodies c.objects;
  count_is = it.count_is;
  sound = it.sound;
  are_objects = it.are_objects;
}

-- a store that an opening finds is held
pub found_held : {N : Type 0} {h : Ghosts N} (next : SqlState (FileStore N h)) (image : Image) (it : OpenedFile image next)
    → HasCleanDisk (file_state next.conn) → (c : Contents) → IsStore (file_state it.was).committed.trees c
    → Adopts (sql_terms over_files) next c
found_held next image it clean c left = it.found c (λ sure up.
    let open_now = it.is_open sure in
    let opens = open_now.0 in
    let live = (open_now.1 up).0 in
    let trees : (file_state it.was).committed.trees ≡ (file_state it.was).now.trees = ap (λ (d : Database). d.trees) (sym opens.clean) in
    record {
      schema = one_schema (file_state it.was).now.trees (file_state it.was).now.schema
          (subst (λ (t : Trees). IsSound token_schema t) trees left.sound) live;
      settled = sym opens.clean;
      autocommit = opens.autocommit;
      stores = stored_either (file_state it.was).now.trees c (subst (λ (t : Trees). Stores t c) trees left.stores);
      sound = live;
    }) clean
