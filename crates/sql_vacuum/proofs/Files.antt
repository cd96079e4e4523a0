-- A file that was written from rows.
use Rattle.std.proofs.Common.{◌≡◌, List, [], ℕ, Result, Ok, Err, IfOk, sym, ap, subst, ◌∙◌, arith}
use Rattle.std.proofs.Math.Logic.{∥∥₁_elim}
use Rattle.sqlite_disk.specs.declared.Disk.{Ghosts}
use Rattle.sqlite_trees.specs.Objects.{version_rows, version_tree}
use Rattle.sqlite_trees.specs.Props.{Trees-set}
use Rattle.sqlite.specs.Tree.{Trees}
use Rattle.sqlite.specs.Effect.{Database}
use Rattle.sqlite.specs.declared.FileStore.{FileStore}
use Rattle.sqlite.specs.State.{HasCleanDisk, State}
use Rattle.sqlite.specs.Files.{HoldsDatabase, file_state, over_files}
use Rattle.keep.specs.Contents.{Contents}
use Rattle.sql_statements.specs.Bodies.{Bodies}
use Rattle.sql_statements.specs.Store.{HasRows, HasTables, IsAtRows}
use Rattle.sql_statements.proofs.Lift.{tables_in}
use Rattle.keep_sql_model.specs.Store.{IsStore}
use Rattle.keep_sql_model.specs.Opening.{Adopts}
use Rattle.keep_sql_model.specs.OpenedFile.{OpenedFile}
use Rattle.keep_sql_model.specs.SqlState.{SqlState, sql_terms}
use Rattle.keep_sql_model.proofs.Lifts.{as_rows, as_store, bodies_of, kept_of}
use Rattle.keep_sql_model.proofs.Reopened.{found_held}
use Rattle.sql_vacuum.specs.FileOf.{IsFileOf}

pub file_of : (s : State) (b : Bodies) (version : ℕ) (seen bytes : List ℕ) → bytes ≡ seen
    → s.now.trees version_tree ≡ version_rows version → IsAtRows s b
    → ∥ HoldsDatabase (record { log = []; db = seen }) s.committed.trees ∥₁ → IsFileOf bytes b version
file_of s b version seen bytes same is at holds = record {
  db = s.committed.trees;
  holds = subst (λ (xs : List ℕ). ∥ HoldsDatabase (record { log = []; db = xs }) s.committed.trees ∥₁) (sym same) holds;
  tables = subst (λ (d : Database). HasTables d.trees b) (sym at.settled) (tables_in s.now b at.schema at.stores at.sound);
  version_is = ap (λ (d : Database). d.trees version_tree) at.settled ∙ is;
}

pub file_if : {V E : Type 0} (items : V → List ℕ) (r : Result V E) (A : Type 0) (P : Bodies → Type 0) (s : State) (version : ℕ)
    (got seen : List ℕ) → IfOk r (λ v. items v ≡ got) → got ≡ seen → (A → (b : Bodies) → P b → IsAtRows s b)
    → (A → s.now.trees version_tree ≡ version_rows version) → ∥ HoldsDatabase (record { log = []; db = seen }) s.committed.trees ∥₁
    → IfOk r (λ v. A → (b : Bodies) → P b → IsFileOf (items v) b version)
file_if items (Ok v) A P s version got seen near same at is holds =
    λ a b p. file_of s b version seen (items v) (near ∙ same) (is a) (at a b p) holds
file_if items (Err e) A P s version got seen near same at is holds = tt

module _ {N : Type 0} {h : Ghosts N} (trees : Trees) (c : Contents) (bytes : List ℕ) (version : ℕ) (next : SqlState (FileStore N h))
    (store : IsStore trees c) (file : (b : Bodies) → HasRows trees b → IsFileOf bytes b version)
    (it : OpenedFile (record { log = []; db = bytes }) next) (sure : HasCleanDisk (file_state next.conn)) where
  made : IsFileOf bytes (bodies_of c) version
  made = file (bodies_of c) (as_rows trees c store.stores)

  pub found_again : Adopts (sql_terms over_files) next c
  found_again =
      let was_sure : HasCleanDisk (file_state it.was) = omega (arith, it.opened.clean) in
      let same : (file_state it.was).committed.trees ≡ made.db =
      ∥∥₁_elim made.holds (λ x y. Trees-set _ _ x y) (λ held. (it.finds was_sure).holds made.db held) in
      found_held next (record { log = []; db = bytes }) it sure c
      (subst (λ (db : Trees). IsStore db c) (sym same) (as_store made.db c (kept_of trees c store.stores) made.tables))
