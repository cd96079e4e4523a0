-- A connection over a store whose log was copied, or that was opened again, has the schema that its trees list.
use Rattle.std.proofs.Common.{◌≡◌, ℕ, ◌+◌, List, [], ◌∷◌, Ok, IsTrue, refl, sym, ap, ap₂, subst, ◌∙◌, arith, filter, pos}
use Rattle.std.specs.List.{AllZip}
use Rattle.sqlite_value.specs.Order.{Row}
use Rattle.sqlite_value.specs.declared.value.Value.TheVariants.{Text, Int}
use Rattle.sqlite.specs.Tree.{Trees}
use Rattle.sqlite.specs.Table.{Table}
use Rattle.sqlite.specs.Schema.{Schema}
use Rattle.sqlite.specs.Effect.{Database, IsDatabase}
use Rattle.sqlite.specs.State.{State, HasCleanDisk}
use Rattle.sqlite_catalog.specs.Listing.{AreListed, IsSound, IsTableRow}
use Rattle.sqlite_resolve.specs.Compile.{table_defined_by}
use Rattle.pin_record.specs.Records.{TokenRecord}
use Rattle.keep.specs.Contents.{Contents}
use Rattle.sql_statements.specs.Tables.{token_schema}
use Rattle.keep_sql_model.specs.Store.{IsAt, Stores}
use Rattle.keep_sql_model.specs.OpenedFile.{IsCopy}
use Rattle.keep_sql_model.specs.Opening.{Opened}

same_tree : (row : Row) (a b : Table) → IsTableRow row a → IsTableRow row b → a.tree ≡ b.tree
same_tree row a b one two =
    let ids : Int (pos (a.tree + 1)) ≡ Int (pos (b.tree + 1)) = sym one.described.id ∙ two.described.id in
    let more : a.tree + 1 ≡ b.tree + 1 = cc in
    omega (arith, more)

-- the row of a table defines what the table is
same_table : (row : Row) (a b : Table) → IsTableRow row a → IsTableRow row b → a ≡ b
same_table row a b one two =
    let texts : Text one.sql ≡ Text two.sql = sym one.sql_is ∙ two.sql_is in
    let sql : one.sql ≡ two.sql = cc in
    let made : Ok one.defined.0 ≡ Ok two.defined.0 = sym one.defined.1 ∙ ap table_defined_by sql ∙ two.defined.1 in
    let same : one.defined.0 ≡ two.defined.0 = cc in
    one.defined.2 ∙ ap₂ (λ (t : Table) (n : ℕ). record t { tree = n }) same (same_tree row a b one two) ∙ sym two.defined.2

same_tables : (rows : List Row) (ts us : List Table) → AllZip IsTableRow rows ts → AllZip IsTableRow rows us → ts ≡ us
same_tables [] [] [] one two = refl
same_tables [] [] (u ∷ us) one two = absurd two
same_tables [] (t ∷ ts) us one two = absurd one
same_tables (r ∷ rows) [] us one two = absurd one
same_tables (r ∷ rows) (t ∷ ts) [] one two = absurd two
same_tables (r ∷ rows) (t ∷ ts) (u ∷ us) one two =
    ap₂ (λ (x : Table) (xs : List Table). x ∷ xs) (same_table r t u one.0 two.0) (same_tables rows ts us one.1 two.1)

none_too : {T U V : Type 0} (R : T → U → Type 0) (Q : T → V → Type 0) (rows : List T) (bs : List V) → AllZip R rows []
    → AllZip Q rows bs → bs ≡ []
none_too R Q [] [] one two = refl
none_too R Q [] (b ∷ bs) one two = absurd two
none_too R Q (r ∷ rows) bs one two = absurd one

-- a list of a token's tables is that of no other schema
pub one_listed : (objects : List Row) (s : Schema) → AreListed objects token_schema → AreListed objects s → s ≡ token_schema
one_listed objects s one two =
    let tables = same_tables _ _ _ one.tables two.tables in
    let indexes = none_too _ _ _ s.indexes one.indexes two.indexes in
    let views = none_too _ _ _ s.views one.views two.views in
    ap (λ (ts : List Table). record s { tables = ts }) (sym tables)
    ∙ ap (λ (xs : _). record s { tables = token_schema.tables; indexes = xs }) indexes
    ∙ ap (λ (vs : _). record s { tables = token_schema.tables; indexes = []; views = vs }) views

-- trees that list a token's tables list no others
pub one_schema : (trees : Trees) (s : Schema) → IsSound token_schema trees → IsSound s trees → s ≡ token_schema
one_schema trees s one two = one_listed _ s one.lists.listed two.lists.listed

module _ (mid new : State) (copy : IsCopy mid new) (clean : HasCleanDisk new) where
  is_up : IsTrue new.is_open
  is_up = (copy.opens clean).0.is_open

  -- what the old connection held
  pub at_copy : (c : Contents) → IsAt mid c → IsAt new c
  at_copy c at =
      let opens = (copy.opens clean).0 in
      let live = ((copy.opens clean).1 is_up).0 in
      let trees : new.now.trees ≡ mid.now.trees = copy.trees clean ∙ ap (λ (d : Database). d.trees) at.settled in
      let old_sound : IsSound token_schema mid.now.trees = subst (λ (s : Schema). IsSound s mid.now.trees) at.schema at.sound in
      record {
        schema = one_schema new.now.trees new.now.schema (subst (λ (t : Trees). IsSound token_schema t) (sym trees) old_sound) live;
        settled = sym opens.clean;
        autocommit = opens.autocommit;
        stores = subst (λ (t : Trees). Stores t c) (sym trees) at.stores;
        sound = live;
      }

pub opened_copy : (old mid new : State) (r : TokenRecord) → Opened old mid r → IsCopy mid new → Opened old new r
opened_copy old mid new r it copy = record {
  clean = omega (arith, it.clean, copy.clean);
  held = λ c h clean. let was = it.held c h (before clean) in ((copy.opens clean).0.is_open, at_copy mid new copy clean c was.1, was.2);
  fresh = λ none clean. let was = it.fresh none (before clean) in ((copy.opens clean).0.is_open, at_copy mid new copy clean _ was.1, was.2);
  decodes = λ both clean. ((copy.opens clean).0.is_open, (it.decodes both (before clean)).1);
}
  where
    before : HasCleanDisk new → HasCleanDisk mid
    before clean = omega (arith, copy.clean)
