-- What the texts mean.
use Rattle.std.proofs.Common.{◌≡◌, List, [], ◌∷◌, codes, Ok, None, false, refl, pos, negsuc}
use Rattle.sql_statements.specs.declared.sql.TheConstants.{CLEAR_OBJECTS, FIRST_RECORD, INSERT_OBJECT, READ_IDS, READ_OBJECT, READ_OBJECTS, READ_RECORD, REMOVE_OBJECT, REPLACE_OBJECT, SET_RECORD}
use Rattle.sqlite.specs.declared.types.Value.TheVariants.{Null, Int}
use Rattle.sqlite.specs.Collation.TheVariants.{Binary}
use Rattle.sqlite_value.specs.Keys.{ascending}
use Rattle.sqlite_sql.specs.Term.{Term, lit, col, op2}
use Rattle.sqlite_sql.specs.declared.ops.BinaryOp.TheVariants.{Compare}
use Rattle.sqlite_sql.specs.declared.ops.CompareOp.TheVariants.{Eq}
use Rattle.sqlite.specs.Query.{Query, inner, end}
use Rattle.sqlite.specs.Source.TheVariants.{Values}
use Rattle.sqlite.specs.Command.TheVariants.{Insert, Select, Update, Delete}
use Rattle.sqlite.specs.Compile.{table_defined_by}
use Rattle.sqlite.specs.Listing.{understood}
use Rattle.sqlite_tied.specs.Compute.{everything}
use Rattle.sqlite.proofs.Callers.{command_of}
use Rattle.sql_statements.specs.Tables.{record_text, objects_text, record_table, objects_table, sequence_table, token_schema}

pub record_is : table_defined_by record_text ≡ Ok record_table
unfolding understood everything
record_is = refl

pub objects_is : table_defined_by objects_text ≡ Ok (record objects_table { tree = 0 })
unfolding understood everything
objects_is = refl

pub sequence_is : table_defined_by (codes "CREATE TABLE sqlite_sequence(name,seq)") ≡ Ok (record sequence_table { tree = 0 })
unfolding understood everything
sequence_is = refl

abbrev pub plain_query : Query
plain_query = record {
  from = inner 1 end;
  filter = [];
  group = None;
  project = [];
  distinct = false;
  collations = [];
  order = [];
  limit = lit (Int (negsuc 0));
  offset = lit (Int (pos 0));
}

abbrev pub by_id : List Term
by_id = op2 (Compare Eq Binary) (col 1 0) (col 0 0) ∷ []

pub insert_is : command_of (understood token_schema INSERT_OBJECT.now) ≡ Insert 1 (Values (lit Null ∷ lit Null ∷ col 0 0 ∷ []) 3)
unfolding understood everything
insert_is = refl

pub remove_is : command_of (understood token_schema REMOVE_OBJECT.now)
    ≡ Delete 1 (record { lets = []; body = record plain_query { filter = by_id; project = col 1 0 ∷ [] } })
unfolding understood everything
remove_is = refl

pub clear_is : command_of (understood token_schema CLEAR_OBJECTS.now)
    ≡ Delete 1 (record { lets = []; body = record plain_query { project = col 1 0 ∷ [] } })
unfolding understood everything
clear_is = refl

pub replace_is : command_of (understood token_schema REPLACE_OBJECT.now)
    ≡ Update 1 (record { lets = []; body = record plain_query { filter = by_id; project = col 1 0 ∷ col 1 0 ∷ lit Null ∷ col 0 1 ∷ [] } })
unfolding understood everything
replace_is = refl

pub set_is : command_of (understood token_schema SET_RECORD.now)
    ≡ Update 0 (record {
      lets = [];
      body = record plain_query { from = inner 0 end; project = col 1 0 ∷ col 1 0 ∷ lit Null ∷ col 0 0 ∷ [] };
    })
unfolding understood everything
set_is = refl

pub first_is : command_of (understood token_schema FIRST_RECORD.now) ≡ Insert 0 (Values (lit (Int (pos 1)) ∷ lit Null ∷ col 0 0 ∷ []) 3)
unfolding understood everything
first_is = refl

pub read_is : command_of (understood token_schema READ_OBJECT.now) ≡ Select (record { lets = []; body = record plain_query { filter = by_id; project = col 1 2 ∷ [] } }) (codes "body" ∷ [])
unfolding understood everything
read_is = refl

pub objects_read_is : command_of (understood token_schema READ_OBJECTS.now)
    ≡ Select (record { lets = []; body = record plain_query { project = col 1 0 ∷ col 1 2 ∷ [] } }) (codes "id" ∷ codes "body" ∷ [])
unfolding understood everything
objects_read_is = refl

pub ids_read_is : command_of (understood token_schema READ_IDS.now)
    ≡ Select (record { lets = []; body = record plain_query { project = col 1 0 ∷ []; order = (col 1 0, ascending Binary) ∷ [] } }) (codes "id" ∷ [])
unfolding understood everything
ids_read_is = refl

pub record_read_is : command_of (understood token_schema READ_RECORD.now) ≡ Select (record { lets = []; body = record plain_query { from = inner 0 end; project = col 1 2 ∷ [] } }) (codes "body" ∷ [])
unfolding understood everything
record_read_is = refl
