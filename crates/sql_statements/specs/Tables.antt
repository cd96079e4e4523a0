-- The two tables of the store.
use Rattle.sqlite.specs.Collation.TheVariants.{Binary}
use Rattle.std.specs.Prelude.{true, false, [], ◌∷◌, Some, None, codes, List, ℕ, pos}
use Rattle.sql_statements.specs.declared.sql.TheConstants.{MAKE_OBJECTS, MAKE_RECORD}
use Rattle.sqlite.specs.declared.types.Value.TheVariants.{Null, Int}
use Rattle.sqlite_sql.specs.Term.{lit, col, op2}
use Rattle.sqlite_sql.specs.declared.ops.BinaryOp.TheVariants.{Compare}
use Rattle.sqlite_sql.specs.declared.ops.CompareOp.TheVariants.{Eq}
use Rattle.sqlite.specs.Table.{Table}
use Rattle.sqlite.specs.Schema.{Schema}
use Rattle.sqlite.specs.Kind.TheVariants.{Integer, Blob, Any}

abbrev pub record_text : List ℕ
record_text = MAKE_RECORD.now

abbrev pub objects_text : List ℕ
objects_text = MAKE_OBJECTS.now

abbrev pub record_table : Table
record_table = record {
  name = codes "record";
  tree = 0;
  columns = (record { name = codes "id"; kind = Integer; is_strict = true; not_null = false; default = Null; collation = Binary })
      ∷ (record { name = codes "body"; kind = Blob; is_strict = true; not_null = true; default = Null; collation = Binary }) ∷ [];
  key = Some 0;
  primary = 0 ∷ [];
  uniques = [];
  orders = [];
  checks = op2 (Compare Eq Binary) (col 1 0) (lit (Int (pos 1))) ∷ [];
  references = [];
  computed = [];
  stamps = record { places = []; terms = []; formats = [] };
  is_counted = false;
}

abbrev pub objects_table : Table
objects_table = record record_table { name = codes "objects"; tree = 1; checks = []; is_counted = true }

abbrev pub no_schema : Schema
no_schema = record { tables = []; indexes = []; views = [] }

abbrev pub sequence_table : Table
sequence_table = record {
  name = codes "sqlite_sequence";
  tree = 2;
  columns = (record { name = codes "name"; kind = Any; is_strict = false; not_null = false; default = Null; collation = Binary })
      ∷ (record { name = codes "seq"; kind = Any; is_strict = false; not_null = false; default = Null; collation = Binary }) ∷ [];
  key = None;
  primary = [];
  uniques = [];
  orders = [];
  checks = [];
  references = [];
  computed = [];
  stamps = record { places = []; terms = []; formats = [] };
  is_counted = false;
}

abbrev pub token_schema : Schema
token_schema = record { tables = record_table ∷ objects_table ∷ sequence_table ∷ []; indexes = []; views = [] }
