-- Which refusals of an opening are for what the files hold: their format, their tables and bodies, or a file or commits that are lost.
use Rattle.std.specs.Prelude.{Bool, true, false}
use Rattle.sqlite.specs.declared.error.Error.TheVariants.{SqliteFailure}
use Rattle.sqlite.specs.declared.error.ErrorCode.TheVariants.{NotADatabase, DatabaseCorrupt}
use Rattle.keep.specs.declared.keep.KeepFault.TheVariants.{Damaged}
use Rattle.keep_sql.specs.declared.refusal.OpenFault.{OpenFault}
use Rattle.keep_sql.specs.declared.refusal.OpenFault.TheVariants.{Sqlite, FileLost, LogDamaged, NoTables, Keeper}

abbrev pub is_of_contents : OpenFault → Bool
is_of_contents (Sqlite (SqliteFailure NotADatabase)) = true
is_of_contents (Sqlite (SqliteFailure DatabaseCorrupt)) = true
is_of_contents (Sqlite _) = false
is_of_contents FileLost = true
is_of_contents LogDamaged = true
is_of_contents NoTables = true
is_of_contents (Keeper Damaged) = true
is_of_contents (Keeper _) = false
