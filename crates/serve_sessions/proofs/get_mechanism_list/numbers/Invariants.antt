use Rattle.std.proofs.Common.{◌≡◌, ◌++◌, drop}
use Rattle.std.specs.Prelude.{map}
use Rattle.ck_types.specs.Numbers.{mech_type_number}
use Rattle.ck_mechanisms.specs.Table.{listed_numbers}
use Rattle.serve_sessions.proofs.get_mechanism_list.numbers.Given as goal

abbrev pub invariant-loop-mechanism : goal.invariant-loop-mechanism
invariant-loop-mechanism l = l.numbers ++ map mech_type_number (drop l.mechanism-index l.mechanism-items) ≡ listed_numbers
