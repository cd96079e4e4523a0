use Rattle.std.proofs.Common.{◌≡◌, ◌-◌, ◌*◌, length, take}
use Rattle.fips_197.specs.KeyExpansion.{expanded_words}
use Rattle.aes_vector.proofs.key_expansion.expanded_by.Given as goal

-- the words so far are those that the key is expanded to
abbrev pub invariant-schedule : goal.invariant-schedule
invariant-schedule g l = record {
  size : length l.schedule ≡ 240;
  so_far : take (4 * l.i) l.schedule ≡ expanded_words l.key g.row.NK (l.i - g.row.NK);
}
