use Rattle.std.proofs.Common.{arith, ap, length, ◌∙◌, subst}
use Rattle.fips_197.specs.KeyExpansion.{IsKey}
use Rattle.aes_vector.proofs.StoredKeys.{rounds-bounds, size-stored}
use Rattle.aes_vector.proofs.Key.size.Goals as goal

pub overflow_sub-result : goal.overflow_sub-result
overflow_sub-result c = omega (arith, rounds-bounds c.self.inside c.self.invariant)

pub overflow_mul-result : goal.overflow_mul-result
overflow_mul-result c = omega (arith, rounds-bounds c.self.inside c.self.invariant)

pub returns-clause-value : goal.returns-clause-value
returns-clause-value c = size-stored c.self.inside c.self.invariant ∙ ap length c.self.view_is

pub returns-clause-key : goal.returns-clause-key
returns-clause-key c = subst IsKey c.self.view_is c.self.invariant.key
