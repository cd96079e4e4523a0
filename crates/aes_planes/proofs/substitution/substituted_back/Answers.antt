use Rattle.std.proofs.Common.{ap, subst, sym, ◌∙◌}
use Rattle.fips_197.specs.InverseCipher.{inverse_substitute_bytes}
use Rattle.aes_planes.specs.Planes.{IsSliced}
use Rattle.aes_planes.specs.InverseCircuit.{norm_back, norm_inverse_back, products_back, output_back, circuit_back}
use Rattle.aes_planes.proofs.InverseCircuits.{IsSliced-circuit_back}
use Rattle.aes_planes.proofs.substitution.substituted_back.Goals as goal

pub returns : goal.returns
unfolding circuit_back
returns c j x block is =
    let y = c.sums_back-y.ensures in
    let i = c.norm_inverse_back.ensures ∙ ap norm_inverse_back (c.norm_back.ensures ∙ ap norm_back y) in
    let all = c.output_back.ensures ∙ ap output_back (c.products_back.ensures ∙ (λ t. products_back (y t) (i t))) in
    subst (λ s. IsSliced s j (inverse_substitute_bytes x)) (sym all)
    (IsSliced-circuit_back c.args.s j x block.bytes is)
