use Rattle.std.proofs.Common.{ap, subst, sym, ◌∙◌}
use Rattle.fips_197.specs.Cipher.{substitute_bytes}
use Rattle.aes_planes.specs.Planes.{IsSliced, with_constant}
use Rattle.aes_planes.specs.Circuit.{norm_of, norm_inverse, products_of, output, circuit}
use Rattle.aes_planes.proofs.Circuits.{IsSliced-circuit}
use Rattle.aes_planes.proofs.substitution.substituted.Goals as goal

pub returns : goal.returns
unfolding circuit
returns c j x block is =
    let y = c.sums_of-y.ensures in
    let i = c.norm_inverse.ensures ∙ ap norm_inverse (c.norm_of.ensures ∙ ap norm_of y) in
    let all = c.output.ensures ∙ ap output (c.products_of.ensures ∙ (λ t. products_of (y t) (i t))) in
    subst (λ s. IsSliced s j (with_constant (substitute_bytes x))) (sym all) (IsSliced-circuit c.args.s j x block.bytes is)
