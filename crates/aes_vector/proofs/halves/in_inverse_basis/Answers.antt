use Rattle.std.proofs.Common.{map, bit_xor, ap, ◌∙◌}
use Rattle.std.proofs.lemmas.Simd.{map-map}
use Rattle.aes_vector.specs.declared.tables.TheConstants.{INVERSE_BASIS_LOW, INVERSE_BASIS_HIGH}
use Rattle.aes_vector.specs.Halves.{in_tables}
use Rattle.aes_vector.proofs.halves.in_inverse_basis.Goals as goal

pub returns : goal.returns
returns c =
    let f = in_tables INVERSE_BASIS_LOW INVERSE_BASIS_HIGH in
    c.in_tables.ensures ∙ ap (map f) c.with_constant.ensures ∙ map-map f (λ b. bit_xor b 99) c.args.x
