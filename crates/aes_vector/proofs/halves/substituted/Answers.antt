use Rattle.std.proofs.Common.{bit_xor, ◌∙◌}
use Rattle.fips_197.specs.Cipher.{substitute_bytes}
use Rattle.aes_vector.specs.declared.tables.TheConstants.{LAST_UPPER, LAST_LOWER}
use Rattle.aes_vector.specs.Halves.{of_inverse}
use Rattle.aes_vector.proofs.Basis.{last-at}
use Rattle.aes_vector.proofs.Rounds.{made, substituted-of, IsBlock-lanes}
use Rattle.aes_vector.proofs.halves.substituted.Goals as goal

pub returns : goal.returns
unfolding substitute_bytes
returns c =
    let x = c.args.x in
    let block = IsBlock-lanes x c.fits-x in
    c.with_constant.ensures
    ∙ substituted-of x _
    (made (of_inverse LAST_UPPER LAST_LOWER) (λ b. bit_xor b 99) x c.in_tables.result _ block.bytes last-at
    (c.by_halves.ensures c.in_tables.result c.inverted-halves.ensures.upper c.inverted-halves.ensures.lower) c.in_tables.ensures)
