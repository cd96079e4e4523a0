use Rattle.std.proofs.Common.{map, bit_xor, ap, sym, ◌∙◌}
use lib.Lanes.{zip2}
use Rattle.fips_197.specs.SBox.{s_box}
use Rattle.fips_197.specs.Cipher.{substitute_bytes, shift_rows, add_round_key, last_round}
use Rattle.aes_vector.specs.Halves.{of_inverse}
use Rattle.aes_vector.specs.declared.tables.TheConstants.{LAST_UPPER, LAST_LOWER}
use Rattle.aes_vector.proofs.Basis.{last-at}
use Rattle.aes_vector.proofs.Rounds.{whole, last_round-of, made, IsBlock-boxed}
use Rattle.aes_vector.proofs.round.last_round.Goals as goal

pub returns : goal.returns
unfolding last_round substitute_bytes
returns c s k bs bk ex ek =
    let x = c.args.x in
    let eo = made (of_inverse LAST_UPPER LAST_LOWER) (λ b. bit_xor b 99) s x _ bs.bytes last-at
    (c.by_halves.ensures x c.inverted.ensures.upper c.inverted.ensures.lower) ex in
    (λ i. zip2 bit_xor (c.shifted.ensures i) (whole c.args.key c.fits-key.0 i))
    ∙ last_round-of (map s_box s) k _ c.args.key (IsBlock-boxed s bs) bk eo ek
    ∙ ap (λ l. add_round_key (shift_rows (map s_box s)) l) (sym (whole k bk.size))
