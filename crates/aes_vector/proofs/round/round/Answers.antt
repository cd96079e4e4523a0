use Rattle.std.proofs.Common.{map, bit_xor, ap, sym, ◌∙◌}
use lib.Lanes.{zip2}
use Rattle.fips_197.specs.Field.{product}
use Rattle.fips_197.specs.SBox.{s_box}
use Rattle.fips_197.specs.Cipher.{substitute_bytes, shift_rows, mix_columns, add_round_key, round}
use Rattle.aes_vector.specs.Rows.{pick, rows_next}
use Rattle.aes_vector.specs.Halves.{basis, of_inverse}
use Rattle.aes_vector.specs.declared.tables.TheConstants.{ONCE_UPPER, ONCE_LOWER, TWICE_UPPER, TWICE_LOWER}
use Rattle.aes_vector.proofs.Basis.{once-at, twice-at}
use Rattle.aes_vector.proofs.Rounds.{whole, round-of, made, IsBlock-boxed}
use Rattle.aes_vector.proofs.round.round.Goals as goal

pub returns : goal.returns
unfolding round substitute_bytes
returns c s k bs bk ex ek =
    let x = c.args.x in
    let eu = c.inverted-halves.ensures.upper in
    let el = c.inverted-halves.ensures.lower in
    let eo = made (of_inverse ONCE_UPPER ONCE_LOWER) (λ b. basis (bit_xor b 99)) s x _ bs.bytes once-at
    (c.by_halves-once.ensures x eu el) ex in
    let ew = made (of_inverse TWICE_UPPER TWICE_LOWER) (λ b. basis (product 2 (bit_xor b 99))) s x _ bs.bytes twice-at
    (c.by_halves-twice.ensures x eu el) ex in
    (λ i. zip2 bit_xor (zip2 bit_xor (zip2 bit_xor (c.shifted_before.ensures i) (whole c.args.key c.fits-key.0 i))
    (zip2 bit_xor (c.shifted.ensures i) (c.shifted_next.ensures i))) (c.next_row.ensures i))
    ∙ (λ i. zip2 bit_xor (zip2 bit_xor (zip2 bit_xor (c.shifted_before.ensures 1) (whole c.args.key c.fits-key.0 1))
    (zip2 bit_xor (c.shifted.ensures 1) (c.shifted_next.ensures 1)))
    (pick rows_next (zip2 bit_xor (c.shifted.ensures i) (c.shifted_next.ensures i))))
    ∙ round-of (map s_box s) k _ _ c.args.key (IsBlock-boxed s bs) bk eo ew ek
    ∙ ap (λ l. map basis (add_round_key (mix_columns (shift_rows (map s_box s))) l)) (sym (whole k bk.size))
