use Rattle.std.proofs.Common.{map, bit_xor, ap, sym, ◌∙◌}
use lib.Lanes.{zip2}
use Rattle.fips_197.specs.SBox.{inverse_s_box}
use Rattle.fips_197.specs.Cipher.{add_round_key}
use Rattle.fips_197.specs.InverseCipher.{inverse_substitute_bytes, inverse_shift_rows, inverse_mix_columns, inverse_round}
use Rattle.aes_vector.specs.Halves.{inverse_basis, of_inverse}
use Rattle.aes_vector.specs.declared.tables.TheConstants.{NINE_UPPER, NINE_LOWER, THIRTEEN_UPPER, THIRTEEN_LOWER, ELEVEN_UPPER, ELEVEN_LOWER, FOURTEEN_UPPER, FOURTEEN_LOWER}
use Rattle.aes_vector.proofs.Rounds.{whole}
use Rattle.aes_vector.proofs.InverseBasis.{nine-at, thirteen-at, eleven-at, fourteen-at}
use Rattle.aes_vector.proofs.InverseRounds.{moved, next, inverse_round-of}
use Rattle.aes_vector.proofs.inverse_round.inverse_round.Goals as goal

pub returns : goal.returns
unfolding inverse_round inverse_substitute_bytes
returns c s k bs bk ex ek =
    let x = c.args.x in
    let key = c.args.key in
    let sh = c.shifted_back.result in
    let eu = c.inverted-halves.ensures.upper in
    let el = c.inverted-halves.ensures.lower in
    let f9 = of_inverse NINE_UPPER NINE_LOWER in let f13 = of_inverse THIRTEEN_UPPER THIRTEEN_LOWER in
    let f11 = of_inverse ELEVEN_UPPER ELEVEN_LOWER in let f14 = of_inverse FOURTEEN_UPPER FOURTEEN_LOWER in
    let e9 = c.by_halves-a.ensures sh eu el ∙ ap (map f9) c.shifted_back.ensures in
    let e13 = c.by_halves.ensures sh eu el ∙ ap (map f13) c.shifted_back.ensures in
    let e11 = c.by_halves-2.ensures sh eu el ∙ ap (map f11) c.shifted_back.ensures in
    let e14 = c.by_halves-3.ensures sh eu el ∙ ap (map f14) c.shifted_back.ensures in
    let eb = (λ i. zip2 bit_xor (c.next_row.ensures i) (e13 i)) ∙ (λ i. zip2 bit_xor (next (e9 i)) (moved f13 x)) in
    let ec = (λ i. zip2 bit_xor (c.next_row-2.ensures i) (e11 i)) ∙ (λ i. zip2 bit_xor (next (eb i)) (moved f11 x)) in
    (λ i. zip2 bit_xor (zip2 bit_xor (c.next_row-3.ensures i) (e14 i)) (whole key c.fits-key.0 i))
    ∙ (λ i. zip2 bit_xor (zip2 bit_xor (next (ec i)) (moved f14 x)) (whole key c.fits-key.0 1))
    ∙ inverse_round-of f9 f13 f11 f14 s k x key bs bk ex ek nine-at thirteen-at eleven-at fourteen-at
    ∙ ap (λ l. map inverse_basis (add_round_key (inverse_mix_columns (inverse_shift_rows (map inverse_s_box s))) l)) (sym (whole k bk.size))
