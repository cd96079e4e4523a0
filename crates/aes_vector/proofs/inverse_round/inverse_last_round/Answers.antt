use Rattle.std.proofs.Common.{map, bit_xor, ap, sym, ◌∙◌}
use lib.Lanes.{zip2}
use Rattle.fips_197.specs.SBox.{inverse_s_box}
use Rattle.fips_197.specs.Cipher.{add_round_key}
use Rattle.fips_197.specs.InverseCipher.{inverse_substitute_bytes, inverse_shift_rows, inverse_last_round}
use Rattle.aes_vector.specs.Halves.{of_inverse}
use Rattle.aes_vector.specs.declared.tables.TheConstants.{END_UPPER, END_LOWER}
use Rattle.aes_vector.proofs.Rounds.{whole}
use Rattle.aes_vector.proofs.InverseBasis.{end-at}
use Rattle.aes_vector.proofs.InverseRounds.{inverse_last_round-of}
use Rattle.aes_vector.proofs.inverse_round.inverse_last_round.Goals as goal

pub returns : goal.returns
unfolding inverse_last_round inverse_substitute_bytes
returns c s k bs bk ex ek =
    let f = of_inverse END_UPPER END_LOWER in
    let e = c.by_halves.ensures c.shifted_back.result c.inverted.ensures.upper c.inverted.ensures.lower
    ∙ ap (map f) c.shifted_back.ensures in
    (λ i. zip2 bit_xor (e i) ((ek ∙ whole k bk.size) i))
    ∙ inverse_last_round-of f s k c.args.x bs ex end-at
    ∙ ap (λ l. add_round_key (inverse_shift_rows (map inverse_s_box s)) l) (sym (whole k bk.size))
