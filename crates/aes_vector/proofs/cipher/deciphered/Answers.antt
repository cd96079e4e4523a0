use Rattle.std.proofs.Common.{◌≡◌, ◌+◌, ◌-◌, suc, map, ap, sym, subst, ◌∙◌, arith}
use Rattle.fips_197.specs.Bytes.{IsBlock}
use Rattle.fips_197.specs.Cipher.{round_key}
use Rattle.fips_197.specs.InverseCipher.{inverse_mix_columns, inverse_state_after, inverse_round, inverse_last_round, inverse_cipher}
use Rattle.fips_197.proofs.Steps.{IsBlock-add_round_key, IsBlock-inverse_round, IsBlock-inverse_mix_columns}
use Rattle.aes_vector.specs.Halves.{inverse_basis}
use Rattle.aes_vector.proofs.Rounds.{IsBlock-lanes}
use Rattle.aes_vector.proofs.InverseRounds.{first_inverse-of}
use Rattle.aes_vector.proofs.cipher.deciphered.Goals as goal

pub inverse_rounds-init : goal.inverse_rounds-init
unfolding inverse_state_after
inverse_rounds-init c w p =
    let n = c.args.rounds in
    let block = IsBlock-lanes c.args.block c.fits-block in
    let key = p.blocks n (omega arith) in (
      IsBlock-add_round_key c.args.block (round_key w n) block key,
      first_inverse-of c.args.block (round_key w n) c.in_tables.result _ block key c.in_tables.ensures (c.round_key.ensures ∙ p.first),
    )

pub inverse_rounds-preserved : goal.inverse_rounds-preserved
unfolding inverse_state_after
inverse_rounds-preserved c w p =
    let n = c.args.rounds in
    let r = c.inverse_rounds.r in
    let before = inverse_state_after w n c.args.block (r - 1) in
    let known = c.inverse_rounds.invariant w p in
    let mixed_key = inverse_mix_columns (round_key w (n - r)) in
    let key = IsBlock-inverse_mix_columns (round_key w (n - r)) (p.blocks (n - r) (omega arith)) in
    let next : r + 1 - 1 ≡ suc (r - 1) = omega arith in
    let here : suc (r - 1) ≡ r = omega arith in
    let e : inverse_round mixed_key before ≡ inverse_state_after w n c.args.block (r + 1 - 1) =
    ap (λ j. inverse_round (inverse_mix_columns (round_key w (n - j))) before) (sym here)
    ∙ ap (inverse_state_after w n c.args.block) (sym next) in (
      subst IsBlock e (IsBlock-inverse_round mixed_key before key known.0),
      c.inverse_round-x.ensures before mixed_key known.0 key known.1
          (c.round_key-in-inverse_rounds.ensures ∙ p.middle r (omega arith) (omega arith)) ∙ ap (map inverse_basis) e,
    )

pub returns : goal.returns
unfolding inverse_cipher
returns c w p =
    let n = c.args.rounds in
    let r = c.inverse_rounds.r in
    let end : r ≡ n = omega arith in
    let known = c.inverse_rounds.invariant w p in
    c.inverse_last_round.ensures (inverse_state_after w n c.args.block (r - 1)) (round_key w 0) known.0
    (p.blocks 0 (omega arith)) known.1 (c.round_key-2.ensures ∙ p.last)
    ∙ (λ i. inverse_last_round (round_key w 0) (inverse_state_after w n c.args.block (end i - 1)))
