use Rattle.std.proofs.Common.{◌≡◌, ◌+◌, ◌-◌, suc, ap, sym, subst, ◌∙◌, arith}
use Rattle.fips_197.specs.Bytes.{IsBlock, xor_bytes}
use Rattle.fips_197.specs.Cipher.{add_round_key, round_key}
use Rattle.fips_197.specs.InverseCipher.{inverse_substitute_bytes, inverse_mix_columns, inverse_state_after, inverse_round, inverse_last_round, inverse_cipher}
use Rattle.fips_197.proofs.Blocks.{IsBlock-xor_bytes}
use Rattle.fips_197.proofs.Steps.{unshifted, IsBlock-unshifted, IsBlock-add_round_key, IsBlock-inverse_round, IsBlock-inverse_last_round, IsBlock-inverse_mix_columns, inverse_mix_columns-xor}
use Rattle.aes_planes.specs.Planes.{vector_of, IsSliced, with_constant}
use Rattle.aes_slices.specs.Rows.{in_rows}
use Rattle.aes_slices.proofs.InRows.{IsBlock-in_rows, in_rows-constant, in_rows-substituted_back, in_rows-sum}
use Rattle.aes_slices.proofs.Constants.{IsBlock-substituted_back, IsBlock-with_constant, constant_right, constant-inverse_mix_columns}
use Rattle.aes_slices.proofs.Transpositions.{back}
use Rattle.aes_slices.proofs.cipher.decrypted.Goals as goal

pub rounds-init : goal.rounds-init
unfolding inverse_state_after add_round_key
rounds-init c w p j lt =
    let x = vector_of c.args.blocks j in
    let n = c.args.rounds in
    let k = round_key w n in
    let key = subst (λ t. IsSliced t j (with_constant k)) (sym c.eight_at.ensures) (p.last j lt) in (
      IsBlock-add_round_key x k (c.are_blocks.ensures j lt) (p.blocks n (omega arith)),
      c.in_rows-s.ensures j (with_constant (xor_bytes x k)) (subst (IsSliced c.added.result j) (constant_right x k)
          (c.added.ensures j x (with_constant k) (c.transposed.ensures j lt) key)),
    )

pub rounds-preserved : goal.rounds-preserved
unfolding inverse_state_after inverse_round add_round_key unshifted
rounds-preserved c w p j lt =
    let x = vector_of c.args.blocks j in
    let n = c.args.rounds in
    let i = c.rounds.i in
    let k = round_key w (n - i) in
    let hk : IsBlock k = p.blocks (n - i) (omega arith) in
    let before = inverse_state_after w n x (i - 1) in
    let known = c.rounds.invariant w p j lt in
    let y = inverse_substitute_bytes before in
    let hy = IsBlock-substituted_back before known.0 in
    let u = unshifted before in
    let hu : IsBlock u = IsBlock-unshifted before known.0 in
    let v = xor_bytes u k in
    let hv : IsBlock v = IsBlock-xor_bytes u k hu hk in
    let boxed = subst (IsSliced c.substituted_back.result j) (in_rows-substituted_back before known.0.size)
    (c.substituted_back.ensures j (in_rows before) (IsBlock-in_rows before known.0)
    (subst (IsSliced c.rounds.s j) (sym (in_rows-constant before known.0.size)) known.1)) in
    let moved = c.rows_shifted_back-t.ensures j y hy boxed in
    let key = subst (λ t. IsSliced t j (in_rows (with_constant k))) (sym c.eight_at-in-rounds.ensures)
    (p.middle (n - i) (omega arith) (omega arith) j lt) in
    let sum = subst (IsSliced c.added-in-rounds.result j)
    (in_rows-sum u (with_constant k) hu.size (IsBlock-with_constant k hk).size ∙ ap in_rows (constant_right u k))
    (c.added-in-rounds.ensures j (in_rows u) (in_rows (with_constant k)) moved key) in
    let all = subst (IsSliced c.mixed_back-s.result j) (ap in_rows (constant-inverse_mix_columns v hv (IsBlock-inverse_mix_columns v hv)))
    (c.mixed_back-s.ensures j (with_constant v) (IsBlock-with_constant v hv) sum) in
    let next : i + 1 - 1 ≡ suc (i - 1) = omega arith in
    let here : suc (i - 1) ≡ i = omega arith in
    let e : inverse_round (inverse_mix_columns k) before ≡ inverse_state_after w n x (i + 1 - 1) =
    ap (λ q. inverse_round (inverse_mix_columns (round_key w (n - q))) before) (sym here) ∙ ap (inverse_state_after w n x) (sym next) in (
      subst IsBlock e (IsBlock-inverse_round (inverse_mix_columns k) before (IsBlock-inverse_mix_columns k hk) known.0),
      subst (IsSliced c.mixed_back-s.result j) (ap (λ l. in_rows (with_constant l)) (inverse_mix_columns-xor u k hu hk ∙ e)) all,
    )

pub returns : goal.returns
unfolding inverse_cipher inverse_last_round add_round_key unshifted
returns c w p j lt =
    let x = vector_of c.args.blocks j in
    let n = c.args.rounds in
    let i = c.rounds.i in
    let k = round_key w 0 in
    let before = inverse_state_after w n x (i - 1) in
    let known = c.rounds.invariant w p j lt in
    let y = inverse_substitute_bytes before in
    let hy = IsBlock-substituted_back before known.0 in
    let boxed = subst (IsSliced c.substituted_back-2.result j) (in_rows-substituted_back before known.0.size)
    (c.substituted_back-2.ensures j (in_rows before) (IsBlock-in_rows before known.0)
    (subst (IsSliced c.rounds.s j) (sym (in_rows-constant before known.0.size)) known.1)) in
    let moved = c.rows_shifted_back_last-t.ensures j y hy boxed in
    let key = subst (λ t. IsSliced t j k) (sym c.eight_at-2.ensures) (p.first j lt) in
    let all = c.added-2.ensures j (unshifted before) k moved key in
    let end : i ≡ n = omega arith in
    back c.added-2.result c.transposed-result.result j (inverse_last_round k before) lt c.transposed-result.ensures all
    (c.are_blocks-2.ensures j lt) (IsBlock-inverse_last_round k before (p.blocks 0 (omega arith)) known.0)
    ∙ (λ t. inverse_last_round k (inverse_state_after w n x (end t - 1)))
