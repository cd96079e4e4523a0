use Rattle.std.proofs.Common.{◌≡◌, ◌+◌, ◌-◌, suc, ap, sym, subst, ◌∙◌, arith}
use Rattle.fips_197.specs.Bytes.{IsBlock, xor_bytes}
use Rattle.fips_197.specs.Cipher.{substitute_bytes, mix_columns, add_round_key, round_key, state_after, round, last_round, cipher}
use Rattle.fips_197.proofs.Steps.{shifted, IsBlock-shifted, IsBlock-mix_columns, IsBlock-add_round_key, IsBlock-round, IsBlock-last_round}
use Rattle.aes_planes.specs.Planes.{vector_of, IsSliced, with_constant}
use Rattle.aes_slices.specs.Rows.{in_rows}
use Rattle.aes_slices.proofs.InRows.{IsBlock-in_rows, in_rows-substituted, in_rows-sum}
use Rattle.aes_slices.proofs.Constants.{IsBlock-substituted, IsBlock-with_constant, constants_gone, constant-shift_rows, constant-mix_columns}
use Rattle.aes_slices.proofs.Transpositions.{back}
use Rattle.aes_slices.proofs.cipher.encrypted.Goals as goal

pub rounds-init : goal.rounds-init
unfolding state_after add_round_key
rounds-init c w p j lt =
    let x = vector_of c.args.blocks j in
    let k = round_key w 0 in
    let key = subst (λ t. IsSliced t j k) (sym c.eight_at.ensures) (p.first j lt) in (
      IsBlock-add_round_key x k (c.are_blocks.ensures j lt) (p.blocks 0 (omega arith)),
      c.in_rows-s.ensures j (xor_bytes x k) (c.added.ensures j x k (c.transposed.ensures j lt) key),
    )

pub rounds-preserved : goal.rounds-preserved
unfolding state_after round add_round_key shifted
rounds-preserved c w p j lt =
    let x = vector_of c.args.blocks j in
    let r = c.rounds.r in
    let k = round_key w r in
    let hk = p.blocks r (omega arith) in
    let before = state_after w x (r - 1) in
    let known = c.rounds.invariant w p j lt in
    let y = substitute_bytes before in
    let hy = IsBlock-substituted before known.0 in
    let t = shifted before in
    let t_is = IsBlock-shifted before known.0 in
    let m = mix_columns t in
    let hm = IsBlock-mix_columns t t_is in
    let boxed = subst (IsSliced c.substituted.result j) (in_rows-substituted before known.0.size)
    (c.substituted.ensures j (in_rows before) (IsBlock-in_rows before known.0) known.1) in
    let moved = subst (IsSliced c.rows_shifted.result j) (ap in_rows (constant-shift_rows y hy))
    (c.rows_shifted.ensures j (with_constant y) (IsBlock-with_constant y hy) boxed) in
    let mixed = subst (IsSliced c.mixed.result j) (ap in_rows (constant-mix_columns t t_is hm))
    (c.mixed.ensures j (with_constant t) (IsBlock-with_constant t t_is) moved) in
    let key = subst (λ t. IsSliced t j (in_rows (with_constant k))) (sym c.eight_at-in-rounds.ensures)
    (p.middle r (omega arith) (omega arith) j lt) in
    let all = subst (IsSliced c.added-s.result j)
    (in_rows-sum (with_constant m) (with_constant k) (IsBlock-with_constant m hm).size (IsBlock-with_constant k hk).size
    ∙ ap in_rows (constants_gone m k))
    (c.added-s.ensures j (in_rows (with_constant m)) (in_rows (with_constant k)) mixed key) in
    let next : r + 1 - 1 ≡ suc (r - 1) = omega arith in
    let here : suc (r - 1) ≡ r = omega arith in
    let e : round k before ≡ state_after w x (r + 1 - 1) =
    ap (λ q. round (round_key w q) before) (sym here) ∙ ap (state_after w x) (sym next) in (
      subst IsBlock e (IsBlock-round k before hk known.0),
      subst (IsSliced c.added-s.result j) (ap in_rows e) all,
    )

pub returns : goal.returns
unfolding cipher last_round add_round_key shifted
returns c w p j lt =
    let x = vector_of c.args.blocks j in
    let n = c.args.rounds in
    let r = c.rounds.r in
    let k = round_key w n in
    let before = state_after w x (r - 1) in
    let known = c.rounds.invariant w p j lt in
    let y = substitute_bytes before in
    let hy = IsBlock-substituted before known.0 in
    let t = shifted before in
    let boxed = subst (IsSliced c.substituted-2.result j) (in_rows-substituted before known.0.size)
    (c.substituted-2.ensures j (in_rows before) (IsBlock-in_rows before known.0) known.1) in
    let moved = subst (IsSliced c.rows_shifted_last.result j) (constant-shift_rows y hy)
    (c.rows_shifted_last.ensures j (with_constant y) (IsBlock-with_constant y hy) boxed) in
    let key = subst (λ t. IsSliced t j (with_constant k)) (sym c.eight_at-2.ensures) (p.last j lt) in
    let all = subst (IsSliced c.added-2.result j) (constants_gone t k)
    (c.added-2.ensures j (with_constant t) (with_constant k) moved key) in
    let end : r ≡ n = omega arith in
    back c.added-2.result c.transposed-result.result j (last_round k before) lt c.transposed-result.ensures all
    (c.are_blocks-2.ensures j lt) (IsBlock-last_round k before (p.blocks n (omega arith)) known.0)
    ∙ (λ i. last_round k (state_after w x (end i - 1)))
