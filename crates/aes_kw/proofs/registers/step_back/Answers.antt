use Rattle.std.proofs.Common.{◌+◌, ◌-◌, ◌%◌, ◌++◌, ◌∙◌, ap, sym}
use Rattle.std.specs.Int.{w64, to_be_bytes}
use Rattle.fips_197.specs.Bytes.{xor_bytes}
use Rattle.aes_kw.specs.KeyWrap.{half, with_half, step}
use Rattle.aes_kw.proofs.Steps.{step-back, IsBlock-step, step-block, step-only}
use Rattle.aes_kw.proofs.registers.step_back.Goals as goal

pub returns-clause-back : goal.returns-clause-back
returns-clause-back c =
    let key = c.args.key.now in
    let row = c.args.registers.now in
    let n = c.args.n in
    let t = c.args.t in
    let i = (t - 1) % n + 1 in
    let check = c.with_number-check.ensures ∙ ap (λ a. xor_bytes a (to_be_bytes w64 t)) c.half_at.ensures in
    let block = c.decipher-block.ensures.back ∙ c.joined.ensures ∙ ap (λ r. c.with_number-check.result ++ r) c.half_at-2.ensures in
    let new = c.set_half-2.ensures
    ∙ (λ u. with_half ((c.set_half.ensures ∙ ap (with_half row 0) c.half_at-3.ensures) u) i (c.half_at-4.ensures u)) in
    ap (step key n t) new
    ∙ step-back key n t c.requires.some row c.decipher-block.result c.with_number-check.result c.requires.size
    c.decipher-block.ensures.blocks.1.size check block

pub returns-clause-only : goal.returns-clause-only
returns-clause-only c = λ x bytes size is.
    let key = c.args.key.now in
    let row = c.args.registers.now in
    let n = c.args.n in
    let t = c.args.t in
    let i = (t - 1) % n + 1 in
    let check = c.with_number-check.ensures ∙ ap (λ a. xor_bytes a (to_be_bytes w64 t)) c.half_at.ensures in
    let joined = c.joined.ensures ∙ ap (λ r. c.with_number-check.result ++ r) c.half_at-2.ensures in
    let new = c.set_half-2.ensures
    ∙ (λ u. with_half ((c.set_half.ensures ∙ ap (with_half row 0) c.half_at-3.ensures) u) i (c.half_at-4.ensures u)) in
    let some = c.requires.some in
    let known = c.is_key.ensures in
    let block = c.decipher-block.ensures.only (half x 0 ++ half x i) (IsBlock-step key n t some known x bytes size)
    (step-block key n t some known x bytes size row c.with_number-check.result is check ∙ sym joined) in
    step-only key n t some known x bytes size row c.decipher-block.result is block ∙ sym new
