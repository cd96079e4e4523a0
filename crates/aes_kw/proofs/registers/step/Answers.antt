use Rattle.std.proofs.Common.{◌+◌, ◌-◌, ◌%◌, ◌++◌, ◌∙◌, ap, ℕ, List}
use Rattle.std.specs.Int.{w64, to_be_bytes}
use Rattle.fips_197.specs.Bytes.{xor_bytes}
use Rattle.fips_197.specs.Encrypt.{encrypted_block}
use Rattle.aes_kw.specs.KeyWrap.{half, with_half, step}
use Rattle.aes_kw.proofs.registers.step.Goals as goal

pub returns : goal.returns
unfolding step
returns c =
    let row = c.args.registers.now in
    let t = c.args.t in
    let i = (t - 1) % c.args.n + 1 in
    let b = c.encipher-block.ensures.value
    ∙ ap (encrypted_block c.args.key.now) (c.joined.ensures ∙ (λ u. c.half_at.ensures u ++ c.half_at-2.ensures u)) in
    c.set_half-2.ensures
    ∙ (λ u. with_half ((c.set_half.ensures ∙ ap (with_half row 0) (c.with_number.ensures
    ∙ ap (λ a. xor_bytes a (to_be_bytes w64 t)) c.half_at-3.ensures)) u) i (c.half_at-4.ensures u))
    ∙ ap (λ (e : List ℕ). with_half (with_half row 0 (xor_bytes (half e 0) (to_be_bytes w64 t))) i (half e 1)) b
