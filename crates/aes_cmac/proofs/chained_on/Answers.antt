use Rattle.std.proofs.Common.{◌≡◌, ◌∙◌, ◌+◌, ap, arith}
use Rattle.fips_197.specs.Bytes.{xor_bytes}
use Rattle.fips_197.specs.Encrypt.{encrypted_block}
use Rattle.aes_cmac.specs.Cmac.{chained}
use Rattle.aes_cmac.proofs.Messages.{chained-next}
use Rattle.aes_cmac.proofs.chained_on.Goals as goal

pub turns-init : goal.turns-init
turns-init c = λ message q text start. let none : q ≡ q + 0 = omega arith in start ∙ ap (chained c.args.key.now message) none

pub turns-preserved : goal.turns-preserved
turns-preserved c = λ message q text start.
    let key = c.args.key.now in
    c.encipher-chained.ensures.value
    ∙ ap (encrypted_block key) (c.xor_blocks.ensures.value ∙ ap (xor_bytes c.turns.chained) c.block_at.ensures)
    ∙ chained-next key message c.args.text.now c.turns.chained q c.turns.i text (c.turns.invariant message q text start)

pub returns : goal.returns
returns c = λ message q text start.
    let end : q + c.turns.i ≡ q + c.args.blocks = omega arith in
    c.turns.invariant message q text start ∙ ap (chained c.args.key.now message) end
