use Rattle.std.proofs.Common.{◌-◌, ◌++◌, ◌∙◌, ap, sym, length, replicate}
use Rattle.fips_197.specs.Encrypt.{encrypted_block}
use Rattle.aes_modes.specs.Modes.{cbc_pad_encrypted}
use Rattle.streams_model.proofs.CbcPadLaw.{padded_end}
use Rattle.streams.proofs.cbc_encryption.CbcEncryption.padded_block.Goals as goal

pub returns-clause-value : goal.returns-clause-value
returns-clause-value c =
    let s = c.self.inside in
    let h = c.self.invariant in
    let count = ap (λ n. 16 - n) c.len-count.ensures.value in
    let last = c.filled_block-last.ensures ∙ ap (λ b. b ++ replicate (16 - length b) (16 - c.len-count.result)) c.as_slice.ensures in
    let block = c.encipher.ensures.value ∙ ap (encrypted_block s.key) c.xor_blocks.ensures.value in
    let out = c.in_ok-extend_from_slice.ensures.items ∙ ap (λ l. l ++ c.encipher.result) c.in_ok-out.ensures.items in
    (λ t. (sym c.self.view_is t).given ++ out t)
    ∙ padded_end s.key s.iv.bytes s.passed.taken.bytes s.passed.given.bytes s.chain s.passed.kept c.filled_block-last.result
    c.encipher.result _ h.given h.chain h.kept count last block
    ∙ ap (λ f. cbc_pad_encrypted f.key f.iv f.taken) c.self.view_is

pub returns-clause-size : goal.returns-clause-size
returns-clause-size c =
    let one = c.encipher.ensures.blocks.1.size in
    ap length (c.in_ok-extend_from_slice.ensures.items ∙ ap (λ l. l ++ c.encipher.result) c.in_ok-out.ensures.items) ∙ one
