use Rattle.std.proofs.Common.{◌≡◌, ◌∙◌, ◌-◌, ◌++◌, refl, ap, set, get_or, length, take, replicate, arith}
use Rattle.std.proofs.lemmas.List.{take_all}
use Rattle.aes_modes.proofs.Texts.{filled-more}
use Rattle.aes_modes.proofs.blocks.filled_block.Goals as goal

pub loop-i-init : goal.loop-i-init
loop-i-init c = refl

pub loop-i-preserved : goal.loop-i-preserved
loop-i-preserved c =
    let bytes = c.args.bytes.now in
    let i = c.loop-i.i in
    ap (λ b. set b i (get_or bytes i 0)) c.loop-i.invariant ∙ filled-more bytes i c.args.fill (omega arith) (omega arith)

pub returns : goal.returns
returns c =
    let bytes = c.args.bytes.now in
    let end : c.loop-i.i ≡ length bytes = omega arith in
    c.loop-i.invariant
    ∙ ap (λ i. take i bytes ++ replicate (16 - i) c.args.fill) end
    ∙ ap (λ b. b ++ replicate (16 - length bytes) c.args.fill) (take_all (length bytes) bytes (omega arith))
