use Rattle.std.proofs.Common.{◌≡◌, ◌∙◌, ◌++◌, refl, ap, set, get_or, length, take, drop, replicate, arith, ℕ, List}
use Rattle.std.proofs.lemmas.List.{length-set}
use Rattle.aes_cmac.proofs.Messages.{over-more, padded-block}
use Rattle.aes_cmac.proofs.last_block.bit_padded.Goals as goal

pub loop-i-init : goal.loop-i-init
loop-i-init c = refl

pub loop-i-preserved : goal.loop-i-preserved
loop-i-preserved c =
    let bytes = c.args.bytes.now in
    let i = c.loop-i.i in
    let start : List ℕ = set (replicate 16 0) (length bytes) 0x80 in
    ap (λ b. set b i (get_or bytes i 0)) c.loop-i.invariant
    ∙ over-more bytes start i (omega arith) (omega (arith, length-set {A = ℕ} (replicate 16 0) (length bytes) 0x80))

pub returns : goal.returns
returns c =
    let bytes = c.args.bytes.now in
    let start : List ℕ = set (replicate 16 0) (length bytes) 0x80 in
    let end : c.loop-i.i ≡ length bytes = omega arith in
    c.loop-i.invariant
    ∙ ap (λ i. take i bytes ++ drop i start) end
    ∙ padded-block bytes (omega arith)
