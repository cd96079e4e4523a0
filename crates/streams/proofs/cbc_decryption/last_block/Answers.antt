use Rattle.std.proofs.Common.{◌≡◌, ℕ, suc, ◌-◌, ◌∙◌, ◌++◌, List, ap, sym, arith, length}
use Rattle.fips_197.specs.Texts.{block_of}
use Rattle.aes_modes.proofs.DecryptedTexts.{before-first, before-next}
use Rattle.streams.proofs.cbc_decryption.last_block.Goals as goal

pub returns-then-blocks-eq0 : goal.returns-then-blocks-eq0
returns-then-blocks-eq0 c =
    let text : List ℕ = c.args.kept.now ++ c.args.piece.now in
    let wide : length c.args.start ≡ 16 = omega arith in
    sym (before-first c.args.start text wide) ∙ ap (block_of (c.args.start ++ text)) (sym c.if-blocks-eq0.true)

pub returns-else-blocks-eq0 : goal.returns-else-blocks-eq0
returns-else-blocks-eq0 c =
    let text : List ℕ = c.args.kept.now ++ c.args.piece.now in
    let wide : length c.args.start ≡ 16 = omega arith in
    let some : suc (c.args.blocks - 1) ≡ c.args.blocks = omega (arith, c.if-blocks-eq0.false) in
    c.block.ensures ∙ sym (before-next c.args.start text (c.args.blocks - 1) wide) ∙ ap (block_of (c.args.start ++ text)) some
