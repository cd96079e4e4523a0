use Rattle.std.proofs.Common.{◌<◌, ◌-◌, ◌≡◌, ◌*◌, ◌++◌, refl, ap, sym, subst, arith, ◌∙◌, length, take, drop}
use Rattle.fips_197.specs.Bytes.{AreBytes}
use Rattle.aes_modes.specs.Modes.{cbc_pad_encrypted}
use Rattle.streams_model.specs.Flows.{blocks_done}
use Rattle.std.proofs.lemmas.List.{length-take}
use Rattle.std.proofs.lemmas.List.Elements.{All-append, All-take}
use Rattle.streams_model.proofs.CbcPadLaw.{ended_value, ended_only, ended_none}
use Rattle.streams_model.proofs.Pieces.{waiting-held}
use Rattle.streams.proofs.cbc_decryption.CbcDecryption.unpadded_block.Goals as goal

pub returns-in_default-clause-bad_pad : goal.returns-in_default-clause-bad_pad
returns-in_default-clause-bad_pad c = λ _ x bytes e.
    let s = c.self.inside in
    let h = c.self.invariant in
    let x_is = c.xor_blocks-last.ensures in
    let one : length s.passed.kept ≡ 16 = omega (arith, c.len.ensures.value, c.if-len-ne-BLOCK_SIZE.false) in
    c.in_default.ensures.none refl (drop (16 * blocks_done s.held s.passed.taken.bytes) x)
    (ended_none s.key s.iv.bytes s.passed.given.bytes s.passed.taken.bytes s.chain s.passed.kept c.decipher.result
    c.xor_blocks-last.result c.block.result s.held
    h.given h.chain h.kept one c.block.ensures c.decipher.ensures.back x_is.value c.decipher.ensures.blocks.1.size
    x_is.blocks.1.size x_is.blocks.2.size
    x_is.blocks.2.bytes x bytes
    ((λ t. cbc_pad_encrypted (c.self.view_is t).key (c.self.view_is t).iv x) ∙ e ∙ sym (ap (λ f. f.taken) c.self.view_is)))

pub returns-clause-value : goal.returns-clause-value
returns-clause-value c =
    let s = c.self.inside in
    let h = c.self.invariant in
    let x_is = c.xor_blocks-last.ensures in
    let one : length s.passed.kept ≡ 16 = omega (arith, c.len.ensures.value, c.if-len-ne-BLOCK_SIZE.false) in
    let out = c.in_ok-extend_from_slice.ensures.items
    ∙ ap (λ l. l ++ take c.in-Some.len c.xor_blocks-last.result) c.in_ok-out.ensures.items in
    let all = ended_value s.key s.iv.bytes s.passed.given.bytes s.passed.taken.bytes s.chain s.passed.kept c.decipher.result
    c.xor_blocks-last.result c.block.result s.held
    h.given h.chain h.kept one c.block.ensures c.decipher.ensures.back x_is.value c.decipher.ensures.blocks.1.size
    x_is.blocks.1.size x_is.blocks.2.size
    (take c.in-Some.len c.xor_blocks-last.result) c.in-Some.ensures.found in
    (λ t. cbc_pad_encrypted (sym c.self.view_is t).key (sym c.self.view_is t).iv ((sym c.self.view_is t).given ++ out t))
    ∙ all ∙ ap (λ f. f.taken) c.self.view_is

pub returns-clause-only : goal.returns-clause-only
returns-clause-only c = λ x bytes e.
    let s = c.self.inside in
    let h = c.self.invariant in
    let x_is = c.xor_blocks-last.ensures in
    let one : length s.passed.kept ≡ 16 = omega (arith, c.len.ensures.value, c.if-len-ne-BLOCK_SIZE.false) in
    let last = c.xor_blocks-last.result in
    let out = c.in_ok-extend_from_slice.ensures.items ∙ ap (λ l. l ++ take c.in-Some.len last) c.in_ok-out.ensures.items in
    ended_only s.key s.iv.bytes s.passed.given.bytes s.passed.taken.bytes s.chain s.passed.kept c.decipher.result last c.block.result s.held
    h.given h.chain h.kept one c.block.ensures c.decipher.ensures.back x_is.value c.decipher.ensures.blocks.1.size
    x_is.blocks.1.size x_is.blocks.2.size
    (take c.in-Some.len last) c.in-Some.ensures.found (All-take (λ b. b < 256) c.in-Some.len last x_is.blocks.2.bytes) x bytes
    ((λ t. cbc_pad_encrypted (c.self.view_is t).key (c.self.view_is t).iv x) ∙ e ∙ sym (ap (λ f. f.taken) c.self.view_is))
    ∙ (λ t. (c.self.view_is t).given ++ sym out t)

pub returns-clause-size : goal.returns-clause-size
returns-clause-size c =
    let s = c.self.inside in
    let h = c.self.invariant in
    let one : length s.passed.kept ≡ 16 = omega (arith, c.len.ensures.value, c.if-len-ne-BLOCK_SIZE.false) in
    let last = c.xor_blocks-last.result in
    let out = ap length (c.in_ok-extend_from_slice.ensures.items ∙ ap (λ l. l ++ take c.in-Some.len last) c.in_ok-out.ensures.items) in
    let size = waiting-held s.held s.passed.taken.bytes s.passed.given.bytes s.passed.kept h.given.size h.kept
    ∙ ap (λ f. length f.taken - length f.given) c.self.view_is in
    let whole = c.xor_blocks-last.ensures.blocks.2.size in
    omega (arith, one, out, size, whole, length-take c.in-Some.len last)

pub returns-clause-bytes : goal.returns-clause-bytes
returns-clause-bytes c =
    let s = c.self.inside in
    let h = c.self.invariant in
    let last = c.xor_blocks-last.result in
    let out = c.in_ok-extend_from_slice.ensures.items ∙ ap (λ l. l ++ take c.in-Some.len last) c.in_ok-out.ensures.items in
    subst AreBytes (λ t. (c.self.view_is t).given ++ sym out t)
    (All-append (λ b. b < 256) s.passed.given.bytes (take c.in-Some.len last) h.given.bytes
    (All-take (λ b. b < 256) c.in-Some.len last c.xor_blocks-last.ensures.blocks.2.bytes))
