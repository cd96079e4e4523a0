use Rattle.std.proofs.Common.{◌∙◌, ◌≡◌, ℕ, ◌*◌, ◌/◌, ◌%◌, ◌≤◌, ◌++◌, List, ap, arith, length, subst, sym}
use Rattle.fips_197.specs.Bytes.{AreBytes, IsBlock, xor_bytes}
use Rattle.fips_197.specs.Texts.{block_of}
use Rattle.aes_slices.specs.Decrypt.{decrypted_block}
use Rattle.aes_modes.specs.Blocks.{first_blocks}
use Rattle.aes_modes.specs.Modes.{cbc_blocks}
use Rattle.aes_modes.proofs.Chains.{cbc_encrypted-all}
use Rattle.aes_modes.proofs.DecryptedTexts.{cbc-size, cbc-back}
use Rattle.aes_modes.proofs.Only.{cbc_encrypted-only}
use Rattle.aes_modes.proofs.chaining.decrypted.Goals as goal

pub returns-clause-value : goal.returns-clause-value
returns-clause-value c =
    let key = c.args.key.now in
    let iv : List ℕ = c.args.iv in
    let text = c.args.text.now in
    let n : ℕ = length text / 16 in
    let out : List ℕ = c.push_unchained.new.out.items in
    let within : 16 * n ≤ length text = omega arith in
    let wide : length iv ≡ 16 = omega arith in
    let f : ℕ → List ℕ = λ i. xor_bytes (decrypted_block key (block_of text i)) (block_of (iv ++ text) i) in
    let is : out ≡ first_blocks f n = c.in_ok-push_unchained.ensures ∙ ap (λ l. l ++ first_blocks f n) c.in_ok-out.ensures.items in
    cbc_encrypted-all key iv text out n (ap length is ∙ cbc-size key c.is_key.ensures text c.are_bytes-2.ensures n within iv wide)
    (omega arith) c.requires
    (ap (λ o. cbc_blocks key iv o n) is ∙ cbc-back key c.is_key.ensures text c.are_bytes-2.ensures n within iv wide)

pub returns-clause-length : goal.returns-clause-length
returns-clause-length c =
    let key = c.args.key.now in
    let iv : List ℕ = c.args.iv in
    let text = c.args.text.now in
    let n : ℕ = length text / 16 in
    let within : 16 * n ≤ length text = omega arith in
    let wide : length iv ≡ 16 = omega arith in
    let f : ℕ → List ℕ = λ i. xor_bytes (decrypted_block key (block_of text i)) (block_of (iv ++ text) i) in
    ap length (c.in_ok-push_unchained.ensures ∙ ap (λ l. l ++ first_blocks f n) c.in_ok-out.ensures.items)
    ∙ cbc-size key c.is_key.ensures text c.are_bytes-2.ensures n within iv wide ∙ omega (arith, c.requires)

pub returns-clause-only : goal.returns-clause-only
returns-clause-only c = λ x bytes whole is.
    let out : List ℕ = c.push_unchained.new.out.items in
    let iv : IsBlock c.args.iv = record { size = omega arith; bytes = c.are_bytes.ensures } in
    let is_out : AreBytes out = subst AreBytes c.deref.ensures.value c.are_bytes-3.ensures in
    let size : length out % 16 ≡ 0 = omega (arith, returns-clause-length c, c.requires) in
    cbc_encrypted-only c.args.key.now c.is_key.ensures c.args.iv x out iv bytes is_out whole size (is ∙ sym (returns-clause-value c))
