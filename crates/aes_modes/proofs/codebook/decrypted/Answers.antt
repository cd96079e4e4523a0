use Rattle.std.proofs.Common.{◌∙◌, ◌≡◌, ℕ, ◌*◌, ◌/◌, ◌%◌, ◌≤◌, ◌++◌, List, ap, arith, length, subst, sym}
use Rattle.fips_197.specs.Bytes.{AreBytes}
use Rattle.fips_197.specs.Texts.{block_of}
use Rattle.aes_slices.specs.Decrypt.{decrypted_block}
use Rattle.aes_modes.specs.Blocks.{first_blocks}
use Rattle.aes_modes.specs.Modes.{ecb_blocks}
use Rattle.aes_modes.proofs.Chains.{ecb_encrypted-all}
use Rattle.aes_modes.proofs.DecryptedTexts.{ecb-size, ecb-back}
use Rattle.aes_modes.proofs.Only.{ecb_encrypted-only}
use Rattle.aes_modes.proofs.codebook.decrypted.Goals as goal

pub returns-clause-value : goal.returns-clause-value
returns-clause-value c =
    let key = c.args.key.now in
    let text = c.args.text.now in
    let n : ℕ = length text / 16 in
    let out : List ℕ = c.push_decrypted.new.out.items in
    let within : 16 * n ≤ length text = omega arith in
    let is : out ≡ first_blocks (λ i. decrypted_block key (block_of text i)) n =
    c.in_ok-push_decrypted.ensures ∙ ap (λ l. l ++ first_blocks (λ i. decrypted_block key (block_of text i)) n) c.in_ok-out.ensures.items in
    ecb_encrypted-all key text out n (ap length is ∙ ecb-size key c.is_key.ensures text c.are_bytes.ensures n within)
    (omega arith) c.requires
    (ap (λ o. ecb_blocks key o n) is ∙ ecb-back key c.is_key.ensures text c.are_bytes.ensures n within)

pub returns-clause-length : goal.returns-clause-length
returns-clause-length c =
    let key = c.args.key.now in
    let text = c.args.text.now in
    let n : ℕ = length text / 16 in
    let within : 16 * n ≤ length text = omega arith in
    ap length (c.in_ok-push_decrypted.ensures
    ∙ ap (λ l. l ++ first_blocks (λ i. decrypted_block key (block_of text i)) n) c.in_ok-out.ensures.items)
    ∙ ecb-size key c.is_key.ensures text c.are_bytes.ensures n within ∙ omega (arith, c.requires)

pub returns-clause-only : goal.returns-clause-only
returns-clause-only c = λ x bytes whole is.
    let out : List ℕ = c.push_decrypted.new.out.items in
    let is_out : AreBytes out = subst AreBytes c.deref.ensures.value c.are_bytes-2.ensures in
    let size : length out % 16 ≡ 0 = omega (arith, returns-clause-length c, c.requires) in
    ecb_encrypted-only c.args.key.now c.is_key.ensures x out bytes is_out whole size (is ∙ sym (returns-clause-value c))
