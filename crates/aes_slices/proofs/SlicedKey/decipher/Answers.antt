use Rattle.std.proofs.Common.{◌≡◌, ℕ, ◌<◌, ap, sym, subst, ◌∙◌, arith}
use Rattle.fips_197.specs.InverseCipher.{inverse_cipher}
use Rattle.fips_197.specs.KeyExpansion.{key_expansion}
use Rattle.fips_197.specs.Encrypt.{encrypted_block}
use Rattle.fips_197.specs.Texts.{block_of}
use Rattle.fips_197.proofs.KeySchedules.{round_count-bounds}
use Rattle.aes_slices.specs.Decrypt.{decrypted_block}
use Rattle.aes_slices.specs.Keys.{ArePlanes}
use Rattle.aes_slices.proofs.Batches.{block_in, IsBlock-in, encrypted-back, back-encrypted}
use Rattle.aes_slices.proofs.SlicedKey.decipher.Goals as goal

pub decrypted-requires-clause-low : goal.decrypted-requires-clause-low
decrypted-requires-clause-low c = omega (arith, c.rounds.ensures.value, round_count-bounds _ c.rounds.ensures.key.size)

pub decrypted-requires-clause-high : goal.decrypted-requires-clause-high
decrypted-requires-clause-high c = omega (arith, c.rounds.ensures.value, round_count-bounds _ c.rounds.ensures.key.size)

-- block i of the result
led : (c : goal.After-bytes_of) (i : ℕ) → i < 8
    → block_of c.bytes_of.result i ≡ inverse_cipher (key_expansion c.self.inside.key) c.rounds.result (block_of c.args.batch.now i)
led c i lt =
    let n = c.rounds.result in
    let w = key_expansion c.self.inside.key in
    let planes = subst (λ n. ArePlanes c.self.inside.planes n w) (sym c.rounds.ensures.value) c.self.invariant.planes in
    sym (block_in c.bytes_of.result _ (sym c.bytes_of.ensures) i lt) ∙ c.decrypted.ensures w planes i lt
    ∙ ap (inverse_cipher w n) (block_in c.args.batch.now _ c.eight_at.ensures i lt)

pub returns-clause-value : goal.returns-clause-value
unfolding decrypted_block
returns-clause-value c = λ i lt.
    let w = key_expansion c.self.inside.key in
    let block = block_of c.args.batch.now i in
    led c i lt ∙ ap (λ m. inverse_cipher w m block) c.rounds.ensures.value ∙ ap (λ k. decrypted_block k block) c.self.view_is

pub returns-clause-back : goal.returns-clause-back
returns-clause-back c = λ i lt.
    (λ t. encrypted_block (sym c.self.view_is t) (led c i lt t))
    ∙ encrypted-back c.self.inside.key c.rounds.result c.rounds.ensures.value c.rounds.ensures.key (block_of c.args.batch.now i)
    (IsBlock-in c.args.batch.now (omega arith) c.are_bytes.ensures i lt)

pub returns-clause-only : goal.returns-clause-only
returns-clause-only c = λ i lt x is e.
    back-encrypted c.self.inside.key c.rounds.result c.rounds.ensures.value c.rounds.ensures.key x (block_of c.args.batch.now i) is
    (ap (λ k. encrypted_block k x) c.self.view_is ∙ e)
    ∙ sym (led c i lt)
