use Rattle.std.proofs.Common.{arith, ◌∙◌, ap, sym}
use Rattle.fips_197.specs.Encrypt.{encrypted_block}
use Rattle.fips_197.specs.Cipher.{cipher}
use Rattle.fips_197.specs.InverseCipher.{inverse_cipher}
use Rattle.aes_block.specs.Words.{words_bytes}
use Rattle.fips_197.proofs.Inverses.{cipher-inverse_cipher, inverse_cipher-cipher}
use Rattle.aes_block.proofs.StoredKeys.{rounds-bounds, IsBlock-stored, encrypted-stored}
use Rattle.aes_block.proofs.Key.decipher.Goals as goal

pub decrypt-requires-clause-low : goal.decrypt-requires-clause-low
decrypt-requires-clause-low c = omega (arith, rounds-bounds c.self.inside c.self.invariant)

pub decrypt-requires-clause-high : goal.decrypt-requires-clause-high
decrypt-requires-clause-high c = omega (arith, rounds-bounds c.self.inside c.self.invariant)

pub returns-clause-back : goal.returns-clause-back
returns-clause-back c =
    let k = c.self.inside in
    let w = words_bytes k.schedule in
    ap (λ key. encrypted_block key c.decrypt.result) (sym c.self.view_is)
    ∙ sym (encrypted-stored k c.decrypt.result c.self.invariant)
    ∙ ap (λ b. cipher w k.rounds b) c.decrypt.ensures.value
    ∙ cipher-inverse_cipher w k.rounds (λ r le. IsBlock-stored k r c.self.invariant le)
    (omega (arith, rounds-bounds k c.self.invariant))
    c.args.block c.decrypt.ensures.blocks.0

pub returns-clause-only : goal.returns-clause-only
returns-clause-only c = λ x block e.
    let k = c.self.inside in
    let w = words_bytes k.schedule in
    sym (inverse_cipher-cipher w k.rounds (λ r le. IsBlock-stored k r c.self.invariant le)
    (omega (arith, rounds-bounds k c.self.invariant)) x block)
    ∙ ap (inverse_cipher w k.rounds)
    (encrypted-stored k x c.self.invariant ∙ ap (λ key. encrypted_block key x) c.self.view_is ∙ e)
    ∙ sym c.decrypt.ensures.value
