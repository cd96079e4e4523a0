use Rattle.std.proofs.Common.{arith, ◌∙◌, ap, sym, subst}
use Rattle.fips_197.specs.Bytes.{IsBlock}
use Rattle.fips_197.specs.Encrypt.{encrypted_block}
use Rattle.fips_197.specs.Cipher.{cipher}
use Rattle.fips_197.specs.KeyExpansion.{key_expansion}
use Rattle.fips_197.specs.InverseCipher.{inverse_cipher}
use Rattle.fips_197.proofs.Inverses.{cipher-inverse_cipher, inverse_cipher-cipher, IsBlock-inverse_cipher}
use Rattle.aes_vector.specs.StoredKey.{key_bytes}
use Rattle.aes_vector.proofs.StoredKeys.{rounds-bounds, encrypted-stored}
use Rattle.aes_vector.proofs.Key.decipher.Goals as goal

pub deciphered-requires-clause-low : goal.deciphered-requires-clause-low
deciphered-requires-clause-low c = omega (arith, rounds-bounds c.self.inside c.self.invariant)

pub deciphered-requires-clause-high : goal.deciphered-requires-clause-high
deciphered-requires-clause-high c = omega (arith, rounds-bounds c.self.inside c.self.invariant)

pub returns-clause-back : goal.returns-clause-back
returns-clause-back c =
    let k = c.self.inside in
    let w = key_expansion (key_bytes k) in
    let inverse_keys = c.self.invariant.inverse_keys in
    let block : IsBlock c.args.block = record { size = omega arith; bytes = c.are_bytes.ensures } in
    ap (λ key. encrypted_block key c.deciphered.result) (sym c.self.view_is)
    ∙ sym (encrypted-stored k c.deciphered.result c.self.invariant)
    ∙ ap (cipher w k.rounds) (c.deciphered.ensures w inverse_keys)
    ∙ cipher-inverse_cipher w k.rounds inverse_keys.blocks (omega (arith, rounds-bounds k c.self.invariant)) c.args.block block

pub returns-clause-only : goal.returns-clause-only
returns-clause-only c = λ x block e.
    let k = c.self.inside in
    let w = key_expansion (key_bytes k) in
    let inverse_keys = c.self.invariant.inverse_keys in
    sym (inverse_cipher-cipher w k.rounds inverse_keys.blocks (omega (arith, rounds-bounds k c.self.invariant)) x block)
    ∙ ap (inverse_cipher w k.rounds)
    (encrypted-stored k x c.self.invariant ∙ ap (λ key. encrypted_block key x) c.self.view_is ∙ e)
    ∙ sym (c.deciphered.ensures w inverse_keys)

pub returns-clause-blocks : goal.returns-clause-blocks
returns-clause-blocks c =
    let k = c.self.inside in
    let w = key_expansion (key_bytes k) in
    let inverse_keys = c.self.invariant.inverse_keys in
    let block : IsBlock c.args.block = record { size = omega arith; bytes = c.are_bytes.ensures } in (
      block,
      subst IsBlock (sym (c.deciphered.ensures w inverse_keys))
          (IsBlock-inverse_cipher w k.rounds inverse_keys.blocks (omega (arith, rounds-bounds k c.self.invariant)) c.args.block block),
    )
