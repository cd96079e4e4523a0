use Rattle.std.proofs.Common.{refl, arith, ◌∙◌, ap, sym, subst}
use Rattle.std.specs.Int.{w128, to_be_bytes}
use Rattle.fips_197.specs.Bytes.{IsBlock}
use Rattle.fips_197.specs.Cipher.{cipher}
use Rattle.fips_197.specs.KeyExpansion.{key_expansion}
use Rattle.fips_197.specs.Encrypt.{encrypted_block}
use Rattle.fips_197.proofs.KeySchedules.{IsBlock-encrypted_block}
use Rattle.fips_197.proofs.Numbers.{to_be_bytes-block}
use Rattle.fips_197.proofs.TextBlocks.{AreBytes-bytes_high_first}
use Rattle.aes_vector.specs.StoredKey.{key_bytes}
use Rattle.aes_vector.proofs.StoredKeys.{rounds-bounds, encrypted-stored}
use Rattle.aes_vector.proofs.Key.encrypt_number.Goals as goal

pub enciphered-requires-clause-low : goal.enciphered-requires-clause-low
enciphered-requires-clause-low c = omega (arith, rounds-bounds c.self.inside c.self.invariant)

pub enciphered-requires-clause-high : goal.enciphered-requires-clause-high
enciphered-requires-clause-high c = omega (arith, rounds-bounds c.self.inside c.self.invariant)

pub returns : goal.returns
returns c =
    let k = c.self.inside in
    let w = key_expansion (key_bytes k) in
    let block = to_be_bytes w128 c.args.number in
    let is_block : IsBlock block = record { size = refl; bytes = AreBytes-bytes_high_first 16 c.args.number } in
    let value = c.enciphered.ensures w c.self.invariant.keys ∙ ap (cipher w k.rounds) c.to_be_bytes-block.ensures
    ∙ encrypted-stored k block c.self.invariant in
    ap (to_be_bytes w128) c.from_be_bytes.ensures ∙ to_be_bytes-block c.enciphered.result
    (subst IsBlock (sym value) (IsBlock-encrypted_block (key_bytes k) block c.self.invariant.key is_block))
    ∙ value ∙ ap (λ key. encrypted_block key block) c.self.view_is
