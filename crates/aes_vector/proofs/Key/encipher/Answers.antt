use Rattle.std.proofs.Common.{arith, ◌∙◌, ap, sym, subst}
use Rattle.fips_197.specs.Bytes.{IsBlock}
use Rattle.fips_197.specs.KeyExpansion.{IsKey, key_expansion}
use Rattle.fips_197.specs.Encrypt.{encrypted_block}
use Rattle.fips_197.proofs.KeySchedules.{IsBlock-encrypted_block}
use Rattle.aes_vector.specs.StoredKey.{key_bytes}
use Rattle.aes_vector.proofs.StoredKeys.{rounds-bounds, encrypted-stored}
use Rattle.aes_vector.proofs.Key.encipher.Goals as goal

pub enciphered-requires-clause-low : goal.enciphered-requires-clause-low
enciphered-requires-clause-low c = omega (arith, rounds-bounds c.self.inside c.self.invariant)

pub enciphered-requires-clause-high : goal.enciphered-requires-clause-high
enciphered-requires-clause-high c = omega (arith, rounds-bounds c.self.inside c.self.invariant)

pub returns-clause-value : goal.returns-clause-value
returns-clause-value c =
    let k = c.self.inside in
    let block = c.args.block in
    c.enciphered.ensures (key_expansion (key_bytes k)) c.self.invariant.keys
    ∙ encrypted-stored k block c.self.invariant ∙ ap (λ key. encrypted_block key block) c.self.view_is

pub returns-clause-blocks : goal.returns-clause-blocks
returns-clause-blocks c =
    let block : IsBlock c.args.block = record { size = omega arith; bytes = c.are_bytes.ensures } in
    let key = subst IsKey c.self.view_is c.self.invariant.key in
    (block, subst IsBlock (sym (returns-clause-value c)) (IsBlock-encrypted_block _ c.args.block key block))
