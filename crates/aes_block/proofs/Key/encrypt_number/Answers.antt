use Rattle.std.proofs.Common.{arith, ◌∙◌, ap}
use Rattle.std.specs.Int.{w128, to_be_bytes}
use Rattle.fips_197.specs.Cipher.{cipher}
use Rattle.fips_197.specs.Encrypt.{encrypted_block}
use Rattle.aes_block.specs.Words.{words_bytes}
use Rattle.aes_block.proofs.StoredKeys.{rounds-bounds, encrypted-stored}
use Rattle.aes_block.proofs.Key.encrypt_number.Goals as goal

pub encrypt-requires-clause-low : goal.encrypt-requires-clause-low
encrypt-requires-clause-low c = omega (arith, rounds-bounds c.self.inside c.self.invariant)

pub encrypt-requires-clause-high : goal.encrypt-requires-clause-high
encrypt-requires-clause-high c = omega (arith, rounds-bounds c.self.inside c.self.invariant)

pub returns : goal.returns
returns c =
    let block = to_be_bytes w128 c.args.number in
    c.to_number.ensures ∙ c.encrypt.ensures
    ∙ ap (cipher (words_bytes c.self.inside.schedule) c.self.inside.rounds) c.from_number.ensures
    ∙ encrypted-stored c.self.inside block c.self.invariant
    ∙ ap (λ k. encrypted_block k block) c.self.view_is
