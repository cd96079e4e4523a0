use Rattle.std.proofs.Common.{arith, ◌∙◌, ap, sym, subst}
use Rattle.fips_197.specs.Bytes.{IsBlock}
use Rattle.fips_197.specs.Cipher.{cipher}
use Rattle.fips_197.specs.Encrypt.{encrypted_block}
use Rattle.aes_block.specs.Words.{words_bytes}
use Rattle.aes_block.proofs.RoundWords.{IsBlock-state_bytes}
use Rattle.aes_block.proofs.StoredKeys.{rounds-bounds, encrypted-stored}
use Rattle.aes_block.proofs.Key.encipher.Goals as goal

pub encrypt-requires-clause-low : goal.encrypt-requires-clause-low
encrypt-requires-clause-low c = omega (arith, rounds-bounds c.self.inside c.self.invariant)

pub encrypt-requires-clause-high : goal.encrypt-requires-clause-high
encrypt-requires-clause-high c = omega (arith, rounds-bounds c.self.inside c.self.invariant)

pub returns-clause-value : goal.returns-clause-value
returns-clause-value c =
    c.to_block.ensures ∙ c.encrypt.ensures
    ∙ ap (cipher (words_bytes c.self.inside.schedule) c.self.inside.rounds) c.from_block.ensures
    ∙ encrypted-stored c.self.inside c.args.block c.self.invariant
    ∙ ap (λ k. encrypted_block k c.args.block) c.self.view_is

pub returns-clause-blocks : goal.returns-clause-blocks
returns-clause-blocks c = (
  subst IsBlock c.from_block.ensures (IsBlock-state_bytes c.from_block.result),
  subst IsBlock (sym c.to_block.ensures) (IsBlock-state_bytes c.encrypt.result),
)
