use Rattle.std.proofs.Common.{ap, sym, subst, ◌∙◌, arith}
use Rattle.fips_197.specs.Cipher.{cipher}
use Rattle.fips_197.specs.KeyExpansion.{key_expansion}
use Rattle.fips_197.specs.Encrypt.{encrypted_block}
use Rattle.fips_197.specs.Texts.{block_of}
use Rattle.fips_197.proofs.KeySchedules.{round_count-bounds}
use Rattle.aes_slices.specs.Keys.{ArePlanes}
use Rattle.aes_slices.proofs.Batches.{block_in, encrypted_in}
use Rattle.aes_slices.proofs.SlicedKey.encipher.Goals as goal

pub encrypted-requires-clause-low : goal.encrypted-requires-clause-low
encrypted-requires-clause-low c = omega (arith, c.rounds.ensures.value, round_count-bounds _ c.rounds.ensures.key.size)

pub encrypted-requires-clause-high : goal.encrypted-requires-clause-high
encrypted-requires-clause-high c = omega (arith, c.rounds.ensures.value, round_count-bounds _ c.rounds.ensures.key.size)

pub returns : goal.returns
returns c i lt =
    let key = c.self.inside.key in
    let n = c.rounds.result in
    let block = block_of c.args.batch.now i in
    let planes = subst (λ n. ArePlanes c.self.inside.planes n (key_expansion key)) (sym c.rounds.ensures.value) c.self.invariant.planes in
    sym (block_in c.bytes_of.result _ (sym c.bytes_of.ensures) i lt)
    ∙ c.encrypted.ensures (key_expansion key) planes i lt
    ∙ ap (cipher (key_expansion key) n) (block_in c.args.batch.now _ c.eight_at.ensures i lt)
    ∙ encrypted_in key block n c.rounds.ensures.value
    ∙ ap (λ k. encrypted_block k block) c.self.view_is
