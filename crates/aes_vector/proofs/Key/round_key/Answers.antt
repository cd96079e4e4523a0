use Rattle.std.proofs.Common.{◌≡◌, ap, subst, sym, ◌∙◌, arith}
use Rattle.fips_197.specs.Bytes.{IsBlock}
use Rattle.fips_197.specs.Cipher.{round_key}
use Rattle.fips_197.specs.KeyExpansion.{IsKey, key_expansion, round_count}
use Rattle.fips_197.proofs.KeySchedules.{IsBlock-round_key}
use Rattle.aes_vector.specs.StoredKey.{key_bytes}
use Rattle.aes_vector.proofs.StoredKeys.{rounds-bounds}
use Rattle.aes_vector.proofs.Key.round_key.Goals as goal

pub plain_round_key-requires-clause-low : goal.plain_round_key-requires-clause-low
plain_round_key-requires-clause-low c = omega (arith, rounds-bounds c.self.inside c.self.invariant)

pub plain_round_key-requires-clause-high : goal.plain_round_key-requires-clause-high
plain_round_key-requires-clause-high c = omega (arith, rounds-bounds c.self.inside c.self.invariant)

pub returns-clause-value : goal.returns-clause-value
returns-clause-value c =
    c.plain_round_key.ensures (key_expansion (key_bytes c.self.inside)) c.self.invariant.keys
    ∙ ap (λ key. round_key (key_expansion key) c.args.r) c.self.view_is

pub returns-clause-block : goal.returns-clause-block
returns-clause-block c =
    let key = subst IsKey c.self.view_is c.self.invariant.key in
    subst IsBlock (sym (returns-clause-value c)) (IsBlock-round_key _ c.args.r key c.requires)
