use Rattle.std.proofs.Common.{◌≡◌, map, bit_xor, ap, sym, ◌∙◌, arith}
use Rattle.std.proofs.lemmas.Simd.{map-map}
use Rattle.fips_197.specs.Cipher.{round_key}
use Rattle.aes_vector.specs.Halves.{basis, plain}
use Rattle.aes_vector.proofs.StoredKeys.{map-undone, plain-basis, middle-undone, constant-undone}
use Rattle.aes_vector.proofs.prepared.plain_round_key.Goals as goal
use Rattle.aes_vector.proofs.prepared.plain_round_key.Goals.{then-r-eq0, else-r-eq0, then-r-rounds, else-r-rounds}

pub returns : goal.returns
returns c w p =
    let ks = c.args.keys.now in
    let r = c.args.r in
    let key = round_key w r in
    let bytes = (p.blocks r c.requires.within).bytes in
    let stored = c.round_key-key.ensures in
    elim c.if-r-eq0.branch [
      | then-r-eq0 v ↦
          let first = ap (round_key ks) v.if-r-eq0.true ∙ p.first ∙ ap (λ n. map basis (round_key w n)) (sym v.if-r-eq0.true) in
          v.result-is ∙ v.in_tables.ensures ∙ ap (map plain) (stored ∙ first) ∙ map-undone plain basis plain-basis key bytes
      | else-r-eq0 v ↦ v.result-is ∙ elim v.if-r-rounds.branch [
        | then-r-rounds u ↦
            let middle = p.middle r (omega (arith, v.if-r-eq0.false)) u.if-r-rounds.true in
            u.result-is ∙ u.with_constant.ensures ∙ ap (map (λ b. bit_xor b 0x63)) u.in_tables-then-r-rounds.ensures
            ∙ map-map (λ b. bit_xor b 0x63) plain c.round_key-key.result
            ∙ ap (map (λ b. bit_xor (plain b) 0x63)) (stored ∙ middle)
            ∙ map-undone (λ b. bit_xor (plain b) 0x63) (λ b. basis (bit_xor b 0x63)) middle-undone key bytes
        | else-r-rounds u ↦
            let end : r ≡ c.args.rounds = omega (arith, u.if-r-rounds.false, c.requires.within) in
            let last = ap (round_key ks) end ∙ p.last ∙ ap (λ n. map (λ b. bit_xor b 0x63) (round_key w n)) (sym end) in
            u.result-is ∙ u.with_constant-else-r-rounds.ensures ∙ ap (map (λ b. bit_xor b 0x63)) (stored ∙ last)
            ∙ map-undone (λ b. bit_xor b 0x63) (λ b. bit_xor b 0x63) constant-undone key bytes
      ]
    ]
