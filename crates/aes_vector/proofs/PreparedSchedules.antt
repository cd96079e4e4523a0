-- Round keys of a schedule, and whatever stands after it.
use Rattle.std.proofs.Common.{◌≡◌, ℕ, ◌+◌, ◌-◌, ◌*◌, List, map, bit_xor, take, ap, subst, ◌∙◌, arith}
use Rattle.fips_197.specs.Bytes.{IsBlock}
use Rattle.fips_197.specs.InverseCipher.{inverse_mix_columns}
use Rattle.fips_197.proofs.ScheduleParts.{same_round_key}
use Rattle.aes_vector.specs.Halves.{basis, inverse_basis}
use Rattle.aes_vector.specs.Prepared.{ArePrepared, AreInversePrepared}

module _ (keys w s : List ℕ) (n : ℕ) (e : take (16 * (n + 1)) w ≡ s) where
  pub ArePrepared-front : ArePrepared keys n w → ArePrepared keys n s
  ArePrepared-front p = record {
    blocks = λ r le. subst IsBlock (same_round_key w s n r e le) (p.blocks r le);
    first = p.first ∙ ap (map basis) (same_round_key w s n 0 e (omega arith));
    middle = λ r low lt. p.middle r low lt
        ∙ ap (map (λ b. basis (bit_xor b 0x63))) (same_round_key w s n r e (omega arith));
    last = p.last ∙ ap (map (λ b. bit_xor b 0x63)) (same_round_key w s n n e (omega arith));
  }

  pub AreInversePrepared-front : AreInversePrepared keys n w → AreInversePrepared keys n s
  AreInversePrepared-front p = record {
    blocks = λ r le. subst IsBlock (same_round_key w s n r e le) (p.blocks r le);
    first = p.first ∙ ap (map inverse_basis) (same_round_key w s n n e (omega arith));
    middle = λ i low lt. p.middle i low lt
        ∙ ap (λ k. map inverse_basis (inverse_mix_columns k)) (same_round_key w s n (n - i) e (omega arith));
    last = p.last ∙ same_round_key w s n 0 e (omega arith);
  }
