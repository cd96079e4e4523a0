use Rattle.std.proofs.Common.{◌≡◌, ℕ, zero, suc, ◌<◌, List, [], ◌∷◌, length, map, replicate, ap, refl, ◌∙◌, arith}
use Rattle.std.specs.Int.Bits.{xor_zero_r}
use Rattle.std.proofs.lemmas.List.Elements.{All-nil}
use Rattle.fips_197.specs.Bytes.{AreBytes, IsBlock, xor_bytes}
use Rattle.fips_197.proofs.Blocks.{AreBytes-cons}
use Rattle.fips_197.specs.Cipher.{shift_rows, add_round_key}
use Rattle.fips_197.specs.InverseCipher.{inverse_mix_columns, inverse_round}
use Rattle.fips_197.specs.State.{state, byte_at}
use Rattle.fips_197.proofs.Steps.{shifted, unshifted, IsBlock-shifted, unshifted-shifted, IsBlock-inverse_mix_columns}
use Rattle.aes_vector.specs.Halves.{inverse_basis}
use Rattle.aes_vector.proofs.Rounds.{IsBlock-lanes}
use Rattle.aes_vector.proofs.prepared.inverse_mixed.Goals as goal

zeros_added : (s : List ℕ) (n : ℕ) → length s ≡ n → xor_bytes s (replicate n 0) ≡ s
unfolding xor_bytes
zeros_added [] n e = refl
zeros_added (x ∷ s) zero e = absurd (omega arith)
zeros_added (x ∷ s) (suc n) e = λ i. xor_zero_r x i ∷ zeros_added s n (omega arith) i

bytes_of_zeros : (n : ℕ) → AreBytes (replicate n 0)
bytes_of_zeros zero = All-nil (λ b. b < 256)
bytes_of_zeros (suc n) = AreBytes-cons 0 (replicate n 0) (omega arith) (bytes_of_zeros n)

-- a round under a key of zeros undoes the steps before MixColumns, and mixes
mixed_alone : (k : List ℕ) → IsBlock k → inverse_round (replicate 16 0) (shifted k) ≡ inverse_mix_columns k
unfolding inverse_round unshifted add_round_key
mixed_alone k block =
    let mixed = IsBlock-inverse_mix_columns k block in
    ap (λ l. xor_bytes (inverse_mix_columns l) (replicate 16 0)) (unshifted-shifted k block)
    ∙ zeros_added (inverse_mix_columns k) 16 mixed.size

pub returns : goal.returns
unfolding shifted shift_rows state byte_at
returns c =
    let key = c.args.key in
    let block = IsBlock-lanes key c.fits-key in
    let moved : c.shifted.result ≡ shifted key =
    c.shifted.ensures ∙ ap shift_rows c.substituted.ensures in
    c.inverse_round.ensures (shifted key) (replicate 16 0) (IsBlock-shifted key block) record { size = refl; bytes = bytes_of_zeros 16 }
    (c.in_inverse_basis-state.ensures ∙ ap (map inverse_basis) moved) c.in_inverse_basis.ensures
    ∙ ap (map inverse_basis) (mixed_alone key block)
