-- A stored key against the definition's.
use Rattle.std.proofs.Common.{◌≡◌, ℕ, ◌+◌, ◌-◌, ◌*◌, ◌/◌, ◌<◌, ◌≤◌, List, [], ◌∷◌, ◌++◌, length, map, take, bit_xor, ap, refl, sym, subst, ◌∙◌, arith}
use Rattle.std.specs.Int.Bits.{xor_assoc, xor_zero_r, xor_self}
use Rattle.std.proofs.lemmas.Nat.{xor_lt}
use Rattle.std.proofs.lemmas.List.{take-take}
use Rattle.std.proofs.lemmas.List.Elements.{All-head, All-tail}
use Rattle.fips_197.specs.Bytes.{AreBytes}
use Rattle.fips_197.specs.Cipher.{round_key, cipher}
use Rattle.fips_197.specs.KeyExpansion.{IsKeyLength, IsKey, word_count, round_count, key_expansion}
use Rattle.fips_197.specs.Encrypt.{encrypted_block}
use Rattle.fips_197.proofs.Checks.{same_below}
use Rattle.fips_197.proofs.KeySchedules.{round_count-bounds}
use Rattle.fips_197.proofs.ScheduleParts.{take-add, expanded_words-front}
use Rattle.aes_vector.specs.Halves.{basis, plain}
use Rattle.aes_vector.specs.Prepared.{ArePrepared, AreInversePrepared}
use Rattle.aes_vector.specs.StoredKey.{key_bytes, IsPrepared}
use Rattle.aes_vector.specs.declared.Key.TheInside.{Inside}
use Rattle.aes_vector.proofs.PreparedSchedules.{ArePrepared-front, AreInversePrepared-front}

-- ---- from the basis of the rounds back

pub plain-basis : (b : ℕ) → b < 256 → plain (basis b) ≡ b
plain-basis b lt = same_below (λ k. plain (basis k)) (λ k. k) 256 b refl lt

-- f undoes g at each byte
pub map-undone : (f g : ℕ → ℕ) → ((b : ℕ) → b < 256 → f (g b) ≡ b) → (s : List ℕ) → AreBytes s → map f (map g s) ≡ s
map-undone f g undoes [] bytes = refl
map-undone f g undoes (x ∷ s) bytes =
    let here = undoes x (All-head (λ b. b < 256) x s bytes) in
    λ i. here i ∷ map-undone f g undoes s (All-tail (λ b. b < 256) x s bytes) i

pub middle-undone : (b : ℕ) → b < 256 → bit_xor (plain (basis (bit_xor b 0x63))) 0x63 ≡ b
middle-undone b lt =
    ap (λ x. bit_xor x 99) (plain-basis (bit_xor b 99) (xor_lt 8 b 99 lt (omega arith)))
    ∙ xor_assoc b 99 99 ∙ ap (bit_xor b) (xor_self 99) ∙ xor_zero_r b

pub constant-undone : (b : ℕ) → b < 256 → bit_xor (bit_xor b 0x63) 0x63 ≡ b
constant-undone b lt = xor_assoc b 99 99 ∙ ap (bit_xor b) (xor_self 99) ∙ xor_zero_r b

-- ---- what a stored key is and does

pub rounds-bounds : (k : Inside) → IsPrepared k → (10 ≤ k.rounds) × (k.rounds ≤ 14)
rounds-bounds k h =
    let bounds = round_count-bounds (key_bytes k) h.key.size in
    (omega (arith, h.rounds, bounds), omega (arith, h.rounds, bounds))

pub size-stored : (k : Inside) → IsPrepared k → 4 * (k.rounds - 6) ≡ length (key_bytes k)
unfolding round_count word_count
size-stored k h = omega (arith, h.rounds, h.key.size)

pub encrypted-stored : (k : Inside) (b : List ℕ) → IsPrepared k → cipher (key_expansion (key_bytes k)) k.rounds b
    ≡ encrypted_block (key_bytes k) b
unfolding encrypted_block
encrypted-stored k b h = ap (λ n. cipher (key_expansion (key_bytes k)) n b) h.rounds

-- ---- a key that is made

-- the key is where a schedule begins
key-front : (key : List ℕ) → IsKeyLength (length key)
    → take (length key) (round_key (key_expansion key) 0 ++ round_key (key_expansion key) 1) ≡ key
unfolding round_key key_expansion round_count word_count
key-front key h =
    let m : ℕ = length key / 4 in
    let w = key_expansion key in
    ap (take (length key)) (sym (take-add w 16 16)) ∙ take-take (length key) 32 w (omega (arith, h))
    ∙ expanded_words-front key m (4 * (m + 6 + 1) - m)

pub key_bytes-made : (k : Inside) (key : List ℕ) → IsKeyLength (length key) → k.rounds ≡ length key / 4 + 6
    → ArePrepared k.keys k.rounds (key_expansion key) → key_bytes k ≡ key
unfolding key_bytes
key_bytes-made k key h rounds p =
    let w = key_expansion key in
    let size : 4 * (k.rounds - 6) ≡ length key = omega (arith, rounds, h) in
    let first = ap (map plain) p.first ∙ map-undone plain basis plain-basis (round_key w 0) (p.blocks 0 (omega arith)).bytes in
    let second = ap (map (λ b. bit_xor (plain b) 99)) (p.middle 1 (omega arith) (omega (arith, rounds, h)))
    ∙ map-undone (λ b. bit_xor (plain b) 99) (λ b. basis (bit_xor b 99)) middle-undone (round_key w 1)
    (p.blocks 1 (omega (arith, rounds, h))).bytes in
    (λ i. take (size i) (first i ++ second i)) ∙ key-front key h

rounds-made : (key : List ℕ) → length key / 4 + 6 ≡ round_count key
unfolding round_count word_count
rounds-made key = refl

-- the fields that a key of these bytes is made of
module _ (k : Inside) (key schedule : List ℕ) (is_key : IsKey key) (rounds : k.rounds ≡ length key / 4 + 6)
    (expanded : take (16 * (round_count key + 1)) schedule ≡ key_expansion key)
    (keys : ArePrepared k.keys k.rounds schedule) where
  front : take (16 * (k.rounds + 1)) schedule ≡ key_expansion key
  front = ap (λ n. take (16 * (n + 1)) schedule) (rounds ∙ rounds-made key) ∙ expanded

  pub key-made : key_bytes k ≡ key
  key-made = key_bytes-made k key is_key.size rounds (ArePrepared-front k.keys schedule (key_expansion key) k.rounds front keys)

  pub IsPrepared-made : AreInversePrepared k.inverse_keys k.rounds schedule → IsPrepared k
  IsPrepared-made inverse_keys =
      let back : key ≡ key_bytes k = sym key-made in
      record {
        key = subst IsKey back is_key;
        rounds = rounds ∙ rounds-made key ∙ ap round_count back;
        keys = subst (λ l. ArePrepared k.keys k.rounds (key_expansion l)) back
            (ArePrepared-front k.keys schedule (key_expansion key) k.rounds front keys);
        inverse_keys = subst (λ l. AreInversePrepared k.inverse_keys k.rounds (key_expansion l)) back
            (AreInversePrepared-front k.inverse_keys schedule (key_expansion key) k.rounds front inverse_keys);
      }
