-- Eight blocks one after another.
use Rattle.std.proofs.Common.{◌≡◌, ℕ, ◌<◌, ◌≤◌, List, length, ap, refl, sym, ◌∙◌, arith}
use Rattle.fips_197.specs.Bytes.{AreBytes, IsBlock}
use Rattle.fips_197.specs.Cipher.{round_key, cipher}
use Rattle.fips_197.specs.KeyExpansion.{IsKey, key_expansion, round_count}
use Rattle.fips_197.specs.InverseCipher.{inverse_cipher}
use Rattle.fips_197.specs.Encrypt.{encrypted_block}
use Rattle.fips_197.specs.Texts.{block_of}
use Rattle.fips_197.proofs.KeySchedules.{round_count-bounds, IsBlock-round_key}
use Rattle.fips_197.proofs.Inverses.{cipher-inverse_cipher, inverse_cipher-cipher, IsBlock-inverse_cipher}
use Rattle.aes_vector.proofs.StoredRoundKeys.{IsBlock-part}
use Rattle.aes_planes.specs.declared.planes.Eight.{Eight}
use Rattle.aes_slices.specs.Decrypt.{decrypted_block}
use Rattle.aes_planes.specs.Planes.{vector_of}
use Rattle.aes_slices.specs.Slices.{eight_at}
use Rattle.aes_planes.proofs.Bits.{each_of_eight}

pub block_in : (text : List ℕ) (s : Eight) → s ≡ eight_at text 0 → (i : ℕ) → i < 8 → vector_of s i ≡ block_of text i
unfolding vector_of eight_at
block_in text s e = each_of_eight (λ i. vector_of s i ≡ block_of text i)
    (λ t. (e t).v0) (λ t. (e t).v1) (λ t. (e t).v2) (λ t. (e t).v3) (λ t. (e t).v4) (λ t. (e t).v5) (λ t. (e t).v6) (λ t. (e t).v7)

pub IsBlock-in : (text : List ℕ) → length text ≡ 128 → AreBytes text → (i : ℕ) → i < 8 → IsBlock (block_of text i)
unfolding block_of round_key
IsBlock-in text size bytes i lt = IsBlock-part text i bytes (omega (arith, size, lt))

-- the cipher in the rounds of a key
pub encrypted_in : (key x : List ℕ) (n : ℕ) → n ≡ round_count key → cipher (key_expansion key) n x ≡ encrypted_block key x
unfolding encrypted_block
encrypted_in key x n e = ap (λ m. cipher (key_expansion key) m x) e

module _ (key : List ℕ) (n : ℕ) (e : n ≡ round_count key) (is : IsKey key) where
  blocks : (r : ℕ) → r ≤ n → IsBlock (round_key (key_expansion key) r)
  blocks r le = IsBlock-round_key key r is (omega (arith, e))

  some : 1 ≤ n
  some = omega (arith, e, round_count-bounds key is.size)

  pub encrypted-back : (x : List ℕ) → IsBlock x → encrypted_block key (inverse_cipher (key_expansion key) n x) ≡ x
  encrypted-back x block =
      sym (encrypted_in key (inverse_cipher (key_expansion key) n x) n e) ∙ cipher-inverse_cipher (key_expansion key) n blocks some x block

  pub back-encrypted : (x y : List ℕ) → IsBlock x → encrypted_block key x ≡ y → x ≡ inverse_cipher (key_expansion key) n y
  back-encrypted x y block led =
      sym (inverse_cipher-cipher (key_expansion key) n blocks some x block)
      ∙ ap (inverse_cipher (key_expansion key) n) (encrypted_in key x n e ∙ led)

-- what is decrypted is the one block that leads back
pub IsBlock-decrypted : (key x : List ℕ) → IsKey key → IsBlock x → IsBlock (decrypted_block key x)
unfolding decrypted_block
IsBlock-decrypted key x is block =
    IsBlock-inverse_cipher (key_expansion key) (round_count key) (λ r le. IsBlock-round_key key r is le)
    (omega (arith, round_count-bounds key is.size)) x block

pub encrypted-decrypted : (key x : List ℕ) → IsKey key → IsBlock x → encrypted_block key (decrypted_block key x) ≡ x
unfolding decrypted_block
encrypted-decrypted key x is block = encrypted-back key (round_count key) refl is x block

pub decrypted-only : (key x d : List ℕ) → IsKey key → IsBlock x
    → ((y : List ℕ) → IsBlock y → encrypted_block key y ≡ x → y ≡ d) → d ≡ decrypted_block key x
decrypted-only key x d is block only =
    sym (only (decrypted_block key x) (IsBlock-decrypted key x is block) (encrypted-decrypted key x is block))
