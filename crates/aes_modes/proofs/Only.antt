-- No two texts are encrypted to one.
use Rattle.std.proofs.Common.{◌≡◌, ℕ, zero, suc, ◌+◌, ◌*◌, ◌/◌, ◌<◌, ◌≤◌, List, length, drop, ap, refl, sym, ◌∙◌, arith}
use Rattle.std.proofs.lemmas.List.{take_all}
use Rattle.std.proofs.lemmas.List.Elements.{All-take, All-drop}
use Rattle.fips_197.specs.Bytes.{AreBytes, IsBlock, xor_bytes}
use Rattle.fips_197.specs.Cipher.{round_key}
use Rattle.fips_197.specs.InverseCipher.{inverse_cipher}
use Rattle.fips_197.specs.KeyExpansion.{IsKey, key_expansion, round_count}
use Rattle.fips_197.specs.Encrypt.{encrypted_block}
use Rattle.fips_197.proofs.Blocks.{xor_bytes-twice, IsBlock-xor_bytes}
use Rattle.fips_197.proofs.KeySchedules.{round_count-bounds, IsBlock-round_key, IsBlock-encrypted_block}
use Rattle.fips_197.proofs.Inverses.{inverse_cipher-cipher}
use Rattle.fips_197.specs.Texts.{block_of}
use Rattle.aes_modes.specs.Blocks.{first_blocks, IsWhole}
use Rattle.aes_modes.specs.Modes.{ecb_block, ecb_encrypted, chained, cbc_block, cbc_encrypted, cbc_pad_encrypted}
use Rattle.aes_modes.specs.Padding.{padded}
use Rattle.aes_modes.proofs.Paddings.{AreBytes-padded, IsWhole-padded, length-padded-blocks, padded-only}
use Rattle.aes_modes.proofs.Texts.{length-block_of, length-first_blocks, block_of-first_blocks, first_blocks-alike, first_blocks-text}

pub IsBlock-block_of : (text : List ℕ) (i : ℕ) → AreBytes text → 16 * i + 16 ≤ length text → IsBlock (block_of text i)
unfolding block_of
IsBlock-block_of text i bytes le = record {
  size = length-block_of text i le;
  bytes = All-take (λ b. b < 256) 16 (drop (16 * i) text) (All-drop (λ b. b < 256) (16 * i) text bytes);
}

module _ (key : List ℕ) (is_key : IsKey key) where
  -- two blocks that are encrypted to one are one
  pub encrypted_block-only : (x y : List ℕ) → IsBlock x → IsBlock y → encrypted_block key x ≡ encrypted_block key y → x ≡ y
  unfolding encrypted_block
  encrypted_block-only x y hx hy same =
      let w : List ℕ = key_expansion key in
      let n : ℕ = round_count key in
      let keys : (r : ℕ) → r ≤ n → IsBlock (round_key w r) = λ r le. IsBlock-round_key key r is_key le in
      let some : 1 ≤ n = omega (arith, round_count-bounds key is_key.size) in
      sym (inverse_cipher-cipher w n keys some x hx) ∙ ap (inverse_cipher w n) same ∙ inverse_cipher-cipher w n keys some y hy

  -- texts of as many blocks, whose blocks are alike
  same_texts : (x y : List ℕ) → IsWhole x → IsWhole y → length x / 16 ≡ length y / 16
      → ((i : ℕ) → i < length x / 16 → block_of x i ≡ block_of y i) → x ≡ y
  same_texts x y wx wy same each =
      let n : ℕ = length x / 16 in
      sym (take_all (16 * n) x (omega arith)) ∙ sym (first_blocks-text x n)
      ∙ first_blocks-alike (block_of x) (block_of y) n each
      ∙ first_blocks-text y n ∙ take_all (16 * n) y (omega arith)

  length-ecb_block : (x : List ℕ) (i : ℕ) → AreBytes x → i < length x / 16 → length (ecb_block key x i) ≡ 16
  unfolding ecb_block
  length-ecb_block x i bytes lt =
      let block = IsBlock-encrypted_block key (block_of x i) is_key (IsBlock-block_of x i bytes (omega arith)) in
      block.size

  -- blocks of 16 bytes, n of them and m of them, that are one text
  same_blocks : (f g : ℕ → List ℕ) (n m : ℕ) → ((i : ℕ) → i < n → length (f i) ≡ 16) → ((i : ℕ) → i < m → length (g i) ≡ 16)
      → first_blocks f n ≡ first_blocks g m → (n ≡ m) × ((i : ℕ) → i < n → f i ≡ g i)
  same_blocks f g n m hf hg same =
      let count : n ≡ m = omega (arith, length-first_blocks f n hf, length-first_blocks g m hg, ap length same) in (
        count,
        λ i lt. sym (block_of-first_blocks f n i (λ j below. hf j (omega arith)) (λ j below. omega (arith, hf j below)) lt)
            ∙ ap (λ xs. block_of xs i) same
            ∙ block_of-first_blocks g m i (λ j below. hg j (omega arith)) (λ j below. omega (arith, hg j below)) (omega arith),
      )

  pub ecb_encrypted-only : (x y : List ℕ) → AreBytes x → AreBytes y → IsWhole x → IsWhole y
      → ecb_encrypted key x ≡ ecb_encrypted key y → x ≡ y
  unfolding ecb_block
  ecb_encrypted-only x y bx by wx wy same =
      let each = same_blocks (ecb_block key x) (ecb_block key y) (length x / 16) (length y / 16)
      (λ i lt. length-ecb_block x i bx lt) (λ i lt. length-ecb_block y i by lt) same in
      same_texts x y wx wy each.0
      (λ i lt. encrypted_block-only (block_of x i) (block_of y i)
      (IsBlock-block_of x i bx (omega arith)) (IsBlock-block_of y i by (omega (arith, each.0))) (each.1 i lt))

  pub IsBlock-chained : (iv x : List ℕ) (n : ℕ) → IsBlock iv → AreBytes x → 16 * n ≤ length x → IsBlock (chained key iv x n)
  unfolding chained
  IsBlock-chained iv x zero hi bytes le = hi
  IsBlock-chained iv x (suc n) hi bytes le =
      IsBlock-encrypted_block key (xor_bytes (block_of x n) (chained key iv x n)) is_key
      (IsBlock-xor_bytes (block_of x n) (chained key iv x n) (IsBlock-block_of x n bytes (omega arith))
      (IsBlock-chained iv x n hi bytes (omega arith)))

  -- sums of a block and one block before that are encrypted to one
  same_sums : (x a y b : List ℕ) → IsBlock x → IsBlock a → IsBlock y → IsBlock b → a ≡ b
      → encrypted_block key (xor_bytes x a) ≡ encrypted_block key (xor_bytes y b) → x ≡ y
  same_sums x a y b hx ha hy hb before same =
      let sums = encrypted_block-only (xor_bytes x a) (xor_bytes y b) (IsBlock-xor_bytes x a hx ha) (IsBlock-xor_bytes y b hy hb) same in
      sym (xor_bytes-twice x a (hx.size ∙ sym ha.size)) ∙ (λ t. xor_bytes (sums t) (before t)) ∙ xor_bytes-twice y b (hy.size ∙ sym hb.size)

  each_step : (iv x y : List ℕ) (i : ℕ) → chained key iv x (suc i) ≡ chained key iv y (suc i)
      → encrypted_block key (xor_bytes (block_of x i) (chained key iv x i))
      ≡ encrypted_block key (xor_bytes (block_of y i) (chained key iv y i))
  unfolding chained
  each_step iv x y i same = same

  chained-alike : (iv x y : List ℕ) (n i : ℕ) → ((j : ℕ) → j < n → chained key iv x (suc j) ≡ chained key iv y (suc j)) → i ≤ n
      → chained key iv x i ≡ chained key iv y i
  unfolding chained
  chained-alike iv x y n zero same le = refl
  chained-alike iv x y n (suc i) same le = same i (omega arith)

  pub cbc_encrypted-only : (iv x y : List ℕ) → IsBlock iv → AreBytes x → AreBytes y → IsWhole x → IsWhole y
      → cbc_encrypted key iv x ≡ cbc_encrypted key iv y → x ≡ y
  cbc_encrypted-only iv x y hi bx by wx wy same =
      let each = same_blocks (cbc_block key iv x) (cbc_block key iv y) (length x / 16) (length y / 16)
      (λ i lt. let h = IsBlock-chained iv x (suc i) hi bx (omega arith) in h.size)
      (λ i lt. let h = IsBlock-chained iv y (suc i) hi by (omega arith) in h.size) same in
      same_texts x y wx wy each.0 (λ i lt.
      let hx = IsBlock-block_of x i bx (omega arith) in
      let hy = IsBlock-block_of y i by (omega (arith, each.0)) in
      let cx = IsBlock-chained iv x i hi bx (omega arith) in
      let cy = IsBlock-chained iv y i hi by (omega (arith, each.0)) in
      let chains = chained-alike iv x y (length x / 16) i each.1 (omega arith) in
      same_sums (block_of x i) (chained key iv x i) (block_of y i) (chained key iv y i) hx cx hy cy chains
      (each_step iv x y i (each.1 i lt)))

  -- ---- lengths

  pub length-ecb_encrypted : (x : List ℕ) → AreBytes x → IsWhole x → length (ecb_encrypted key x) ≡ length x
  length-ecb_encrypted x bytes whole =
      length-first_blocks (ecb_block key x) (length x / 16) (λ i lt. length-ecb_block x i bytes lt) ∙ omega (arith, whole)

  pub length-cbc_encrypted : (iv x : List ℕ) → IsBlock iv → AreBytes x → IsWhole x → length (cbc_encrypted key iv x) ≡ length x
  length-cbc_encrypted iv x hi bytes whole =
      length-first_blocks (cbc_block key iv x) (length x / 16)
      (λ i lt. let h = IsBlock-chained iv x (suc i) hi bytes (omega arith) in h.size) ∙ omega (arith, whole)

  pub length-cbc_pad_encrypted : (iv x : List ℕ) → IsBlock iv → AreBytes x → length (cbc_pad_encrypted key iv x) ≡ 16 * (length x / 16 + 1)
  length-cbc_pad_encrypted iv x hi bytes =
      length-cbc_encrypted iv (padded x) hi (AreBytes-padded x bytes) (IsWhole-padded x) ∙ length-padded-blocks x

  pub cbc_pad_encrypted-only : (iv x y : List ℕ) → IsBlock iv → AreBytes x → AreBytes y
      → cbc_pad_encrypted key iv x ≡ cbc_pad_encrypted key iv y → x ≡ y
  cbc_pad_encrypted-only iv x y hi bx by same =
      padded-only x y
      (cbc_encrypted-only iv (padded x) (padded y) hi (AreBytes-padded x bx) (AreBytes-padded y by) (IsWhole-padded x)
      (IsWhole-padded y) same)
