-- Texts of decrypted blocks are encrypted to what they come from.
use Rattle.std.proofs.Common.{◌≡◌, ℕ, zero, suc, ◌-◌, ◌*◌, ◌<◌, ◌≤◌, List, ◌++◌, length, take, drop, ap, sym, ◌∙◌, arith}
use Rattle.std.proofs.lemmas.List.{take_at}
use Rattle.fips_197.specs.Bytes.{AreBytes, IsBlock, xor_bytes}
use Rattle.fips_197.specs.KeyExpansion.{IsKey}
use Rattle.fips_197.specs.Encrypt.{encrypted_block}
use Rattle.fips_197.specs.Texts.{block_of}
use Rattle.fips_197.proofs.Blocks.{xor_bytes-twice, length-xor_bytes}
use Rattle.fips_197.proofs.KeySchedules.{IsBlock-encrypted_block}
use Rattle.aes_slices.specs.Decrypt.{decrypted_block}
use Rattle.aes_slices.proofs.Batches.{IsBlock-decrypted, encrypted-decrypted}
use Rattle.aes_slices.proofs.FilledBatches.{drop-both}
use Rattle.aes_modes.specs.Blocks.{first_blocks}
use Rattle.aes_modes.specs.Modes.{ecb_block, ecb_blocks, chained, cbc_block, cbc_blocks}
use Rattle.aes_modes.proofs.Texts.{length-first_blocks, block_of-first_blocks, first_blocks-alike, first_blocks-text}
use Rattle.aes_modes.proofs.Only.{IsBlock-block_of}

-- the blocks before those of a text
pub before-first : (iv text : List ℕ) → length iv ≡ 16 → block_of (iv ++ text) 0 ≡ iv
unfolding block_of
before-first iv text wide = take_at iv text 16 wide

pub before-next : (iv text : List ℕ) (i : ℕ) → length iv ≡ 16 → block_of (iv ++ text) (suc i) ≡ block_of text i
unfolding block_of
before-next iv text i wide =
    let more : 16 * suc i - length iv ≡ 16 * i = omega (arith, wide) in
    ap (take 16) (drop-both iv text (16 * suc i) (omega (arith, wide)) ∙ ap (λ k. drop k text) more)

module _ (key : List ℕ) (is_key : IsKey key) (text : List ℕ) (bytes : AreBytes text) (n : ℕ) (within : 16 * n ≤ length text) where
  block_is : (i : ℕ) → i < n → IsBlock (block_of text i)
  block_is i lt = IsBlock-block_of text i bytes (omega arith)

  -- how long blocks become that are encrypted
  pub ecb_blocks-size : length (ecb_blocks key text n) ≡ 16 * n
  unfolding ecb_block
  ecb_blocks-size = length-first_blocks (ecb_block key text) n
      (λ i lt. let h = IsBlock-encrypted_block key (block_of text i) is_key (block_is i lt) in h.size)

  abbrev D : ℕ → List ℕ
  D i = decrypted_block key (block_of text i)

  D-is : (i : ℕ) → i < n → IsBlock (D i)
  D-is i lt = IsBlock-decrypted key (block_of text i) is_key (block_is i lt)

  -- block i of n blocks of 16 bytes
  one_of : (f : ℕ → List ℕ) → ((i : ℕ) → i < n → length (f i) ≡ 16) → (i : ℕ) → i < n → block_of (first_blocks f n) i ≡ f i
  one_of f size i lt =
      block_of-first_blocks f n i (λ j below. size j (omega arith)) (λ j below. omega (arith, size j below)) lt

  D-size : (i : ℕ) → i < n → length (D i) ≡ 16
  D-size i lt = let h = D-is i lt in h.size

  pub ecb-size : length (first_blocks D n) ≡ 16 * n
  ecb-size = length-first_blocks D n D-size

  pub ecb-back : ecb_blocks key (first_blocks D n) n ≡ take (16 * n) text
  unfolding ecb_block
  ecb-back =
      first_blocks-alike (ecb_block key (first_blocks D n)) (block_of text) n
      (λ i lt. ap (encrypted_block key) (one_of D D-size i lt) ∙ encrypted-decrypted key (block_of text i) is_key (block_is i lt))
      ∙ first_blocks-text text n

  module _ (iv : List ℕ) (wide : length iv ≡ 16) where
    before : ℕ → List ℕ
    before i = block_of (iv ++ text) i

    before-wide : (i : ℕ) → i < n → length (before i) ≡ 16
    unfolding before
    before-wide zero lt = ap length (before-first iv text wide) ∙ wide
    before-wide (suc i) lt = ap length (before-next iv text i wide) ∙ (let h = block_is i (omega arith) in h.size)

    abbrev E : ℕ → List ℕ
    E i = xor_bytes (decrypted_block key (block_of text i)) (block_of (iv ++ text) i)

    same_size : (i : ℕ) → i < n → length (D i) ≡ length (block_of (iv ++ text) i)
    unfolding before
    same_size i lt = D-size i lt ∙ sym (before-wide i lt)

    E-size : (i : ℕ) → i < n → length (E i) ≡ 16
    E-size i lt = length-xor_bytes (D i) (block_of (iv ++ text) i) (same_size i lt) ∙ D-size i lt

    pub cbc-size : length (first_blocks E n) ≡ 16 * n
    cbc-size = length-first_blocks E n E-size

    -- each block is added to the one before of the cipher text
    pub cbc-chain : (i : ℕ) → i ≤ n → chained key iv (first_blocks E n) i ≡ block_of (iv ++ text) i
    unfolding chained
    cbc-chain zero le = sym (before-first iv text wide)
    cbc-chain (suc i) le =
        let lt : i < n = omega arith in
        (λ t. encrypted_block key (xor_bytes (one_of E E-size i lt t) (cbc-chain i (omega arith) t)))
        ∙ ap (encrypted_block key) (xor_bytes-twice (D i) (block_of (iv ++ text) i) (same_size i lt))
        ∙ encrypted-decrypted key (block_of text i) is_key (block_is i lt)
        ∙ sym (before-next iv text i wide)

    pub cbc-back : cbc_blocks key iv (first_blocks E n) n ≡ take (16 * n) text
    cbc-back =
        first_blocks-alike (cbc_block key iv (first_blocks E n)) (block_of text) n
        (λ i lt. cbc-chain (suc i) (omega arith) ∙ before-next iv text i wide)
        ∙ first_blocks-text text n
