-- What the blocks of a text are decrypted to.
use Rattle.std.proofs.Common.{◌≡◌, ℕ, ◌*◌, ◌≤◌, List, ◌++◌, length, take, ap, ◌∙◌, arith}
use Rattle.fips_197.specs.Bytes.{AreBytes, xor_bytes}
use Rattle.fips_197.specs.KeyExpansion.{IsKey}
use Rattle.fips_197.specs.Texts.{block_of}
use Rattle.aes_slices.specs.Decrypt.{decrypted_block}
use Rattle.aes_modes.specs.Blocks.{first_blocks}
use Rattle.aes_modes.specs.Modes.{ecb_blocks, chained, cbc_blocks}
use Rattle.aes_modes.proofs.DecryptedTexts.{ecb-size, ecb-back, cbc-size, cbc-back, cbc-chain}

-- Bytes that the first n blocks of a text are decrypted to in ECB.
pub record IsEcbPlain (key text out : List ℕ) (n : ℕ) : Type 0 where
  pub size : length out ≡ 16 * n
  pub back : ecb_blocks key out n ≡ take (16 * n) text

pub ecb_plain : (key text out : List ℕ) (n : ℕ) → IsKey key → AreBytes text → 16 * n ≤ length text
    → out ≡ first_blocks (λ i. decrypted_block key (block_of text i)) n → IsEcbPlain key text out n
ecb_plain key text out n is_key bytes within is = record {
  size = ap length is ∙ ecb-size key is_key text bytes n within;
  back = ap (λ o. ecb_blocks key o n) is ∙ ecb-back key is_key text bytes n within;
}

-- Bytes that the first n blocks of a text are decrypted to in CBC.
pub record IsCbcPlain (key iv text out : List ℕ) (n : ℕ) : Type 0 where
  pub size : length out ≡ 16 * n
  pub back : cbc_blocks key iv out n ≡ take (16 * n) text
  pub chain : chained key iv out n ≡ block_of (iv ++ text) n

pub cbc_plain : (key iv text out : List ℕ) (n : ℕ) → IsKey key → length iv ≡ 16 → AreBytes text → 16 * n ≤ length text
    → out ≡ first_blocks (λ i. xor_bytes (decrypted_block key (block_of text i)) (block_of (iv ++ text) i)) n
    → IsCbcPlain key iv text out n
cbc_plain key iv text out n is_key wide bytes within is = record {
  size = ap length is ∙ cbc-size key is_key text bytes n within iv wide;
  back = ap (λ o. cbc_blocks key iv o n) is ∙ cbc-back key is_key text bytes n within iv wide;
  chain = ap (λ o. chained key iv o n) is ∙ cbc-chain key is_key text bytes n within iv wide n (omega arith);
}
