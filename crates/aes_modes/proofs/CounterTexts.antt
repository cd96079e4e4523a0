-- CTR by its blocks, and twice.
use Rattle.std.proofs.Common.{◌≡◌, ℕ, suc, ◌+◌, ◌-◌, ◌*◌, ◌/◌, ◌%◌, ◌<◌, ◌≤◌, List, [], ◌∷◌, ◌++◌, length, take, drop, replicate, bit_xor, ap, refl, sym, ◌∙◌, arith}
use Rattle.std.specs.Int.Bits.{xor_assoc, xor_zero_r, xor_self}
use Rattle.std.proofs.lemmas.List.{take_all, length-take}
use Rattle.fips_197.specs.Bytes.{IsBlock, xor_bytes}
use Rattle.fips_197.specs.KeyExpansion.{IsKey}
use Rattle.fips_197.proofs.KeySchedules.{IsBlock-encrypted_block}
use Rattle.fips_197.specs.Texts.{block_of}
use Rattle.aes_modes.specs.Blocks.{first_blocks, blocks_begun}
use Rattle.aes_modes.specs.Counter.{counter_block}
use Rattle.aes_modes.specs.Modes.{output_block, ctr_block, ctr_blocks, ctr_encrypted}
use Rattle.fips_197.proofs.TextBlocks.{AreBytes-bytes_high_first}
use Rattle.aes_modes.proofs.Texts.{length-block_of, first_blocks-more, first_blocks-alike, first_blocks-text, block_of-first_blocks, length-first_blocks-alike, block_of-append}

-- ---- a sum with as many bytes of a longer list

pub length-xor_short : (s t : List ℕ) → length s ≤ length t → length (xor_bytes s t) ≡ length s
unfolding xor_bytes
length-xor_short [] t le = refl
length-xor_short (x ∷ s) [] le = absurd (omega arith)
length-xor_short (x ∷ s) (y ∷ t) le = ap suc (length-xor_short s t (omega arith))

pub xor_short-twice : (s t : List ℕ) → length s ≤ length t → xor_bytes (xor_bytes s t) t ≡ s
unfolding xor_bytes
xor_short-twice [] t le = refl
xor_short-twice (x ∷ s) [] le = absurd (omega arith)
xor_short-twice (x ∷ s) (y ∷ t) le =
    let one : bit_xor (bit_xor x y) y ≡ x = xor_assoc x y y ∙ ap (bit_xor x) (xor_self y) ∙ xor_zero_r x in
    λ i. one i ∷ xor_short-twice s t (omega arith) i

-- the first bytes of the sum of a longer list are the sum
pub take-xor_more : (s more t : List ℕ) → length s ≤ length t → take (length s) (xor_bytes (s ++ more) t) ≡ xor_bytes s t
unfolding xor_bytes
take-xor_more [] more t le = refl
take-xor_more (x ∷ s) more [] le = absurd (omega arith)
take-xor_more (x ∷ s) more (y ∷ t) le = ap (λ l. bit_xor x y ∷ l) (take-xor_more s more t (omega arith))

-- ---- blocks

IsBlock-counter_block : (m : ℕ) (start : List ℕ) (i : ℕ) → IsBlock (counter_block m start i)
unfolding counter_block
IsBlock-counter_block m start i = record { size = refl; bytes = AreBytes-bytes_high_first 16 _ }

pub IsBlock-output_block : (key : List ℕ) (m : ℕ) (start : List ℕ) (i : ℕ) → IsKey key → IsBlock (output_block key m start i)
unfolding output_block
IsBlock-output_block key m start i is_key =
    IsBlock-encrypted_block key (counter_block m start i) is_key (IsBlock-counter_block m start i)

pub length-block_of-le : (text : List ℕ) (i : ℕ) → length (block_of text i) ≤ 16
unfolding block_of
length-block_of-le text i = omega (arith, length-take 16 (drop (16 * i) text))

module _ (key : List ℕ) (m : ℕ) (start : List ℕ) where
  pub ctr_blocks-more : (text out output : List ℕ) (i : ℕ) → out ≡ ctr_blocks key m start text i → output ≡ output_block key m start i
      → out ++ xor_bytes (block_of text i) output ≡ ctr_blocks key m start text (i + 1)
  unfolding ctr_block
  ctr_blocks-more text out output i before is =
      (λ t. before t ++ xor_bytes (block_of text i) (is t))
      ∙ sym (first_blocks-more (λ j. xor_bytes (block_of text j) (output_block key m start j)) i)

  -- a whole block is encrypted alike whatever follows it
  pub ctr_block-append : (xs ys : List ℕ) (i : ℕ) → 16 * i + 16 ≤ length xs
      → ctr_block key m start (xs ++ ys) i ≡ ctr_block key m start xs i
  unfolding ctr_block
  ctr_block-append xs ys i le = ap (λ b. xor_bytes b (output_block key m start i)) (block_of-append xs ys i le)

  -- the last block, which is shorter
  pub ctr_encrypted-last : (text out rest output last : List ℕ) → out ≡ ctr_blocks key m start text (length text / 16)
      → rest ≡ block_of text (length text / 16) → length rest ≡ length text % 16 → 0 < length rest
      → output ≡ output_block key m start (length text / 16) → length output ≡ 16
      → last ≡ xor_bytes (rest ++ replicate (16 - length rest) 0) output
      → out ++ take (length rest) last ≡ ctr_encrypted key m start text
  ctr_encrypted-last text out rest output last before rest_is size some output_is whole last_is =
      let n : ℕ = length text / 16 in
      let count : n + 1 ≡ blocks_begun text = omega arith in
      ap (λ l. out ++ take (length rest) l) last_is
      ∙ ap (λ l. out ++ l) (take-xor_more rest (replicate (16 - length rest) 0) output (omega arith)
      ∙ ap (λ l. xor_bytes l output) rest_is)
      ∙ ctr_blocks-more text out output n before output_is
      ∙ ap (ctr_blocks key m start text) count

  pub ctr_encrypted-whole : (text : List ℕ) → length text % 16 ≡ 0
      → ctr_blocks key m start text (length text / 16) ≡ ctr_encrypted key m start text
  ctr_encrypted-whole text whole =
      let count : length text / 16 ≡ blocks_begun text = omega arith in ap (ctr_blocks key m start text) count

  -- each of whose output blocks is a block
  module _ (blocks : (i : ℕ) → IsBlock (output_block key m start i)) where
    length-ctr_block : (text : List ℕ) (i : ℕ) → length (ctr_block key m start text i) ≡ length (block_of text i)
    unfolding ctr_block
    length-ctr_block text i =
        let o = blocks i in
        length-xor_short (block_of text i) (output_block key m start i) (omega (arith, length-block_of-le text i, o.size))

    block_of-ctr : (text : List ℕ) (i : ℕ) → i < blocks_begun text
        → block_of (ctr_encrypted key m start text) i ≡ ctr_block key m start text i
    block_of-ctr text i lt =
        block_of-first_blocks (ctr_block key m start text) (blocks_begun text) i
        (λ j below. length-ctr_block text j ∙ length-block_of text j (omega arith))
        (λ j below. omega (arith, length-ctr_block text j, length-block_of-le text j)) lt

    pub length-ctr_encrypted : (text : List ℕ) → length (ctr_encrypted key m start text) ≡ length text
    length-ctr_encrypted text =
        length-first_blocks-alike (ctr_block key m start text) (block_of text) (blocks_begun text) (λ i lt. length-ctr_block text i)
        ∙ ap length (first_blocks-text text (blocks_begun text) ∙ take_all (16 * blocks_begun text) text (omega arith))

    -- CTR twice is the text again
    ctr_block-twice : (text : List ℕ) (i : ℕ) → i < blocks_begun text
        → ctr_block key m start (ctr_encrypted key m start text) i ≡ block_of text i
    unfolding ctr_block
    ctr_block-twice text i lt =
        let o = blocks i in
        ap (λ b. xor_bytes b (output_block key m start i)) (block_of-ctr text i lt)
        ∙ xor_short-twice (block_of text i) (output_block key m start i) (omega (arith, length-block_of-le text i, o.size))

    pub ctr_encrypted-twice : (text : List ℕ) → ctr_encrypted key m start (ctr_encrypted key m start text) ≡ text
    ctr_encrypted-twice text =
        let out : List ℕ = ctr_encrypted key m start text in
        let count : blocks_begun out ≡ blocks_begun text = ap (λ l. (l + 15) / 16) (length-ctr_encrypted text) in
        ap (first_blocks (ctr_block key m start out)) count
        ∙ first_blocks-alike (ctr_block key m start out) (block_of text) (blocks_begun text) (ctr_block-twice text)
        ∙ first_blocks-text text (blocks_begun text) ∙ take_all (16 * blocks_begun text) text (omega arith)
