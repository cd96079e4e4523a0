-- ECB and CBC, a block further.
use Rattle.std.proofs.Common.{◌≡◌, ℕ, zero, suc, ◌+◌, ◌*◌, ◌/◌, ◌≤◌, List, ◌++◌, length, take, drop, ap, refl, sym, ◌∙◌, arith, add-one}
use Rattle.std.proofs.lemmas.List.{take_all}
use Rattle.fips_197.specs.Bytes.{xor_bytes}
use Rattle.fips_197.specs.Encrypt.{encrypted_block}
use Rattle.fips_197.proofs.Blocks.{xor_bytes-twice}
use Rattle.fips_197.specs.Texts.{block_of}
use Rattle.aes_modes.specs.Blocks.{IsWhole}
use Rattle.aes_modes.specs.Modes.{ecb_block, ecb_blocks, ecb_encrypted, chained, cbc_block, cbc_blocks, cbc_encrypted}
use Rattle.aes_modes.proofs.Texts.{block_of-append, block_of-last, first_blocks-more, back-more, block_of-drop, first_blocks-add, first_blocks-alike}

module _ (key : List ℕ) where
  pub ecb_block-append : (xs ys : List ℕ) (i : ℕ) → 16 * i + 16 ≤ length xs → ecb_block key (xs ++ ys) i ≡ ecb_block key xs i
  unfolding ecb_block
  ecb_block-append xs ys i le = ap (encrypted_block key) (block_of-append xs ys i le)

  pub ecb_blocks-more : (text out block : List ℕ) (i : ℕ) → out ≡ ecb_blocks key text i → block ≡ encrypted_block key (block_of text i)
      → out ++ block ≡ ecb_blocks key text (i + 1)
  unfolding ecb_block
  ecb_blocks-more text out block i before last =
      (λ t. before t ++ last t) ∙ sym (first_blocks-more (λ j. encrypted_block key (block_of text j)) i)

  pub ecb_blocks-back : (text out p : List ℕ) (i : ℕ) → length out ≡ 16 * i → length p ≡ 16
      → ecb_blocks key out i ≡ take (16 * i) text → encrypted_block key p ≡ block_of text i
      → ecb_blocks key (out ++ p) (i + 1) ≡ take (16 * (i + 1)) text
  unfolding ecb_block
  ecb_blocks-back text out p i size last before is =
      back-more (ecb_block key) ecb_block-append text out p i size before
      (ap (encrypted_block key) (block_of-last out p i size (omega arith)) ∙ is)

  -- and all of them
  pub ecb_encrypted-all : (text out : List ℕ) (i : ℕ) → length out ≡ 16 * i → length text / 16 ≤ i → IsWhole text
      → ecb_blocks key out i ≡ take (16 * i) text → ecb_encrypted key out ≡ text
  ecb_encrypted-all text out i size end whole back =
      let count : length out / 16 ≡ i = omega arith in
      ap (ecb_blocks key out) count ∙ back ∙ take_all (16 * i) text (omega arith)

module _ (key iv : List ℕ) where
  pub chained-append : (xs ys : List ℕ) (n : ℕ) → 16 * n ≤ length xs → chained key iv (xs ++ ys) n ≡ chained key iv xs n
  unfolding chained
  chained-append xs ys zero le = refl
  chained-append xs ys (suc n) le =
      λ t. encrypted_block key (xor_bytes (block_of-append xs ys n (omega arith) t) (chained-append xs ys n (omega arith) t))

  pub cbc_block-append : (xs ys : List ℕ) (i : ℕ) → 16 * i + 16 ≤ length xs → cbc_block key iv (xs ++ ys) i ≡ cbc_block key iv xs i
  cbc_block-append xs ys i le = chained-append xs ys (suc i) (omega arith)

  pub chained-more : (text before : List ℕ) (i : ℕ) → before ≡ chained key iv text i
      → encrypted_block key (xor_bytes (block_of text i) before) ≡ chained key iv text (i + 1)
  unfolding chained
  chained-more text before i is =
      rw add-one (ap (λ c. encrypted_block key (xor_bytes (block_of text i) c)) is)

  pub cbc_blocks-more : (text out block : List ℕ) (i : ℕ) → out ≡ cbc_blocks key iv text i → block ≡ chained key iv text (i + 1)
      → out ++ block ≡ cbc_blocks key iv text (i + 1)
  cbc_blocks-more text out block i before last =
      let next : i + 1 ≡ suc i = omega arith in
      (λ t. before t ++ (last ∙ ap (chained key iv text) next) t) ∙ sym (first_blocks-more (cbc_block key iv text) i)

  -- behind q blocks, the rest of the text is encrypted from the block before
  pub chained-add : (text : List ℕ) (q i : ℕ) → chained key iv text (q + i) ≡ chained key (chained key iv text q) (drop (16 * q) text) i
  unfolding chained
  chained-add text q zero = let none : q + 0 ≡ q = omega arith in ap (chained key iv text) none
  chained-add text q (suc i) =
      let next : q + suc i ≡ suc (q + i) = omega arith in
      ap (chained key iv text) next
      ∙ (λ t. encrypted_block key (xor_bytes (sym (block_of-drop text q i) t) (chained-add text q i t)))

  pub cbc_blocks-add : (text : List ℕ) (q i : ℕ)
      → cbc_blocks key iv text (q + i) ≡ cbc_blocks key iv text q ++ cbc_blocks key (chained key iv text q) (drop (16 * q) text) i
  cbc_blocks-add text q i =
      first_blocks-add (cbc_block key iv text) q i
      ∙ ap (λ l. cbc_blocks key iv text q ++ l)
      (first_blocks-alike (λ j. cbc_block key iv text (q + j)) (cbc_block key (chained key iv text q) (drop (16 * q) text)) i
      (λ j _. let next : suc (q + j) ≡ q + suc j = omega arith in ap (chained key iv text) next ∙ chained-add text q (suc j)))

  -- a decrypted block d, to which the block before is added, is encrypted to the block
  pub chained-back : (out d before block : List ℕ) (i : ℕ) → length out ≡ 16 * i → length (xor_bytes d before) ≡ 16
      → length d ≡ length before → before ≡ chained key iv out i → encrypted_block key d ≡ block
      → chained key iv (out ++ xor_bytes d before) (i + 1) ≡ block
  unfolding chained
  chained-back out d before block i size last same is back =
      let p : List ℕ = xor_bytes d before in
      rw add-one (
      (λ t. encrypted_block key (xor_bytes (block_of-last out p i size (omega arith) t)
      ((chained-append out p i (omega arith) ∙ sym is) t)))
      ∙ ap (encrypted_block key) (xor_bytes-twice d before same) ∙ back)

  pub cbc_blocks-back : (text out p block : List ℕ) (i : ℕ) → length out ≡ 16 * i
      → cbc_blocks key iv out i ≡ take (16 * i) text → block ≡ block_of text i → chained key iv (out ++ p) (i + 1) ≡ block
      → cbc_blocks key iv (out ++ p) (i + 1) ≡ take (16 * (i + 1)) text
  cbc_blocks-back text out p block i size before is last =
      let next : suc i ≡ i + 1 = omega arith in
      back-more (cbc_block key iv) cbc_block-append text out p i size before
      (ap (chained key iv (out ++ p)) next ∙ last ∙ is)

  -- and all of them
  pub cbc_encrypted-all : (text out : List ℕ) (i : ℕ) → length out ≡ 16 * i → length text / 16 ≤ i → IsWhole text
      → cbc_blocks key iv out i ≡ take (16 * i) text → cbc_encrypted key iv out ≡ text
  cbc_encrypted-all text out i size end whole back =
      let count : length out / 16 ≡ i = omega arith in
      ap (cbc_blocks key iv out) count ∙ back ∙ take_all (16 * i) text (omega arith)
