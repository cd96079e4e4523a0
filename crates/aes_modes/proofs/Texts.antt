-- Texts by their blocks.
use Rattle.std.proofs.Common.{◌≡◌, ℕ, zero, suc, ◌+◌, ◌-◌, ◌*◌, ◌/◌, ◌<◌, ◌≤◌, List, [], ◌∷◌, ◌++◌, length, take, drop, set, get_or, replicate, ap, refl, sym, ◌∙◌, arith, add-one, inl, inr}
use Rattle.std.proofs.lemmas.Bool.{cases_lt}
use Rattle.std.proofs.lemmas.List.{append-nil, drop-drop, append_assoc, drop-append-le, take-append-le, length-append, length-drop, drop_at, take_all, take-append-drop, take-take, drop-take, length-take-le, set_at, take_more}
use Rattle.fips_197.specs.Texts.{block_of}
use Rattle.aes_modes.specs.Blocks.{first_blocks}

pub length-block_of : (text : List ℕ) (i : ℕ) → 16 * i + 16 ≤ length text → length (block_of text i) ≡ 16
unfolding block_of
length-block_of text i le = length-take-le 16 (drop (16 * i) text) (omega (arith, length-drop (16 * i) text))

-- a whole block stays when more follows
pub block_of-append : (xs ys : List ℕ) (i : ℕ) → 16 * i + 16 ≤ length xs → block_of (xs ++ ys) i ≡ block_of xs i
unfolding block_of
block_of-append xs ys i le =
    ap (take 16) (drop-append-le (16 * i) xs ys (omega arith))
    ∙ take-append-le 16 (drop (16 * i) xs) ys (omega (arith, length-drop (16 * i) xs))

-- a block that two lists share
pub block_of-behind : (xs ys : List ℕ) (i : ℕ) → 16 * i ≤ length xs → length (drop (16 * i) xs ++ ys) ≤ 16
    → block_of (xs ++ ys) i ≡ drop (16 * i) xs ++ ys
unfolding block_of
block_of-behind xs ys i within le =
    ap (take 16) (drop-append-le (16 * i) xs ys within) ∙ take_all 16 (drop (16 * i) xs ++ ys) le

-- the block behind i whole ones
pub block_of-last : (xs p : List ℕ) (i : ℕ) → length xs ≡ 16 * i → length p ≤ 16 → block_of (xs ++ p) i ≡ p
unfolding block_of
block_of-last xs p i size le = ap (take 16) (drop_at xs p (16 * i) size) ∙ take_all 16 p le

-- what is left behind the whole blocks is the last block
pub block_of-rest : (text : List ℕ) → drop (16 * (length text / 16)) text ≡ block_of text (length text / 16)
unfolding block_of
block_of-rest text =
    let at : ℕ = 16 * (length text / 16) in
    sym (take_all 16 (drop at text) (omega (arith, length-drop at text)))

-- a block further
pub take-block : (text : List ℕ) (i : ℕ) → take (16 * (i + 1)) text ≡ take (16 * i) text ++ block_of text i
unfolding block_of
take-block text i =
    let next : 16 * (i + 1) ≡ 16 * i + 16 = omega arith in
    let parts = take-append-drop (16 * i) (take (16 * i + 16) text) in
    ap (λ k. take k text) next ∙ sym (rw (take-take (16 * i) (16 * i + 16) text (omega arith), drop-take (16 * i) 16 text) at parts)

pub first_blocks-more : (f : ℕ → List ℕ) (n : ℕ) → first_blocks f (n + 1) ≡ first_blocks f n ++ f n
unfolding first_blocks
first_blocks-more f n = rw add-one refl

-- the blocks behind q of them
pub first_blocks-add : (f : ℕ → List ℕ) (q i : ℕ) → first_blocks f (q + i) ≡ first_blocks f q ++ first_blocks (λ j. f (q + j)) i
unfolding first_blocks
first_blocks-add f q zero =
    let none : q + 0 ≡ q = omega arith in
    ap (first_blocks f) none ∙ sym (append-nil (first_blocks f q))
first_blocks-add f q (suc i) =
    let next : q + suc i ≡ suc (q + i) = omega arith in
    ap (first_blocks f) next
    ∙ ap (λ l. l ++ f (q + i)) (first_blocks-add f q i)
    ∙ append_assoc (first_blocks f q) (first_blocks (λ j. f (q + j)) i) (f (q + i))

pub block_of-drop : (text : List ℕ) (q i : ℕ) → block_of (drop (16 * q) text) i ≡ block_of text (q + i)
unfolding block_of
block_of-drop text q i =
    let sum : 16 * q + 16 * i ≡ 16 * (q + i) = omega arith in
    ap (take 16) (drop-drop (16 * i) (16 * q) text ∙ ap (λ k. drop k text) sum)

-- blocks that are alike
pub first_blocks-alike : (f g : ℕ → List ℕ) (n : ℕ) → ((i : ℕ) → i < n → f i ≡ g i) → first_blocks f n ≡ first_blocks g n
unfolding first_blocks
first_blocks-alike f g zero same = refl
first_blocks-alike f g (suc n) same =
    λ t. first_blocks-alike f g n (λ i lt. same i (omega arith)) t ++ same n (omega arith) t

-- blocks that are as long
pub length-first_blocks-alike : (f g : ℕ → List ℕ) (n : ℕ) → ((i : ℕ) → i < n → length (f i) ≡ length (g i))
    → length (first_blocks f n) ≡ length (first_blocks g n)
unfolding first_blocks
length-first_blocks-alike f g zero same = refl
length-first_blocks-alike f g (suc n) same =
    length-append (first_blocks f n) (f n)
    ∙ (λ t. length-first_blocks-alike f g n (λ i lt. same i (omega arith)) t + same n (omega arith) t)
    ∙ sym (length-append (first_blocks g n) (g n))

-- the first blocks of a text are its beginning
pub first_blocks-text : (text : List ℕ) (n : ℕ) → first_blocks (block_of text) n ≡ take (16 * n) text
unfolding first_blocks
first_blocks-text text zero = refl
first_blocks-text text (suc n) =
    let next : n + 1 ≡ suc n = omega arith in
    ap (λ xs. xs ++ block_of text n) (first_blocks-text text n) ∙ sym (take-block text n) ∙ ap (λ k. take (16 * k) text) next

pub length-first_blocks : (f : ℕ → List ℕ) (n : ℕ) → ((i : ℕ) → i < n → length (f i) ≡ 16) → length (first_blocks f n) ≡ 16 * n
unfolding first_blocks
length-first_blocks f zero whole = refl
length-first_blocks f (suc n) whole =
    omega (
      arith,
      length-append (first_blocks f n) (f n),
      length-first_blocks f n (λ i lt. whole i (omega arith)),
      whole n (omega arith),
    )

-- block i of n blocks, the last of which may be shorter
pub block_of-first_blocks : (f : ℕ → List ℕ) (n i : ℕ) → ((j : ℕ) → j + 1 < n → length (f j) ≡ 16)
    → ((j : ℕ) → j < n → length (f j) ≤ 16) → i < n → block_of (first_blocks f n) i ≡ f i
unfolding first_blocks
block_of-first_blocks f zero i whole last lt = absurd (omega arith)
block_of-first_blocks f (suc n) i whole last lt =
    let size = length-first_blocks f n (λ j below. whole j (omega arith)) in
    elim (cases_lt i n) [
      | inl before ↦
          block_of-append (first_blocks f n) (f n) i (omega arith)
          ∙ block_of-first_blocks f n i (λ j below. whole j (omega arith)) (λ j below. last j (omega arith)) before
      | inr behind ↦
          let end : n ≡ i = omega arith in
          ap (block_of (first_blocks f n ++ f n)) (sym end)
          ∙ block_of-last (first_blocks f n) (f n) n size (last n (omega arith)) ∙ ap f end
    ]

-- A mode, as the function of a text and a block number that gives a block of the cipher text. A block
-- depends on the text up to that block alone.
module _ (mode : List ℕ → ℕ → List ℕ) (local : (xs ys : List ℕ) (i : ℕ) → 16 * i + 16 ≤ length xs → mode (xs ++ ys) i ≡ mode xs i) where
  -- so whole blocks are encrypted alike whatever follows them
  pub first_blocks-append : (xs ys : List ℕ) (n : ℕ) → 16 * n ≤ length xs → first_blocks (mode (xs ++ ys)) n ≡ first_blocks (mode xs) n
  first_blocks-append xs ys n le =
      first_blocks-alike (mode (xs ++ ys)) (mode xs) n (λ i lt. local xs ys i (omega arith))

  -- decrypting, a block further
  pub back-more : (text out p : List ℕ) (i : ℕ) → length out ≡ 16 * i → first_blocks (mode out) i ≡ take (16 * i) text
      → mode (out ++ p) i ≡ block_of text i → first_blocks (mode (out ++ p)) (i + 1) ≡ take (16 * (i + 1)) text
  back-more text out p i size before last =
      first_blocks-more (mode (out ++ p)) i
      ∙ (λ t. ((first_blocks-append out p i (omega arith)) ∙ before) t ++ last t)
      ∙ sym (take-block text i)

-- ---- bytes with others behind them

pub filled-more : (bytes : List ℕ) (i fill : ℕ) → i < length bytes → i < 16
    → set (take i bytes ++ replicate (16 - i) fill) i (get_or bytes i 0) ≡ take (i + 1) bytes ++ replicate (16 - (i + 1)) fill
filled-more bytes i fill lt le =
    let b : ℕ = get_or bytes i 0 in
    let size : length (take i bytes) ≡ i = length-take-le i bytes (omega arith) in
    let rest : 16 - i ≡ suc (16 - (i + 1)) = omega arith in
    ap (λ k. set (take i bytes ++ replicate k fill) i b) rest
    ∙ set_at (take i bytes) fill (replicate (16 - (i + 1)) fill) b i size
    ∙ sym (ap (λ l. l ++ replicate (16 - (i + 1)) fill) (take_more bytes i 0 lt)
    ∙ append_assoc (take i bytes) (b ∷ []) (replicate (16 - (i + 1)) fill))
