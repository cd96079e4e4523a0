-- CTR over data and one more part.
use Rattle.std.proofs.Common.{◌≡◌, ℕ, ◌+◌, ◌-◌, ◌*◌, ◌/◌, ◌%◌, ◌^◌, ◌<◌, ◌≤◌, List, [], ◌++◌, length, take, drop, replicate, bit_and, ap, refl, sym, subst, ◌∙◌, arith, inl, inr}
use Rattle.std.specs.Int.{w128, from_be_bytes, to_be_bytes}
use Rattle.std.proofs.lemmas.Bool.{cases_eq}
use Rattle.std.proofs.lemmas.List.{append_assoc, take-append-drop, take-append-le, take_all, take_at, length-append, length-drop, length-take}
use Rattle.std.proofs.lemmas.List.Elements.{All-nil}
use Rattle.fips_197.specs.Bytes.{AreBytes, xor_bytes}
use Rattle.fips_197.specs.Encrypt.{encrypted_block}
use Rattle.fips_197.specs.KeyExpansion.{IsKey}
use Rattle.fips_197.specs.Texts.{block_of}
use Rattle.aes_modes.specs.Blocks.{first_blocks, blocks_begun}
use Rattle.aes_modes.specs.Counter.{counter_start}
use Rattle.aes_modes.specs.Modes.{output_block, ctr_block, ctr_blocks, ctr_encrypted}
use Rattle.aes_modes.proofs.Texts.{first_blocks-more, first_blocks-add, first_blocks-alike, first_blocks-append, block_of-drop, block_of-rest}
use Rattle.aes_modes.proofs.CounterNumbers.{counter_block-sum, counter-fits, counter_start-below, further}
use Rattle.aes_modes.proofs.CounterTexts.{take-xor_more, length-xor_short, IsBlock-output_block, ctr_block-append}
use Rattle.streams_model.specs.Flows.{blocks_done}
use Rattle.streams_model.specs.Countings.{number_block, numbered}
use Rattle.streams_model.proofs.Pieces.{take-past, joined, whole_held, count_held}

-- ---- under counters from a number on

pub numbered-more : (key text out output : List ℕ) (number i : ℕ) → out ≡ first_blocks (number_block key number text) i
    → output ≡ encrypted_block key (to_be_bytes w128 (number + i))
    → out ++ xor_bytes (block_of text i) output ≡ first_blocks (number_block key number text) (i + 1)
unfolding number_block
numbered-more key text out output number i before is =
    (λ t. before t ++ xor_bytes (block_of text i) (is t)) ∙ sym (first_blocks-more (number_block key number text) i)

-- the last block, which is shorter
pub numbered-last : (key text out rest output last : List ℕ) (number : ℕ)
    → out ≡ first_blocks (number_block key number text) (length text / 16)
    → rest ≡ drop (16 * (length text / 16)) text → 0 < length rest
    → output ≡ encrypted_block key (to_be_bytes w128 (number + length text / 16)) → length output ≡ 16
    → last ≡ xor_bytes (rest ++ replicate (16 - length rest) 0) output
    → out ++ take (length rest) last ≡ numbered key number text
numbered-last key text out rest output last number before rest_is some output_is whole last_is =
    let n : ℕ = length text / 16 in
    let size : length rest ≡ length text % 16 = ap length rest_is ∙ length-drop (16 * n) text ∙ omega arith in
    let count : n + 1 ≡ blocks_begun text = omega arith in
    ap (λ l. out ++ take (length rest) l) last_is
    ∙ ap (λ l. out ++ l) (take-xor_more rest (replicate (16 - length rest) 0) output (omega arith)
    ∙ ap (λ l. xor_bytes l output) (rest_is ∙ block_of-rest text))
    ∙ numbered-more key text out output number n before output_is
    ∙ ap (first_blocks (number_block key number text)) count

pub numbered-whole : (key text : List ℕ) (number : ℕ) → length text % 16 ≡ 0
    → first_blocks (number_block key number text) (length text / 16) ≡ numbered key number text
numbered-whole key text number whole =
    let count : length text / 16 ≡ blocks_begun text = omega arith in ap (first_blocks (number_block key number text)) count

-- ---- they are those of the mode

module _ (key start : List ℕ) (m : ℕ) where
  same_number_block : (all text : List ℕ) (number q i : ℕ) → text ≡ drop (16 * q) all → number ≡ from_be_bytes w128 start + q
      → counter_start m start + (q + i) < 2 ^ m → number_block key number text i ≡ ctr_block key m start all (q + i)
  unfolding number_block ctr_block output_block
  same_number_block all text number q i t v within =
      let sum : number + i ≡ from_be_bytes w128 start + (q + i) = omega (arith, v) in
      λ j. xor_bytes ((ap (λ l. block_of l i) t ∙ block_of-drop all q i) j)
      (encrypted_block key ((ap (to_be_bytes w128) sum ∙ counter_block-sum m start (q + i) within) j))

  pub numbered-is : (all text : List ℕ) (number q : ℕ) → text ≡ drop (16 * q) all → number ≡ from_be_bytes w128 start + q
      → counter_start m start + (q + blocks_begun text) ≤ 2 ^ m
      → numbered key number text ≡ first_blocks (λ i. ctr_block key m start all (q + i)) (blocks_begun text)
  numbered-is all text number q t v within =
      first_blocks-alike (number_block key number text) (λ i. ctr_block key m start all (q + i)) (blocks_begun text)
      (λ i lt. same_number_block all text number q i t v (omega arith))

  -- ---- data of which q blocks come before the last, and one more part

  module _ (is_key : IsKey key) (taken piece kept : List ℕ) (k : kept ≡ drop (16 * blocks_done 1 taken) taken) where
    size : length kept ≡ length taken - 16 * blocks_done 1 taken
    size = ap length k ∙ length-drop (16 * blocks_done 1 taken) taken

    begun_kept : blocks_begun taken ≡ blocks_done 1 taken + (length kept + 15) / 16
    begun_kept = omega (arith, size)

    block_taken : 0 < length kept → block_of taken (blocks_done 1 taken) ≡ kept
    unfolding block_of
    block_taken some = ap (take 16) (sym k) ∙ take_all 16 kept (omega (arith, size))

    block_all : block_of (taken ++ piece) (blocks_done 1 taken) ≡ kept ++ take (16 - length kept) piece
    unfolding block_of
    block_all =
        let n : 16 ≡ length kept + (16 - length kept) = omega (arith, size) in
        ap (take 16) (sym (joined taken piece kept (blocks_done 1 taken) (omega arith) k))
        ∙ ap (λ c. take c (kept ++ piece)) n ∙ take-past kept piece (16 - length kept)

    -- the block that was begun, in the block that it becomes
    first_bytes : 0 < length kept
        → take (length kept) (ctr_block key m start (taken ++ piece) (blocks_done 1 taken))
        ≡ ctr_block key m start taken (blocks_done 1 taken)
    unfolding ctr_block
    first_bytes some =
        let o = IsBlock-output_block key m start (blocks_done 1 taken) is_key in
        ap (λ b. take (length kept) (xor_bytes b (output_block key m start (blocks_done 1 taken)))) block_all
        ∙ take-xor_more kept (take (16 - length kept) piece) (output_block key m start (blocks_done 1 taken)) (omega (arith, size, o.size))
        ∙ ap (λ b. xor_bytes b (output_block key m start (blocks_done 1 taken))) (sym (block_taken some))

    long_enough : length kept ≤ length (ctr_block key m start (taken ++ piece) (blocks_done 1 taken))
    unfolding ctr_block
    long_enough =
        let o = IsBlock-output_block key m start (blocks_done 1 taken) is_key in
        let l : length (kept ++ take (16 - length kept) piece) ≡ length kept + length (take (16 - length kept) piece) =
        length-append kept (take (16 - length kept) piece) in
        let n = length-take (16 - length kept) piece in
        let b = ap length block_all in
        omega (
          arith,
          size,
          o.size,
          l,
          n,
          b,
          length-xor_short (block_of (taken ++ piece) (blocks_done 1 taken)) (output_block key m start (blocks_done 1 taken))
              (omega (arith, size, o.size, l, n, b)),
        )

    abbrev pub later : List ℕ
    later = first_blocks (λ i. ctr_block key m start (taken ++ piece) (blocks_done 1 taken + i)) (blocks_begun (kept ++ piece))

    begun_all : blocks_begun (taken ++ piece) ≡ blocks_done 1 taken + blocks_begun (kept ++ piece)
    begun_all = omega (arith, size, length-append taken piece, length-append kept piece)

    before_same : first_blocks (ctr_block key m start (taken ++ piece)) (blocks_done 1 taken)
        ≡ first_blocks (ctr_block key m start taken) (blocks_done 1 taken)
    before_same = first_blocks-append (ctr_block key m start) (ctr_block-append key m start) taken piece (blocks_done 1 taken) (omega arith)

    all_is : ctr_encrypted key m start (taken ++ piece) ≡ first_blocks (ctr_block key m start taken) (blocks_done 1 taken) ++ later
    all_is =
        ap (ctr_blocks key m start (taken ++ piece)) begun_all
        ∙ first_blocks-add (ctr_block key m start (taken ++ piece)) (blocks_done 1 taken) (blocks_begun (kept ++ piece))
        ∙ ap (λ l. l ++ later) before_same

    later_begins : 0 < length kept → take (length kept) later ≡ ctr_block key m start taken (blocks_done 1 taken)
    unfolding first_blocks
    later_begins some =
        let f : ℕ → List ℕ = λ i. ctr_block key m start (taken ++ piece) (blocks_done 1 taken + i) in
        let n : ℕ = blocks_begun (kept ++ piece) - 1 in
        let one : blocks_begun (kept ++ piece) ≡ 1 + n = omega (arith, length-append kept piece) in
        let none : blocks_done 1 taken + 0 ≡ blocks_done 1 taken = omega arith in
        let at : f 0 ≡ ctr_block key m start (taken ++ piece) (blocks_done 1 taken) = ap (ctr_block key m start (taken ++ piece)) none in
        ap (λ c. take (length kept) (first_blocks f c)) one
        ∙ ap (take (length kept)) (first_blocks-add f 1 n ∙ ap (λ l. l ++ first_blocks (λ j. f (1 + j)) n) at)
        ∙ take-append-le (length kept) (ctr_block key m start (taken ++ piece) (blocks_done 1 taken))
        (first_blocks (λ j. f (1 + j)) n) long_enough
        ∙ first_bytes some

    pub further_is : ctr_encrypted key m start taken ++ drop (length kept) later ≡ ctr_encrypted key m start (taken ++ piece)
    further_is =
        elim (cases_eq (length kept) 0) [
          | inl none ↦
              let count : blocks_begun taken ≡ blocks_done 1 taken = omega (arith, begun_kept) in
              (λ t. ctr_blocks key m start taken (count t) ++ drop (none t) later) ∙ sym all_is
          | inr kept_some ↦
              let some : 0 < length kept = omega (arith, kept_some) in
              let count : blocks_begun taken ≡ blocks_done 1 taken + 1 = omega (arith, begun_kept, size) in
              ap (λ l. l ++ drop (length kept) later)
              (ap (ctr_blocks key m start taken) count ∙ first_blocks-more (ctr_block key m start taken) (blocks_done 1 taken))
              ∙ append_assoc (ctr_blocks key m start taken (blocks_done 1 taken))
              (ctr_block key m start taken (blocks_done 1 taken)) (drop (length kept) later)
              ∙ ap (λ l. ctr_blocks key m start taken (blocks_done 1 taken) ++ l)
              (ap (λ l. l ++ drop (length kept) later) (sym (later_begins some)) ∙ take-append-drop (length kept) later)
              ∙ sym all_is
        ]

-- a list encrypted, and cut
pub turned : (xs out part : List ℕ) (used n : ℕ) → length xs ≡ used + n → out ≡ drop used xs ++ take used xs → part ≡ take n out
    → part ≡ drop used xs
turned xs out part used n size o p =
    p ∙ ap (take n) o ∙ take_at (drop used xs) (take used xs) n (omega (arith, size, length-drop used xs))

-- as many blocks further fit
pub fits_further : (start : List ℕ) (m q n number left : ℕ) → m ≤ 128 → number ≡ from_be_bytes w128 start + q → number < 2 ^ 128
    → counter_start m start + q + (left + 1) ≡ 2 ^ m → n ≤ left → number + n < 2 ^ 128
fits_further start m q n number left le v fits all within =
    let low : from_be_bytes w128 start < 2 ^ 128 = omega arith in
    let f = counter-fits (from_be_bytes w128 start) start m (q + n) le low refl (omega arith) in
    omega (arith, f, v)

-- where nothing was taken
pub begun_left : (start first taken : List ℕ) (m number bits : ℕ) → m ≤ 128 → bits ≡ m → number ≡ from_be_bytes w128 start
    → first ≡ start → taken ≡ []
    → counter_start m first + blocks_done 1 taken +
    ((2 ^ 128 - 1) / 2 ^ (128 - bits) - bit_and number ((2 ^ 128 - 1) / 2 ^ (128 - bits)) + 1) ≡ 2 ^ m
begun_left start first taken m number bits le b v f none =
    let below = counter_start-below m start in
    let zero : blocks_done 1 taken ≡ 0 = ap (blocks_done 1) none in
    (λ i. counter_start m (f i) + zero i + ((2 ^ 128 - 1) / 2 ^ (128 - b i) - bit_and (v i) ((2 ^ 128 - 1) / 2 ^ (128 - b i)) + 1))
    ∙ ap (λ l. counter_start m start + 0 + (l + 1)) (further m start le)
    ∙ omega (arith, below)

-- one more part
module _ (key start taken piece kept after : List ℕ) (m number left n total len : ℕ)
    (le : m ≤ 128) (v : number ≡ from_be_bytes w128 start + blocks_done 1 taken)
    (room : counter_start m start + blocks_done 1 taken + (left + 1) ≡ 2 ^ m)
    (k : kept ≡ drop (16 * blocks_done 1 taken) taken)
    (l : len ≡ length kept) (t : total ≡ len + length piece - 1) (is : n ≡ total / 16) (a : after ≡ taken ++ piece)
    (within : n ≤ left) where
  whole : 16 * blocks_done 1 taken ≤ length taken
  whole = whole_held 1 taken piece kept after n total len (omega arith) k l t is a

  blocks : n ≡ (length kept + length piece - 1) / 16
  blocks = is ∙ ap (λ c. c / 16) (t ∙ ap (λ c. c + length piece - 1) l)

  count : blocks_done 1 taken + n ≡ blocks_done 1 after
  count = count_held 1 taken piece kept after n total len (omega arith) k l t is a

  pub number_further : number + n ≡ from_be_bytes w128 start + blocks_done 1 after
  number_further = omega (arith, v, count)

  pub left_further : counter_start m start + blocks_done 1 after + (left - n + 1) ≡ 2 ^ m
  left_further = omega (arith, room, within, count)

  pub output_further : IsKey key → (all out part : List ℕ) → all ≡ numbered key number (kept ++ piece)
      → length all ≡ length kept + length piece
      → out ≡ drop len all ++ take len all → part ≡ take (length piece) out
      → ctr_encrypted key m start taken ++ part ≡ ctr_encrypted key m start after
  output_further is_key all out part e size o p =
      let enough : counter_start m start + (blocks_done 1 taken + blocks_begun (kept ++ piece)) ≤ 2 ^ m =
      omega (arith, room, within, blocks, length-append kept piece) in
      let later = e ∙ numbered-is key start m (taken ++ piece) (kept ++ piece) number (blocks_done 1 taken)
      (joined taken piece kept (blocks_done 1 taken) whole k) v enough in
      ap (λ x. ctr_encrypted key m start taken ++ x)
      (turned all out part len (length piece) (omega (arith, size, l)) o p ∙ (λ i. drop (l i) (later i)))
      ∙ further_is key start m is_key taken piece kept k
      ∙ ap (ctr_encrypted key m start) (sym a)

pub begun_number : (start first taken : List ℕ) (number : ℕ) → number ≡ from_be_bytes w128 start → first ≡ start → taken ≡ []
    → number ≡ from_be_bytes w128 first + blocks_done 1 taken
begun_number start first taken number v f none =
    let zero : 0 ≡ blocks_done 1 taken = ap (blocks_done 1) (sym none) in
    let sum : from_be_bytes w128 start ≡ from_be_bytes w128 start + 0 = omega arith in
    v ∙ sum ∙ (λ i. from_be_bytes w128 (sym f i) + zero i)

pub begun_output : (key start taken : List ℕ) (m : ℕ) → taken ≡ [] → AreBytes (ctr_encrypted key m start taken)
unfolding first_blocks
begun_output key start taken m none = subst (λ l. AreBytes (ctr_encrypted key m start l)) (sym none) (All-nil (λ b. b < 256))
