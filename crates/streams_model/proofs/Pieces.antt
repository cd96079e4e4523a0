-- Buffered bytes with a part behind them.
use Rattle.std.proofs.Common.{◌≡◌, ℕ, suc, ◌+◌, ◌-◌, ◌*◌, ◌/◌, ◌%◌, ◌≤◌, List, [], ◌∷◌, ◌++◌, length, take, drop, ap, sym, ◌∙◌, arith}
use Rattle.std.proofs.lemmas.List.{append-nil, drop-append-le, drop-drop, drop_at, drop_all, length-append, length-drop, length-take-le}
use borrow.Rule.Slice.PartMut.{put_mid}
use Rattle.fips_197.specs.Texts.{block_of}
use Rattle.streams_model.specs.Flows.{blocks_done}

-- the front of two lists, past the first
pub take-past : (front rest : List ℕ) (m : ℕ) → take (length front + m) (front ++ rest) ≡ front ++ take m rest
take-past [] rest m = let e : 0 + m ≡ m = omega arith in ap (λ k. take k rest) e
take-past (x ∷ front) rest m =
    let e : suc (length front) + m ≡ suc (length front + m) = omega arith in
    ap (λ k. take k (x ∷ (front ++ rest))) e ∙ ap (λ l. x ∷ l) (take-past front rest m)

drop-past : (front rest : List ℕ) (n k : ℕ) → length front ≡ n → n ≤ k → drop k (front ++ rest) ≡ drop (k - n) rest
drop-past front rest n k size le =
    let sum : n + (k - n) ≡ k = omega arith in
    ap (λ x. drop x (front ++ rest)) (sym sum) ∙ sym (drop-drop (k - n) n (front ++ rest)) ∙ ap (drop (k - n)) (drop_at front rest n size)

-- block i of two lists, past the first
pub block_of-past : (front piece : List ℕ) (n i : ℕ) → length front ≡ n → n ≤ 16 * i
    → take (16 * i - n + 16 - (16 * i - n)) (drop (16 * i - n) piece) ≡ block_of (front ++ piece) i
unfolding block_of
block_of-past front piece n i size le =
    let k : 16 * i - n + 16 - (16 * i - n) ≡ 16 = omega arith in
    ap (λ x. take x (drop (16 * i - n) piece)) k ∙ ap (take 16) (sym (drop-past front piece n (16 * i) size le))

-- block 0 of two lists, the first no longer than a block
pub block_of-first : (block piece new : List ℕ) (n : ℕ) → length block ≡ 16 → n ≤ 16 → 16 ≤ n + length piece → new ≡ take (16 - n) piece
    → put_mid n (16 - n) block new ≡ block_of (take n block ++ piece) 0
unfolding block_of
block_of-first block piece new n l lt le e =
    let f : length (take n block) ≡ n = length-take-le n block (omega arith) in
    let s : length (take n block) + (16 - n) ≡ 16 = omega arith in
    let none : drop (16 - n) (drop n block) ≡ [] = drop-drop (16 - n) n block ∙ drop_all (n + (16 - n)) block (omega arith) in
    (λ t. take n block ++ (e t ++ none t)) ∙ ap (λ x. take n block ++ x) (append-nil (take (16 - n) piece))
    ∙ sym (take-past (take n block) piece (16 - n)) ∙ ap (λ k. take k (take n block ++ piece)) s

-- ---- q blocks are done, and what is behind them is buffered

pub joined : (taken piece kept : List ℕ) (q : ℕ) → 16 * q ≤ length taken → kept ≡ drop (16 * q) taken
    → kept ++ piece ≡ drop (16 * q) (taken ++ piece)
joined taken piece kept q whole k = ap (λ l. l ++ piece) k ∙ sym (drop-append-le (16 * q) taken piece whole)

pub next_kept : (taken piece kept : List ℕ) (q n : ℕ) → 16 * q ≤ length taken → kept ≡ drop (16 * q) taken
    → drop (16 * n) (kept ++ piece) ≡ drop (16 * (q + n)) (taken ++ piece)
next_kept taken piece kept q n whole k =
    let sum : 16 * n + 16 * q ≡ 16 * (q + n) = omega arith in
    let swap : 16 * q + 16 * n ≡ 16 * (q + n) = omega arith in
    ap (drop (16 * n)) (joined taken piece kept q whole k) ∙ drop-drop (16 * n) (16 * q) (taken ++ piece)
    ∙ ap (λ j. drop j (taken ++ piece)) swap

-- all whole blocks are done
pub next_count : (taken piece kept : List ℕ) → kept ≡ drop (16 * (length taken / 16)) taken
    → length taken / 16 + (length kept + length piece) / 16 ≡ length (taken ++ piece) / 16
next_count taken piece kept k =
    let size : length kept ≡ length taken % 16 = ap length k ∙ length-drop (16 * (length taken / 16)) taken ∙ omega arith in
    omega (arith, length-append taken piece)

-- and those before the bytes that stay buffered
pub next_done : (held : ℕ) (taken piece kept : List ℕ) → held ≤ 1 → kept ≡ drop (16 * blocks_done held taken) taken
    → blocks_done held taken + (length kept + length piece - held) / 16 ≡ blocks_done held (taken ++ piece)
next_done held taken piece kept le k =
    let size : length kept ≡ length taken - 16 * ((length taken - held) / 16) =
    ap length k ∙ length-drop (16 * blocks_done held taken) taken in
    omega (arith, length-append taken piece)

-- where nothing was taken
pub begun_kept : (kept taken : List ℕ) → kept ≡ [] → taken ≡ [] → kept ≡ drop (16 * (length taken / 16)) taken
begun_kept kept taken k none = k ∙ ap (λ l. drop (16 * (length l / 16)) l) (sym none)

pub begun_held : (held : ℕ) (kept taken : List ℕ) → kept ≡ [] → taken ≡ [] → kept ≡ drop (16 * blocks_done held taken) taken
begun_held held kept taken k none =
    k ∙ sym (drop_all (16 * blocks_done held []) [] (omega arith)) ∙ ap (λ l. drop (16 * blocks_done held l) l) (sym none)

-- how many bytes are buffered
pub waiting-whole : (taken given kept : List ℕ) → length given ≡ 16 * (length taken / 16) → kept ≡ drop (16 * (length taken / 16)) taken
    → length kept ≡ length taken - length given
waiting-whole taken given kept g k = ap length k ∙ length-drop (16 * (length taken / 16)) taken ∙ omega (arith, g)

pub waiting-held : (held : ℕ) (taken given kept : List ℕ) → length given ≡ 16 * blocks_done held taken
    → kept ≡ drop (16 * blocks_done held taken) taken
    → length kept ≡ length taken - length given
waiting-held held taken given kept g k = ap length k ∙ length-drop (16 * blocks_done held taken) taken ∙ omega (arith, g)

-- one more part
module _ (taken piece kept after : List ℕ) (n len : ℕ) (k : kept ≡ drop (16 * (length taken / 16)) taken)
    (l : len ≡ length kept) (is : n ≡ (len + length piece) / 16) (a : after ≡ taken ++ piece) where
  pub whole : 16 * (length taken / 16) ≤ length taken
  whole = omega arith

  pub count_after : length taken / 16 + n ≡ length after / 16
  count_after =
      ap (λ m. length taken / 16 + m) (is ∙ ap (λ m. (m + length piece) / 16) l)
      ∙ next_count taken piece kept k ∙ ap (λ x. length x / 16) (sym a)

  pub kept_after : (next : List ℕ) → next ≡ drop (16 * n) (kept ++ piece) → next ≡ drop (16 * (length after / 16)) after
  kept_after next e = e ∙ next_kept taken piece kept (length taken / 16) n whole k ∙ (λ t. drop (16 * count_after t) (sym a t))

  pub size_after : (given out all : List ℕ) → length given ≡ 16 * (length taken / 16) → length out ≡ 16 * n → all ≡ given ++ out
      → length all ≡ 16 * (length after / 16)
  size_after given out all g o e = ap length e ∙ length-append given out ∙ omega (arith, g, o, count_after)

-- and where bytes stay buffered until the final part
module _ (held : ℕ) (taken piece kept after : List ℕ) (n total len : ℕ) (le : held ≤ 1)
    (k : kept ≡ drop (16 * blocks_done held taken) taken)
    (l : len ≡ length kept) (t : total ≡ len + length piece - held) (is : n ≡ total / 16) (a : after ≡ taken ++ piece) where
  pub whole_held : 16 * blocks_done held taken ≤ length taken
  whole_held = omega arith

  pub count_held : blocks_done held taken + n ≡ blocks_done held after
  count_held =
      ap (λ m. blocks_done held taken + m) (is ∙ ap (λ m. m / 16) (t ∙ ap (λ m. m + length piece - held) l))
      ∙ next_done held taken piece kept le k ∙ ap (blocks_done held) (sym a)

  pub kept_held : (next : List ℕ) → next ≡ drop (16 * n) (kept ++ piece) → next ≡ drop (16 * blocks_done held after) after
  kept_held next e =
      e ∙ next_kept taken piece kept (blocks_done held taken) n whole_held k ∙ (λ i. drop (16 * count_held i) (sym a i))
