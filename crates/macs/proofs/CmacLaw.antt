-- CMAC of a message and bytes more, from what is kept of the message.
use Rattle.std.proofs.Common.{◌≡◌, ℕ, ◌+◌, ◌-◌, ◌*◌, ◌/◌, ◌%◌, ◌≤◌, List, [], ◌++◌, length, take, drop, replicate, ap, sym, ◌∙◌, arith}
use Rattle.std.proofs.lemmas.List.{append_assoc, take_at, drop-append-le, drop-drop, drop_at, length-append, length-drop, length-take-le}
use borrow.Rule.Slice.PartMut.{put_mid}
use Rattle.aes_cmac.specs.Cmac.{count_before_last, chained}
use Rattle.aes_cmac.proofs.Messages.{blocks_before, chained-append}

-- no block stands before the last
pub begun_chain : (key chain taken : List ℕ) → chain ≡ replicate 16 0 → taken ≡ [] → chain ≡ chained key taken (count_before_last taken)
unfolding chained
begun_chain key chain taken is none = is ∙ ap (λ l. chained key l (count_before_last l)) (sym none)

pub begun_last : (last taken : List ℕ) → last ≡ [] → taken ≡ [] → last ≡ drop (16 * count_before_last taken) taken
begun_last last taken is none = is ∙ ap (λ l. drop (16 * count_before_last l) l) (sym none)

pub begun_size : (taken : List ℕ) → taken ≡ [] → 16 * count_before_last taken + 0 ≡ length taken
begun_size taken none = ap (λ l. 16 * count_before_last l + 0) none ∙ sym (ap length none)

-- the blocks before the last are whole
whole : (taken : List ℕ) → 16 * count_before_last taken ≤ length taken
whole taken = omega (arith, blocks_before taken)

-- bytes written into a block behind its first n
pub written : (block bytes new : List ℕ) (n total : ℕ) → n ≤ length block → total ≡ n + length bytes → new ≡ bytes
    → take total (put_mid n (total - n) block new) ≡ take n block ++ bytes
written block bytes new n total fits sum is =
    let front : List ℕ = take n block in
    let rest : List ℕ = drop (total - n) (drop n block) in
    let size : length (front ++ bytes) ≡ total = omega (arith, length-append front bytes, length-take-le n block fits) in
    ap (λ b. take total (front ++ (b ++ rest))) is ∙ ap (take total) (sym (append_assoc front bytes rest))
    ∙ take_at (front ++ bytes) rest total size

-- ---- where bytes fit the last block

module _ (taken bytes after : List ℕ) (room : length taken + length bytes ≤ 16 * count_before_last taken + 16)
    (is : after ≡ taken ++ bytes) where
  count_filled : count_before_last taken ≡ count_before_last after
  count_filled =
      let same : count_before_last taken ≡ count_before_last (taken ++ bytes) =
      omega (arith, length-append taken bytes, blocks_before taken, blocks_before (taken ++ bytes)) in
      same ∙ ap count_before_last (sym is)

  pub chain_filled : (key chain : List ℕ) → chain ≡ chained key taken (count_before_last taken)
      → chain ≡ chained key after (count_before_last after)
  chain_filled key chain e =
      e ∙ sym (chained-append key taken bytes (count_before_last taken) (whole taken)) ∙ (λ t. chained key (sym is t) (count_filled t))

  pub last_filled : (last next : List ℕ) → last ≡ drop (16 * count_before_last taken) taken → next ≡ last ++ bytes
      → next ≡ drop (16 * count_before_last after) after
  last_filled last next e new =
      new ∙ ap (λ l. l ++ bytes) e ∙ sym (drop-append-le (16 * count_before_last taken) taken bytes (whole taken))
      ∙ (λ t. drop (16 * count_filled t) (sym is t))

  pub size_filled : (n : ℕ) → 16 * count_before_last taken + n ≡ length taken
      → 16 * count_before_last after + (n + length bytes) ≡ length after
  size_filled n e = omega (arith, count_filled, ap length is ∙ length-append taken bytes, e)

-- ---- where bytes follow a whole block

module _ (taken bytes after : List ℕ) (some : 1 ≤ length bytes) (before : 1 ≤ length taken) (full : length taken % 16 ≡ 0)
    (is : after ≡ taken ++ bytes) where
  -- how many of the bytes' blocks stand before the last
  abbrev pub blocks : ℕ
  blocks = (length bytes - 1) / 16

  size : 16 * (count_before_last taken + 1) ≡ length taken
  size = omega (arith, blocks_before taken)

  pub last-whole : (n : ℕ) → 16 * count_before_last taken + n ≡ length taken → n ≡ 16
  last-whole n e = omega (arith, size, e)

  count_further : count_before_last taken + 1 + blocks ≡ count_before_last after
  count_further =
      let sum : count_before_last taken + 1 + blocks ≡ count_before_last (taken ++ bytes) =
      omega (arith, length-append taken bytes, blocks_before taken, blocks_before (taken ++ bytes)) in
      sum ∙ ap count_before_last (sym is)

  behind : bytes ≡ drop (16 * (count_before_last taken + 1)) (taken ++ bytes)
  behind = sym (drop_at taken bytes (16 * (count_before_last taken + 1)) (sym size))

  pub chain_further : (key chain last first next : List ℕ) → chain ≡ chained key taken (count_before_last taken)
      → last ≡ drop (16 * count_before_last taken) taken
      → ((message : List ℕ) (q : ℕ) → last ≡ drop (16 * q) message → chain ≡ chained key message q → first ≡ chained key message (q + 1))
      → ((message : List ℕ) (q : ℕ) → bytes ≡ drop (16 * q) message → first ≡ chained key message q
      → next ≡ chained key message (q + blocks))
      → next ≡ chained key after (count_before_last after)
  chain_further key chain last first next c l one more =
      let q : ℕ = count_before_last taken + 1 in
      let le : 16 * q ≤ length taken = omega (arith, size) in
      more (taken ++ bytes) q behind (one taken (count_before_last taken) l c ∙ sym (chained-append key taken bytes q le))
      ∙ (λ t. chained key (sym is t) (count_further t))

  pub last_further : (next : List ℕ) → next ≡ drop (16 * blocks) bytes → next ≡ drop (16 * count_before_last after) after
  last_further next e =
      let q : ℕ = count_before_last taken + 1 in
      let sum : 16 * blocks + 16 * q ≡ 16 * (q + blocks) = omega arith in
      let swap : 16 * q + 16 * blocks ≡ 16 * (q + blocks) = omega arith in
      e ∙ ap (drop (16 * blocks)) behind ∙ drop-drop (16 * blocks) (16 * q) (taken ++ bytes)
      ∙ ap (λ k. drop k (taken ++ bytes)) swap ∙ (λ t. drop (16 * count_further t) (sym is t))

  pub size_further : (rest : List ℕ) → rest ≡ drop (16 * blocks) bytes → 16 * count_before_last after + length rest ≡ length after
  size_further rest e =
      omega (arith, count_further, size, ap length is ∙ length-append taken bytes, ap length e ∙ length-drop (16 * blocks) bytes)

  pub fits_further : (rest : List ℕ) → rest ≡ drop (16 * blocks) bytes → length rest ≤ 16
  fits_further rest e = omega (arith, ap length e ∙ length-drop (16 * blocks) bytes)
