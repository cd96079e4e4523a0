-- Texts by batches of eight blocks.
use Rattle.std.proofs.Common.{◌≡◌, ℕ, ◌+◌, ◌-◌, ◌*◌, ◌<◌, ◌≤◌, List, ◌++◌, length, take, drop, min, ap, sym, ◌∙◌, arith}
use Rattle.std.proofs.lemmas.List.{append-nil, append_assoc, length-append}
use Rattle.fips_197.specs.Texts.{block_of}
use Rattle.aes_slices.proofs.FilledBatches.{block_in_batch}
use Rattle.aes_modes.specs.Blocks.{first_blocks}
use Rattle.aes_modes.proofs.Texts.{first_blocks-text, first_blocks-alike, first_blocks-add}

-- before the first
pub none_yet : (f : ℕ → List ℕ) (o : List ℕ) (blocks : ℕ) → o ≡ o ++ first_blocks f (min 0 blocks)
unfolding first_blocks
none_yet f o blocks =
    let none : min 0 blocks ≡ 0 = omega arith in
    sym (append-nil o) ∙ ap (λ k. o ++ first_blocks f k) (sym none)

-- a batch more, or what is left of one
pub blocks_further : (f : ℕ → List ℕ) (o out batch next : List ℕ) (n blocks m : ℕ) → out ≡ o ++ first_blocks f (min (8 * n) blocks)
    → m ≡ min (blocks - 8 * n) 8 → 8 * n < blocks → ((k : ℕ) → k < m → block_of batch k ≡ f (8 * n + k))
    → next ≡ out ++ take (16 * m) batch → next ≡ o ++ first_blocks f (min (8 * (n + 1)) blocks)
blocks_further f o out batch next n blocks m before count some each is =
    let q : ℕ = 8 * n in
    let here : min (8 * n) blocks ≡ q = omega (arith, some) in
    let more : q + m ≡ min (8 * (n + 1)) blocks = omega (arith, count, some) in
    let new : take (16 * m) batch ≡ first_blocks (λ k. f (q + k)) m =
    sym (first_blocks-text batch m) ∙ first_blocks-alike (block_of batch) (λ k. f (q + k)) m each in
    is ∙ (λ t. (before ∙ ap (λ k. o ++ first_blocks f k) here) t ++ new t)
    ∙ append_assoc o (first_blocks f q) (first_blocks (λ k. f (q + k)) m)
    ∙ ap (λ l. o ++ l) (sym (first_blocks-add f q m) ∙ ap (first_blocks f) more)

-- a block of a batch of a text in two parts
pub block_at_batch : (front piece r : List ℕ) (n k : ℕ)
    → take (length front + length piece - 128 * n) r ≡ take 128 (drop (128 * n) (front ++ piece))
    → k < 8 → 16 * (8 * n + k) + 16 ≤ length front + length piece → block_of r k ≡ block_of (front ++ piece) (8 * n + k)
block_at_batch front piece r n k e lt within =
    block_in_batch (front ++ piece) r n k (ap (λ s. take (s - 128 * n) r) (length-append front piece) ∙ e) lt
    (omega (arith, within, length-append front piece))

-- a batch more of blocks that each come from one block of the text
pub batch_further : (g : List ℕ → List ℕ) (front piece o out batch result next : List ℕ) (n blocks m : ℕ)
    → out ≡ o ++ first_blocks (λ i. g (block_of (front ++ piece) i)) (min (8 * n) blocks) → m ≡ min (blocks - 8 * n) 8
    → 8 * n < blocks → 16 * blocks ≤ length front + length piece
    → take (length front + length piece - 128 * n) batch ≡ take 128 (drop (128 * n) (front ++ piece))
    → ((k : ℕ) → k < m → k < 8 → block_of result k ≡ g (block_of batch k)) → next ≡ out ++ take (16 * m) result
    → next ≡ o ++ first_blocks (λ i. g (block_of (front ++ piece) i)) (min (8 * (n + 1)) blocks)
batch_further g front piece o out batch result next n blocks m before count some enough filled each is =
    blocks_further (λ i. g (block_of (front ++ piece) i)) o out result next n blocks m before count some
    (λ k lt.
    let low : k < 8 = omega (arith, lt, count) in
    let within : 16 * (8 * n + k) + 16 ≤ length front + length piece = omega (arith, lt, some, count, enough) in
    each k lt low ∙ ap g (block_at_batch front piece batch n k filled low within))
    is
