-- Messages by their blocks.
use Rattle.std.proofs.Common.{◌≡◌, ℕ, zero, suc, ◌+◌, ◌-◌, ◌*◌, ◌/◌, ◌<◌, ◌≤◌, List, [], ◌∷◌, ◌++◌, length, take, drop, set, get_or, replicate, if◌then◌else◌, ap, refl, sym, ◌∙◌, arith, eq-eqb, Bool, inl, inr}
use Rattle.std.proofs.lemmas.Bool.{ne_eqb, cases_eq}
use Rattle.std.proofs.lemmas.List.{append_assoc, take_all, take_more, take-append-le, drop_more, drop-append-le, drop-drop, drop-set, drop-replicate, length-drop, length-take-le, set_at}
use Rattle.fips_197.specs.Bytes.{xor_bytes}
use Rattle.fips_197.specs.Texts.{block_of}
use Rattle.fips_197.specs.Encrypt.{encrypted_block}
use Rattle.aes_cmac.specs.Cmac.{first_subkey, second_subkey, count_before_last, last_block, chained}

-- a message of one block
pub block_of-whole : (message : List ℕ) → length message ≡ 16 → block_of message 0 ≡ message
unfolding block_of
block_of-whole message size = take_all 16 message (omega arith)

-- a block of what stands behind q blocks
block_of-drop : (message : List ℕ) (q i : ℕ) → block_of (drop (16 * q) message) i ≡ block_of message (q + i)
unfolding block_of
block_of-drop message q i =
    let sum : 16 * q + 16 * i ≡ 16 * (q + i) = omega arith in
    ap (take 16) (drop-drop (16 * i) (16 * q) message ∙ ap (λ k. drop k message) sum)

-- a whole block stays when more follows
block_of-append : (message more : List ℕ) (i : ℕ) → 16 * i + 16 ≤ length message → block_of (message ++ more) i ≡ block_of message i
unfolding block_of
block_of-append message more i le =
    ap (take 16) (drop-append-le (16 * i) message more (omega arith))
    ∙ take-append-le 16 (drop (16 * i) message) more (omega (arith, length-drop (16 * i) message))

-- and so does what whole blocks are chained to
pub chained-append : (key message more : List ℕ) (i : ℕ) → 16 * i ≤ length message → chained key (message ++ more) i ≡ chained key message i
unfolding chained
chained-append key message more zero le = refl
chained-append key message more (suc i) le =
    λ t. encrypted_block key (xor_bytes (chained-append key message more i (omega arith) t)
    (block_of-append message more i (omega arith) t))

-- a block further, behind q blocks
pub chained-next : (key message text before : List ℕ) (q i : ℕ) → text ≡ drop (16 * q) message → before ≡ chained key message (q + i)
    → encrypted_block key (xor_bytes before (block_of text i)) ≡ chained key message (q + (i + 1))
unfolding chained
chained-next key message text before q i behind is =
    let next : suc (q + i) ≡ q + (i + 1) = omega arith in
    (λ t. encrypted_block key (xor_bytes (is t) ((ap (λ l. block_of l i) behind ∙ block_of-drop message q i) t)))
    ∙ ap (chained key message) next

-- the blocks before the last, as the code counts them
pub blocks_before : (message : List ℕ) → (length message - 1) / 16 ≡ count_before_last message
blocks_before message =
    let count = λ (b : Bool). (if b then 1 else (length message + 15) / 16) - 1 in
    elim (cases_eq (length message) 0) [
      | inl none ↦
          let first : (length message - 1) / 16 ≡ 0 = omega arith in
          first ∙ sym (ap count (eq-eqb (length message) 0 none))
      | inr some ↦
          let further : (length message - 1) / 16 ≡ (length message + 15) / 16 - 1 = omega arith in
          further ∙ sym (ap count (ne_eqb (length message) 0 some))
    ]

-- ---- the last block, by the length of what is behind them

abbrev last_by_test : List ℕ → List ℕ → Bool → List ℕ
last_by_test key rest whole =
    if whole then xor_bytes (first_subkey key) rest
    else xor_bytes (second_subkey key) (rest ++ 0x80 ∷ replicate (15 - length rest) 0)

pub last_block-whole : (key rest : List ℕ) → length rest ≡ 16 → xor_bytes (first_subkey key) rest ≡ last_block key rest
unfolding last_block
last_block-whole key rest whole = sym (ap (last_by_test key rest) (eq-eqb (length rest) 16 whole))

pub last_block-padded : (key rest : List ℕ) → (length rest ≡ 16 → ⊥)
    → xor_bytes (second_subkey key) (rest ++ 0x80 ∷ replicate (15 - length rest) 0) ≡ last_block key rest
unfolding last_block
last_block-padded key rest short = sym (ap (last_by_test key rest) (ne_eqb (length rest) 16 short))

-- ---- bytes written over the first of a block

pub over-more : (bytes start : List ℕ) (i : ℕ) → i < length bytes → i < length start
    → set (take i bytes ++ drop i start) i (get_or bytes i 0) ≡ take (i + 1) bytes ++ drop (i + 1) start
over-more bytes start i lt le =
    let b : ℕ = get_or bytes i 0 in
    let size : length (take i bytes) ≡ i = length-take-le i bytes (omega arith) in
    ap (λ l. set (take i bytes ++ l) i b) (drop_more start i 0 le)
    ∙ set_at (take i bytes) (get_or start i 0) (drop (i + 1) start) b i size
    ∙ sym (ap (λ l. l ++ drop (i + 1) start) (take_more bytes i 0 lt) ∙ append_assoc (take i bytes) (b ∷ []) (drop (i + 1) start))

-- over a bit 1 and bits 0
pub padded-block : (bytes : List ℕ) → length bytes < 16
    → take (length bytes) bytes ++ drop (length bytes) (set (replicate 16 0) (length bytes) 0x80)
    ≡ bytes ++ 0x80 ∷ replicate (15 - length bytes) 0
padded-block bytes lt =
    let n : ℕ = length bytes in
    let left : 16 - (n + 1) ≡ 15 - n = omega arith in
    λ t. take_all n bytes (omega arith) t
    ++ (drop-set (replicate 16 0) n 0x80 lt ∙ ap (λ l. 0x80 ∷ l) (drop-replicate (n + 1) 16 0 ∙ ap (λ k. replicate k 0) left)) t
