-- What a padded text ends with.
use Rattle.std.proofs.Common.{◌≡◌, ℕ, ◌+◌, ◌-◌, ◌*◌, ◌/◌, ◌%◌, ◌<◌, ◌≤◌, List, ◌++◌, length, take, drop, get_or, replicate, ap, refl, sym, subst, ◌∙◌, arith, length-append}
use Rattle.std.proofs.lemmas.List.{take_at, get_or-append_right, get_or-replicate, take-append-drop, same_lists, get_or-drop, get_or_default, length-drop, length-take-le, length-replicate}
use Rattle.std.proofs.lemmas.List.Elements.{All-append, All-from_get_or}
use Rattle.fips_197.specs.Bytes.{AreBytes, xor_bytes}
use Rattle.fips_197.specs.Encrypt.{encrypted_block}
use Rattle.fips_197.specs.Texts.{block_of}
use Rattle.aes_modes.specs.Blocks.{IsWhole}
use Rattle.aes_modes.specs.Modes.{chained, cbc_block, cbc_blocks, cbc_pad_encrypted}
use Rattle.aes_modes.specs.Padding.{pad_count, padded}
use Rattle.aes_modes.proofs.Texts.{block_of-rest, block_of-behind, first_blocks-append}
use Rattle.aes_modes.proofs.Chains.{chained-append, chained-more, cbc_block-append, cbc_blocks-more}

pub length-padded : (x : List ℕ) → length (padded x) ≡ length x + pad_count x
unfolding padded
length-padded x =
    length-append x (replicate (pad_count x) (pad_count x))
    ∙ ap (λ k. length x + k) (length-replicate (pad_count x) (pad_count x))

take-padded : (x : List ℕ) → take (length x) (padded x) ≡ x
unfolding padded
take-padded x = take_at x (replicate (pad_count x) (pad_count x)) (length x) refl

pub pad_count-bounds : (x : List ℕ) → (1 ≤ pad_count x) × (pad_count x ≤ 16)
unfolding pad_count
pad_count-bounds x = (omega arith, omega arith)

-- a padded text has one block more than the text has whole ones
pub length-padded-blocks : (x : List ℕ) → length (padded x) ≡ 16 * (length x / 16 + 1)
unfolding pad_count
length-padded-blocks x = length-padded x ∙ omega arith

pub IsWhole-padded : (x : List ℕ) → IsWhole (padded x)
IsWhole-padded x = omega (arith, length-padded-blocks x)

pub AreBytes-padded : (x : List ℕ) → AreBytes x → AreBytes (padded x)
unfolding padded
AreBytes-padded x bytes =
    let k : ℕ = pad_count x in
    let b = pad_count-bounds x in
    All-append (λ y. y < 256) x (replicate k k) bytes
    (All-from_get_or (λ y. y < 256) (replicate k k) 0 (λ i lt.
    rw (get_or-replicate k i k 0 (omega (arith, length-replicate k k))) (omega arith)))

padded-at : (x : List ℕ) (j : ℕ) → length x ≤ j → j < length x + pad_count x → get_or (padded x) j 0 ≡ pad_count x
unfolding padded
padded-at x j le lt =
    get_or-append_right x (replicate (pad_count x) (pad_count x)) (length x) j 0 refl le
    ∙ get_or-replicate (pad_count x) (j - length x) (pad_count x) 0 (omega arith)

-- the last byte of a padded text is the count, and the count is from 1 to 16
pub last-padded : (x text : List ℕ) → padded x ≡ text
    → (get_or text (length text - 1) 0 ≡ pad_count x) × (1 ≤ pad_count x) × (pad_count x ≤ 16) × (length text ≡ length x + pad_count x)
last-padded x text e =
    let n : length text ≡ length x + pad_count x = ap length (sym e) ∙ length-padded x in
    let b = pad_count-bounds x in
    let at : get_or (padded x) (length text - 1) 0 ≡ pad_count x = padded-at x (length text - 1) (omega arith) (omega arith) in
    (ap (λ t. get_or t (length text - 1) 0) (sym e) ∙ at, b.0, b.1, n)

-- each byte of the padding is the count
pub each-padded : (x text : List ℕ) (j : ℕ) → padded x ≡ text → length text - pad_count x ≤ j → j < length text
    → get_or text j 0 ≡ pad_count x
each-padded x text j e le lt =
    let n : length text ≡ length x + pad_count x = ap length (sym e) ∙ length-padded x in
    ap (λ t. get_or t j 0) (sym e) ∙ padded-at x j (omega arith) (omega arith)

-- a text that ends so is a padded text
pub padded-from : (text : List ℕ) (k n : ℕ) → length text % 16 ≡ 0 → 1 ≤ k → k ≤ 16 → n + k ≡ length text
    → ((j : ℕ) → n ≤ j → j < length text → get_or text j 0 ≡ k) → padded (take n text) ≡ text
unfolding padded pad_count
padded-from text k n whole low high sum each =
    let l : length (take n text) ≡ n = length-take-le n text (omega arith) in
    let c : 16 - length (take n text) % 16 ≡ k = omega arith in
    let size : length (replicate k k) ≡ k = length-replicate k k in
    let rest : replicate k k ≡ drop n text =
    same_lists (replicate k k) (drop n text) (size ∙ omega (arith, length-drop n text))
    (λ j d lt. get_or-replicate k j k d (subst (λ z. j < z) size lt)
    ∙ sym (each (n + j) (omega arith) (omega arith))
    ∙ get_or_default text (n + j) 0 d (omega arith) ∙ sym (get_or-drop n text j d)) in
    (λ t. take n text ++ replicate (c t) (c t)) ∙ ap (λ r. take n text ++ r) rest ∙ take-append-drop n text

-- no two texts have one padded text
pub padded-only : (x y : List ℕ) → padded x ≡ padded y → x ≡ y
padded-only x y same =
    let px = last-padded x (padded y) same in
    let py = last-padded y (padded y) refl in
    let size : length x ≡ length y = omega (arith, px.0, py.0, px.3, py.3) in
    sym (take-padded x) ∙ (λ t. take (size t) (same t)) ∙ take-padded y

-- ---- a padded text by its blocks

-- the last block: the bytes behind the whole blocks of the text, and the padding
pub padded-last : (text : List ℕ)
    → block_of text (length text / 16) ++ replicate (16 - length text % 16) (16 - length text % 16)
    ≡ block_of (padded text) (length text / 16)
unfolding padded pad_count
padded-last text =
    let n : ℕ = length text / 16 in
    let rest : List ℕ = drop (16 * n) text in
    let k : ℕ = 16 - length text % 16 in
    let whole : length (rest ++ replicate k k) ≤ 16 =
    omega (arith, length-append rest (replicate k k), length-replicate k k, length-drop (16 * n) text) in
    ap (λ l. l ++ replicate k k) (sym (block_of-rest text)) ∙ sym (block_of-behind text (replicate k k) n (omega arith) whole)

whole_blocks : (key iv text : List ℕ) (n : ℕ) → 16 * n ≤ length text → cbc_blocks key iv (padded text) n ≡ cbc_blocks key iv text n
unfolding padded
whole_blocks key iv text n le =
    first_blocks-append (cbc_block key iv) (cbc_block-append key iv) text (replicate (pad_count text) (pad_count text)) n le

whole_chained : (key iv text : List ℕ) (n : ℕ) → 16 * n ≤ length text → chained key iv (padded text) n ≡ chained key iv text n
unfolding padded
whole_chained key iv text n le = chained-append key iv text (replicate (pad_count text) (pad_count text)) n le

-- a padded text under CBC: the whole blocks of the text, and the last block
pub cbc_pad-blocks : (key iv text : List ℕ)
    → cbc_blocks key iv text (length text / 16)
    ++ encrypted_block key (xor_bytes (block_of (padded text) (length text / 16)) (chained key iv text (length text / 16)))
    ≡ cbc_pad_encrypted key iv text
cbc_pad-blocks key iv text =
    let n : ℕ = length text / 16 in
    let count : length (padded text) / 16 ≡ n + 1 = omega (arith, length-padded-blocks text) in
    (λ t. sym (whole_blocks key iv text n (omega arith)) t
    ++ (chained-more key iv (padded text) (chained key iv text n) n (sym (whole_chained key iv text n (omega arith)))) t)
    ∙ cbc_blocks-more key iv (padded text) (cbc_blocks key iv (padded text) n) (chained key iv (padded text) (n + 1)) n refl refl
    ∙ ap (cbc_blocks key iv (padded text)) (sym count)
