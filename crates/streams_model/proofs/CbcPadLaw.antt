-- The end of CBC with padding.
use Rattle.std.proofs.Common.{◌≡◌, ℕ, ◌+◌, ◌-◌, ◌*◌, ◌/◌, ◌%◌, ◌<◌, ◌≤◌, List, [], ◌++◌, length, take, drop, replicate, ap, sym, ◌∙◌, arith}
use Rattle.std.proofs.lemmas.List.{append_assoc, append-nil, take_all, take-append-drop, drop_at, length-append, length-drop, length-take-le}
use Rattle.std.proofs.lemmas.List.Elements.{All-append}
use Rattle.fips_197.specs.Bytes.{AreBytes, xor_bytes}
use Rattle.fips_197.specs.Encrypt.{encrypted_block}
use Rattle.fips_197.specs.Texts.{block_of}
use Rattle.aes_modes.specs.Modes.{chained, cbc_blocks, cbc_encrypted, cbc_pad_encrypted}
use Rattle.aes_modes.specs.Padding.{padded, pad_count}
use Rattle.aes_modes.proofs.Texts.{block_of-drop, block_of-rest}
use Rattle.aes_modes.proofs.Chains.{chained-back, cbc_blocks-back}
use Rattle.aes_modes.proofs.Only.{cbc_encrypted-only, cbc_pad_encrypted-only}
use Rattle.aes_modes.proofs.Paddings.{AreBytes-padded, IsWhole-padded, length-padded-blocks, padded-last, cbc_pad-blocks}
use Rattle.streams_model.specs.Flows.{blocks_done}
use Rattle.streams_model.specs.CbcFlows.{IsCbcEncrypted, IsCbcDecrypted}

-- ---- encrypting: the block behind the whole ones

pub padded_end : (key iv taken given chain kept last block : List ℕ) (count : ℕ)
    → IsCbcEncrypted (record { iv = iv; key = key; held = 0; taken = taken; given = given })
    → chain ≡ chained key iv taken (length taken / 16) → kept ≡ drop (16 * (length taken / 16)) taken
    → count ≡ 16 - length kept → last ≡ kept ++ replicate (16 - length kept) count → block ≡ encrypted_block key (xor_bytes last chain)
    → given ++ block ≡ cbc_pad_encrypted key iv taken
padded_end key iv taken given chain kept last block count g c k pad is e =
    let n : ℕ = length taken / 16 in
    let size : length kept ≡ length taken % 16 = ap length k ∙ length-drop (16 * n) taken ∙ omega arith in
    let filled : last ≡ block_of (padded taken) n =
    is ∙ (λ t. (k ∙ block_of-rest taken) t ++ replicate (16 - size t) ((pad ∙ ap (λ m. 16 - m) size) t)) ∙ padded-last taken in
    (λ t. g.out t ++ (e ∙ (λ j. encrypted_block key (xor_bytes (filled j) (c j)))) t) ∙ cbc_pad-blocks key iv taken

-- ---- decrypting

-- whole blocks before a text leave its padding
append_padded : (xs ys : List ℕ) (q : ℕ) → length xs ≡ 16 * q → padded (xs ++ ys) ≡ xs ++ padded ys
unfolding padded pad_count
append_padded xs ys q size =
    let k : 16 - length (xs ++ ys) % 16 ≡ 16 - length ys % 16 = omega (arith, length-append xs ys) in
    (λ i. (xs ++ ys) ++ replicate (k i) (k i)) ∙ append_assoc xs ys (replicate (16 - length ys % 16) (16 - length ys % 16))

-- a padded text that begins with q blocks and has one more
padded_tail : (x xs last : List ℕ) (q : ℕ) → length xs ≡ 16 * q → length last ≡ 16 → padded x ≡ xs ++ last → padded (drop (16 * q) x) ≡ last
padded_tail x xs last q size one same =
    let le : 16 * q ≤ length x = omega (arith, length-padded-blocks x, ap length same, length-append xs last) in
    let n : length (take (16 * q) x) ≡ 16 * q = length-take-le (16 * q) x le in
    sym (drop_at (take (16 * q) x) (padded (drop (16 * q) x)) (16 * q) n)
    ∙ ap (drop (16 * q)) (sym (append_padded (take (16 * q) x) (drop (16 * q) x) q n) ∙ ap padded (take-append-drop (16 * q) x) ∙ same)
    ∙ drop_at xs last (16 * q) size

-- what is kept is the last block
kept-block : (taken kept : List ℕ) (q : ℕ) → kept ≡ drop (16 * q) taken → block_of (kept ++ []) 0 ≡ block_of taken q
kept-block taken kept q k =
    let none : q + 0 ≡ q = omega arith in
    ap (λ l. block_of l 0) (append-nil kept ∙ k) ∙ block_of-drop taken q 0 ∙ ap (block_of taken) none

module _ (key iv given taken chain kept d last block : List ℕ) (held : ℕ)
    (g : IsCbcDecrypted (record { iv = iv; key = key; held = held; taken = taken; given = given }))
    (c : chain ≡ chained key iv given (blocks_done held taken)) (k : kept ≡ drop (16 * blocks_done held taken) taken)
    (size : length kept ≡ 16) (b : block ≡ block_of (kept ++ []) 0) (back : encrypted_block key d ≡ block)
    (is : last ≡ xor_bytes d chain) (dl : length d ≡ 16) (cl : length chain ≡ 16) (ll : length last ≡ 16) where
  abbrev pub q : ℕ
  q = blocks_done held taken

  count : length taken ≡ 16 * q + 16
  count = omega (arith, size, ap length k ∙ length-drop (16 * q) taken)

  ended_back : cbc_encrypted key iv (given ++ last) ≡ taken
  ended_back =
      let n : length (given ++ last) / 16 ≡ q + 1 = omega (arith, length-append given last, g.size, ll) in
      let p : length (xor_bytes d chain) ≡ 16 = ap length (sym is) ∙ ll in
      ap (cbc_blocks key iv (given ++ last)) n
      ∙ ap (λ x. cbc_blocks key iv (given ++ x) (q + 1)) is
      ∙ cbc_blocks-back key iv taken given (xor_bytes d chain) block q g.size g.back (b ∙ kept-block taken kept q k)
      (chained-back key iv given d chain block q g.size p (dl ∙ sym cl) c back)
      ∙ take_all (16 * (q + 1)) taken (omega (arith, count))

  pub ended_value : (out : List ℕ) → padded out ≡ last → cbc_pad_encrypted key iv (given ++ out) ≡ taken
  ended_value out found =
      ap (cbc_encrypted key iv) (append_padded given out q g.size ∙ ap (λ x. given ++ x) found) ∙ ended_back

  pub ended_only : (out : List ℕ) → padded out ≡ last → AreBytes out → (x : List ℕ) → AreBytes x
      → cbc_pad_encrypted key iv x ≡ taken → x ≡ given ++ out
  ended_only out found bytes x hx same =
      cbc_pad_encrypted-only key g.is_key iv x (given ++ out) g.block hx (All-append (λ y. y < 256) given out g.bytes bytes)
      (same ∙ sym (ended_value out found))

  pub ended_none : AreBytes last → (x : List ℕ) → AreBytes x → cbc_pad_encrypted key iv x ≡ taken → padded (drop (16 * q) x) ≡ last
  ended_none bytes x hx same =
      padded_tail x given last q g.size ll
      (cbc_encrypted-only key g.is_key iv (padded x) (given ++ last) g.block (AreBytes-padded x hx)
      (All-append (λ y. y < 256) given last g.bytes bytes)
      (IsWhole-padded x) (omega (arith, length-append given last, g.size, ll)) (same ∙ sym ended_back))
