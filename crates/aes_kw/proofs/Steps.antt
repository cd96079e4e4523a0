-- A step, forward and back.
use Rattle.std.proofs.Common.{◌≡◌, ◌≢◌, ℕ, ◌+◌, ◌-◌, ◌*◌, ◌%◌, ◌<◌, ◌≤◌, List, ◌++◌, length, ap, refl, sym, ◌∙◌, arith, inl, inr, mod-lt}
use Rattle.std.specs.Int.{w64, to_be_bytes}
use Rattle.std.proofs.lemmas.Bool.{cases_eq}
use Rattle.fips_197.specs.Bytes.{AreBytes, IsBlock, xor_bytes}
use Rattle.fips_197.specs.Encrypt.{encrypted_block}
use Rattle.fips_197.specs.KeyExpansion.{IsKey}
use Rattle.fips_197.proofs.Blocks.{length-xor_bytes, xor_bytes-twice, AreBytes-xor_bytes}
use Rattle.fips_197.proofs.KeySchedules.{IsBlock-encrypted_block}
use Rattle.aes_kw.specs.KeyWrap.{half, with_half, step}
use Rattle.aes_kw.proofs.Rows.{length-half, AreBytes-half, half-first, half-second, halves-block, IsBlock-halves, length-with_half, AreBytes-with_half, half-with_same, half-with_other, same_rows}
use Rattle.aes_kw.proofs.Numbers.{AreBytes-to_be_bytes}

pub index-bounds : (n t : ℕ) → 1 ≤ n → (1 ≤ (t - 1) % n + 1) × ((t - 1) % n + 1 ≤ n)
index-bounds n t some = let lt : (t - 1) % n < n = mod-lt (t - 1) some in (omega arith, omega arith)

-- ---- a row of n + 1 halves, of which half 0 and half i are others

module _ (row : List ℕ) (n i : ℕ) (size : length row ≡ 8 * n + 8) (low : 1 ≤ i) (high : i ≤ n) (a r : List ℕ) (sa : length a ≡ 8)
    (sr : length r ≡ 8) where
  inner : length (with_half row 0 a) ≡ length row
  inner = length-with_half row 0 a (omega arith) sa

  pub length-with_two : length (with_half (with_half row 0 a) i r) ≡ 8 * n + 8
  length-with_two = length-with_half (with_half row 0 a) i r (omega (arith, inner)) sr ∙ inner ∙ size

  pub half-with_two_first : half (with_half (with_half row 0 a) i r) 0 ≡ a
  half-with_two_first =
      half-with_other (with_half row 0 a) i 0 r (omega (arith, inner)) sr (omega arith)
      ∙ half-with_same row 0 a (omega arith) sa

  pub half-with_two_same : half (with_half (with_half row 0 a) i r) i ≡ r
  half-with_two_same = half-with_same (with_half row 0 a) i r (omega (arith, inner)) sr

  pub half-with_two_other : (j : ℕ) → j ≢ 0 → j ≢ i → half (with_half (with_half row 0 a) i r) j ≡ half row j
  half-with_two_other j nz ni =
      half-with_other (with_half row 0 a) i j r (omega (arith, inner)) sr ni
      ∙ half-with_other row 0 j a (omega arith) sa nz

  -- it is another row that has these halves, and else the same ones
  pub with_two-is : (other : List ℕ) → length other ≡ 8 * n + 8 → half other 0 ≡ a → half other i ≡ r
      → ((j : ℕ) → j ≢ 0 → j ≢ i → half row j ≡ half other j) → with_half (with_half row 0 a) i r ≡ other
  with_two-is other other_size first same rest =
      same_rows (with_half (with_half row 0 a) i r) other (n + 1) (length-with_two ∙ omega arith) (other_size ∙ omega arith)
      (λ j lt. elim (cases_eq j 0) [
        | inl zero_is ↦ ap (half (with_half (with_half row 0 a) i r)) zero_is ∙ half-with_two_first ∙ sym first
            ∙ ap (half other) (sym zero_is)
        | inr nz ↦ elim (cases_eq j i) [
          | inl i_is ↦ ap (half (with_half (with_half row 0 a) i r)) i_is ∙ half-with_two_same ∙ sym same ∙ ap (half other) (sym i_is)
          | inr ni ↦ half-with_two_other j nz ni ∙ rest j nz ni
        ]
      ])

-- ---- a step, for registers of n halves behind A, under a key

module _ (key : List ℕ) (n t : ℕ) (some : 1 ≤ n) where
  -- the step back undoes the step: d is what A with t added, and R[i], are decrypted to
  pub step-back : (s d check : List ℕ) → length s ≡ 8 * n + 8 → length d ≡ 16 → check ≡ xor_bytes (half s 0) (to_be_bytes w64 t)
      → encrypted_block key d ≡ check ++ half s ((t - 1) % n + 1)
      → step key n t (with_half (with_half s 0 (half d 0)) ((t - 1) % n + 1) (half d 1)) ≡ s
  unfolding step
  step-back s d check size sd check_is is =
      let i : ℕ = (t - 1) % n + 1 in
      let bounds = index-bounds n t some in
      let s0 : length (half s 0) ≡ 8 = length-half s 0 (omega arith) in
      let si : length (half s i) ≡ 8 = length-half s i (omega arith) in
      let d0 : length (half d 0) ≡ 8 = length-half d 0 (omega arith) in
      let d1 : length (half d 1) ≡ 8 = length-half d 1 (omega arith) in
      let sc : length check ≡ 8 = ap length check_is ∙ length-xor_bytes (half s 0) (to_be_bytes w64 t) s0 ∙ s0 in
      let before : List ℕ = with_half (with_half s 0 (half d 0)) i (half d 1) in
      let block : half before 0 ++ half before i ≡ d =
      (λ u. half-with_two_first s n i size bounds.0 bounds.1 (half d 0) (half d 1) d0 d1 u
      ++ half-with_two_same s n i size bounds.0 bounds.1 (half d 0) (half d 1) d0 d1 u) ∙ halves-block d sd in
      let b : encrypted_block key (half before 0 ++ half before i) ≡ check ++ half s i = ap (encrypted_block key) block ∙ is in
      let first : xor_bytes (half (check ++ half s i) 0) (to_be_bytes w64 t) ≡ half s 0 =
      ap (λ l. xor_bytes l (to_be_bytes w64 t)) (half-first check (half s i) sc ∙ check_is)
      ∙ xor_bytes-twice (half s 0) (to_be_bytes w64 t) s0 in
      let second : half (check ++ half s i) 1 ≡ half s i = half-second check (half s i) sc si in
      let before_size : length before ≡ 8 * n + 8 = length-with_two s n i size bounds.0 bounds.1 (half d 0) (half d 1) d0 d1 in
      ap (λ e. with_half (with_half before 0 (xor_bytes (half e 0) (to_be_bytes w64 t))) i (half e 1)) b
      ∙ (λ u. with_half (with_half before 0 (first u)) i (second u))
      ∙ with_two-is before n i before_size bounds.0 bounds.1 (half s 0) (half s i) s0 si s size refl refl
      (λ j nz ni. half-with_two_other s n i size bounds.0 bounds.1 (half d 0) (half d 1) d0 d1 j nz ni)

  module _ (is_key : IsKey key) (x : List ℕ) (bytes : AreBytes x) (size : length x ≡ 8 * n + 8) where
    -- what a step encrypts, and what that is encrypted to
    pub IsBlock-step : IsBlock (half x 0 ++ half x ((t - 1) % n + 1))
    IsBlock-step =
        let bounds = index-bounds n t some in
        IsBlock-halves (half x 0) (half x ((t - 1) % n + 1)) (length-half x 0 (omega arith)) (length-half x ((t - 1) % n + 1) (omega arith))
        (AreBytes-half x 0 bytes) (AreBytes-half x ((t - 1) % n + 1) bytes)

    IsBlock-encrypted : IsBlock (encrypted_block key (half x 0 ++ half x ((t - 1) % n + 1)))
    IsBlock-encrypted = IsBlock-encrypted_block key (half x 0 ++ half x ((t - 1) % n + 1)) is_key IsBlock-step

    -- what a step encrypts to, and the A and the register that it makes
    abbrev index : ℕ
    index = (t - 1) % n + 1

    abbrev after : List ℕ
    after = encrypted_block key (half x 0 ++ half x index)

    abbrev check_after : List ℕ
    check_after = xor_bytes (half after 0) (to_be_bytes w64 t)

    length-first : length (half after 0) ≡ 8
    length-first = let is_block : IsBlock after = IsBlock-encrypted in length-half after 0 (omega (arith, is_block.size))

    length-second : length (half after 1) ≡ 8
    length-second = let is_block : IsBlock after = IsBlock-encrypted in length-half after 1 (omega (arith, is_block.size))

    length-check : length check_after ≡ 8
    length-check = length-xor_bytes (half after 0) (to_be_bytes w64 t) length-first ∙ length-first

    pub length-step : length (step key n t x) ≡ 8 * n + 8
    unfolding step
    length-step = let bounds = index-bounds n t some in
        length-with_two x n index size bounds.0 bounds.1 check_after (half after 1) length-check length-second

    pub AreBytes-step : AreBytes (step key n t x)
    unfolding step
    AreBytes-step =
        let is_block : IsBlock after = IsBlock-encrypted in
        AreBytes-with_half (with_half x 0 check_after) index (half after 1)
        (AreBytes-with_half x 0 check_after bytes
        (AreBytes-xor_bytes (half after 0) (to_be_bytes w64 t) length-first (AreBytes-half after 0 is_block.bytes)
        (AreBytes-to_be_bytes t)))
        (AreBytes-half after 1 is_block.bytes)

    -- from registers after a step: what the step encrypted, to what
    pub step-block : (s check : List ℕ) → step key n t x ≡ s → check ≡ xor_bytes (half s 0) (to_be_bytes w64 t)
        → encrypted_block key (half x 0 ++ half x ((t - 1) % n + 1)) ≡ check ++ half s ((t - 1) % n + 1)
    unfolding step
    step-block s check is check_is =
        let bounds = index-bounds n t some in
        let is_block : IsBlock after = IsBlock-encrypted in
        let first : half s 0 ≡ check_after =
        ap (λ r. half r 0) (sym is) ∙ half-with_two_first x n index size bounds.0 bounds.1 check_after
        (half after 1) length-check length-second in
        let same : half s index ≡ half after 1 =
        ap (λ r. half r index) (sym is)
        ∙ half-with_two_same x n index size bounds.0 bounds.1 check_after (half after 1) length-check length-second in
        let added : check ≡ half after 0 =
        check_is ∙ ap (λ l. xor_bytes l (to_be_bytes w64 t)) first ∙ xor_bytes-twice (half after 0) (to_be_bytes w64 t) length-first in
        sym ((λ u. added u ++ same u) ∙ halves-block after is_block.size)

    -- and the registers before it
    pub step-only : (s d : List ℕ) → step key n t x ≡ s → half x 0 ++ half x ((t - 1) % n + 1) ≡ d
        → x ≡ with_half (with_half s 0 (half d 0)) ((t - 1) % n + 1) (half d 1)
    unfolding step
    step-only s d is block =
        let bounds = index-bounds n t some in
        let x0 : length (half x 0) ≡ 8 = length-half x 0 (omega arith) in
        let xi : length (half x index) ≡ 8 = length-half x index (omega arith) in
        let s_size : length s ≡ 8 * n + 8 =
        ap length (sym is) ∙ length-with_two x n index size bounds.0 bounds.1 check_after (half after 1) length-check length-second in
        let first : half d 0 ≡ half x 0 = ap (λ e. half e 0) (sym block) ∙ half-first (half x 0) (half x index) x0 in
        let second : half d 1 ≡ half x index = ap (λ e. half e 1) (sym block) ∙ half-second (half x 0) (half x index) x0 xi in
        sym ((λ u. with_half (with_half s 0 (first u)) index (second u))
        ∙ with_two-is s n index s_size bounds.0 bounds.1 (half x 0) (half x index) x0 xi x size refl refl
        (λ j nz ni. ap (λ r. half r j) (sym is)
        ∙ half-with_two_other x n index size bounds.0 bounds.1 check_after (half after 1) length-check length-second j nz ni))
