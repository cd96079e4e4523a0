-- Blocks row after row.
use Rattle.std.proofs.Common.{◌≡◌, ℕ, List, [], ◌∷◌, length, get_or, refl, sym, subst}
use Rattle.fips_197.specs.Bytes.{IsBlock, xor_bytes}
use Rattle.fips_197.specs.State.{byte_at, state}
use Rattle.fips_197.specs.Cipher.{substitute_bytes, shift_rows}
use Rattle.fips_197.specs.InverseCipher.{inverse_substitute_bytes, inverse_shift_rows}
use Rattle.fips_197.proofs.Blocks.{by_bytes}
use Rattle.aes_vector.specs.Rows.{pick}
use Rattle.aes_planes.specs.Planes.{with_constant}
use Rattle.aes_slices.specs.Rows.{row_by_row, plane_rows_shifted, rows_shifted_last, plane_rows_shifted_back, rows_shifted_back_last, in_rows}
use Rattle.aes_slices.proofs.MadeBlocks.{IsBlock-pick}

pub IsBlock-in_rows : (x : List ℕ) → IsBlock x → IsBlock (in_rows x)
IsBlock-in_rows x block = IsBlock-pick row_by_row x refl block

-- ---- the rows, shifted

pub rows_shifted-of : (x : List ℕ) → length x ≡ 16 → pick plane_rows_shifted (in_rows x) ≡ in_rows (shift_rows x)
unfolding shift_rows state byte_at
rows_shifted-of x size = subst (λ l. pick plane_rows_shifted (in_rows l) ≡ in_rows (shift_rows l)) (sym (by_bytes x size)) refl

pub rows_shifted_last-of : (x : List ℕ) → length x ≡ 16 → pick rows_shifted_last (in_rows x) ≡ shift_rows x
unfolding shift_rows state byte_at
rows_shifted_last-of x size = subst (λ l. pick rows_shifted_last (in_rows l) ≡ shift_rows l) (sym (by_bytes x size)) refl

pub rows_shifted_back-of : (x : List ℕ) → length x ≡ 16 → pick plane_rows_shifted_back (in_rows x) ≡ in_rows (inverse_shift_rows x)
unfolding inverse_shift_rows state byte_at
rows_shifted_back-of x size = subst (λ l. pick plane_rows_shifted_back (in_rows l) ≡ in_rows (inverse_shift_rows l)) (sym (by_bytes x size)) refl

pub rows_shifted_back_last-of : (x : List ℕ) → length x ≡ 16 → pick rows_shifted_back_last (in_rows x) ≡ inverse_shift_rows x
unfolding inverse_shift_rows state byte_at
rows_shifted_back_last-of x size = subst (λ l. pick rows_shifted_back_last (in_rows l) ≡ inverse_shift_rows l) (sym (by_bytes x size)) refl

-- ---- what changes each byte

pub in_rows-constant : (x : List ℕ) → length x ≡ 16 → with_constant (in_rows x) ≡ in_rows (with_constant x)
unfolding with_constant
in_rows-constant x size = subst (λ l. with_constant (in_rows l) ≡ in_rows (with_constant l)) (sym (by_bytes x size)) refl

pub in_rows-substituted : (x : List ℕ) → length x ≡ 16
    → with_constant (substitute_bytes (in_rows x)) ≡ in_rows (with_constant (substitute_bytes x))
unfolding with_constant substitute_bytes
in_rows-substituted x size = subst
    (λ l. with_constant (substitute_bytes (in_rows l)) ≡ in_rows (with_constant (substitute_bytes l))) (sym (by_bytes x size)) refl

pub in_rows-substituted_back : (x : List ℕ) → length x ≡ 16 → inverse_substitute_bytes (in_rows x) ≡ in_rows (inverse_substitute_bytes x)
unfolding inverse_substitute_bytes
in_rows-substituted_back x size =
    subst (λ l. inverse_substitute_bytes (in_rows l) ≡ in_rows (inverse_substitute_bytes l)) (sym (by_bytes x size)) refl

abbrev bytes : List ℕ → List ℕ
bytes x = get_or x 0 0 ∷ get_or x 1 0 ∷ get_or x 2 0 ∷ get_or x 3 0 ∷ get_or x 4 0 ∷ get_or x 5 0 ∷ get_or x 6 0 ∷ get_or x 7 0
    ∷ get_or x 8 0 ∷ get_or x 9 0 ∷ get_or x 10 0 ∷ get_or x 11 0 ∷ get_or x 12 0 ∷ get_or x 13 0 ∷ get_or x 14 0 ∷ get_or x 15 0 ∷ []

pub in_rows-sum : (x y : List ℕ) → length x ≡ 16 → length y ≡ 16 → xor_bytes (in_rows x) (in_rows y) ≡ in_rows (xor_bytes x y)
unfolding xor_bytes
in_rows-sum x y hx hy =
    subst (λ l. xor_bytes (in_rows l) (in_rows y) ≡ in_rows (xor_bytes l y)) (sym (by_bytes x hx))
    (subst (λ m. xor_bytes (in_rows (bytes x)) (in_rows m) ≡ in_rows (xor_bytes (bytes x) m)) (sym (by_bytes y hy)) refl)
