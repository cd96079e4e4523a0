-- The value of a wrapping, by what unwrapping gives.
use Rattle.std.proofs.Common.{◌≡◌, ℕ, ◌+◌, ◌%◌, ◌≤◌, Bool, true, ◌==◌, ◌&&◌, List, length, Some, None, bytes_eq, arith, eqb-true, eq-eqb}
use Rattle.std.specs.Prelude.{nat_le}
use Rattle.std.proofs.lemmas.Bool.{and_from, and_parts, leb-true, le-leb}
use Rattle.std.proofs.lemmas.Slice.Eq.{bytes_eq-Decides}
use Rattle.fips_197.specs.Bytes.{AreBytes}
use Rattle.aes_kw.specs.KeyWrap.{IsValue, wrapped}
use Rattle.ops.proofs.Texts.{first_text-only, first_text-none}
use Rattle.mech.specs.Wrappings.{is_value_length, value_wrapped_in}

module _ (key bytes : List ℕ) where
  abbrev is_the_value : List ℕ → Bool
  is_the_value x = is_value_length (length x) && bytes_eq (wrapped key x) bytes

  is-value : (x : List ℕ) → AreBytes x → is_value_length (length x) ≡ true → IsValue x
  is-value x all is =
      let both = and_parts (nat_le 16 (length x)) (length x % 8 == 0) is in
      record { least = leb-true 16 (length x) both.0; whole = eqb-true (length x % 8) 0 both.1; bytes = all }

  wrapped-is : (x : List ℕ) → is_the_value x ≡ true → (is_value_length (length x) ≡ true) × (wrapped key x ≡ bytes)
  wrapped-is x is =
      let both = and_parts (is_value_length (length x)) (bytes_eq (wrapped key x) bytes) is in
      (both.0, (bytes_eq-Decides (wrapped key x) bytes).0 both.1)

  pub some-value : (value : List ℕ) → length value + 8 ≡ length bytes → 24 ≤ length bytes → length bytes % 8 ≡ 0 → AreBytes value
      → wrapped key value ≡ bytes → ((x : List ℕ) → IsValue x → wrapped key x ≡ bytes → x ≡ value) → value_wrapped_in key bytes ≡ Some value
  some-value value size least whole all is only =
      first_text-only (length bytes) is_the_value value all (omega (arith, size))
      (and_from (is_value_length (length value)) (bytes_eq (wrapped key value) bytes)
      (and_from (nat_le 16 (length value)) (length value % 8 == 0) (le-leb 16 (length value) (omega (arith, size, least)))
      (eq-eqb (length value % 8) 0 (omega (arith, size, whole))))
      ((bytes_eq-Decides (wrapped key value) bytes).1 is))
      (λ x hx e. let both = wrapped-is x e in only x (is-value x hx both.0) both.1)

  pub no-value : ((x : List ℕ) → IsValue x → wrapped key x ≡ bytes → ⊥) → value_wrapped_in key bytes ≡ None
  no-value none = first_text-none (length bytes) is_the_value (λ x hx e. let both = wrapped-is x e in none x (is-value x hx both.0) both.1)
