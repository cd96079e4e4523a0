-- Lists of entries and rows.
use Rattle.std.proofs.Common.{◌≡◌, ℕ, Bool, true, false, cond, ◌||◌, not, eqb, List, [], ◌∷◌, Some, refl}
use Rattle.std.specs.Prelude.{filter, map}
use Rattle.std.specs.List.{list_any, AllByRecursion}
use Rattle.std.proofs.lemmas.Bool.{eqb-true, eq-eqb}
use Rattle.ck_types.specs.declared.entry.Entry.{Entry}
use Rattle.attrs.specs.declared.table.AttributeRow.{AttributeRow}
use Rattle.attrs.specs.Table.{row_number}
use Rattle.attrs.specs.Objects.{attribute, fits_rows, has_form}

pub both_false : (a b : Bool) → (a || b) ≡ false → (a ≡ false) × (b ≡ false)
both_false true b e = absurd cc
both_false false b e = (refl, e)

pub not_false : (a : Bool) → not a ≡ false → a ≡ true
not_false true e = refl
not_false false e = absurd cc

-- the entry that gives a value
pub record Gives (es : List Entry) (n : ℕ) (v : List ℕ) (p : Entry → Bool) : Type 0 where
  pub entry : Entry
  pub number_is : entry.attr_type ≡ n
  pub value_is : entry.value ≡ v
  pub fails : p entry ≡ false

-- a test that no entry passes fails for the entry that gives a value
pub any_false-attribute : (p : Entry → Bool) (es : List Entry) (n : ℕ) (v : List ℕ) → list_any p es ≡ false
    → attribute es n ≡ Some v → Gives es n v p
any_false-attribute p [] n v none e = absurd cc
any_false-attribute p (x ∷ es) n v none e =
    let f = both_false (p x) (list_any p es) none in
    let step : (b : Bool) → eqb x.attr_type n ≡ b → cond b (Some x.value) (attribute es n) ≡ Some v → Gives (x ∷ es) n v p =
    λ b. elim b as (λ c. eqb x.attr_type n ≡ c → cond c (Some x.value) (attribute es n) ≡ Some v → Gives (x ∷ es) n v p) [
      | true ↦ λ h k. record { entry = x; number_is = eqb-true x.attr_type n h; value_is = cc; fails = f.0 }
      | false ↦ λ h k. let g = any_false-attribute p es n v f.1 k in
          record { entry = g.entry; number_is = g.number_is; value_is = g.value_is; fails = g.fails }
    ] in
    step (eqb x.attr_type n) refl e

-- what holds of each row holds of each that passes a test
pub AllByRecursion-filter : (P : AttributeRow → Type 0) (p : AttributeRow → Bool) (rs : List AttributeRow) → AllByRecursion P rs
    → AllByRecursion P (filter p rs)
AllByRecursion-filter P p [] all = tt
AllByRecursion-filter P p (r ∷ rs) all =
    let rest = AllByRecursion-filter P p rs all.1 in
    let step : (b : Bool) → AllByRecursion P (cond b (r ∷ filter p rs) (filter p rs)) =
    λ b. elim b as (λ c. AllByRecursion P (cond c (r ∷ filter p rs) (filter p rs))) [ true ↦ (all.0, rest) | false ↦ rest ] in
    step (p r)

-- entries that are made of rows fit them
pub fits_rows-map : (f : AttributeRow → List ℕ) (rs : List AttributeRow) → AllByRecursion (λ r. has_form r.form (f r) ≡ true) rs
    → fits_rows rs (map (λ r. record { attr_type = row_number r; value = f r }) rs) ≡ true
fits_rows-map f [] all = refl
fits_rows-map f (r ∷ rs) all = rw (eq-eqb (row_number r) (row_number r) refl, all.0) (fits_rows-map f rs all.1)
