-- What masking leaves as it is.
use Rattle.std.proofs.Common.{◌≡◌, ◌≢◌, ℕ, Bool, true, false, cond, ◌&&◌, not, eqb, List, [], ◌∷◌, Option, Some, None, refl, sym, ap, ◌∙◌, arith}
use Rattle.std.proofs.lemmas.Bool.{eqb-true, ne_eqb}
use Rattle.ck_types.specs.declared.entry.Entry.{Entry}
use Rattle.ck_types.specs.declared.attr_type.AttrType.{AttrType}
use Rattle.ck_types.specs.declared.attr_type.AttrType.TheVariants as attr
use Rattle.ck_types.specs.Numbers.{attr_type_number}
use Rattle.attrs.specs.Objects.{attribute, attribute_of, flag, class_of, number_of, class_at, is_true}
use Rattle.attrs.specs.Masking.{is_masked, without, mask, reveals}

-- the attributes of other types stay
pub attribute-without : (t : AttrType) (es : List Entry) (n : ℕ) → n ≢ attr_type_number t → attribute (without t es) n ≡ attribute es n
attribute-without t [] n other = refl
attribute-without t (e ∷ es) n other =
    let rest = attribute-without t es n other in
    let step : (b : Bool) → eqb e.attr_type (attr_type_number t) ≡ b
    → attribute (cond (not b) (e ∷ without t es) (without t es)) n ≡ attribute (e ∷ es) n =
    λ b. elim b as (λ c. eqb e.attr_type (attr_type_number t) ≡ c
    → attribute (cond (not c) (e ∷ without t es) (without t es)) n ≡ attribute (e ∷ es) n) [
      | true ↦ λ h. let differs : eqb e.attr_type n ≡ false =
          ne_eqb e.attr_type n (λ same. other (sym same ∙ eqb-true e.attr_type (attr_type_number t) h)) in
          rest ∙ sym (ap (λ (c : Bool). cond c (Some e.value) (attribute es n)) differs)
      | false ↦ λ h. ap (λ (o : Option (List ℕ)). cond (eqb e.attr_type n) (Some e.value) o) rest
    ] in
    step (eqb e.attr_type (attr_type_number t)) refl

without-none : (t : AttrType) (es : List Entry) → attribute (without t es) (attr_type_number t) ≡ None
without-none t [] = refl
without-none t (e ∷ es) =
    let rest = without-none t es in
    let step : (b : Bool) → eqb e.attr_type (attr_type_number t) ≡ b
    → attribute (cond (not b) (e ∷ without t es) (without t es)) (attr_type_number t) ≡ None =
    λ b. elim b as (λ c. eqb e.attr_type (attr_type_number t) ≡ c
    → attribute (cond (not c) (e ∷ without t es) (without t es)) (attr_type_number t) ≡ None) [
      | true ↦ λ h. rest
      | false ↦ λ h. ap (λ (c : Bool). cond c (Some e.value) (attribute (without t es) (attr_type_number t))) h ∙ rest
    ] in
    step (eqb e.attr_type (attr_type_number t)) refl

without-without : (t : AttrType) (es : List Entry) → without t (without t es) ≡ without t es
without-without t [] = refl
without-without t (e ∷ es) =
    let rest = without-without t es in
    let step : (b : Bool) → eqb e.attr_type (attr_type_number t) ≡ b
    → without t (cond (not b) (e ∷ without t es) (without t es)) ≡ cond (not b) (e ∷ without t es) (without t es) =
    λ b. elim b as (λ c. eqb e.attr_type (attr_type_number t) ≡ c
    → without t (cond (not c) (e ∷ without t es) (without t es)) ≡ cond (not c) (e ∷ without t es) (without t es)) [
      | true ↦ λ h. rest
      | false ↦ λ h. ap (λ (c : Bool). cond (not c) (e ∷ without t (without t es)) (without t (without t es))) h
          ∙ ap (λ (xs : List Entry). e ∷ xs) rest
    ] in
    step (eqb e.attr_type (attr_type_number t)) refl

-- mask leaves each other attribute
pub attribute-mask : (es : List Entry) (n : ℕ) → n ≢ attr_type_number attr.Value → attribute (mask es) n ≡ attribute es n
attribute-mask es n other =
    let step : (b : Bool) → attribute (cond b (without attr.Value es) es) n ≡ attribute es n =
    λ b. elim b as (λ c. attribute (cond c (without attr.Value es) es) n
    ≡ attribute es n) [ true ↦ attribute-without attr.Value es n other | false ↦ refl ] in
    step (is_masked es)

-- a masked object has no value
pub attribute-mask-value : (es : List Entry) → is_masked es ≡ true → attribute_of (mask es) attr.Value ≡ None
attribute-mask-value es h = ap (λ (b : Bool). attribute_of (cond b (without attr.Value es) es) attr.Value) h ∙ without-none attr.Value es

pub class_of-mask : (es : List Entry) → class_of (mask es) ≡ class_of es
class_of-mask es = ap (λ (v : Option (List ℕ)). class_at (number_of v))
    (attribute-mask es (attr_type_number attr.Class) (λ e. absurd (omega (arith, e))))

pub flag-mask : (es : List Entry) (t : AttrType) → attr_type_number t ≢ attr_type_number attr.Value → flag (mask es) t ≡ flag es t
flag-mask es t other = ap is_true (attribute-mask es (attr_type_number t) other)

-- what is masked stays masked
pub is_masked-mask : (es : List Entry) → is_masked (mask es) ≡ is_masked es
is_masked-mask es =
    let c = class_of-mask es in
    let s = flag-mask es attr.Sensitive (λ e. absurd (omega (arith, e))) in
    let x = flag-mask es attr.Extractable (λ e. absurd (omega (arith, e))) in
    rw (c, s, x) refl

-- masking twice is masking once
pub mask-mask : (es : List Entry) → mask (mask es) ≡ mask es
mask-mask es =
    let step : (b : Bool) → is_masked es ≡ b
    → cond b (without attr.Value (cond b (without attr.Value es) es)) (cond b (without attr.Value es) es)
    ≡ cond b (without attr.Value es) es =
    λ b. elim b as (λ c. is_masked es ≡ c
    → cond c (without attr.Value (cond c (without attr.Value es) es)) (cond c (without attr.Value es) es)
    ≡ cond c (without attr.Value es) es) [
      | true ↦ λ h. without-without attr.Value es
      | false ↦ λ h. refl
    ] in
    ap (λ (b : Bool). cond b (without attr.Value (mask es)) (mask es)) (is_masked-mask es) ∙ step (is_masked es) refl

pub reveals-mask : (es : List Entry) (n : ℕ) → reveals (mask es) n ≡ reveals es n
reveals-mask es n = ap (λ (b : Bool). not (b && eqb n (attr_type_number attr.Value))) (is_masked-mask es)

-- what may not be seen is masked
pub reveals-none : (es : List Entry) (n : ℕ) → reveals es n ≡ false → attribute (mask es) n ≡ None
reveals-none es n kept_back =
    let value : ℕ = attr_type_number attr.Value in
    let step : (m b : Bool) → is_masked es ≡ m → eqb n value ≡ b → not (m && b) ≡ false → attribute (mask es) n ≡ None =
    λ m. elim m as (λ k. (b : Bool) → is_masked es ≡ k → eqb n value ≡ b → not (k && b) ≡ false → attribute (mask es) n ≡ None) [
      | true ↦ λ b. elim b as (λ k. is_masked es ≡ true → eqb n value ≡ k → not (true && k) ≡ false → attribute (mask es) n ≡ None) [
        | true ↦ λ masked is e. ap (attribute (mask es)) (eqb-true n value is) ∙ attribute-mask-value es masked
        | false ↦ λ masked is e. absurd (let no : true ≡ false = e in cc)
      ]
      | false ↦ λ b masked is e. absurd (let no : true ≡ false = e in cc)
    ] in
    step (is_masked es) (eqb n value) refl refl kept_back
