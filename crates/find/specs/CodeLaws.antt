-- Codes decide as an object itself does.
use Rattle.std.proofs.Common.{◌≡◌, ◌≢◌, ◌≤◌, ℕ, ◌+◌, ◌&&◌, not, Bool, true, false, List, [], ◌∷◌, length, map, Option, Some, None, eqb, ap, refl, sym, ◌∙◌, inl, inr, arith}
use Rattle.std.specs.List.{list_any}
use Rattle.std.specs.Str.{bytes_eq}
use Rattle.std.proofs.lemmas.Bool.{and_parts, cases_Bool, cases_eq, eq-eqb, ne_eqb}
use Rattle.std.proofs.lemmas.Slice.Eq.{bytes_eq-Decides}
use Rattle.ck_types.specs.declared.entry.Entry.{Entry}
use Rattle.ck_types.specs.declared.attr_type.AttrType.{AttrType}
use Rattle.ck_types.specs.declared.attr_type.AttrType.TheVariants as attr
use Rattle.ck_types.specs.Numbers.{attr_type_number}
use Rattle.attrs.specs.Objects.{attribute, attribute_of}
use Rattle.attrs.specs.Masking.{is_masked, mask, reveals}
use Rattle.attrs.specs.MaskingLaws.{attribute-mask}
use Rattle.find.specs.Matching.{entry_matches, has_value, template_matches}
use Rattle.find.specs.Codes.{are_decided, code_among, code_for, code_in, code_of, coded, codes_match, codes_of, is_coded, is_decided, known}

-- ---- a code stands for one value

code_among-within : (values : List (List ℕ)) (bytes : List ℕ) → code_among values bytes ≤ length values
code_among-within [] bytes = omega arith
code_among-within (value ∷ values) bytes = elim (cases_Bool (bytes_eq bytes value)) [
  | inl same ↦ rw same (omega arith)
  | inr other ↦ rw other (let rest = code_among-within values bytes in omega (arith, rest))
]

code_among-one : (values : List (List ℕ)) (a b : List ℕ) → code_among values a ≡ code_among values b → code_among values b ≢ 0 → a ≡ b
code_among-one [] a b same some = absurd (some refl)
code_among-one (value ∷ values) a b same some = elim (cases_Bool (bytes_eq a value)) [
  | inl is ↦ elim (cases_Bool (bytes_eq b value)) [
    | inl is_too ↦ (bytes_eq-Decides a value).0 is ∙ sym ((bytes_eq-Decides b value).0 is_too)
    | inr other ↦ let k : 1 + length values ≡ code_among values b = rw (is, other) at same in
        let below = code_among-within values b in absurd (omega (arith, k, below))
  ]
  | inr other ↦ elim (cases_Bool (bytes_eq b value)) [
    | inl is_too ↦ let k : code_among values a ≡ 1 + length values = rw (other, is_too) at same in
        let below = code_among-within values a in absurd (omega (arith, k, below))
    | inr other_too ↦ code_among-one values a b (rw (other, other_too) at same) (rw other_too at some)
  ]
]

-- what is had and what is wanted are equal where their codes are, if the wanted one has a code
has-code : (had : Option (List ℕ)) (wanted : List ℕ) → code_of wanted ≢ 0 → eqb (code_in had) (code_of wanted) ≡ has_value had wanted
has-code None wanted some = let below = code_among-within known wanted in
    ne_eqb 7 (code_of wanted) (λ is. omega (arith, is, below))
has-code (Some value) wanted some = elim (cases_Bool (bytes_eq value wanted)) [
  | inl same ↦ eq-eqb (code_of value) (code_of wanted) (ap code_of ((bytes_eq-Decides value wanted).0 same)) ∙ sym same
  | inr other ↦ ne_eqb (code_of value) (code_of wanted)
      (λ is. let same : true ≡ false = sym ((bytes_eq-Decides value wanted).1 (code_among-one known value wanted is some)) ∙ other in cc)
      ∙ sym other
]

-- ---- the code of an attribute

code_for-coded : (o : List Entry) (ts : List AttrType) (n : ℕ) → list_any (λ t. eqb (attr_type_number t) n) ts ≡ true
    → code_for ts (map (λ t. code_in (attribute_of o t)) ts) n ≡ code_in (attribute o n)
code_for-coded o [] n is = absurd cc
code_for-coded o (t ∷ ts) n is = elim (cases_eq (attr_type_number t) n) [
  | inl same ↦ rw (eq-eqb (attr_type_number t) n same) (ap (λ m. code_in (attribute o m)) same)
  | inr other ↦ rw (ne_eqb (attr_type_number t) n other) (code_for-coded o ts n (rw (ne_eqb (attr_type_number t) n other) at is))
]

-- no value of a key is among them
coded-shown : (o : List Entry) (n : ℕ) → is_coded n ≡ true → reveals o n ≡ true
coded-shown o n is = elim (cases_eq n (attr_type_number attr.Value)) [
  | inl value ↦ let no : false ≡ true = rw value at is in absurd cc
  | inr other ↦ rw (ne_eqb n (attr_type_number attr.Value) other) (step (is_masked o))
] where
  step : (b : Bool) → not (b && false) ≡ true
  step true = refl
  step false = refl

not-zero : (n : ℕ) → not (eqb n 0) ≡ true → n ≢ 0
not-zero n is = λ zero. let no : false ≡ true = rw (eq-eqb n 0 zero) at is in cc

entry-decided : (o : List Entry) (e : Entry) → is_decided e ≡ true
    → eqb (code_for coded (codes_of o) e.attr_type) (code_of e.value) ≡ entry_matches o e
entry-decided o e is =
    let both = and_parts (is_coded e.attr_type) (not (eqb (code_of e.value) 0)) is in
    rw (code_for-coded o coded e.attr_type both.0, coded-shown o e.attr_type both.0)
    (has-code (attribute o e.attr_type) e.value (not-zero (code_of e.value) both.1))

-- ---- what a search may cite

pub codes_match-decided : (o template : List Entry) → are_decided template ≡ true → codes_match (codes_of o) template ≡ template_matches template o
codes_match-decided o [] is = refl
codes_match-decided o (e ∷ template) is =
    let both = and_parts (is_decided e) (are_decided template) is in
    rw (entry-decided o e both.0, codes_match-decided o template both.1) refl

-- the codes are of what may be seen
code-mask : (o : List Entry) (t : AttrType) → attr_type_number t ≢ attr_type_number attr.Value
    → code_in (attribute_of (mask o) t) ≡ code_in (attribute_of o t)
code-mask o t other = ap code_in (attribute-mask o (attr_type_number t) other)

pub codes_of-mask : (o : List Entry) → codes_of (mask o) ≡ codes_of o
codes_of-mask o = each coded refl where
  each : (ts : List AttrType) → list_any (λ t. eqb (attr_type_number t) (attr_type_number attr.Value)) ts ≡ false
      → map (λ t. code_in (attribute_of (mask o) t)) ts ≡ map (λ t. code_in (attribute_of o t)) ts
  each [] none = refl
  each (t ∷ ts) none = elim (cases_eq (attr_type_number t) (attr_type_number attr.Value)) [
    | inl same ↦ let no : true ≡ false = rw (eq-eqb (attr_type_number t) (attr_type_number attr.Value) same) at none in absurd cc
    | inr other ↦ rw (
      code-mask o t other,
      each ts (rw (ne_eqb (attr_type_number t) (attr_type_number attr.Value) other) at none),
    ) refl
  ]
