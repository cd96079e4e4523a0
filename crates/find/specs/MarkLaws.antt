-- A mark excludes no object that the template finds, and has nothing of a value that is masked.
use Rattle.std.proofs.Common.{◌≡◌, ℕ, not, Bool, true, false, List, [], ◌∷◌, Option, Some, None, ap, refl, sym, ◌∙◌, inl, inr, arith}
use Rattle.std.specs.Cmp.{booleans_Decides}
use Rattle.std.specs.Option.{option_map}
use Rattle.std.proofs.lemmas.Bool.{and_parts, cases_eq, eq-eqb, ne_eqb}
use Rattle.std.proofs.lemmas.Slice.Eq.{bytes_eq-Decides}
use Rattle.ck_types.specs.declared.entry.Entry.{Entry}
use Rattle.ck_types.specs.declared.attr_type.AttrType.{AttrType}
use Rattle.ck_types.specs.declared.attr_type.AttrType.TheVariants as attr
use Rattle.ck_types.specs.Numbers.{attr_type_number}
use Rattle.attrs.specs.Objects.{attribute, attribute_of, flag, is_true}
use Rattle.attrs.specs.Masking.{mask, reveals}
use Rattle.attrs.specs.MaskingLaws.{attribute-mask, flag-mask}
use Rattle.find.specs.Matching.{entry_matches, template_matches, has_value}
use Rattle.find.specs.CodeLaws.{codes_of-mask}
use Rattle.find.specs.Marks.{excludes, hash_in, hash_of, is_other_hash, is_other_truth, mark_of, truth_of, wanted_of}

-- a value that is found is the value that was wanted
has_value-same : (o : Option (List ℕ)) (wanted : List ℕ) → has_value o wanted ≡ true → o ≡ Some wanted
has_value-same None wanted h = absurd cc
has_value-same (Some value) wanted h = ap (λ (bytes : List ℕ). Some bytes) ((bytes_eq-Decides value wanted).0 h)

-- an entry that the object matches is of a value that the object has
attribute-matched : (o : List Entry) (e : Entry) → entry_matches o e ≡ true → attribute o e.attr_type ≡ Some e.value
attribute-matched o e h = has_value-same (attribute o e.attr_type) e.value
    (and_parts (reveals o e.attr_type) (has_value (attribute o e.attr_type) e.value) h).1

-- the object has each value that the template wants
attribute-wanted : (o template : List Entry) (n : ℕ) (value : List ℕ) → template_matches template o ≡ true
    → attribute template n ≡ Some value → attribute o n ≡ Some value
attribute-wanted o [] n value h is = absurd cc
attribute-wanted o (e ∷ template) n value h is =
    let both = and_parts (entry_matches o e) (template_matches template o) h in
    elim (cases_eq e.attr_type n) [
      | inl same ↦ ap (attribute o) (sym same) ∙ attribute-matched o e both.0 ∙ rw (eq-eqb e.attr_type n same) at is
      | inr differ ↦ attribute-wanted o template n value both.1 (rw (ne_eqb e.attr_type n differ) at is)
    ]

-- so the object's mark has the hash that is wanted
is_other_hash-matched : (o template : List Entry) (t : AttrType) → template_matches template o ≡ true
    → is_other_hash (option_map hash_of (attribute_of template t)) (hash_in (attribute_of o t)) ≡ false
is_other_hash-matched o template t h =
    step (attribute_of template t) (λ value is. attribute-wanted o template (attr_type_number t) value h is) where
      step : (wanted : Option (List ℕ)) → ((value : List ℕ) → wanted ≡ Some value → attribute_of o t ≡ Some value)
          → is_other_hash (option_map hash_of wanted) (hash_in (attribute_of o t)) ≡ false
      step None has = refl
      step (Some value) has = ap not (eq-eqb (hash_of value) (hash_in (attribute_of o t)) (sym (ap hash_in (has value refl))))

-- and it is private or not, as is wanted
is_other_truth-matched : (o template : List Entry) → template_matches template o ≡ true
    → is_other_truth (option_map truth_of (attribute_of template attr.Private)) (flag o attr.Private) ≡ false
is_other_truth-matched o template h =
    step (attribute_of template attr.Private) (λ value is. attribute-wanted o template (attr_type_number attr.Private) value h is) where
      step : (wanted : Option (List ℕ)) → ((value : List ℕ) → wanted ≡ Some value → attribute_of o attr.Private ≡ Some value)
          → is_other_truth (option_map truth_of wanted) (flag o attr.Private) ≡ false
      step None has = refl
      step (Some value) has = ap not ((booleans_Decides (is_true (Some value)) (flag o attr.Private)).1 (sym (ap is_true (has value refl))))

-- what is excluded is not found, since what the template finds is not excluded
pub template_matches-excluded : (o template : List Entry) → excludes (wanted_of template) (mark_of o) ≡ true
    → template_matches template o ≡ false
template_matches-excluded o template h =
    let step : (b : Bool) → template_matches template o ≡ b → b ≡ false =
    λ b. elim b as (λ c. template_matches template o ≡ c → c ≡ false) [
      | true ↦ λ k.
          let no : excludes (wanted_of template) (mark_of o) ≡ false =
          rw (
            is_other_truth-matched o template k,
            is_other_hash-matched o template attr.Class k,
            is_other_hash-matched o template attr.KeyType k,
            is_other_hash-matched o template attr.Label k,
            is_other_hash-matched o template attr.Id k,
            is_other_hash-matched o template attr.Application k,
          ) refl in
          absurd cc
      | false ↦ λ k. refl
    ] in
    step (template_matches template o) refl

-- the mark is of what may be seen
pub mark_of-mask : (o : List Entry) → mark_of (mask o) ≡ mark_of o
mark_of-mask o = λ i. record {
  private = flag-mask o attr.Private (λ e. absurd (omega (arith, e))) i;
  class = ap hash_in (attribute-mask o (attr_type_number attr.Class) (λ e. absurd (omega (arith, e)))) i;
  key_type = ap hash_in (attribute-mask o (attr_type_number attr.KeyType) (λ e. absurd (omega (arith, e)))) i;
  label = ap hash_in (attribute-mask o (attr_type_number attr.Label) (λ e. absurd (omega (arith, e)))) i;
  id = ap hash_in (attribute-mask o (attr_type_number attr.Id) (λ e. absurd (omega (arith, e)))) i;
  application = ap hash_in (attribute-mask o (attr_type_number attr.Application) (λ e. absurd (omega (arith, e)))) i;
  codes = codes_of-mask o i;
}
