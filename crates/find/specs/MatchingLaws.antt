-- What a search finds does not depend on a value that is masked.
use Rattle.std.proofs.Common.{◌≡◌, ℕ, ◌&&◌, not, Bool, true, false, cond, List, [], ◌∷◌, Option, eqb, ap, refl, sym, ◌∙◌}
use Rattle.std.proofs.lemmas.Bool.{eq-eqb}
use Rattle.ck_types.specs.declared.entry.Entry.{Entry}
use Rattle.ck_types.specs.declared.attr_type.AttrType.TheVariants as attr
use Rattle.ck_types.specs.Numbers.{attr_type_number}
use Rattle.attrs.specs.Objects.{attribute}
use Rattle.attrs.specs.Masking.{is_masked, mask, without}
use Rattle.attrs.specs.MaskingLaws.{attribute-mask, is_masked-mask}
use Rattle.find.specs.Matching.{entry_matches, template_matches, has_value}

mask_none : (es : List Entry) → is_masked es ≡ false → mask es ≡ es
mask_none es h = ap (λ (b : Bool). cond b (without attr.Value es) es) h

entry_matches-mask : (es : List Entry) (e : Entry) → entry_matches (mask es) e ≡ entry_matches es e
entry_matches-mask es e =
    let step : (m b : Bool) → is_masked es ≡ m → eqb e.attr_type (attr_type_number attr.Value) ≡ b
    → (not (m && b) && has_value (attribute (mask es) e.attr_type) e.value)
    ≡ (not (m && b) && has_value (attribute es e.attr_type) e.value) =
    λ m. elim m as (λ n. (b : Bool) → is_masked es ≡ n → eqb e.attr_type (attr_type_number attr.Value) ≡ b
    → (not (n && b) && has_value (attribute (mask es) e.attr_type) e.value)
    ≡ (not (n && b) && has_value (attribute es e.attr_type) e.value)) [
      | true ↦ λ b. elim b as (λ c. is_masked es ≡ true → eqb e.attr_type (attr_type_number attr.Value) ≡ c
          → (not (true && c) && has_value (attribute (mask es) e.attr_type) e.value)
          ≡ (not (true && c) && has_value (attribute es e.attr_type) e.value)) [
            | true ↦ λ h k. refl
            | false ↦ λ h k. ap (λ (o : Option (List ℕ)). has_value o e.value)
                (attribute-mask es e.attr_type
                (λ same. absurd (let t : true ≡ false = sym (eq-eqb e.attr_type (attr_type_number attr.Value) same) ∙ k in cc)))
          ]
      | false ↦ λ b h k. ap (λ (xs : List Entry). has_value (attribute xs e.attr_type) e.value) (mask_none es h)
    ] in
    ap (λ (b : Bool). not (b && eqb e.attr_type (attr_type_number attr.Value)) && has_value
    (attribute (mask es) e.attr_type) e.value) (is_masked-mask es)
    ∙ step (is_masked es) (eqb e.attr_type (attr_type_number attr.Value)) refl refl

pub template_matches-mask : (template es : List Entry) → template_matches template (mask es) ≡ template_matches template es
template_matches-mask [] es = refl
template_matches-mask (e ∷ template) es = rw (entry_matches-mask es e, template_matches-mask template es) refl
