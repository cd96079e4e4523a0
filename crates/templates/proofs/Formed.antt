-- The values of the object that is made have their forms.
use Rattle.std.proofs.Common.{◌≡◌, ℕ, Bool, true, false, cond, ◌&&◌, not, eqb, List, [], ◌∷◌, Option, Some, None, refl, sym, subst, ◌∙◌}
use Rattle.std.specs.Prelude.{unwrap_or}
use Rattle.std.specs.List.{list_any, AllByRecursion}
use Rattle.std.proofs.lemmas.Bool.{and_parts, eqb-true}
use Rattle.ck_types.specs.declared.entry.Entry.{Entry}
use Rattle.ck_types.specs.declared.object_class.ObjectClass.{ObjectClass}
use Rattle.attrs.specs.declared.table.AttributeRow.{AttributeRow}
use Rattle.attrs.specs.declared.table.Form.TheVariants.{Truth, Bytes}
use Rattle.attrs.specs.Table.{attribute_table, row_number}
use Rattle.attrs.specs.Objects.{attribute, fits_rows, has_form}
use Rattle.templates.specs.declared.making.Making.{Making}
use Rattle.templates.specs.Faults.{form_in, fits_form_of, is_ill_formed, is_unlisted}
use Rattle.templates.specs.Made.{truth, by_default, is_key_class, is_unwrap, is_generate, is_extractable, is_sensitive}
use Rattle.templates.proofs.Entries.{both_false, not_false, any_false-attribute}

-- the row has the form of its attribute type
abbrev pub IsFormed : AttributeRow → Type 0
IsFormed r = form_in attribute_table (row_number r) ≡ Some r.form

pub table_formed : AllByRecursion IsFormed attribute_table
unfolding attribute_table
table_formed = (
  refl,
  (
    refl,
    (
      refl,
      (
        refl,
        (
          refl,
          (
            refl,
            (
              refl,
              (
                refl,
                (
                  refl,
                  (
                    refl,
                    (
                      refl,
                      (
                        refl,
                        (
                          refl,
                          (refl, (refl, (refl, (refl, (refl, (refl, (refl, (refl, (refl, (refl, (refl, (refl, (refl, (refl, (refl, tt))))))))))))))),
                        ),
                      ),
                    ),
                  ),
                ),
              ),
            ),
          ),
        ),
      ),
    ),
  ),
)

pub truth_formed : (b : Bool) → has_form Truth (truth b) ≡ true
truth_formed true = refl
truth_formed false = refl

-- each default has the form of its row
pub default_formed : (c : Making) (class : ObjectClass) (template : List Entry) (value : List ℕ) → has_form Bytes value ≡ true
    → AllByRecursion (λ r. has_form r.form (by_default r.default c class template value r.attribute) ≡ true) attribute_table
unfolding attribute_table
default_formed c class template value small = (
  refl,
  (
    refl,
    (
      truth_formed (is_key_class class),
      (
        refl,
        (
          refl,
          (
            refl,
            (
              refl,
              (
                small,
                (
                  refl,
                  (
                    refl,
                    (
                      refl,
                      (
                        refl,
                        (
                          refl,
                          (
                            refl,
                            (
                              refl,
                              (
                                refl,
                                (
                                  refl,
                                  (
                                    refl,
                                    (
                                      refl,
                                      (
                                        truth_formed (is_unwrap c),
                                        (
                                          truth_formed (is_generate c),
                                          (
                                            truth_formed (is_generate c && not (is_extractable template)),
                                            (truth_formed (is_generate c && is_sensitive template), (refl, (refl, (refl, (refl, (refl, tt)))))),
                                          ),
                                        ),
                                      ),
                                    ),
                                  ),
                                ),
                              ),
                            ),
                          ),
                        ),
                      ),
                    ),
                  ),
                ),
              ),
            ),
          ),
        ),
      ),
    ),
  ),
)

-- a value that a template gives has its form
pub given_formed : (template : List Entry) (n : ℕ) (v : List ℕ) → list_any is_ill_formed template ≡ false
    → attribute template n ≡ Some v → fits_form_of (form_in attribute_table n) v ≡ true
given_formed template n v formed given =
    let g = any_false-attribute is_ill_formed template n v formed given in
    let fits = not_false (fits_form_of (form_in attribute_table g.entry.attr_type) g.entry.value)
    (both_false (not (fits_form_of (form_in attribute_table g.entry.attr_type) g.entry.value)) (is_unlisted g.entry) g.fails).0 in
    let at_number : fits_form_of (form_in attribute_table n) g.entry.value ≡ true =
    subst (λ (m : ℕ). fits_form_of (form_in attribute_table m) g.entry.value ≡ true) g.number_is fits in
    subst (λ (w : List ℕ). fits_form_of (form_in attribute_table n) w ≡ true) g.value_is at_number

-- so has a value that an object has
pub held_formed : (rs : List AttributeRow) (es : List Entry) (n : ℕ) (v : List ℕ) → AllByRecursion IsFormed rs
    → fits_rows rs es ≡ true → attribute es n ≡ Some v → fits_form_of (form_in attribute_table n) v ≡ true
held_formed [] [] n v all fits e = absurd cc
held_formed [] (x ∷ es) n v all fits e = absurd cc
held_formed (r ∷ rs) [] n v all fits e = absurd cc
held_formed (r ∷ rs) (x ∷ es) n v all fits e =
    let a = and_parts (eqb x.attr_type (row_number r) && has_form r.form x.value) (fits_rows rs es) fits in
    let b = and_parts (eqb x.attr_type (row_number r)) (has_form r.form x.value) a.0 in
    let number_is = eqb-true x.attr_type (row_number r) b.0 in
    let formed : IsFormed r = all.0 in
    let step : (t : Bool) → eqb x.attr_type n ≡ t → cond t (Some x.value) (attribute es n) ≡ Some v
    → fits_form_of (form_in attribute_table n) v ≡ true =
    λ t. elim t as (λ u. eqb x.attr_type n ≡ u → cond u (Some x.value) (attribute es n) ≡ Some v
    → fits_form_of (form_in attribute_table n) v ≡ true) [
      | true ↦ λ h k.
          let same : row_number r ≡ n = sym number_is ∙ eqb-true x.attr_type n h in
          let value_is : x.value ≡ v = cc in
          rw (← same, formed, ← value_is) b.1
      | false ↦ λ h k. held_formed rs es n v all.1 a.1 k
    ] in
    step (eqb x.attr_type n) refl e

-- the form of a type is that of its row
pub row_formed : (r : AttributeRow) (v : List ℕ) → IsFormed r → fits_form_of (form_in attribute_table (row_number r)) v ≡ true
    → has_form r.form v ≡ true
row_formed r v formed fits = rw formed at fits

-- a value that is given, or else another one, has the form of its row
pub chosen_formed : (r : AttributeRow) (template : List Entry) (other : List ℕ) → list_any is_ill_formed template ≡ false
    → IsFormed r → has_form r.form other ≡ true → has_form r.form (unwrap_or (attribute template (row_number r)) other) ≡ true
chosen_formed r template other formed row_is fits =
    let step : (o : Option (List ℕ)) → attribute template (row_number r) ≡ o → has_form r.form (unwrap_or o other) ≡ true =
    λ o. elim o as (λ p. attribute template (row_number r) ≡ p → has_form r.form (unwrap_or p other) ≡ true) [
      | Some v ↦ λ e. row_formed r v row_is (given_formed template (row_number r) v formed e)
      | None ↦ λ e. fits
    ] in
    step (attribute template (row_number r)) refl
