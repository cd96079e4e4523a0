-- What a copy or a change makes of an object, and why it makes nothing, reveal nothing of a masked value.
use Rattle.std.proofs.Common.{◌≡◌, ◌≢◌, ℕ, Bool, true, cond, ◌&&◌, ◌||◌, not, List, [], ◌∷◌, Option, Some, None, refl, sym, ap, ◌∙◌, inl, inr}
use Rattle.std.specs.Prelude.{map, take, unwrap_or}
use Rattle.std.specs.List.{list_any}
use Rattle.std.proofs.lemmas.Bool.{cases_Bool, cases_eq, eq-eqb, ne_eqb}
use Rattle.hex.specs.Hex.{encode_lower}
use Rattle.ck_types.specs.declared.entry.Entry.{Entry}
use Rattle.ck_types.specs.declared.attr_type.AttrType.TheVariants as attr
use Rattle.ck_types.specs.declared.object_class.ObjectClass.{ObjectClass}
use Rattle.ck_types.specs.declared.object_class.ObjectClass.TheVariants.{SecretKey}
use Rattle.ck_types.specs.declared.rv.Rv.{Rv}
use Rattle.ck_types.specs.declared.rv.Rv.TheVariants as rv
use Rattle.ck_types.specs.declared.session_state.SessionState.{SessionState}
use Rattle.ck_types.specs.Numbers.{attr_type_number}
use Rattle.attrs.specs.declared.table.AttributeRow.{AttributeRow}
use Rattle.attrs.specs.Table.{attribute_table, row_number, rows_of}
use Rattle.attrs.specs.Objects.{attribute, class_of, flag}
use Rattle.attrs.specs.Masking.{is_masked, mask, without}
use Rattle.attrs.specs.MaskingLaws.{attribute-mask, class_of-mask, is_masked-mask}
use Rattle.templates.specs.declared.making.Making.{Making}
use Rattle.templates.specs.Making.{rule}
use Rattle.templates.specs.Faults.{template_fault, is_about, is_unknown, is_ill_formed, contradicts, is_read_only, is_inconsistent, disagrees, is_missing, has_bad_len, has_bad_unwrapped_len, refuses}
use Rattle.templates.specs.Made.{alters, by_default, object_made, made_of, made_entries, made_value, is_renewed}
use Rattle.templates.proofs.NoFault.{faultless}
use Rattle.templates.proofs.Changes.{fixed_value, made_class-altered}
use Rattle.templates.proofs.Masked.{key_class, stays_masked}

-- ---- codes

any-same : (p q : Entry → Bool) (es : List Entry) → ((e : Entry) → p e ≡ q e) → list_any p es ≡ list_any q es
any-same p q [] same = refl
any-same p q (e ∷ es) same = ap (λ b. b || list_any p es) (same e) ∙ ap (λ b. q e || b) (any-same p q es same)

module _ (c : Making) (alt : alters c ≡ true) (s : SessionState) where
  abbrev read_only_by : Option ObjectClass → ℕ → Option (List ℕ) → List ℕ → Bool
  read_only_by class n present v = list_any (λ r. is_about class n r && refuses (rule c r) s present v) attribute_table

  value-refused : (o : List Entry) (e : Entry) → class_of o ≡ Some SecretKey → e.attr_type ≡ attr_type_number attr.Value
      → is_read_only c s o e ≡ true
  value-refused o e class is =
      ap (λ k. read_only_by k e.attr_type (attribute o e.attr_type) e.value) class
      ∙ ap (λ n. read_only_by (Some SecretKey) n (attribute o n) e.value) is
      ∙ fixed_value c alt s (attribute o (attr_type_number attr.Value)) e.value

  read_only-mask : (o : List Entry) (e : Entry) → is_read_only c s (mask o) e ≡ is_read_only c s o e
  read_only-mask o e = elim (cases_eq e.attr_type (attr_type_number attr.Value)) [
    | inl is ↦ elim (cases_Bool (is_masked o)) [
      | inl masked ↦
          let class = key_class (class_of o) (flag o attr.Sensitive || not (flag o attr.Extractable)) masked in
          value-refused (mask o) e (class_of-mask o ∙ class) is ∙ sym (value-refused o e class is)
      | inr shown ↦ ap (λ b. is_read_only c s (cond b (without attr.Value o) o) e) shown
    ]
    | inr other ↦ ap (λ k. read_only_by k e.attr_type (attribute (mask o) e.attr_type) e.value) (class_of-mask o)
        ∙ ap (λ a. read_only_by (class_of o) e.attr_type a e.value) (attribute-mask o e.attr_type other)
  ]

  -- by what is known of the object
  abbrev fault_by : List Entry → Bool → Bool → Bool → Option Rv
  fault_by template unknown read_only excluded =
      cond unknown (Some rv.AttributeTypeInvalid) (
      cond (list_any is_ill_formed template) (Some rv.AttributeValueInvalid) (
      cond (list_any (λ e. list_any (contradicts e) template) template) (Some rv.TemplateInconsistent) (
      cond read_only (Some rv.AttributeReadOnly) (
      cond (excluded || disagrees c template) (Some rv.TemplateInconsistent) (
      cond (list_any (is_missing c template) attribute_table) (Some rv.TemplateIncomplete) (
      cond (has_bad_len c template) (Some rv.AttributeValueInvalid) (
      cond (has_bad_unwrapped_len c template) (Some rv.WrappedKeyLenRange) None)))))))

  pub fault-mask : (o template : List Entry) → template_fault c s (mask o) template ≡ template_fault c s o template
  unfolding template_fault
  fault-mask o template =
      let unknown = λ (k : Option ObjectClass). list_any (is_unknown k) template in
      let excluded = λ (k : Option ObjectClass). list_any
      (λ e. list_any (λ r. is_about k e.attr_type r && is_inconsistent (rule c r)) attribute_table) template in
      let read_only = λ (x : List Entry). list_any (is_read_only c s x) template in
      ap (λ k. fault_by template (unknown k) (read_only (mask o)) (excluded k)) (class_of-mask o)
      ∙ ap (λ b. fault_by template (unknown (class_of o)) b (excluded (class_of o)))
      (any-same (is_read_only c s (mask o)) (is_read_only c s o) template (read_only-mask o))

-- ---- objects

-- rows whose values are the same but for one type
without-same : (f g : AttributeRow → List ℕ) (rs : List AttributeRow)
    → ((r : AttributeRow) → row_number r ≢ attr_type_number attr.Value → f r ≡ g r)
    → without attr.Value (map (λ r. record { attr_type = row_number r; value = f r }) rs)
    ≡ without attr.Value (map (λ r. record { attr_type = row_number r; value = g r }) rs)
without-same f g [] same = refl
without-same f g (r ∷ rs) same = elim (cases_eq (row_number r) (attr_type_number attr.Value)) [
  | inl is ↦ rw (eq-eqb (row_number r) (attr_type_number attr.Value) is) (without-same f g rs same)
  | inr other ↦
      let h : Entry → List Entry → List Entry = λ e es. e ∷ es in
      let x : List ℕ → Entry = λ v. record { attr_type = row_number r; value = v } in
      rw (ne_eqb (row_number r) (attr_type_number attr.Value) other)
      (ap (λ v. h (x v) (without attr.Value (map (λ r. record { attr_type = row_number r; value = f r }) rs))) (same r other)
      ∙ ap (h (x (g r))) (without-same f g rs same))
]

abbrev IsBlind : Making → List Entry → List Entry → List ℕ → Type 0
IsBlind c o template random = mask (object_made c (mask o) template random []) ≡ mask (object_made c o template random [])

both-masked : (x y : List Entry) → is_masked x ≡ true → is_masked y ≡ true → without attr.Value x ≡ without attr.Value y → mask x ≡ mask y
both-masked x y p q same = ap (λ b. cond b (without attr.Value x) x) p ∙ same ∙ sym (ap (λ b. cond b (without attr.Value y) y) q)

module _ (c : Making) (alt : alters c ≡ true) (s : SessionState) (o template : List Entry) (random : List ℕ)
    (none : template_fault c s o template ≡ None) where
  -- what a key is made of
  at_key : (x : List Entry) → class_of x ≡ Some SecretKey
      → mask (object_made c x template random []) ≡ mask (made_entries c SecretKey x template random [])
  at_key x class = ap (λ k. mask (made_of k c x template random [])) (made_class-altered c alt x template ∙ class)

  pub made-mask : IsBlind c o template random
  made-mask = elim (cases_Bool (is_masked o)) [
    | inl masked ↦
        let class = key_class (class_of o) (flag o attr.Sensitive || not (flag o attr.Extractable)) masked in
        let x = made_entries c SecretKey (mask o) template random [] in
        let y = made_entries c SecretKey o template random [] in
        let same : (r : AttributeRow) → row_number r ≢ attr_type_number attr.Value
        → made_value c SecretKey (mask o) template random [] r ≡ made_value c SecretKey o template random [] r =
        λ r other. ap (λ a. cond (is_renewed c r) (encode_lower (take 16 random))
        (unwrap_or (attribute template (row_number r))
        (cond (alters c) (unwrap_or a []) (by_default r.default c SecretKey template [] r.attribute))))
        (attribute-mask o (row_number r) other) in
        at_key (mask o) (class_of-mask o ∙ class)
        ∙ both-masked x y (stays_masked c alt s (mask o) template random
        (faultless c s (mask o) template (fault-mask c alt s o template ∙ none)) (is_masked-mask o ∙ masked))
        (stays_masked c alt s o template random (faultless c s o template none) masked)
        (without-same (made_value c SecretKey (mask o) template random []) (made_value c SecretKey o template random [])
        (rows_of SecretKey) same)
        ∙ sym (at_key o class)
    | inr shown ↦ ap (λ b. mask (object_made c (cond b (without attr.Value o) o) template random [])) shown
  ]
