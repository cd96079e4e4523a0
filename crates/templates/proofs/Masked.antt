-- A masked key stays masked in its copies and changes.
use Rattle.std.proofs.Common.{◌≡◌, ℕ, Bool, true, false, cond, ◌&&◌, ◌||◌, not, eqb, List, [], ◌∷◌, Option, Some, None, refl, sym, ap, subst, ◌∙◌}
use Rattle.std.specs.Prelude.{unwrap_or}
use Rattle.std.specs.List.{list_any}
use Rattle.std.specs.Str.{bytes_eq}
use Rattle.std.proofs.lemmas.Slice.Eq.{bytes_eq-Decides}
use Rattle.std.proofs.lemmas.Bool.{and_parts, eqb-true}
use Rattle.ck_types.specs.declared.entry.Entry.{Entry}
use Rattle.ck_types.specs.declared.attr_type.AttrType.{AttrType}
use Rattle.ck_types.specs.declared.attr_type.AttrType.TheVariants as attr
use Rattle.ck_types.specs.declared.object_class.ObjectClass.{ObjectClass}
use Rattle.ck_types.specs.declared.object_class.ObjectClass.TheVariants.{Data, SecretKey}
use Rattle.ck_types.specs.declared.session_state.SessionState.{SessionState}
use Rattle.ck_types.specs.Numbers.{attr_type_number}
use Rattle.attrs.specs.declared.table.AttributeRow.{AttributeRow}
use Rattle.attrs.specs.Table.{attribute_table, row_number, rows_of}
use Rattle.attrs.specs.Objects.{attribute, attribute_of, class_of, flag, is_true, fits_rows, has_form, IsObject}
use Rattle.attrs.specs.Masking.{is_masked, is_secret_key}
use Rattle.templates.specs.declared.making.Making.{Making}
use Rattle.templates.specs.Faults.{is_about, is_read_only, refuses, is_value_set, is_present, is_so_state}
use Rattle.templates.specs.Making.{rule}
use Rattle.templates.specs.Made.{alters, made_entries}
use Rattle.templates.specs.Guarded.{IsAsGuarded}
use Rattle.templates.proofs.Changes.{both, refused_by, kept_at, keeps_class, data_rows_fit}
use Rattle.templates.proofs.Entries.{both_false, not_false, any_false-attribute}
use Rattle.templates.proofs.NoFault.{IsFaultless}

-- what the rule of a given attribute requires
given_allowed : (c : Making) (s : SessionState) (k : Option ObjectClass) (original template : List Entry) (n : ℕ) (v : List ℕ)
    → class_of original ≡ k → list_any (is_read_only c s original) template ≡ false → attribute template n ≡ Some v
    → list_any (λ r. is_about k n r && refuses (rule c r) s (attribute original n) v) attribute_table ≡ false
given_allowed c s k original template n v class writable given =
    let g = any_false-attribute (is_read_only c s original) template n v writable given in
    let at_class : list_any (λ r. is_about k g.entry.attr_type r && refuses (rule c r) s
    (attribute original g.entry.attr_type) g.entry.value) attribute_table ≡ false =
    subst (λ (j : Option ObjectClass). list_any
    (λ r. is_about j g.entry.attr_type r && refuses (rule c r) s
    (attribute original g.entry.attr_type) g.entry.value) attribute_table ≡ false) class g.fails in
    let at_number : list_any (λ r. is_about k n r && refuses (rule c r) s (attribute original n) g.entry.value) attribute_table ≡ false =
    subst (λ (m : ℕ). list_any (λ r. is_about k m r && refuses (rule c r) s (attribute original m) g.entry.value) attribute_table
    ≡ false) g.number_is at_class in
    subst (λ (w : List ℕ). list_any (λ r. is_about k n r && refuses (rule c r) s (attribute original n) w) attribute_table
    ≡ false) g.value_is at_number

-- ---- one flag

same_bytes : (p v : List ℕ) → bytes_eq p v ≡ true → p ≡ v
same_bytes p v e = (bytes_eq-Decides p v).0 e

true_kept : (present : Option (List ℕ)) (v : List ℕ) → is_true present ≡ true
    → (not (is_value_set v) && not (is_present present v)) ≡ false → is_value_set v ≡ true
true_kept None v old e = absurd cc
true_kept (Some p) v old e =
    let step : (b : Bool) → is_value_set v ≡ b → (not b && not (bytes_eq p v)) ≡ false → is_value_set v ≡ true =
    λ b. elim b as (λ c. is_value_set v ≡ c → (not c && not (bytes_eq p v)) ≡ false → is_value_set v ≡ true) [
      | true ↦ λ h f. h
      | false ↦ λ h f. ap is_value_set (sym (same_bytes p v (not_false (bytes_eq p v) f))) ∙ old
    ] in
    step (is_value_set v) refl e

set_present : (present : Option (List ℕ)) (v : List ℕ) → is_true present ≡ false → is_value_set v ≡ true → is_present present v ≡ true
    → is_value_set v ≡ false
set_present None v old set e = absurd cc
set_present (Some p) v old set e = ap is_value_set (sym (same_bytes p v e)) ∙ old

false_kept : (present : Option (List ℕ)) (v : List ℕ) → is_true present ≡ false → (is_value_set v && not (is_present present v)) ≡ false
    → is_value_set v ≡ false
false_kept present v old e =
    let step : (b : Bool) → is_value_set v ≡ b → (b && not (is_present present v)) ≡ false → is_value_set v ≡ false =
    λ b. elim b as (λ c. is_value_set v ≡ c → (c && not (is_present present v)) ≡ false → is_value_set v ≡ false) [
      | true ↦ λ h f. set_present present v old h (not_false (is_present present v) f)
      | false ↦ λ h f. h
    ] in
    step (is_value_set v) refl e

-- the value of a flag after the call
abbrev pub after : Option (List ℕ) → Option (List ℕ) → Bool
after given present = is_true (Some (unwrap_or given (unwrap_or present [])))

stays_true : (given present : Option (List ℕ)) → is_true present ≡ true
    → ((v : List ℕ) → given ≡ Some v → (not (is_value_set v) && not (is_present present v)) ≡ false) → after given present ≡ true
stays_true (Some v) present old allowed = true_kept present v old (allowed v refl)
stays_true None (Some p) old allowed = old
stays_true None None old allowed = absurd cc

stays_false : (given present : Option (List ℕ)) → is_true present ≡ false
    → ((v : List ℕ) → given ≡ Some v → (is_value_set v && not (is_present present v)) ≡ false) → after given present ≡ false
stays_false (Some v) present old allowed = false_kept present v old (allowed v refl)
stays_false None (Some p) old allowed = old
stays_false None None old allowed = refl

-- the SO alone sets it
so_alone : (s : SessionState) (given present : Option (List ℕ)) → is_so_state s ≡ false
    → ((v : List ℕ) → given ≡ Some v → (is_value_set v && (not (is_so_state s) && not (is_present present v))) ≡ false)
    → after given present ≡ true → is_true present ≡ true
so_alone s given present user allowed new =
    let step : (b : Bool) → is_true present ≡ b → is_true present ≡ true =
    λ b. elim b as (λ c. is_true present ≡ c → is_true present ≡ true) [
      | true ↦ λ h. h
      | false ↦ λ h.
          let same : after given present ≡ false =
          stays_false given present h (λ v e. ap (λ (c : Bool). is_value_set v && (not c && not (is_present present v))) (sym user)
          ∙ allowed v e) in
          let no : true ≡ false = sym new ∙ same in
          cc
    ] in
    step (is_true present) refl

-- a row with no such attribute
absent : (rs : List AttributeRow) (es : List Entry) (n : ℕ) → fits_rows rs es ≡ true
    → list_any (λ r. eqb (row_number r) n) rs ≡ false → attribute es n ≡ None
absent [] [] n fits none = refl
absent [] (x ∷ es) n fits none = absurd cc
absent (r ∷ rs) [] n fits none = absurd cc
absent (r ∷ rs) (x ∷ es) n fits none =
    let a = and_parts (eqb x.attr_type (row_number r) && has_form r.form x.value) (fits_rows rs es) fits in
    let b = and_parts (eqb x.attr_type (row_number r)) (has_form r.form x.value) a.0 in
    let f = both_false (eqb (row_number r) n) (list_any (λ q. eqb (row_number q) n) rs) none in
    let differs : eqb x.attr_type n ≡ false = ap (λ (m : ℕ). eqb m n) (eqb-true x.attr_type (row_number r) b.0) ∙ f.0 in
    ap (λ (c : Bool). cond c (Some x.value) (attribute es n)) differs ∙ absent rs es n a.1 f.1

masked_parts : (o : Option ObjectClass) (a b : Bool) → (is_secret_key o && (a || not b)) ≡ true → (a || not b) ≡ true
masked_parts o a b e = (and_parts (is_secret_key o) (a || not b) e).1

-- what is masked is a key
pub key_class : (o : Option ObjectClass) (b : Bool) → (is_secret_key o && b) ≡ true → o ≡ Some SecretKey
key_class None b e = absurd (let no : false ≡ true = e in cc)
key_class (Some Data) b e = absurd (let no : false ≡ true = e in cc)
key_class (Some SecretKey) b e = refl

either_flag : (a b c d : Bool) → (a || not b) ≡ true → (a ≡ true → c ≡ true) → (b ≡ false → d ≡ false) → (c || not d) ≡ true
either_flag true b c d e p q = ap (λ (x : Bool). x || not d) (p refl)
either_flag false true c d e p q = absurd cc
either_flag false false c d e p q =
    let f : d ≡ false = q refl in
    let step : (x : Bool) → (x || true) ≡ true = λ x. elim x as (λ y. (y || true) ≡ true) [ true ↦ refl | false ↦ refl ] in
    ap (λ (x : Bool). c || not x) f ∙ step c

no_wrapped : (es : List Entry) → fits_rows (rows_of Data) es ≡ true → attribute_of es attr.WrapWithTrusted ≡ None
unfolding attribute_table
no_wrapped es fits = absent (rows_of Data) es (attr_type_number attr.WrapWithTrusted) fits refl

-- ---- a copy, or a changed object

-- a flag that becomes no other than true, by TrueOnly, or than false, by FalseOnly, or true by the SO alone
abbrev IsTrueOnly : AttrType → Making → Type 0
IsTrueOnly t c = (s : SessionState) (p : Option (List ℕ)) (v : List ℕ)
    → refused_by c SecretKey t s p v ≡ ((not (is_value_set v) && not (is_present p v)) || false)

abbrev IsFalseOnly : AttrType → Making → Type 0
IsFalseOnly t c = (s : SessionState) (p : Option (List ℕ)) (v : List ℕ)
    → refused_by c SecretKey t s p v ≡ ((is_value_set v && not (is_present p v)) || false)

abbrev IsTrueBySo : AttrType → Making → Type 0
IsTrueBySo t c = (s : SessionState) (p : Option (List ℕ)) (v : List ℕ)
    → refused_by c SecretKey t s p v ≡ ((is_value_set v && (not (is_so_state s) && not (is_present p v))) || false)

sensitive_rule : (c : Making) → alters c ≡ true → IsTrueOnly attr.Sensitive c
unfolding attribute_table
sensitive_rule = both (IsTrueOnly attr.Sensitive) (λ s p v. refl) (λ s p v. refl)

wrapped_rule : (c : Making) → alters c ≡ true → IsTrueOnly attr.WrapWithTrusted c
unfolding attribute_table
wrapped_rule = both (IsTrueOnly attr.WrapWithTrusted) (λ s p v. refl) (λ s p v. refl)

extractable_rule : (c : Making) → alters c ≡ true → IsFalseOnly attr.Extractable c
unfolding attribute_table
extractable_rule = both (IsFalseOnly attr.Extractable) (λ s p v. refl) (λ s p v. refl)

trusted_rule : (c : Making) → alters c ≡ true → IsTrueBySo attr.Trusted c
unfolding attribute_table
trusted_rule = both (IsTrueBySo attr.Trusted) (λ s p v. refl) (λ s p v. refl)

module _ (c : Making) (alt : alters c ≡ true) (s : SessionState) (original template : List Entry) (random : List ℕ)
    (ok : IsFaultless c s original template) where
  abbrev new : ObjectClass → List Entry
  new k = made_entries c k original template random []

  -- what the rule of a flag requires where it is given
  allowed : (t : AttrType) (b : Bool) (v : List ℕ) → class_of original ≡ Some SecretKey
      → refused_by c SecretKey t s (attribute_of original t) v ≡ (b || false) → attribute_of template t ≡ Some v → b ≡ false
  allowed t b v class rule given =
      (both_false b false (sym rule
      ∙ given_allowed c s (Some SecretKey) original template (attr_type_number t) v class ok.writable given)).0

  true_stays : (t : AttrType) → class_of original ≡ Some SecretKey → IsTrueOnly t c → flag original t ≡ true
      → after (attribute_of template t) (attribute_of original t) ≡ true
  true_stays t class rule old =
      stays_true (attribute_of template t) (attribute_of original t) old
      (λ v e. allowed t (not (is_value_set v) && not (is_present (attribute_of original t) v)) v class (rule s (attribute_of original t) v) e)

  false_stays : (t : AttrType) → class_of original ≡ Some SecretKey → IsFalseOnly t c → flag original t ≡ false
      → after (attribute_of template t) (attribute_of original t) ≡ false
  false_stays t class rule old =
      stays_false (attribute_of template t) (attribute_of original t) old
      (λ v e. allowed t (is_value_set v && not (is_present (attribute_of original t) v)) v class (rule s (attribute_of original t) v) e)

  -- a flag of the new key
  flag_after : (t : AttrType) → eqb (attr_type_number t) (attr_type_number attr.UniqueId) ≡ false
      → list_any (λ r. eqb (row_number r) (attr_type_number t)) (rows_of SecretKey) ≡ true
      → flag (new SecretKey) t ≡ after (attribute_of template t) (attribute_of original t)
  flag_after t other there = ap is_true (kept_at c alt SecretKey original template random (attr_type_number t) other there)

  sensitive_stays : class_of original ≡ Some SecretKey → flag original attr.Sensitive ≡ true → flag (new SecretKey) attr.Sensitive ≡ true
  unfolding attribute_table
  sensitive_stays class old = flag_after attr.Sensitive refl refl ∙ true_stays attr.Sensitive class (sensitive_rule c alt) old

  wrapped_stays : class_of original ≡ Some SecretKey → flag original attr.WrapWithTrusted ≡ true
      → flag (new SecretKey) attr.WrapWithTrusted ≡ true
  unfolding attribute_table
  wrapped_stays class old = flag_after attr.WrapWithTrusted refl refl ∙ true_stays attr.WrapWithTrusted class (wrapped_rule c alt) old

  unextractable_stays : class_of original ≡ Some SecretKey → flag original attr.Extractable ≡ false
      → flag (new SecretKey) attr.Extractable ≡ false
  unfolding attribute_table
  unextractable_stays class old = flag_after attr.Extractable refl refl ∙ false_stays attr.Extractable class (extractable_rule c alt) old

  trusted_stays : class_of original ≡ Some SecretKey → is_so_state s ≡ false → flag (new SecretKey) attr.Trusted ≡ true
      → flag original attr.Trusted ≡ true
  unfolding attribute_table
  trusted_stays class user trusted =
      let old = attribute_of original attr.Trusted in
      so_alone s (attribute_of template attr.Trusted) old user
      (λ v e. allowed attr.Trusted (is_value_set v && (not (is_so_state s) && not (is_present old v))) v class (trusted_rule c alt s old v) e)
      (sym (flag_after attr.Trusted refl refl) ∙ trusted)

  -- no data object is trusted
  no_trusted : flag (new Data) attr.Trusted ≡ false
  unfolding attribute_table
  no_trusted = refl

  -- a masked key stays masked
  pub stays_masked : is_masked original ≡ true → is_masked (new SecretKey) ≡ true
  stays_masked e =
      let class = key_class (class_of original) (flag original attr.Sensitive || not (flag original attr.Extractable)) e in
      ap (λ (o : Option ObjectClass). is_secret_key o &&
      (flag (new SecretKey) attr.Sensitive || not (flag (new SecretKey) attr.Extractable)))
      (keeps_class c alt s original template random ok SecretKey class)
      ∙ either_flag (flag original attr.Sensitive) (flag original attr.Extractable) (flag (new SecretKey) attr.Sensitive)
      (flag (new SecretKey) attr.Extractable)
      (masked_parts (class_of original) (flag original attr.Sensitive) (flag original attr.Extractable) e) (sensitive_stays class)
      (unextractable_stays class)

  pub altered_guarded : (k : ObjectClass) → class_of original ≡ Some k → IsObject original → IsAsGuarded s original (new k)
  altered_guarded Data class is = record {
    masked = λ e. absurd (let no : false ≡ true =
        sym (ap (λ (o : Option ObjectClass). is_secret_key o &&
        (flag original attr.Sensitive || not (flag original attr.Extractable))) class) ∙ e in cc);
    wrapped_by_trusted = λ e. absurd
        (let no : false ≡ true = sym (ap is_true (no_wrapped original (data_rows_fit original class is))) ∙ e in cc);
    trusted_by_so = λ user e. absurd (let no : false ≡ true = sym no_trusted ∙ e in cc);
  }
  altered_guarded SecretKey class is =
      record { masked = stays_masked; wrapped_by_trusted = wrapped_stays class; trusted_by_so = trusted_stays class }
