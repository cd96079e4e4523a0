-- Where no condition holds, a copy or a changed object is an object.
use Rattle.std.proofs.Common.{◌≡◌, ℕ, Bool, true, false, cond, eqb, ◌&&◌, ◌||◌, List, [], ◌∷◌, Option, Some, None, refl, sym, ap, subst, ◌∙◌}
use Rattle.std.specs.Prelude.{map, take, unwrap_or}
use Rattle.std.specs.List.{list_any, AllByRecursion}
use Rattle.std.proofs.lemmas.Bool.{and_parts, eqb-true}
use Rattle.hex.specs.Hex.{encode_lower}
use Rattle.ck_types.specs.declared.entry.Entry.{Entry}
use Rattle.ck_types.specs.declared.attr_type.AttrType.{AttrType}
use Rattle.ck_types.specs.declared.attr_type.AttrType.TheVariants as attr
use Rattle.ck_types.specs.declared.object_class.ObjectClass.{ObjectClass}
use Rattle.ck_types.specs.declared.object_class.ObjectClass.TheVariants.{Data, SecretKey}
use Rattle.ck_types.specs.declared.session_state.SessionState.{SessionState}
use Rattle.ck_types.specs.Numbers.{attr_type_number}
use Rattle.attrs.specs.declared.table.AttributeRow.{AttributeRow}
use Rattle.attrs.specs.Table.{attribute_table, row_number, rows_of, is_held_by}
use Rattle.attrs.specs.Objects.{attribute, attribute_of, class_of, class_at, number_of, key_type_at, has_form, is_of_class, is_true, IsObject, fits_rows, is_key_value, has_key_value}
use Rattle.attrs.specs.ObjectLaws.{class_at-none, fits_rows-held}
use Rattle.templates.specs.declared.making.Making.{Making}
use Rattle.templates.specs.declared.making.Making.TheVariants as making
use Rattle.templates.specs.Making.{rule}
use Rattle.templates.specs.Faults.{is_about, refuses}
use Rattle.templates.specs.Made.{alters, by_default, made_class, made_entries, made_value}
use Rattle.templates.specs.Guarded.{StaysPlaced}
use Rattle.templates.proofs.Entries.{AllByRecursion-filter}
use Rattle.templates.proofs.Formed.{IsFormed, table_formed, held_formed, row_formed}
use Rattle.templates.proofs.NoFault.{IsFaultless, not_read_only}
use Rattle.templates.proofs.Whole.{made_fit, is_data_object, is_key_object}

-- ---- the original has the attributes of its class, each in its form

abbrev pub IsAmong : List AttributeRow → AttributeRow → Type 0
IsAmong rs r = list_any (λ q. eqb (row_number q) (row_number r)) rs ≡ true

rows_among : (class : ObjectClass) → AllByRecursion (IsAmong (rows_of class)) (rows_of class)
unfolding attribute_table
rows_among Data = (refl, (refl, (refl, (refl, (refl, (refl, (refl, (refl, (refl, (refl, tt))))))))))
rows_among SecretKey = (
  refl,
  (
    refl,
    (
      refl,
      (
        refl,
        (
          refl,
          (
            refl,
            (
              refl,
              (
                refl,
                (
                  refl,
                  (
                    refl,
                    (
                      refl,
                      (refl, (refl, (refl, (refl, (refl, (refl, (refl, (refl, (refl, (refl, (refl, (refl, (refl, (refl, (refl, tt))))))))))))))),
                    ),
                  ),
                ),
              ),
            ),
          ),
        ),
      ),
    ),
  ),
)

kept_formed : (full : List AttributeRow) (es : List Entry) (rs : List AttributeRow) → AllByRecursion IsFormed full
    → fits_rows full es ≡ true → AllByRecursion IsFormed rs → AllByRecursion (IsAmong full) rs
    → AllByRecursion (λ r. has_form r.form (unwrap_or (attribute es (row_number r)) []) ≡ true) rs
kept_formed full es [] formed fits rows among = tt
kept_formed full es (r ∷ rs) formed fits rows among =
    let step : (o : Option (List ℕ)) → attribute es (row_number r) ≡ o → has_form r.form (unwrap_or o []) ≡ true =
    λ o. elim o as (λ p. attribute es (row_number r) ≡ p → has_form r.form (unwrap_or p []) ≡ true) [
      | Some v ↦ λ e. row_formed r v rows.0 (held_formed full es (row_number r) v formed fits e)
      | None ↦ λ e. absurd (fits_rows-held full es (row_number r) fits among.0 e)
    ] in
    (step (attribute es (row_number r)) refl, kept_formed full es rs formed fits rows.1 among.1)

pub original_formed : (class : ObjectClass) (es : List Entry) → fits_rows (rows_of class) es ≡ true
    → AllByRecursion (λ r. has_form r.form (unwrap_or (attribute es (row_number r)) []) ≡ true) (rows_of class)
original_formed class es fits =
    let formed = AllByRecursion-filter IsFormed (is_held_by class) attribute_table table_formed in
    kept_formed (rows_of class) es (rows_of class) formed fits formed (rows_among class)

-- an attribute that isn't given stays
pub stays : (template es : List Entry) (n : ℕ) → attribute template n ≡ None → (attribute es n ≡ None → ⊥)
    → Some (unwrap_or (attribute template n) (unwrap_or (attribute es n) [])) ≡ attribute es n
stays template es n none held =
    let step : (o : Option (List ℕ)) → attribute es n ≡ o → Some (unwrap_or o []) ≡ o =
    λ o. elim o as (λ p. attribute es n ≡ p → Some (unwrap_or p []) ≡ p) [ Some v ↦ λ e. refl | None ↦ λ e. absurd (held e) ] in
    ap (λ (o : Option (List ℕ)). Some (unwrap_or o (unwrap_or (attribute es n) []))) none ∙ step (attribute es n) refl

-- an object whose class is known has it
held_class : (k : ObjectClass) (es : List Entry) → class_of es ≡ Some k → attribute_of es attr.Class ≡ None → ⊥
held_class k es class none = let no : None ≡ Some k = sym class_at-none
    ∙ ap (λ (o : Option (List ℕ)). class_at (number_of o)) (sym none) ∙ class in cc

-- ---- what an object of a class has

pub data_rows_fit : (es : List Entry) → class_of es ≡ Some Data → IsObject es → fits_rows (rows_of Data) es ≡ true
data_rows_fit es class is = ap (λ (k : Option ObjectClass). is_of_class k es) (sym class) ∙ is

pub key_fits : (es : List Entry) → class_of es ≡ Some SecretKey → IsObject es → (fits_rows (rows_of SecretKey) es ≡ true)
    × (has_key_value es ≡ true)
key_fits es class is = and_parts (fits_rows (rows_of SecretKey) es) (has_key_value es)
    (ap (λ (k : Option ObjectClass). is_of_class k es) (sym class) ∙ is)

-- ---- the parts of a changed object

pub record Keeps (es new : List Entry) : Type 0 where
  pub class_is : attribute_of new attr.Class ≡ attribute_of es attr.Class
  pub type_is : attribute_of new attr.KeyType ≡ attribute_of es attr.KeyType
  pub value_is : attribute_of new attr.Value ≡ attribute_of es attr.Value
  pub len_is : attribute_of new attr.ValueLen ≡ attribute_of es attr.ValueLen

key_kept : (es new : List Entry) → class_of es ≡ Some SecretKey → Keeps es new → has_key_value es ≡ true
    → fits_rows (rows_of SecretKey) new ≡ true → IsObject new
key_kept es new class keeps value fits =
    is_key_object new (ap (λ (o : Option (List ℕ)). class_at (number_of o)) keeps.class_is ∙ class) fits
    (ap (λ (o : Option (List ℕ)). is_key_value (key_type_at (number_of o)) (attribute_of new attr.Value)
    (number_of (attribute_of new attr.ValueLen))) keeps.type_is
    ∙ ap (λ (o : Option (List ℕ)). is_key_value (key_type_at (number_of (attribute_of es attr.KeyType))) o
    (number_of (attribute_of new attr.ValueLen))) keeps.value_is
    ∙ ap (λ (o : Option (List ℕ)). is_key_value (key_type_at (number_of (attribute_of es attr.KeyType)))
    (attribute_of es attr.Value) (number_of o)) keeps.len_is
    ∙ value)

-- ---- a copy, or a changed object

-- what holds of C_CopyObject and of C_SetAttributeValue
pub both : (P : Making → Type 0) → P making.Copy → P making.Set → (c : Making) → alters c ≡ true → P c
both P copy set making.Create e = absurd cc
both P copy set (making.Generate m) e = absurd cc
both P copy set (making.Unwrap n) e = absurd cc
both P copy set making.Copy e = copy
both P copy set making.Set e = set

-- the class stays
pub made_class-altered : (c : Making) → alters c ≡ true → (original template : List Entry)
    → made_class c original template ≡ class_of original
made_class-altered c alt original template = both (λ c. made_class c original template ≡ class_of original) refl refl c alt

-- whether a call refuses a value of a type
abbrev pub refused_by : Making → ObjectClass → AttrType → SessionState → Option (List ℕ) → List ℕ → Bool
refused_by c k t s present v = list_any (λ r. is_about (Some k) (attr_type_number t) r && refuses (rule c r) s present v) attribute_table

-- it refuses each
abbrev pub IsFixed : ObjectClass → AttrType → Making → Type 0
IsFixed k t c = (s : SessionState) (present : Option (List ℕ)) (v : List ℕ) → refused_by c k t s present v ≡ true

-- what is given, else what was there
abbrev pub given_or_kept : List Entry → List Entry → ℕ → List ℕ
given_or_kept original template n = unwrap_or (attribute template n) (unwrap_or (attribute original n) [])

row_kept : (c : Making) → alters c ≡ true → (k : ObjectClass) (original template : List Entry) (random : List ℕ) (n : ℕ)
    → eqb n (attr_type_number attr.UniqueId) ≡ false → (r : AttributeRow) → row_number r ≡ n
    → made_value c k original template random [] r ≡ given_or_kept original template n
row_kept c alt k original template random n other r is =
    let digits = encode_lower (take 16 random) in
    both (λ c. made_value c k original template random [] r ≡ given_or_kept original template n)
    (ap (λ (m : ℕ). cond (eqb m (attr_type_number attr.UniqueId)) digits (given_or_kept original template m)) is
    ∙ ap (λ (b : Bool). cond b digits (given_or_kept original template n)) other)
    (ap (given_or_kept original template) is)
    c alt

at_row : (f : AttributeRow → List ℕ) (v : List ℕ) (n : ℕ) → ((r : AttributeRow) → row_number r ≡ n → f r ≡ v)
    → (rs : List AttributeRow) → list_any (λ r. eqb (row_number r) n) rs ≡ true
    → attribute (map (λ r. record { attr_type = row_number r; value = f r }) rs) n ≡ Some v
at_row f v n same [] there = absurd cc
at_row f v n same (r ∷ rs) there =
    let rest = attribute (map (λ r. record { attr_type = row_number r; value = f r }) rs) n in
    let step : (b : Bool) → eqb (row_number r) n ≡ b → (b || list_any (λ r. eqb (row_number r) n) rs) ≡ true
    → cond b (Some (f r)) rest ≡ Some v =
    λ b. elim b as (λ d. eqb (row_number r) n ≡ d → (d || list_any (λ r. eqb (row_number r) n) rs) ≡ true
    → cond d (Some (f r)) rest ≡ Some v) [
      | true ↦ λ is e. ap (λ (w : List ℕ). Some w) (same r (eqb-true (row_number r) n is))
      | false ↦ λ is e. at_row f v n same rs e
    ] in
    step (eqb (row_number r) n) refl there

pub kept_at : (c : Making) → alters c ≡ true → (k : ObjectClass) (original template : List Entry) (random : List ℕ) (n : ℕ)
    → eqb n (attr_type_number attr.UniqueId) ≡ false → list_any (λ r. eqb (row_number r) n) (rows_of k) ≡ true
    → attribute (made_entries c k original template random []) n ≡ Some (given_or_kept original template n)
kept_at c alt k original template random n other there =
    at_row (made_value c k original template random []) (given_or_kept original template n) n
    (row_kept c alt k original template random n other) (rows_of k) there

fixed_class : (c : Making) → alters c ≡ true → (k : ObjectClass) → IsFixed k attr.Class c
unfolding attribute_table
fixed_class c alt Data = both (IsFixed Data attr.Class) (λ s p v. refl) (λ s p v. refl) c alt
fixed_class c alt SecretKey = both (IsFixed SecretKey attr.Class) (λ s p v. refl) (λ s p v. refl) c alt

fixed_type : (c : Making) → alters c ≡ true → IsFixed SecretKey attr.KeyType c
unfolding attribute_table
fixed_type = both (IsFixed SecretKey attr.KeyType) (λ s p v. refl) (λ s p v. refl)

pub fixed_value : (c : Making) → alters c ≡ true → IsFixed SecretKey attr.Value c
unfolding attribute_table
fixed_value = both (IsFixed SecretKey attr.Value) (λ s p v. refl) (λ s p v. refl)

fixed_len : (c : Making) → alters c ≡ true → IsFixed SecretKey attr.ValueLen c
unfolding attribute_table
fixed_len = both (IsFixed SecretKey attr.ValueLen) (λ s p v. refl) (λ s p v. refl)

has_class : (k : ObjectClass) → list_any (λ r. eqb (row_number r) (attr_type_number attr.Class)) (rows_of k) ≡ true
unfolding attribute_table
has_class Data = refl
has_class SecretKey = refl

module _ (c : Making) (alt : alters c ≡ true) (s : SessionState) (original template : List Entry) (random : List ℕ)
    (ok : IsFaultless c s original template) where
  abbrev new : ObjectClass → List Entry
  new k = made_entries c k original template random []

  keeps : (k : ObjectClass) (t : AttrType) → class_of original ≡ Some k → IsFixed k t c
      → eqb (attr_type_number t) (attr_type_number attr.UniqueId) ≡ false
      → list_any (λ r. eqb (row_number r) (attr_type_number t)) (rows_of k) ≡ true
      → (attribute_of original t ≡ None → ⊥) → attribute_of (new k) t ≡ attribute_of original t
  keeps k t class fixed other there held =
      kept_at c alt k original template random (attr_type_number t) other there
      ∙ stays template original (attr_type_number t)
      (not_read_only c s (Some k) original template (attr_type_number t) class (fixed s) ok.writable) held

  pub keeps_class : (k : ObjectClass) → class_of original ≡ Some k → class_of (new k) ≡ Some k
  keeps_class k class =
      ap (λ (o : Option (List ℕ)). class_at (number_of o))
      (keeps k attr.Class class (fixed_class c alt k) refl (has_class k) (held_class k original class)) ∙ class

  keeps_part : (t : AttrType) → class_of original ≡ Some SecretKey → fits_rows (rows_of SecretKey) original ≡ true
      → IsFixed SecretKey t c → eqb (attr_type_number t) (attr_type_number attr.UniqueId) ≡ false
      → list_any (λ r. eqb (row_number r) (attr_type_number t)) (rows_of SecretKey) ≡ true
      → attribute_of (new SecretKey) t ≡ attribute_of original t
  keeps_part t class fits fixed other there =
      keeps SecretKey t class fixed other there (fits_rows-held (rows_of SecretKey) original (attr_type_number t) fits there)

  new_fits : (k : ObjectClass) → fits_rows (rows_of k) original ≡ true → fits_rows (rows_of k) (new k) ≡ true
  new_fits k fits =
      made_fit c k original template random [] ok.formed
      (subst (λ (b : Bool). AllByRecursion
      (λ r. has_form r.form (cond b (unwrap_or (attribute original (row_number r)) [])
      (by_default r.default c k template [] r.attribute)) ≡ true) (rows_of k)) (sym alt) (original_formed k original fits))

  pub altered_is_object : (k : ObjectClass) → class_of original ≡ Some k → IsObject original → IsObject (new k)
  unfolding attribute_table
  altered_is_object Data class is = is_data_object (new Data) (keeps_class Data class) (new_fits Data (data_rows_fit original class is))
  altered_is_object SecretKey class is =
      let fits = key_fits original class is in
      key_kept original (new SecretKey) class
      (record {
        class_is = keeps_part attr.Class class fits.0 (fixed_class c alt SecretKey) refl refl;
        type_is = keeps_part attr.KeyType class fits.0 (fixed_type c alt) refl refl;
        value_is = keeps_part attr.Value class fits.0 (fixed_value c alt) refl refl;
        len_is = keeps_part attr.ValueLen class fits.0 (fixed_len c alt) refl refl;
      })
      fits.1 (new_fits SecretKey fits.0)

-- a flag that isn't given stays
flag_stays : (given present : Option (List ℕ)) → given ≡ None → is_true (Some (unwrap_or given (unwrap_or present []))) ≡ is_true present
flag_stays given None none = ap (λ (o : Option (List ℕ)). is_true (Some (unwrap_or o []))) none
flag_stays given (Some v) none = ap (λ (o : Option (List ℕ)). is_true (Some (unwrap_or o v))) none

pub changed_placed : (s : SessionState) (original template : List Entry) (random : List ℕ) (class : ObjectClass)
    → class_of original ≡ Some class → IsFaultless making.Set s original template
    → StaysPlaced original (made_entries making.Set class original template random [])
unfolding attribute_table
changed_placed s original template random Data class ok = record {
  token = flag_stays (attribute_of template attr.Token) (attribute_of original attr.Token)
      (not_read_only making.Set s (Some Data) original template (attr_type_number attr.Token) class (λ p v. refl) ok.writable);
  private = flag_stays (attribute_of template attr.Private) (attribute_of original attr.Private)
      (not_read_only making.Set s (Some Data) original template (attr_type_number attr.Private) class (λ p v. refl) ok.writable);
}
changed_placed s original template random SecretKey class ok = record {
  token = flag_stays (attribute_of template attr.Token) (attribute_of original attr.Token)
      (not_read_only making.Set s (Some SecretKey) original template (attr_type_number attr.Token) class (λ p v. refl) ok.writable);
  private = flag_stays (attribute_of template attr.Private) (attribute_of original attr.Private)
      (not_read_only making.Set s (Some SecretKey) original template (attr_type_number attr.Private) class (λ p v. refl) ok.writable);
}
