-- What is decoded is an object that is stored so in format 1, and what is stored so is decoded.
use Rattle.std.proofs.Common.{◌≡◌, ◌≢◌, ℕ, suc, ◌+◌, ◌<◌, ◌≤◌, Bool, true, false, cond, not, ◌&&◌, ◌||◌, eqb, ltb, List, [], ◌∷◌, length, Option, Some, None, Result, Ok, Err, refl, sym, ap, subst, ◌∙◌, arith}
use Rattle.std.specs.Prelude.{IfOk, insert}
use Rattle.std.specs.List.{AllByRecursion}
use Rattle.std.proofs.lemmas.Bool.Decides.{nat_tests}
use Rattle.std.proofs.lemmas.Bool.{and_parts, eqb-true, ne_eqb, ltb-true}
use Rattle.ck_types.specs.declared.entry.Entry.{Entry}
use Rattle.ck_types.specs.declared.attr_type.AttrType.{AttrType}
use Rattle.ck_types.specs.declared.attr_type.AttrType.TheVariants as attr
use Rattle.ck_types.specs.declared.object_class.ObjectClass.{ObjectClass}
use Rattle.ck_types.specs.declared.object_class.ObjectClass.TheVariants.{Data, SecretKey}
use Rattle.ck_types.specs.Numbers.{attr_type_number}
use Rattle.ck_types.specs.Format.{whole}
use Rattle.ck_types.specs.Canonical.{IsBytes, whole_sound, whole_complete, some_is, when_ok}
use Rattle.attrs.specs.declared.fault.DecodeFault.{DecodeFault}
use Rattle.attrs.specs.declared.table.AttributeRow.{AttributeRow}
use Rattle.attrs.specs.declared.table.Form.{Form}
use Rattle.attrs.specs.declared.table.Form.TheVariants.{Truth}
use Rattle.attrs.specs.Table.{attribute_table, row_number, rows_of}
use Rattle.attrs.specs.Objects.{attribute, attribute_of, class_at, class_of, fits_rows, flag, has_form, has_key_value, is_of_class, is_true, number_of, IsObject}
use Rattle.attrs.specs.ObjectLaws.{IsSmall, IsObject-rows, IsObject-small}
use Rattle.attrs.specs.Masking.{without}
use Rattle.attrs.specs.MaskingLaws.{attribute-without}
use Rattle.attrs.specs.Stored.{stored_entries, if_object, DecodesObject}
use Rattle.attrs.specs.StoredLaws.{IsBytes-rest, if_object_some, small_fit, stored_entries_canonical}
use Rattle.attrs.specs.OldStored.{old_form, has_new_flags, placed, index_in, false_of, renewed_of, renewed_entries, if_renewed, object_old_stored}

insert-by : (e x : Entry) (xs rest : List Entry) (n : ℕ) (b : Bool) → insert xs n e ≡ rest
    → insert (x ∷ xs) (cond b 0 (n + 1)) e ≡ cond b (e ∷ x ∷ xs) (x ∷ rest)
insert-by e x xs rest n true is = refl
insert-by e x xs rest n false is =
    let one : suc n ≡ n + 1 = omega arith in
    subst (λ m. insert (x ∷ xs) m e ≡ x ∷ rest) one (ap (λ ys. x ∷ ys) is)

pub insert-placed : (e : Entry) (es : List Entry) → insert es (index_in es e.attr_type) e ≡ placed e es
insert-placed e [] = refl
insert-placed e (x ∷ xs) = insert-by e x xs (placed e xs) (index_in xs e.attr_type) (ltb e.attr_type x.attr_type) (insert-placed e xs)

-- ---- rising numbers

abbrev all_after : ℕ → List Entry → Bool
all_after n [] = true
all_after n (x ∷ xs) = ltb n x.attr_type && all_after n xs

abbrev is_rising : List Entry → Bool
is_rising [] = true
is_rising (x ∷ xs) = all_after x.attr_type xs && is_rising xs

abbrev lacks : ℕ → List Entry → Bool
lacks n [] = true
lacks n (x ∷ xs) = not (eqb x.attr_type n) && lacks n xs

abbrev rows_after : ℕ → List AttributeRow → Bool
rows_after n [] = true
rows_after n (r ∷ rs) = ltb n (row_number r) && rows_after n rs

abbrev rows_rise : List AttributeRow → Bool
rows_rise [] = true
rows_rise (r ∷ rs) = rows_after (row_number r) rs && rows_rise rs

abbrev first_form : List AttributeRow → ℕ → Option Form
first_form [] n = None
first_form (r ∷ rs) n = cond (eqb (row_number r) n) (Some r.form) (first_form rs n)

abbrev rows_lack : ℕ → List AttributeRow → Bool
rows_lack n [] = true
rows_lack n (r ∷ rs) = not (eqb (row_number r) n) && rows_lack n rs

abbrev form_of : Option Form → List ℕ → Bool
form_of None v = false
form_of (Some f) v = has_form f v

both : (a b : Bool) → a ≡ true → b ≡ true → (a && b) ≡ true
both true b is is' = is'
both false b is is' = absurd cc

fits_rows-after : (n : ℕ) (rs : List AttributeRow) (es : List Entry) → fits_rows rs es ≡ true → rows_after n rs ≡ true
    → all_after n es ≡ true
fits_rows-after n [] [] e after = refl
fits_rows-after n [] (x ∷ es) e after = absurd cc
fits_rows-after n (r ∷ rs) [] e after = refl
fits_rows-after n (r ∷ rs) (x ∷ es) e after =
    let a = and_parts (eqb x.attr_type (row_number r) && has_form r.form x.value) (fits_rows rs es) e in
    let b = and_parts (eqb x.attr_type (row_number r)) (has_form r.form x.value) a.0 in
    let is : x.attr_type ≡ row_number r = eqb-true x.attr_type (row_number r) b.0 in
    let h = and_parts (ltb n (row_number r)) (rows_after n rs) after in
    both (ltb n x.attr_type) (all_after n es) (ap (ltb n) is ∙ h.0) (fits_rows-after n rs es a.1 h.1)

fits_rows-rise : (rs : List AttributeRow) (es : List Entry) → fits_rows rs es ≡ true → rows_rise rs ≡ true → is_rising es ≡ true
fits_rows-rise [] [] e rise = refl
fits_rows-rise [] (x ∷ es) e rise = absurd cc
fits_rows-rise (r ∷ rs) [] e rise = refl
fits_rows-rise (r ∷ rs) (x ∷ es) e rise =
    let a = and_parts (eqb x.attr_type (row_number r) && has_form r.form x.value) (fits_rows rs es) e in
    let b = and_parts (eqb x.attr_type (row_number r)) (has_form r.form x.value) a.0 in
    let is : x.attr_type ≡ row_number r = eqb-true x.attr_type (row_number r) b.0 in
    let h = and_parts (rows_after (row_number r) rs) (rows_rise rs) rise in
    both (all_after x.attr_type es) (is_rising es) (ap (λ n. all_after n es) is ∙ fits_rows-after (row_number r) rs es a.1 h.0)
    (fits_rows-rise rs es a.1 h.1)

fits_rows-lacks : (n : ℕ) (rs : List AttributeRow) (es : List Entry) → fits_rows rs es ≡ true → rows_lack n rs ≡ true → lacks n es ≡ true
fits_rows-lacks n [] [] e lack = refl
fits_rows-lacks n [] (x ∷ es) e lack = absurd cc
fits_rows-lacks n (r ∷ rs) [] e lack = refl
fits_rows-lacks n (r ∷ rs) (x ∷ es) e lack =
    let a = and_parts (eqb x.attr_type (row_number r) && has_form r.form x.value) (fits_rows rs es) e in
    let b = and_parts (eqb x.attr_type (row_number r)) (has_form r.form x.value) a.0 in
    let is : x.attr_type ≡ row_number r = eqb-true x.attr_type (row_number r) b.0 in
    let h = and_parts (not (eqb (row_number r) n)) (rows_lack n rs) lack in
    both (not (eqb x.attr_type n)) (lacks n es) (ap (λ k. not (eqb k n)) is ∙ h.0) (fits_rows-lacks n rs es a.1 h.1)

-- ---- attributes that stand before all others, or are absent

eqb-same : (n : ℕ) → eqb n n ≡ true
eqb-same n = grind (arith, nat_tests)

after-other : (n m : ℕ) → ltb n m ≡ true → eqb m n ≡ false
after-other n m before = let h = ltb-true n m before in ne_eqb m n (λ same. absurd (omega (arith, h, same)))

without-after : (t : AttrType) (es : List Entry) → all_after (attr_type_number t) es ≡ true → without t es ≡ es
without-after t [] after = refl
without-after t (x ∷ xs) after =
    let h = and_parts (ltb (attr_type_number t) x.attr_type) (all_after (attr_type_number t) xs) after in
    let rest = without-after t xs h.1 in
    rw (after-other (attr_type_number t) x.attr_type h.0, rest) refl

without-lacks : (t : AttrType) (es : List Entry) → lacks (attr_type_number t) es ≡ true → without t es ≡ es
without-lacks t [] lack = refl
without-lacks t (x ∷ xs) lack =
    let h = and_parts (not (eqb x.attr_type (attr_type_number t))) (lacks (attr_type_number t) xs) lack in
    let rest = without-lacks t xs h.1 in
    rw (h.0, rest) refl

lacks-after : (n : ℕ) (es : List Entry) → all_after n es ≡ true → lacks n es ≡ true
lacks-after n [] after = refl
lacks-after n (x ∷ xs) after =
    let h = and_parts (ltb n x.attr_type) (all_after n xs) after in
    both (not (eqb x.attr_type n)) (lacks n xs) (ap not (after-other n x.attr_type h.0)) (lacks-after n xs h.1)

attribute-lacks : (n : ℕ) (es : List Entry) → lacks n es ≡ true → attribute es n ≡ None
attribute-lacks n [] lack = refl
attribute-lacks n (x ∷ xs) lack =
    let h = and_parts (not (eqb x.attr_type n)) (lacks n xs) lack in
    step (eqb x.attr_type n) h.0 (attribute-lacks n xs h.1) where
      step : (b : Bool) → not b ≡ true → attribute xs n ≡ None → cond b (Some x.value) (attribute xs n) ≡ None
      step true other rest = absurd cc
      step false other rest = rest

-- an attribute of a list has a number after what all of it comes after
attribute-above : (m n : ℕ) (v : List ℕ) (es : List Entry) → all_after m es ≡ true → attribute es n ≡ Some v → m < n
attribute-above m n v [] after is = absurd cc
attribute-above m n v (x ∷ xs) after is =
    let h = and_parts (ltb m x.attr_type) (all_after m xs) after in
    step (eqb x.attr_type n) refl (attribute-above m n v xs h.1) h.0 is where
      step : (b : Bool) → eqb x.attr_type n ≡ b → (attribute xs n ≡ Some v → m < n) → ltb m x.attr_type ≡ true
          → cond b (Some x.value) (attribute xs n) ≡ Some v → m < n
      step true same rest before is = subst (λ k. m < k) (eqb-true x.attr_type n same) (ltb-true m x.attr_type before)
      step false other rest before is = rest is

-- ---- an attribute put in its place

not-before : (n m : ℕ) → m < n → ltb n m ≡ false
not-before n m less = grind (arith, nat_tests, less)

some-value : (x y : List ℕ) → Some x ≡ Some y → x ≡ y
some-value x y is = cc

entry-is : (x : Entry) (n : ℕ) (v : List ℕ) → x.attr_type ≡ n → x.value ≡ v → record { attr_type = n; value = v } ≡ x
entry-is x n v same value i = record { attr_type = sym same i; value = sym value i }

placed-after : (e : Entry) (es : List Entry) → all_after e.attr_type es ≡ true → placed e es ≡ e ∷ es
placed-after e [] after = refl
placed-after e (x ∷ xs) after =
    let h = and_parts (ltb e.attr_type x.attr_type) (all_after e.attr_type xs) after in
    rw (h.0) refl

-- it takes the place that it was taken from
placed-without : (t : AttrType) (v : List ℕ) (es : List Entry) → is_rising es ≡ true → attribute es (attr_type_number t) ≡ Some v
    → placed (record { attr_type = attr_type_number t; value = v }) (without t es) ≡ es
placed-without t v [] rise is = absurd cc
placed-without t v (x ∷ xs) rise is =
    let n = attr_type_number t in
    let h = and_parts (all_after x.attr_type xs) (is_rising xs) rise in
    step (eqb x.attr_type n) refl h.0 (placed-without t v xs h.1) is where
      own : (same : x.attr_type ≡ attr_type_number t) → all_after x.attr_type xs ≡ true → Some x.value ≡ Some v
          → placed (record { attr_type = attr_type_number t; value = v }) (without t xs) ≡ x ∷ xs
      own same after is =
          let after : all_after (attr_type_number t) xs ≡ true = subst (λ k. all_after k xs ≡ true) same after in
          let value : x.value ≡ v = some-value x.value v is in
          ap (λ ys. placed (record { attr_type = attr_type_number t; value = v }) ys) (without-after t xs after)
          ∙ placed-after (record { attr_type = attr_type_number t; value = v }) xs after
          ∙ ap (λ e. e ∷ xs) (entry-is x (attr_type_number t) v same value)

      step : (b : Bool) → eqb x.attr_type (attr_type_number t) ≡ b → all_after x.attr_type xs ≡ true
          → (attribute xs (attr_type_number t) ≡ Some v
          → placed (record { attr_type = attr_type_number t; value = v }) (without t xs) ≡ xs)
          → cond b (Some x.value) (attribute xs (attr_type_number t)) ≡ Some v
          → placed (record { attr_type = attr_type_number t; value = v }) (cond (not b) (x ∷ without t xs) (without t xs)) ≡ x ∷ xs
      step true same after rest is = own (eqb-true x.attr_type (attr_type_number t) same) after is
      step false other after rest is =
          let above = attribute-above x.attr_type (attr_type_number t) v xs after is in
          let not_before : ltb (attr_type_number t) x.attr_type ≡ false = not-before (attr_type_number t) x.attr_type above in
          rw (not_before) (ap (λ ys. x ∷ ys) (rest is))

-- and without it the others are as they were
without-placed : (t : AttrType) (v : List ℕ) (es : List Entry)
    → without t (placed (record { attr_type = attr_type_number t; value = v }) es) ≡ without t es
without-placed t v [] = rw (eqb-same (attr_type_number t)) refl
without-placed t v (x ∷ xs) = step (ltb (attr_type_number t) x.attr_type) (without-placed t v xs) where
  step : (b : Bool) → without t (placed (record { attr_type = attr_type_number t; value = v }) xs) ≡ without t xs
      → without t (cond b (record { attr_type = attr_type_number t; value = v } ∷ x ∷ xs)
      (x ∷ placed (record { attr_type = attr_type_number t; value = v }) xs)) ≡ without t (x ∷ xs)
  step true rest = rw (eqb-same (attr_type_number t)) refl
  step false rest = ap (λ ys. cond (not (eqb x.attr_type (attr_type_number t))) (x ∷ ys) ys) rest

after-placed : (m : ℕ) (e : Entry) (es : List Entry) → all_after m (placed e es) ≡ true → (all_after m es ≡ true)
    × (ltb m e.attr_type ≡ true)
after-placed m e [] after = (refl, (and_parts (ltb m e.attr_type) true after).0)
after-placed m e (x ∷ xs) after = step (ltb e.attr_type x.attr_type) (after-placed m e xs) after where
  step : (b : Bool) → (all_after m (placed e xs) ≡ true → (all_after m xs ≡ true) × (ltb m e.attr_type ≡ true))
      → all_after m (cond b (e ∷ x ∷ xs) (x ∷ placed e xs)) ≡ true → (all_after m (x ∷ xs) ≡ true) × (ltb m e.attr_type ≡ true)
  step true rest after = let h = and_parts (ltb m e.attr_type) (all_after m (x ∷ xs)) after in (h.1, h.0)
  step false rest after =
      let h = and_parts (ltb m x.attr_type) (all_after m (placed e xs)) after in
      let r = rest h.1 in
      (both (ltb m x.attr_type) (all_after m xs) h.0 r.0, r.1)

-- where all numbers rise with it, they rise without it, and none is its own
rising-placed : (e : Entry) (es : List Entry) → is_rising (placed e es) ≡ true → (is_rising es ≡ true) × (lacks e.attr_type es ≡ true)
rising-placed e [] rise = (refl, refl)
rising-placed e (x ∷ xs) rise = step (ltb e.attr_type x.attr_type) (rising-placed e xs) rise where
  step : (b : Bool) → (is_rising (placed e xs) ≡ true → (is_rising xs ≡ true) × (lacks e.attr_type xs ≡ true))
      → is_rising (cond b (e ∷ x ∷ xs) (x ∷ placed e xs)) ≡ true → (is_rising (x ∷ xs) ≡ true) × (lacks e.attr_type (x ∷ xs) ≡ true)
  step true rest rise = let h = and_parts (all_after e.attr_type (x ∷ xs)) (is_rising (x ∷ xs)) rise in
      (h.1, lacks-after e.attr_type (x ∷ xs) h.0)
  step false rest rise =
      let h = and_parts (all_after x.attr_type (placed e xs)) (is_rising (placed e xs)) rise in
      let a = after-placed x.attr_type e xs h.0 in
      let r = rest h.1 in
      let less = ltb-true x.attr_type e.attr_type a.1 in (
        both (all_after x.attr_type xs) (is_rising xs) a.0 r.0,
        both (not (eqb x.attr_type e.attr_type)) (lacks e.attr_type xs)
            (ap not (ne_eqb x.attr_type e.attr_type (λ same. absurd (omega (arith, less, same))))) r.1,
      )

attribute-placed : (e : Entry) (es : List Entry) (m : ℕ) → e.attr_type ≢ m → attribute (placed e es) m ≡ attribute es m
attribute-placed e [] m other = rw (ne_eqb e.attr_type m other) refl
attribute-placed e (x ∷ xs) m other = step (ltb e.attr_type x.attr_type) (attribute-placed e xs m other) where
  step : (b : Bool) → attribute (placed e xs) m ≡ attribute xs m
      → attribute (cond b (e ∷ x ∷ xs) (x ∷ placed e xs)) m ≡ attribute (x ∷ xs) m
  step true rest = rw (ne_eqb e.attr_type m other) refl
  step false rest = ap (λ o. cond (eqb x.attr_type m) (Some x.value) o) rest

not-true : (b : Bool) → not b ≡ true → b ≡ false
not-true true is = absurd cc
not-true false is = refl

attribute-placed-own : (e : Entry) (es : List Entry) → lacks e.attr_type es ≡ true → attribute (placed e es) e.attr_type ≡ Some e.value
attribute-placed-own e [] lack = rw (eqb-same e.attr_type) refl
attribute-placed-own e (x ∷ xs) lack =
    let h = and_parts (not (eqb x.attr_type e.attr_type)) (lacks e.attr_type xs) lack in
    step (ltb e.attr_type x.attr_type) (not-true (eqb x.attr_type e.attr_type) h.0) (attribute-placed-own e xs h.1) where
      step : (b : Bool) → eqb x.attr_type e.attr_type ≡ false → attribute (placed e xs) e.attr_type ≡ Some e.value
          → attribute (cond b (e ∷ x ∷ xs) (x ∷ placed e xs)) e.attr_type ≡ Some e.value
      step true other rest = rw (eqb-same e.attr_type) refl
      step false other rest = rw (other) rest

after-without : (m : ℕ) (t : AttrType) (es : List Entry) → all_after m es ≡ true → all_after m (without t es) ≡ true
after-without m t [] after = refl
after-without m t (x ∷ xs) after =
    let h = and_parts (ltb m x.attr_type) (all_after m xs) after in
    step (not (eqb x.attr_type (attr_type_number t))) h.0 (after-without m t xs h.1) where
      step : (b : Bool) → ltb m x.attr_type ≡ true → all_after m (without t xs) ≡ true
          → all_after m (cond b (x ∷ without t xs) (without t xs)) ≡ true
      step true before rest = both (ltb m x.attr_type) (all_after m (without t xs)) before rest
      step false before rest = rest

rising-without : (t : AttrType) (es : List Entry) → is_rising es ≡ true → is_rising (without t es) ≡ true
rising-without t [] rise = refl
rising-without t (x ∷ xs) rise =
    let h = and_parts (all_after x.attr_type xs) (is_rising xs) rise in
    step (not (eqb x.attr_type (attr_type_number t))) (after-without x.attr_type t xs h.0) (rising-without t xs h.1) where
      step : (b : Bool) → all_after x.attr_type (without t xs) ≡ true → is_rising (without t xs) ≡ true
          → is_rising (cond b (x ∷ without t xs) (without t xs)) ≡ true
      step true after rest = both (all_after x.attr_type (without t xs)) (is_rising (without t xs)) after rest
      step false after rest = rest

-- ---- what the rows say of an attribute

record HasForm (f : Form) (o : Option (List ℕ)) : Type 0 where
  value : List ℕ
  is : o ≡ Some value
  form : has_form f value ≡ true

fits_rows-form : (rs : List AttributeRow) (es : List Entry) (n : ℕ) (f : Form) → fits_rows rs es ≡ true → first_form rs n ≡ Some f
    → HasForm f (attribute es n)
fits_rows-form [] es n f e first = absurd cc
fits_rows-form (r ∷ rs) [] n f e first = absurd cc
fits_rows-form (r ∷ rs) (x ∷ es) n f e first =
    let a = and_parts (eqb x.attr_type (row_number r) && has_form r.form x.value) (fits_rows rs es) e in
    let b = and_parts (eqb x.attr_type (row_number r)) (has_form r.form x.value) a.0 in
    let same : eqb (row_number r) n ≡ eqb x.attr_type n = ap (λ (m : ℕ). eqb m n) (sym (eqb-true x.attr_type (row_number r) b.0)) in
    step (eqb x.attr_type n) (fits_rows-form rs es n f a.1) b.1
    (subst (λ (c : Bool). cond c (Some r.form) (first_form rs n) ≡ Some f) same first) where
      own : (g : Form) → has_form g x.value ≡ true → Some g ≡ Some f → has_form f x.value ≡ true
      own g fits is = subst (λ o. form_of o x.value ≡ true) is fits

      step : (c : Bool) → (first_form rs n ≡ Some f → HasForm f (attribute es n)) → has_form r.form x.value ≡ true
          → cond c (Some r.form) (first_form rs n) ≡ Some f → HasForm f (cond c (Some x.value) (attribute es n))
      step true rest fits is = record { value = x.value; is = refl; form = own r.form fits is }
      step false rest fits is = rest is

-- a truth value that is not true is a byte 0
false-value : (v : List ℕ) → has_form Truth v ≡ true → is_true (Some v) ≡ false → v ≡ 0 ∷ []
false-value [] form untrue = absurd cc
false-value (b ∷ []) form untrue =
    let less = ltb-true b 2 (and_parts true (ltb b 2) form).1 in
    ap (λ n. n ∷ []) (zero b less untrue) where
      zero : (b : ℕ) → b < 2 → eqb b 1 ≡ false → b ≡ 0
      zero b less other = grind (arith, nat_tests, less, other)
false-value (b ∷ c ∷ v) form untrue =
    let one = eqb-true (length (b ∷ c ∷ v)) 1 (and_parts (eqb (length (b ∷ c ∷ v)) 1) (ltb b 2) form).0 in
    absurd (omega (arith, one))

-- ---- objects of format 1

rows_rise-of : (c : ObjectClass) → rows_rise (rows_of c) ≡ true
unfolding attribute_table
rows_rise-of Data = refl
rows_rise-of SecretKey = refl

trusted-form : first_form (rows_of SecretKey) (attr_type_number attr.Trusted) ≡ Some Truth
unfolding attribute_table
trusted-form = refl

wrap_with_trusted-form : first_form (rows_of SecretKey) (attr_type_number attr.WrapWithTrusted) ≡ Some Truth
unfolding attribute_table
wrap_with_trusted-form = refl

data-trusted : rows_lack (attr_type_number attr.Trusted) (rows_of Data) ≡ true
unfolding attribute_table
data-trusted = refl

data-wrap_with_trusted : rows_lack (attr_type_number attr.WrapWithTrusted) (rows_of Data) ≡ true
unfolding attribute_table
data-wrap_with_trusted = refl

-- the attributes that format 1 has
abbrev stripped : List Entry → List Entry
stripped o = without attr.Trusted (without attr.WrapWithTrusted o)

or-parts : (a b : Bool) → (a || b) ≡ false → (a ≡ false) × (b ≡ false)
or-parts true b is = absurd cc
or-parts false b is = (refl, is)

class_of-stripped : (o : List Entry) → class_of (stripped o) ≡ class_of o
class_of-stripped o =
    ap (λ (v : Option (List ℕ)). class_at (number_of v))
    (attribute-without attr.Trusted (without attr.WrapWithTrusted o) (attr_type_number attr.Class)
    (λ e. absurd (omega (arith, e)))
    ∙ attribute-without attr.WrapWithTrusted o (attr_type_number attr.Class) (λ e. absurd (omega (arith, e))))

class_of-placed : (e : Entry) (es : List Entry) → e.attr_type ≢ attr_type_number attr.Class → class_of (placed e es) ≡ class_of es
class_of-placed e es other = ap (λ (v : Option (List ℕ)). class_at (number_of v))
    (attribute-placed e es (attr_type_number attr.Class) other)

-- data have neither attribute
data-stripped : (o : List Entry) → fits_rows (rows_of Data) o ≡ true → (stripped o ≡ o) × (has_new_flags o ≡ false)
data-stripped o rows =
    let t = fits_rows-lacks (attr_type_number attr.Trusted) (rows_of Data) o rows data-trusted in
    let w = fits_rows-lacks (attr_type_number attr.WrapWithTrusted) (rows_of Data) o rows data-wrap_with_trusted in (
      ap (without attr.Trusted) (without-lacks attr.WrapWithTrusted o w) ∙ without-lacks attr.Trusted o t,
      rw (attribute-lacks (attr_type_number attr.Trusted) o t, attribute-lacks (attr_type_number attr.WrapWithTrusted) o w) refl,
    )

-- a flag of the rows that is false is a byte 0
false-flag : (o : List Entry) (t : AttrType) → fits_rows (rows_of SecretKey) o ≡ true
    → first_form (rows_of SecretKey) (attr_type_number t) ≡ Some Truth → flag o t ≡ false → attribute_of o t ≡ Some (0 ∷ [])
false-flag o t rows form untrue =
    let h = fits_rows-form (rows_of SecretKey) o (attr_type_number t) Truth rows form in
    h.is ∙ ap Some (false-value h.value h.form (ap is_true (sym h.is) ∙ untrue))

renewed-key : (o : List Entry) → fits_rows (rows_of SecretKey) o ≡ true → has_new_flags o ≡ false
    → renewed_of (Some SecretKey) (stripped o) ≡ o
renewed-key o rows old =
    let flags = or-parts (flag o attr.Trusted) (flag o attr.WrapWithTrusted) old in
    let rise = fits_rows-rise (rows_of SecretKey) o rows (rows_rise-of SecretKey) in
    let w = false-flag o attr.WrapWithTrusted rows wrap_with_trusted-form flags.1 in
    let t = attribute-without attr.WrapWithTrusted o (attr_type_number attr.Trusted) (λ e. absurd (omega (arith, e)))
    ∙ false-flag o attr.Trusted rows trusted-form flags.0 in
    ap (placed (false_of attr.WrapWithTrusted))
    (placed-without attr.Trusted (0 ∷ []) (without attr.WrapWithTrusted o) (rising-without attr.WrapWithTrusted o rise) t)
    ∙ placed-without attr.WrapWithTrusted (0 ∷ []) o rise w

renewed-stripped : (o : List Entry) (class : ObjectClass) → class_of o ≡ Some class → fits_rows (rows_of class) o ≡ true
    → has_new_flags o ≡ false → renewed_entries (stripped o) ≡ o
renewed-stripped o Data is rows old = ap (λ c. renewed_of c (stripped o)) (class_of-stripped o ∙ is) ∙ (data-stripped o rows).0
renewed-stripped o SecretKey is rows old = ap (λ c. renewed_of c (stripped o)) (class_of-stripped o ∙ is) ∙ renewed-key o rows old

small-without : (t : AttrType) (es : List Entry) → AllByRecursion IsSmall es → AllByRecursion IsSmall (without t es)
    × (length (without t es) ≤ length es)
small-without t [] small = (tt, omega arith)
small-without t (x ∷ xs) small = step (not (eqb x.attr_type (attr_type_number t))) (small-without t xs small.1) where
  step : (b : Bool) → AllByRecursion IsSmall (without t xs) × (length (without t xs) ≤ length xs)
      → AllByRecursion IsSmall (cond b (x ∷ without t xs) (without t xs))
      × (length (cond b (x ∷ without t xs) (without t xs)) ≤ suc (length xs))
  step true rest = ((small.0, rest.0), omega (arith, rest.1))
  step false rest = (rest.0, omega (arith, rest.1))

stripped_fits : (o : List Entry) → IsObject o → stored_entries.Fits (stripped o)
stripped_fits o is =
    let s = IsObject-small o is in
    let w = small-without attr.WrapWithTrusted o s.0 in
    let t = small-without attr.Trusted (without attr.WrapWithTrusted o) w.0 in
    (omega (arith, s.1, w.1, t.1), small_fit (stripped o) t.0)

pub object_old_stored-complete : (o : List Entry) → IsObject o → has_new_flags o ≡ false → object_old_stored (old_form o) ≡ Some o
unfolding object_old_stored
object_old_stored-complete o is old =
    let h = IsObject-rows o is in
    ap if_renewed (whole_complete stored_entries stored_entries_canonical (stripped o) (stripped_fits o is))
    ∙ ap (λ xs. if_object (Some xs)) (renewed-stripped o h.class h.class_is h.rows old) ∙ ap (λ (b : Bool). cond b (Some o) None) is

record IsRenewed (es o : List Entry) : Type 0 where
  entries : es ≡ stripped o
  old : has_new_flags o ≡ false

key-renewed : (es : List Entry) → class_of es ≡ Some SecretKey → IsObject (renewed_of (Some SecretKey) es)
    → IsRenewed es (renewed_of (Some SecretKey) es)
key-renewed es class is =
    let t = false_of attr.Trusted in
    let w = false_of attr.WrapWithTrusted in
    let o = placed w (placed t es) in
    let c : class_of o ≡ Some SecretKey =
    class_of-placed w (placed t es) (λ e. absurd (omega (arith, e))) ∙ class_of-placed t es (λ e. absurd (omega (arith, e))) ∙ class in
    let rows = (and_parts (fits_rows (rows_of SecretKey) o) (has_key_value o) (subst (λ x. is_of_class x o ≡ true) c is)).0 in
    let rise = fits_rows-rise (rows_of SecretKey) o rows (rows_rise-of SecretKey) in
    let with_w = rising-placed w (placed t es) rise in
    let with_t = rising-placed t es with_w.0 in
    let flag_w : attribute_of o attr.WrapWithTrusted ≡ Some (0 ∷ []) = attribute-placed-own w (placed t es) with_w.1 in
    let flag_t : attribute_of o attr.Trusted ≡ Some (0 ∷ []) =
    attribute-placed w (placed t es) (attr_type_number attr.Trusted) (λ e. absurd (omega (arith, e)))
    ∙ attribute-placed-own t es with_t.1 in
    record {
      entries = sym (ap (without attr.Trusted)
          (without-placed attr.WrapWithTrusted (0 ∷ []) (placed t es) ∙ without-lacks attr.WrapWithTrusted (placed t es) with_w.1)
          ∙ without-placed attr.Trusted (0 ∷ []) es ∙ without-lacks attr.Trusted es with_t.1);
      old = rw (flag_t, flag_w) refl;
    }

is-renewed : (c : Option ObjectClass) (es : List Entry) → class_of es ≡ c → IsObject (renewed_of c es) → IsRenewed es (renewed_of c es)
is-renewed None es class is = absurd (subst (λ x. is_of_class x es ≡ true → ⊥) (sym class) (λ e. absurd cc) is)
is-renewed (Some Data) es class is =
    let d = data-stripped es (subst (λ x. is_of_class x es ≡ true) class is) in
    record { entries = sym d.0; old = d.1 }
is-renewed (Some SecretKey) es class is = key-renewed es class is

if_renewed-some : (x : Option (List Entry)) (o : List Entry) → if_renewed x ≡ Some o → (es : List Entry) × (x ≡ Some es)
    × (IsObject (renewed_entries es) × (renewed_entries es ≡ o))
if_renewed-some None o e = absurd cc
if_renewed-some (Some es) o e =
    let h = if_object_some (Some (renewed_entries es)) o e in
    let same = some_is (renewed_entries es) o h.0 in
    (es, refl, (subst IsObject (sym same) h.1, same))

pub object_old_stored-sound : (bytes : List ℕ) (o : List Entry) → IsBytes bytes → object_old_stored bytes ≡ Some o
    → (bytes ≡ old_form o) × (has_new_flags o ≡ false)
unfolding object_old_stored
object_old_stored-sound [] o fits e = absurd cc
object_old_stored-sound (b ∷ bytes) o fits e =
    let h = when_ok (eqb b 1) (if_renewed (whole stored_entries bytes)) o e in
    let c = if_renewed-some (whole stored_entries bytes) o h.1 in
    let r = is-renewed (class_of c.0) c.0 refl c.2.0 in
    let t = whole_sound stored_entries stored_entries_canonical bytes c.0 (IsBytes-rest b bytes fits) c.1 in
    let entries : c.0 ≡ stripped o = r.entries ∙ ap stripped c.2.1 in (
      ap (λ (x : ℕ). x ∷ bytes) (eqb-true b 1 h.0)
          ∙ ap (λ (xs : List ℕ). 1 ∷ xs) (t.0 ∙ ap stored_entries.encode entries),
      ap has_new_flags (sym c.2.1) ∙ r.old,
    )

pub is_old_found : (bytes : List ℕ) (r : Result (List Entry) DecodeFault) → IsBytes bytes → DecodesObject r (object_old_stored bytes)
    → IfOk r (λ o. (bytes ≡ old_form o) × (has_new_flags o ≡ false))
is_old_found bytes (Ok o) fits given = object_old_stored-sound bytes o fits given
is_old_found bytes (Err e) fits given = tt
