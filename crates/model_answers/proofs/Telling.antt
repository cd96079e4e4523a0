-- C_GetAttributeValue: what is returned of attributes.
use Rattle.std.proofs.Common.{◌≡◌, Bool, true, false, cond, ◌||◌, eqb, ℕ, ◌+◌, ◌<◌, List, [], ◌∷◌, ◌++◌, map, length, get_or, take, refl, sym, ◌∙◌, ap}
use Rattle.std.proofs.lemmas.Bool.{eq-eqb}
use Rattle.std.proofs.lemmas.List.{take_more}
use Rattle.std.proofs.lemmas.List.Folds.{list_any-append}
use Rattle.ck_types.specs.declared.entry.Entry.{Entry}
use Rattle.ck_types.specs.declared.attr_type.AttrType.TheVariants as attr
use Rattle.ck_types.specs.declared.rv.Rv.{Rv}
use Rattle.ck_types.specs.declared.rv.Rv.TheVariants.{Ok, AttributeSensitive, AttributeTypeInvalid, BufferTooSmall}
use Rattle.ck_types.specs.Numbers.{attr_type_number, rv_number}
use Rattle.ck_calls.specs.declared.fields.AttributeQuery.{AttributeQuery}
use Rattle.ck_calls.specs.declared.reply.AttributeValue.{AttributeValue}
use Rattle.attrs.specs.Objects.{attribute}
use Rattle.attrs.specs.Masking.{is_masked, without, reveals, mask as mask_object}
use Rattle.attrs.specs.MaskingLaws.{attribute-without, reveals-mask}
use Rattle.model_answers.specs.GetAttributeValue.{unavailable, if_there, attribute_told, attributes_told, has_code, code_of_all}
use Rattle.lists.proofs.ListLemmas.{map-push, map-same}

-- ---- what is returned doesn't depend on what is masked

attribute-shown : (o : List Entry) (n : ℕ) → reveals o n ≡ true → attribute (mask_object o) n ≡ attribute o n
attribute-shown o n shown = at (is_masked o) refl where
  at : (b : Bool) → is_masked o ≡ b → attribute (cond b (without attr.Value o) o) n ≡ attribute o n
  at false h = refl
  at true h = attribute-without attr.Value o n (λ e. let k : false ≡ true = rw (h, eq-eqb n (attr_type_number attr.Value) e) at shown in cc)

pub attribute_told-mask : (o : List Entry) (q : AttributeQuery) → attribute_told (mask_object o) q ≡ attribute_told o q
attribute_told-mask o q = ap (λ b. cond b (if_there (attribute (mask_object o) q.attr_type) q.buffer_len)
    (unavailable AttributeSensitive)) (reveals-mask o q.attr_type) ∙ at (reveals o q.attr_type) refl where
      at : (b : Bool) → reveals o q.attr_type ≡ b
          → cond b (if_there (attribute (mask_object o) q.attr_type) q.buffer_len) (unavailable AttributeSensitive)
          ≡ cond b (if_there (attribute o q.attr_type) q.buffer_len) (unavailable AttributeSensitive)
      at true h = ap (λ a. if_there a q.buffer_len) (attribute-shown o q.attr_type h)
      at false h = refl

pub attributes_told-mask : (o : List Entry) (query : List AttributeQuery) → attributes_told (mask_object o) query ≡ attributes_told o query
attributes_told-mask o query =
    rw (
      map-same (λ q. (attribute_told (mask_object o) q).0) (λ q. (attribute_told o q).0) query
          (λ q. ap (λ t. t.0) (attribute_told-mask o q)),
      map-same (λ q. (attribute_told (mask_object o) q).1) (λ q. (attribute_told o q).1) query
          (λ q. ap (λ t. t.1) (attribute_told-mask o q)),
    ) refl

-- ---- the code of one more

abbrev first : Bool → Bool → Bool → Rv
first a b c = cond a AttributeSensitive (cond b AttributeTypeInvalid (cond c BufferTooSmall Ok))

abbrev is : Rv → Rv → Bool
is x y = eqb (rv_number x) (rv_number y)

pub code_of_all-push : (codes : List Rv) (code : Rv) → code_of_all (codes ++ code ∷ []) ≡ code_of_all (code_of_all codes ∷ code ∷ [])
code_of_all-push codes code =
    rw (
      list_any-append (λ c. eqb (rv_number c) (rv_number AttributeSensitive)) codes (code ∷ []),
      list_any-append (λ c. eqb (rv_number c) (rv_number AttributeTypeInvalid)) codes (code ∷ []),
      list_any-append (λ c. eqb (rv_number c) (rv_number BufferTooSmall)) codes (code ∷ []),
    ) (at (has_code AttributeSensitive codes) (has_code AttributeTypeInvalid codes) (has_code BufferTooSmall codes)
    (has_code AttributeSensitive (code ∷ [])) (has_code AttributeTypeInvalid (code ∷ [])) (has_code BufferTooSmall (code ∷ []))) where
      at : (a b c x y z : Bool) → first (a || x) (b || y) (c || z)
          ≡ first (is (first a b c) AttributeSensitive || x) (is (first a b c) AttributeTypeInvalid || y)
          (is (first a b c) BufferTooSmall || z)
      at true b c x y z = refl
      at false true c true y z = refl
      at false true c false y z = refl
      at false false true true y z = refl
      at false false true false true z = refl
      at false false true false false z = refl
      at false false false x y z = refl

-- ---- one more attribute is returned

module _ (o : List Entry) (query : List AttributeQuery) (i : ℕ) (d : AttributeQuery) (below : i < length query) where
  pub codes-more : (code own : Rv) → code ≡ code_of_all (map (λ q. (attribute_told o q).0) (take i query))
      → own ≡ (attribute_told o (get_or query i d)).0
      → code_of_all (code ∷ own ∷ []) ≡ code_of_all (map (λ q. (attribute_told o q).0) (take (i + 1) query))
  codes-more code own so_far is =
      ap (λ c. code_of_all (c ∷ own ∷ [])) so_far
      ∙ ap (λ c. code_of_all (code_of_all (map (λ q. (attribute_told o q).0) (take i query)) ∷ c ∷ [])) is
      ∙ sym (code_of_all-push (map (λ q. (attribute_told o q).0) (take i query)) (attribute_told o (get_or query i d)).0)
      ∙ ap code_of_all (sym (map-push (λ q. (attribute_told o q).0) (take i query) (get_or query i d)))
      ∙ ap (λ qs. code_of_all (map (λ q. (attribute_told o q).0) qs)) (sym (take_more query i d below))

  pub values-more : (values : List AttributeValue) (value : AttributeValue)
      → values ≡ map (λ q. (attribute_told o q).1) (take i query) → value ≡ (attribute_told o (get_or query i d)).1
      → values ++ value ∷ [] ≡ map (λ q. (attribute_told o q).1) (take (i + 1) query)
  values-more values value so_far is =
      ap (λ vs. vs ++ value ∷ []) so_far
      ∙ ap (λ v. map (λ q. (attribute_told o q).1) (take i query) ++ v ∷ []) is
      ∙ sym (map-push (λ q. (attribute_told o q).1) (take i query) (get_or query i d))
      ∙ ap (map (λ q. (attribute_told o q).1)) (sym (take_more query i d below))
