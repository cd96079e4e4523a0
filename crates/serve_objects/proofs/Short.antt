-- What is returned of a whole object's attributes is short.
use Rattle.std.proofs.Common.{ℕ, ◌≤◌, List, [], ◌∷◌, length, map, Option, Some, None, IfSome, refl, arith}
use Rattle.std.specs.Prelude.{nat_lt}
use Rattle.std.specs.List.{AllByRecursion}
use Rattle.std.proofs.lemmas.Bool.{cond_both}
use Rattle.ck_types.specs.declared.constants.TheConstants.{MAX_ENTRIES}
use Rattle.ck_types.specs.declared.entry.Entry.{Entry}
use Rattle.ck_types.specs.declared.rv.Rv.{Rv}
use Rattle.ck_types.specs.declared.rv.Rv.TheVariants.{Ok, AttributeSensitive, AttributeTypeInvalid, BufferTooSmall}
use Rattle.ck_calls.specs.declared.fields.AttributeQuery.{AttributeQuery}
use Rattle.ck_calls.specs.declared.reply.AttributeValue.{AttributeValue}
use Rattle.attrs.specs.Masking.{reveals}
use Rattle.attrs.specs.Objects.{attribute, IsObject}
use Rattle.model_answers.specs.GetAttributeValue.{unavailable, value_told, if_there, attribute_told, attributes_told, has_code, code_of_all}
use Rattle.lists.proofs.ListLemmas.{length-map}
use Rattle.serve_base.specs.Short.{IsCodeOfValues, IsShortValue, IsShort}
use Rattle.serve_base.proofs.Lengths.{values-short}

abbrev Told : Rv × AttributeValue → Type 0
Told t = IsShortValue t.1

unavailable-short : (code : Rv) → Told (unavailable code)
unavailable-short code = record { told = omega arith; value = tt }

value-short : (bytes : List ℕ) (buffer_len : Option ℕ) → length bytes ≤ 1024 → Told (value_told bytes buffer_len)
value-short bytes None few = record { told = omega (arith, few); value = tt }
value-short bytes (Some buffer_len) few =
    cond_both (nat_lt buffer_len (length bytes)) (unavailable BufferTooSmall)
    (Ok, record { len = length bytes; value = Some bytes }) Told (λ _. unavailable-short BufferTooSmall)
    (λ _. record { told = omega (arith, few); value = (refl, few) })

there-short : (o : Option (List ℕ)) (buffer_len : Option ℕ) → IfSome o (λ bytes. length bytes ≤ 1024) → Told (if_there o buffer_len)
there-short None buffer_len few = unavailable-short AttributeTypeInvalid
there-short (Some bytes) buffer_len few = value-short bytes buffer_len few

one-short : (o : List Entry) → IsObject o → (q : AttributeQuery) → Told (attribute_told o q)
one-short o is q = cond_both (reveals o q.attr_type) (if_there (attribute o q.attr_type) q.buffer_len)
    (unavailable AttributeSensitive) Told (λ _. there-short (attribute o q.attr_type) q.buffer_len (values-short o is q.attr_type))
    (λ _. unavailable-short AttributeSensitive)

each-short : (o : List Entry) → IsObject o → (query : List AttributeQuery)
    → AllByRecursion IsShortValue (map (λ q. (attribute_told o q).1) query)
each-short o is [] = tt
each-short o is (q ∷ query) = (one-short o is q, each-short o is query)

code-short : (codes : List Rv) → IsCodeOfValues (code_of_all codes)
code-short codes =
    cond_both (has_code AttributeSensitive codes) AttributeSensitive _ IsCodeOfValues (λ _. tt)
    (λ _. cond_both (has_code AttributeTypeInvalid codes) AttributeTypeInvalid _ IsCodeOfValues (λ _. tt)
    (λ _. cond_both (has_code BufferTooSmall codes) BufferTooSmall Ok IsCodeOfValues (λ _. tt) (λ _. tt)))

pub told-short : (o : List Entry) → IsObject o → (query : List AttributeQuery) → length query ≤ MAX_ENTRIES
    → IsShort (attributes_told o query)
told-short o is query few = record {
  code_is = code-short (map (λ q. (attribute_told o q).0) query);
  count = rw (length-map (λ q. (attribute_told o q).1) query) few;
  each = each-short o is query;
}
