-- What is decoded is an object that is stored so, and what is stored is decoded.
use Rattle.std.proofs.Common.{◌≡◌, ℕ, suc, ◌+◌, ◌<◌, Bool, cond, eqb, List, [], ◌∷◌, ◌++◌, length, get_or, take, Option, Some, None, Result, Ok, Err, refl, sym, ap, subst, ◌∙◌, arith, All}
use Rattle.std.specs.Prelude.{IfOk}
use Rattle.std.specs.List.{AllByRecursion, flat_map}
use Rattle.std.proofs.lemmas.Grind.{flat_map-append}
use Rattle.std.proofs.lemmas.List.{append-nil, length-append, take_more}
use Rattle.std.proofs.lemmas.List.Concat.{flat_map-cons}
use Rattle.std.proofs.lemmas.Bool.{eqb-true}
use Rattle.std.proofs.lemmas.List.Elements.{All-from_recursion}
use Rattle.ck_types.specs.declared.entry.Entry.{Entry}
use Rattle.ck_types.specs.Format.{number16, number32, byte_string, pair, whole}
use Rattle.ck_types.specs.Canonical.{IsCanonical, IsBytes, number16_canonical, number32_canonical, byte_string_canonical, pair_canonical, mapped_canonical, counted_canonical, whole_sound, whole_complete, some_is, when_ok}
use Rattle.attrs.specs.declared.fault.DecodeFault.{DecodeFault}
use Rattle.attrs.specs.Objects.{is_object, IsObject}
use Rattle.attrs.specs.ObjectLaws.{IsSmall, IsObject-small}
use Rattle.attrs.specs.Stored.{stored_entry, stored_entries, stored_form, object_stored, if_object, DecodesObject}

stored_entry_canonical : IsCanonical stored_entry
stored_entry_canonical =
    mapped_canonical (pair number32 byte_string) (λ p. record { attr_type = p.0; value = p.1 }) (λ e. (e.attr_type, e.value))
    (λ x. refl) (λ y. refl)
    (pair_canonical number32 byte_string number32_canonical byte_string_canonical)

pub stored_entries_canonical : IsCanonical stored_entries
stored_entries_canonical = counted_canonical number16 stored_entry number16_canonical stored_entry_canonical

pub small_fit : (es : List Entry) → AllByRecursion IsSmall es → AllByRecursion stored_entry.Fits es
small_fit [] small = tt
small_fit (e ∷ es) small = let s : IsSmall e = small.0 in
    ((omega (arith, s.number_small), omega (arith, s.value_small)), small_fit es small.1)

pub object_fits : (es : List Entry) → IsObject es → stored_entries.Fits es
object_fits es is = let s = IsObject-small es is in (omega (arith, s.1), small_fit es s.0)

pub if_object_some : (o : Option (List Entry)) (es : List Entry) → if_object o ≡ Some es → (o ≡ Some es) × IsObject es
if_object_some None es e = absurd cc
if_object_some (Some xs) es e =
    let h = when_ok (is_object xs) (Some xs) es e in
    (h.1, subst IsObject (some_is xs es h.1) h.0)

pub IsBytes-rest : (b : ℕ) (bytes : List ℕ) → IsBytes (b ∷ bytes) → IsBytes bytes
IsBytes-rest b bytes h i = h (suc i)

pub object_stored-sound : (bytes : List ℕ) (es : List Entry) → IsBytes bytes → object_stored bytes ≡ Some es → bytes ≡ stored_form es
unfolding object_stored
object_stored-sound [] es fits e = absurd cc
object_stored-sound (b ∷ bytes) es fits e =
    let h = when_ok (eqb b 2) (if_object (whole stored_entries bytes)) es e in
    let c = if_object_some (whole stored_entries bytes) es h.1 in
    let t = whole_sound stored_entries stored_entries_canonical bytes es (IsBytes-rest b bytes fits) c.0 in
    ap (λ (x : ℕ). x ∷ bytes) (eqb-true b 2 h.0) ∙ ap (λ (xs : List ℕ). 2 ∷ xs) t.0

pub object_stored-complete : (es : List Entry) → IsObject es → object_stored (stored_form es) ≡ Some es
unfolding object_stored
object_stored-complete es is = ap if_object (whole_complete stored_entries stored_entries_canonical es (object_fits es is))
    ∙ ap (λ (b : Bool). cond b (Some es) None) is

pub is_found : (bytes : List ℕ) (r : Result (List Entry) DecodeFault) → IsBytes bytes → DecodesObject r (object_stored bytes)
    → IfOk r (λ o. bytes ≡ stored_form o)
is_found bytes (Ok es) fits given = object_stored-sound bytes es fits given
is_found bytes (Err e) fits given = tt

-- each attribute of an object is small
pub entries_small : (es : List Entry) → IsObject es → All (λ e. IsSmall e) es
entries_small es is = All-from_recursion (λ e. IsSmall e) es (IsObject-small es is).0

pub entry_small : (es xs : List Entry) (i : ℕ) (x : Entry) → xs ≡ es → IsObject es → i < length xs → x ≡ get_or xs i x → IsSmall x
entry_small es xs i x same is lt at =
    let all = subst (λ (ys : List Entry). All (λ e. IsSmall e) ys) (sym same) (entries_small es is) in
    subst IsSmall (sym at) (all i x lt)

-- one attribute more
pub size_more : (es : List Entry) (i : ℕ) (x : Entry) → i < length es → x ≡ get_or es i x
    → length (flat_map stored_entry.encode (take (i + 1) es)) ≡ length (flat_map stored_entry.encode (take i es)) + (8 + length x.value)
size_more es i x lt at =
    let parts : take (i + 1) es ≡ take i es ++ x ∷ [] = take_more es i x lt ∙ ap (λ (y : Entry). take i es ++ y ∷ []) (sym at) in
    let more : flat_map stored_entry.encode (take (i + 1) es) ≡ flat_map stored_entry.encode (take i es) ++ (stored_entry.encode x ++ []) =
    ap (flat_map stored_entry.encode) parts ∙ flat_map-append stored_entry.encode (take i es) (x ∷ [])
    ∙ ap (λ (y : List ℕ). flat_map stored_entry.encode (take i es) ++ y) (flat_map-cons stored_entry.encode x []) in
    ap length more ∙ length-append (flat_map stored_entry.encode (take i es)) (stored_entry.encode x ++ [])
    ∙ ap (λ (y : List ℕ). length (flat_map stored_entry.encode (take i es)) + length y) (append-nil (stored_entry.encode x))
    ∙ omega arith
