-- What is remembered after an object is put in or taken out, and what is found.
use Rattle.std.proofs.Common.{◌≡◌, ◌≢◌, ◌⊎◌, inl, inr, ℕ, nat_eq, true, false, cond, List, Some, None, Result, Ok, Err, OnOk, OnErr, Contains, refl, sym, ap, subst, ◌∙◌}
use Rattle.std.specs.Cmp.{nat_eq_equiv}
use Rattle.std.specs.List.{IsDistinct}
use Rattle.std.specs.Map.{lookup, remove_entry, keys_of}
use Rattle.std.proofs.lemmas.Bool.{eqb-true, eq-eqb}
use Rattle.std.proofs.lemmas.Map.{lookup-remove_entry, none_passes_from_lookup}
use Rattle.lru.specs.LruCache.{LruCache, lru_cache, put_entries}
use Rattle.lru.proofs.CallerLemmas.{Contains-put_entries, Contains-lookup, Contains-remove_entry}
use Rattle.lru.proofs.Splits.{all_at}
use Rattle.ck_types.specs.declared.entry.Entry.{Entry}
use Rattle.keep.specs.Contents.{Kept}

-- what a `put` leaves
pub Contains-put : {T E : Type 0} (r : Result T E) (old new : LruCache ℕ (List Entry)) (id : ℕ) (copy object : List Entry) → copy ≡ object
    → OnOk r (new ≡ lru_cache (put_entries nat_eq old id copy) old.cap) → OnErr r (new ≡ old)
    → (e : Kept) → Contains new.entries e → Contains old.entries e ⊎ (e ≡ (id, object))
Contains-put (Err x) old new id copy object same ok err e h = inl (subst (λ (c : LruCache ℕ (List Entry)). Contains c.entries e) err h)
Contains-put (Ok x) old new id copy object same ok err e h =
    elim (Contains-put_entries nat_eq old id copy e (subst (λ (c : LruCache ℕ (List Entry)). Contains c.entries e) ok h)) [
      | inl was ↦ inl was
      | inr put ↦
          let is : e.0 ≡ id = elim put.1 [ inl same_id ↦ same_id | inr at ↦ sym (eqb-true id e.0 at.2) ] in
          inr (ap (λ (n : ℕ). (n, e.1)) is ∙ ap (λ (o : List Entry). (id, o)) (put.0 ∙ same))
    ]

-- what is found is there under that id
pub Contains-found : (es : List Kept) (id : ℕ) (object copy : List Entry) → object ≡ copy → lookup (nat_eq id) es ≡ Some object
    → Contains es (id, copy)
Contains-found es id object copy same found =
    let it = Contains-lookup (nat_eq id) es object found in
    subst (λ (e : Kept). Contains es e)
    (ap (λ (n : ℕ). (n, object)) (sym (eqb-true id it.0 it.2)) ∙ ap (λ (o : List Entry). (id, o)) same) it.1

-- what is there without the entry of an id was there, and is none of that id
pub Contains-without : (es : List Kept) (id : ℕ) (e : Kept) → IsDistinct nat_eq (keys_of es)
    → Contains (remove_entry (nat_eq id) es) e → Contains es e × (e.0 ≢ id)
Contains-without es id e distinct there =
    let none : lookup (nat_eq id) (remove_entry (nat_eq id) es) ≡ None =
    lookup-remove_entry nat_eq_equiv (nat_eq id) (λ x y same. ap (λ (k : ℕ). nat_eq k y) (eqb-true id x same)) id es distinct
    ∙ ap (λ b. cond b None (lookup (nat_eq id) es)) (eq-eqb id id refl) in
    let apart : nat_eq id e.0 ≡ false =
    all_at (λ (f : Kept). nat_eq id f.0 ≡ false) (remove_entry (nat_eq id) es) e
    (none_passes_from_lookup (nat_eq id) (remove_entry (nat_eq id) es) none) there in
    (Contains-remove_entry (nat_eq id) es e there, λ is. let both : false ≡ true = sym apart ∙ eq-eqb id e.0 (sym is) in cc)
