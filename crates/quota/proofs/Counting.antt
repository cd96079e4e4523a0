-- What is said of the keeper behind a limit is said of both, where the count follows what that keeper holds.
use Rattle.std.proofs.Common.{◌≡◌, ℕ, ◌+◌, ◌-◌, ◌≤◌, Bool, true, false, cond, not, List, [], ◌∷◌, ◌++◌, length, Option, Some, None, Result, Ok, Err, OnOk, arith, subst, sym}
use Rattle.std.specs.Prelude.{find, filter, ◌==◌, IsSome}
use Rattle.std.specs.Option.{option_map}
use Rattle.std.proofs.lemmas.List.{length-append, length-map}
use Rattle.ck_types.specs.declared.entry.Entry.{Entry}
use Rattle.keep.specs.Contents.{Contents, Kept, object_at, kept_replaced_at, with_object, with_replacement, without_object}
use Rattle.keep.specs.Keeping.{Changes, Terms}
use Rattle.quota.specs.QuotaState.{QuotaState, quota_terms}

module _ {K : Type 0} (terms : Terms K) (old new : QuotaState K) (low : terms.doubt old.keep ≤ terms.doubt new.keep) where
  abbrev pub Follows : (Contents → Contents) → Type 0
  Follows step = (c : Contents) → terms.holds old.keep c → terms.doubt new.keep ≡ 0 → length c.objects ≤ old.count
      → length (step c).objects ≤ new.count

  pub changes : (step : Contents → Contents) → Follows step → Changes terms old.keep new.keep step
      → Changes (quota_terms terms) old new step
  changes step follows it = record {
    held = λ c h. (it.held c h.0, λ sure. follows c h.0 sure (h.1 (omega arith)));
    crash = λ c left h. it.crash c left h.0;
  }

  pub on_ok_changes : {T E : Type 0} (r : Result T E) (step : Contents → Contents) → Follows step
      → OnOk r (Changes terms old.keep new.keep step) → OnOk r (Changes (quota_terms terms) old new step)
  on_ok_changes (Ok x) step follows it = changes step follows it
  on_ok_changes (Err e) step follows it = tt

-- one object more
pub one_more : (o : List Entry) (c : Contents) (count : ℕ) → length c.objects ≤ count → length (with_object o c).objects ≤ count + 1
one_more o c count h = let e = length-append c.objects ((c.last_id + 1, o) ∷ []) in omega (arith, e, h)

-- as many as before
pub as_many : (id : ℕ) (o : List Entry) (c : Contents) (count : ℕ) → length c.objects ≤ count
    → length (with_replacement id o c).objects ≤ count
as_many id o c count h = let e = length-map c.objects (kept_replaced_at id o) in omega (arith, e, h)

no_more : (p : Kept → Bool) (es : List Kept) → length (filter p es) ≤ length es
no_more p [] = omega arith
no_more p (e ∷ es) = elim (p e) as (λ b. length (cond b (e ∷ filter p es) (filter p es)) ≤ length (e ∷ es)) [
  | true ↦ let h = no_more p es in omega (arith, h)
  | false ↦ let h = no_more p es in omega (arith, h)
]

fewer : (id : ℕ) (es : List Kept) → IsSome (option_map (λ (e : Kept). e.1) (find (λ (e : Kept). e.0 == id) es))
    → length (filter (λ (e : Kept). not (e.0 == id)) es) + 1 ≤ length es
fewer id [] h = absurd (cc)
fewer id (e ∷ es) h = by (fewer id es) (e.0 == id) h where
  IsThere : Type 0
  IsThere = IsSome (option_map (λ (e : Kept). e.1) (find (λ (e : Kept). e.0 == id) es))

  by : (IsThere → length (filter (λ (e : Kept). not (e.0 == id)) es) + 1 ≤ length es) → (b : Bool)
      → IsSome (option_map (λ (e : Kept). e.1) (cond b (Some e) (find (λ (e : Kept). e.0 == id) es)))
      → length (cond (not b) (e ∷ filter (λ (e : Kept). not (e.0 == id)) es)
      (filter (λ (e : Kept). not (e.0 == id)) es)) + 1 ≤ length (e ∷ es)
  by more true h = let m = no_more (λ (e : Kept). not (e.0 == id)) es in omega (arith, m)
  by more false h = let m = more h in omega (arith, m)

-- one object less
pub one_less : (id : ℕ) (c : Contents) (count : ℕ) → IsSome (object_at c id) → length c.objects ≤ count
    → length (without_object id c).objects ≤ count - 1
one_less id c count there h = let m = fewer id c.objects there in omega (arith, m, h)
