-- What is said of the keeper behind a cache is said of both, where the cache follows what that keeper holds.
use Rattle.std.proofs.Common.{◌≡◌, ℕ, ◌+◌, ◌≤◌, List, [], ◌∷◌, Option, Some, None, Result, Ok, Err, OnOk, OnErr, ap, ◌∙◌, arith}
use Rattle.std.specs.Prelude.{find, ◌==◌}
use Rattle.std.specs.Option.{option_map, option_or}
use Rattle.std.proofs.lemmas.List.Folds.{find-append}
use Rattle.ck_types.specs.declared.entry.Entry.{Entry}
use Rattle.keep.specs.Contents.{Contents, Kept, object_at, with_object}
use Rattle.keep.specs.Keeping.{Changes, Fails, Stays, Terms}
use Rattle.cache.specs.CachedState.{Agrees, CachedState, cached_terms}

module _ {K : Type 0} (terms : Terms K) (old new : CachedState K) (low : terms.doubt old.keep ≤ terms.doubt new.keep) where
  abbrev pub Follows : (Contents → Contents) → Type 0
  Follows step = (c : Contents) → terms.holds old.keep c → terms.doubt new.keep ≡ 0 → Agrees old.entries c → Agrees new.entries (step c)

  holds_step : (step : Contents → Contents) → Follows step → ((c : Contents) → terms.holds old.keep c → terms.holds new.keep (step c))
      → (c : Contents) → (cached_terms terms).holds old c → (cached_terms terms).holds new (step c)
  holds_step step follows held c h = (held c h.0, λ sure. follows c h.0 sure (h.1 (omega arith)))

  pub stays : Follows (λ c. c) → Stays terms old.keep new.keep → Stays (cached_terms terms) old new
  stays follows it = record {
    held = holds_step (λ c. c) follows it.held;
    crash = λ c left h. it.crash c left h.0;
  }

  pub changes : (step : Contents → Contents) → Follows step → Changes terms old.keep new.keep step
      → Changes (cached_terms terms) old new step
  changes step follows it = record {
    held = holds_step step follows it.held;
    crash = λ c left h. it.crash c left h.0;
  }

  pub fails : (step : Contents → Contents) → Follows (λ c. c) → Fails terms old.keep new.keep step → Fails (cached_terms terms) old new step
  fails step follows it = record {
    held = holds_step (λ c. c) follows it.held;
    crash = λ c left h. it.crash c left h.0;
  }

  pub on_ok_changes : {T E : Type 0} (r : Result T E) (step : Contents → Contents) → Follows step
      → OnOk r (Changes terms old.keep new.keep step) → OnOk r (Changes (cached_terms terms) old new step)
  on_ok_changes (Ok x) step follows it = changes step follows it
  on_ok_changes (Err e) step follows it = tt

  -- the same where the fault is at hand
  pub on_err_fails_now : {T E : Type 0} (r : Result T E) (step : Contents → Contents) → Follows (λ c. c)
      → Fails terms old.keep new.keep step → OnErr r (Fails (cached_terms terms) old new step)
  on_err_fails_now (Ok x) step follows it = tt
  on_err_fails_now (Err e) step follows it = fails step follows it

  pub on_err_fails : {T E : Type 0} (r : Result T E) (step : Contents → Contents) → Follows (λ c. c)
      → OnErr r (Fails terms old.keep new.keep step) → OnErr r (Fails (cached_terms terms) old new step)
  on_err_fails (Ok x) step follows it = tt
  on_err_fails (Err e) step follows it = fails step follows it

-- an object that is there is there with one more
pub object_at-with_one_more : (c : Contents) (o : List Entry) (id : ℕ) (object : List Entry) → object_at c id ≡ Some object
    → object_at (with_object o c) id ≡ Some object
object_at-with_one_more c o id object there =
    ap (λ (found : Option Kept). option_map (λ e. e.1) found) (find-append (λ (e : Kept). e.0 == id) c.objects ((c.last_id + 1, o) ∷ []))
    ∙ first (find (λ (e : Kept). e.0 == id) c.objects) (find (λ (e : Kept). e.0 == id) ((c.last_id + 1, o) ∷ [])) there
  where
    first : (found more : Option Kept) → option_map (λ e. e.1) found ≡ Some object
        → option_map (λ e. e.1) (option_or found more) ≡ Some object
    first None more is = absurd (cc)
    first (Some e) more is = is
