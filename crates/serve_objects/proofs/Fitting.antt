-- Handles that are given to what is found fit what is kept.
use Rattle.std.proofs.Common.{◌≡◌, ℕ, ◌<◌, ◌≤◌, Bool, true, false, cond, not, List, [], ◌∷◌, ◌++◌, map, Option, refl, arith}
use Rattle.std.specs.Prelude.{filter, is_some}
use Rattle.std.specs.List.{AllByRecursion}
use Rattle.ck_types.specs.declared.entry.Entry.{Entry}
use Rattle.ck_types.specs.declared.attr_type.AttrType.TheVariants as attr
use Rattle.ck_types.specs.declared.user_type.UserType.{UserType}
use Rattle.attrs.specs.Objects.{flag}
use Rattle.guard.specs.Access.{is_public}
use Rattle.handles.specs.declared.Handle.{Handle}
use Rattle.handles.specs.Handles.{HandleTable, handle_number}
use Rattle.keep.specs.Contents.{Contents, Kept, IdsRise, IsSound}
use Rattle.lists.proofs.ListLemmas.{All-push}
use Rattle.serve_base.specs.declared.searching.Match.{Match}
use Rattle.serve_base.specs.declared.searching.Match.TheVariants.{TokenObject, SessionObject}
use Rattle.serve_base.specs.Searching.{finds, token_match, kept_found}
use Rattle.serve_base.specs.Shown.{Fits, IsNoted}
use Rattle.serve_objects.specs.Giving.{with_one, given}
use Rattle.serve_objects.proofs.Numbering.{pushed, new_handle, all-own}

-- ---- a match of what is kept

-- whether the object of this id is private is recorded rightly
abbrev Tells : ℕ → Bool → Kept → Type 0
Tells id private e = id ≡ e.0 → private ≡ not (is_public e.1)

abbrev FitsMatch : Contents → Match → Type 0
FitsMatch c (TokenObject id private) = (id ≤ c.last_id) × AllByRecursion (Tells id private) c.objects
FitsMatch c (SessionObject handle) = Unit {0}

noted-more : (hs : List Handle) (h : Handle) (es : List Kept) → AllByRecursion (IsNoted hs) es
    → AllByRecursion (Tells h.id h.private) es → AllByRecursion (IsNoted (hs ++ h ∷ [])) es
noted-more hs h [] noted tells = tt
noted-more hs h (e ∷ es) noted tells =
    (All-push (λ (x : Handle). x.id ≡ e.0 → x.private ≡ not (is_public e.1)) hs h noted.0 tells.0, noted-more hs h es noted.1 tells.1)

fits-one : (c : Contents) (t : HandleTable) (m : Match) → FitsMatch c m → Fits c t.entries → Fits c (with_one t m).entries
fits-one c t (SessionObject handle) is fits = fits
fits-one c t (TokenObject id private) is fits = step (is_some (handle_number t.entries id)) where
  step : (b : Bool) → Fits c (cond b t (pushed t id private)).entries
  step true = fits
  step false = record {
    given = All-push (λ (x : Handle). x.id ≤ c.last_id) t.entries (new_handle t id private) fits.given is.0;
    noted = noted-more t.entries (new_handle t id private) c.objects fits.noted is.1;
  }

fits-given : (c : Contents) (t : HandleTable) (ms : List Match) → AllByRecursion (FitsMatch c) ms → Fits c t.entries
    → Fits c (given t ms).entries
fits-given c t [] all fits = fits
fits-given c t (m ∷ ms) all fits = fits-given c (with_one t m) ms all.1 (fits-one c t m all.0 fits)

-- ---- ids rise, so each is of one object

not-not : (b : Bool) → b ≡ not (not b)
not-not true = refl
not-not false = refl

abbrev is_private : Kept → Bool
is_private e = flag e.1 attr.Private

tells-above : (e : Kept) (low last : ℕ) (es : List Kept) → IdsRise low es last → e.0 ≤ low → AllByRecursion (Tells e.0 (is_private e)) es
tells-above e low last [] ids below = tt
tells-above e low last (x ∷ es) ids below =
    let l : low < x.0 = ids.0 in
    (λ is. absurd (omega (arith, l, below, is)), tells-above e x.0 last es ids.2 (omega (arith, l, below)))

tells-below : (e : Kept) (all : List Kept) (low last : ℕ) (es : List Kept) → IdsRise low es last → e.0 ≤ low
    → AllByRecursion (λ x. AllByRecursion (Tells x.0 (is_private x)) all) es
    → AllByRecursion (λ x. AllByRecursion (Tells x.0 (is_private x)) (e ∷ all)) es
tells-below e all low last [] ids below tells = tt
tells-below e all low last (x ∷ es) ids below tells =
    let l : low < x.0 = ids.0 in
    ((λ is. absurd (omega (arith, l, below, is)), tells.0), tells-below e all x.0 last es ids.2 (omega (arith, l, below)) tells.1)

tells-all : (low last : ℕ) (es : List Kept) → IdsRise low es last → AllByRecursion (λ x. AllByRecursion (Tells x.0 (is_private x)) es) es
tells-all low last [] ids = tt
tells-all low last (e ∷ es) ids = (
  (λ is. not-not (is_private e), tells-above e e.0 last es ids.2 (omega arith)),
  tells-below e es e.0 last es ids.2 (omega arith) (tells-all e.0 last es ids.2),
)

ids-below : (low last : ℕ) (es : List Kept) → IdsRise low es last → AllByRecursion (λ x. x.0 ≤ last) es
ids-below low last [] ids = tt
ids-below low last (e ∷ es) ids = (ids.1, ids-below e.0 last es ids.2)

-- ---- what a search finds

module _ (login : Option UserType) (template : List Entry) where
  found-fit : (c : Contents) (es : List Kept) → AllByRecursion (λ x. x.0 ≤ c.last_id) es
      → AllByRecursion (λ x. AllByRecursion (Tells x.0 (is_private x)) c.objects) es
      → AllByRecursion (FitsMatch c) (kept_found login template es)
  found-fit c [] below tells = tt
  found-fit c (e ∷ es) below tells = step (finds login template e.1) (found-fit c es below.1 tells.1) where
    step : (b : Bool) → AllByRecursion (FitsMatch c) (kept_found login template es)
        → AllByRecursion (FitsMatch c)
        (map (λ x. token_match login template x.0 x.1)
        (cond b (e ∷ filter (λ x. finds login template x.1) es) (filter (λ x. finds login template x.1) es)))
    step true rest = ((below.0, tells.0), rest)
    step false rest = rest

  pub fits-found : (c : Contents) (t : HandleTable) (hs : List ℕ) → IsSound c → Fits c t.entries
      → Fits c (given t (kept_found login template c.objects ++ map (λ h. SessionObject h) hs)).entries
  fits-found c t hs sound fits =
      fits-given c t (kept_found login template c.objects ++ map (λ h. SessionObject h) hs)
      (all-own (FitsMatch c) (kept_found login template c.objects) hs (λ h. tt)
      (found-fit c c.objects (ids-below 0 c.last_id c.objects sound.ids) (tells-all 0 c.last_id c.objects sound.ids))) fits
