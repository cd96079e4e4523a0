-- Each kind of change: what another application sees of it, what lasts after it, and that handles fit still.
use Rattle.std.proofs.Common.{◌≡◌, ℕ, ◌+◌, ◌≤◌, Bool, true, false, cond, not, List, [], ◌∷◌, ◌++◌, map, zero, suc, Option, Some, None, refl, sym, ◌∙◌, ap, arith}
use Rattle.std.specs.Prelude.{filter, ◌||◌}
use Rattle.std.specs.Option.{option_map}
use Rattle.std.specs.List.{AllByRecursion, remove}
use Rattle.std.proofs.lemmas.Bool.{ne_eqb}
use Rattle.ck_types.specs.declared.entry.Entry.{Entry}
use Rattle.guard.specs.Access.{is_public, is_user}
use Rattle.ck_types.specs.declared.user_type.UserType.{UserType}
use Rattle.sessions.specs.Sessions.{state_of}
use Rattle.handles.specs.declared.Handle.{Handle}
use Rattle.handles.specs.Handles.{handle_number}
use Rattle.keep.specs.Contents.{Contents, Kept}
use Rattle.desk.specs.Desks.{DeskState}
use Rattle.lists.specs.Indexes.{seen_index, replaced}
use Rattle.model_views.specs.Views.{View, TokenObject, sees}
use Rattle.model_views.specs.Changes.{Change, Stays, Insert, Replace, Remove, Records, Resets, changed, in_list, recorded, rewritten, seen, as_seen, replaced_at, removed_at}
use Rattle.serve_base.specs.Shown.{objects_of, sees_kept, token_object, view_of, IsNoted, Fits, rekept, IsAsPublic, ChangesContents}
use Rattle.serve_base.specs.Stores.{LacksId}
use Rattle.lists.proofs.ListLemmas.{map-push, map-remove}
use Rattle.lists.proofs.IndexLemmas.{append_nil, filter-push, taken_out, filter-remove, seen_index-map}

-- an id that was never given has no handle
number-not_given : (last id : ℕ) (hs : List Handle) → AllByRecursion (λ h. h.id ≤ last) hs → last + 1 ≤ id → handle_number hs id ≡ None
number-not_given last id [] given above = refl
number-not_given last id (h ∷ hs) given above =
    rw (ne_eqb h.id id (λ k. let l : h.id ≤ last = given.0 in omega arith)) (number-not_given last id hs given.1 above)

-- ---- handles fit still

given-more : (last : ℕ) (hs : List Handle) → AllByRecursion (λ h. h.id ≤ last) hs → AllByRecursion (λ h. h.id ≤ last + 1) hs
given-more last [] given = tt
given-more last (h ∷ hs) given = (let l : h.id ≤ last = given.0 in omega arith, given-more last hs given.1)

noted-new : (last : ℕ) (o : List Entry) (hs : List Handle) → AllByRecursion (λ h. h.id ≤ last) hs → IsNoted hs (last + 1, o)
noted-new last o [] given = tt
noted-new last o (h ∷ hs) given = (λ is. let l : h.id ≤ last = given.0 in absurd (omega arith), noted-new last o hs given.1)

all-push : {A : Type 0} (P : A → Type 0) (xs : List A) (x : A) → AllByRecursion P xs → P x → AllByRecursion P (xs ++ x ∷ [])
all-push P [] x all p = (p, tt)
all-push P (y ∷ xs) x all p = (all.0, all-push P xs x all.1 p)

all-remove : {A : Type 0} (P : A → Type 0) (xs : List A) (p : ℕ) → AllByRecursion P xs → AllByRecursion P (remove xs p)
all-remove P [] zero all = tt
all-remove P [] (suc p) all = tt
all-remove P (x ∷ xs) zero all = all.1
all-remove P (x ∷ xs) (suc p) all = (all.0, all-remove P xs p all.1)

noted-as : (id : ℕ) (o p : List Entry) (hs : List Handle) → is_public o ≡ is_public p → IsNoted hs (id, p) → IsNoted hs (id, o)
noted-as id o p [] same noted = tt
noted-as id o p (h ∷ hs) same noted = (λ is. noted.0 is ∙ ap not (sym same), noted-as id o p hs same noted.1)

noted-rekept : (hs : List Handle) (o : List Entry) (es : List Kept) (index : ℕ) → IsAsPublic es index o
    → AllByRecursion (IsNoted hs) es → AllByRecursion (IsNoted hs) (rekept es index o)
noted-rekept hs o [] index same noted = tt
noted-rekept hs o (e ∷ es) zero same noted = (noted-as e.0 o e.1 hs same noted.0, noted.1)
noted-rekept hs o (e ∷ es) (suc index) same noted = (noted.0, noted-rekept hs o es index same noted.1)

pub fits-changed : (change : Change) (c c' : Contents) (hs : List Handle) → ChangesContents change c c' → Fits c hs → Fits c' hs
fits-changed Stays c c' hs is fits = rw is fits
fits-changed (Insert o) c c' hs is fits = rw is (record {
  given = given-more c.last_id hs fits.given;
  noted = all-push (IsNoted hs) c.objects (c.last_id + 1, o) fits.noted (noted-new c.last_id o hs fits.given);
})
fits-changed (Replace index o) c c' hs is fits =
    rw is.1 (record { given = fits.given; noted = noted-rekept hs o c.objects index is.0 fits.noted })
fits-changed (Remove index) c c' hs is fits =
    rw is (record { given = fits.given; noted = all-remove (IsNoted hs) c.objects index fits.noted })
fits-changed (Records r) c c' hs is fits = rw is (record { given = fits.given; noted = fits.noted })
fits-changed (Resets r) c c' hs is fits = rw is (record { given = fits.given; noted = tt })

-- ---- what lasts

objects-rekept : (es : List Kept) (index : ℕ) (o : List Entry)
    → map (λ (e : Kept). e.1) (rekept es index o) ≡ replaced (map (λ (e : Kept). e.1) es) index o
objects-rekept [] index o = refl
objects-rekept (e ∷ es) zero o = refl
objects-rekept (e ∷ es) (suc index) o = ap (λ os. e.1 ∷ os) (objects-rekept es index o)

pub objects-changed : (change : Change) (c c' : Contents) → ChangesContents change c c' → objects_of c' ≡ changed change (objects_of c)
objects-changed Stays c c' is = rw is refl
objects-changed (Insert o) c c' is = rw is (map-push (λ (e : Kept). e.1) c.objects (c.last_id + 1, o))
objects-changed (Replace index o) c c' is = rw is.1 (objects-rekept c.objects index o)
objects-changed (Remove index) c c' is = rw is (map-remove (λ (e : Kept). e.1) c.objects index)
objects-changed (Records r) c c' is = rw is refl
objects-changed (Resets r) c c' is = rw is refl

pub record-changed : (change : Change) (c c' : Contents) → ChangesContents change c c' → c'.token_record ≡ recorded change c.token_record
record-changed Stays c c' is = rw is refl
record-changed (Insert o) c c' is = rw is refl
record-changed (Replace index o) c c' is = rw is.1 refl
record-changed (Remove index) c c' is = rw is refl
record-changed (Records r) c c' is = rw is refl
record-changed (Resets r) c c' is = rw is refl

-- a change gives one id at most
pub last-changed : (change : Change) (c c' : Contents) → ChangesContents change c c' → c'.last_id ≤ c.last_id + 1
last-changed Stays c c' is = rw is (omega arith)
last-changed (Insert o) c c' is = rw is (omega arith)
last-changed (Replace index o) c c' is = rw is.1 (omega arith)
last-changed (Remove index) c c' is = rw is (omega arith)
last-changed (Records r) c c' is = rw is (omega arith)
last-changed (Resets r) c c' is = rw is (omega arith)

-- a change that adds an object adds it to the list
pub lacks-in_list : (sees : List Entry → Bool) (objects : List (List Entry)) (change : Change) (c : Contents) → LacksId change c
    → LacksId (in_list sees objects change) c
lacks-in_list sees objects (Insert o) c lacks = lacks
lacks-in_list sees objects Stays c lacks = absurd lacks.0
lacks-in_list sees objects (Replace index o) c lacks = absurd lacks.0
lacks-in_list sees objects (Remove index) c lacks = absurd lacks.0
lacks-in_list sees objects (Records r) c lacks = absurd lacks.0
lacks-in_list sees objects (Resets r) c lacks = absurd lacks.0

-- ---- what another application sees

-- an object that is replaced stays seen or unseen
abbrev retold : Option ℕ → List TokenObject → List Entry → List TokenObject
retold None ts o = ts
retold (Some q) ts o = rewritten ts q o

tokens-rekept : (d : DeskState) (login : Option UserType) (o : List Entry) (es : List Kept) (index : ℕ) → IsAsPublic es index o
    → map (token_object d) (filter (sees_kept login) (rekept es index o))
    ≡ retold (seen_index (sees_kept login) es index) (map (token_object d) (filter (sees_kept login) es)) o
tokens-rekept d login o [] index same = refl
tokens-rekept d login o (e ∷ es) zero same =
    ap (λ b. map (token_object d)
    (cond (b || is_user (state_of login true)) ((e.0, o) ∷ filter (sees_kept login) es) (filter (sees_kept login) es))) same
    ∙ step (sees_kept login e) where
      step : (b : Bool) → map (token_object d) (cond b ((e.0, o) ∷ filter (sees_kept login) es) (filter (sees_kept login) es))
          ≡ retold (cond b (Some 0) None) (map (token_object d) (cond b (e ∷ filter (sees_kept login) es) (filter (sees_kept login) es))) o
      step true = refl
      step false = refl
tokens-rekept d login o (e ∷ es) (suc index) same =
    step (sees_kept login e) (seen_index (sees_kept login) es index) (tokens-rekept d login o es index same) where
      step : (b : Bool) (p : Option ℕ)
          → map (token_object d) (filter (sees_kept login) (rekept es index o))
          ≡ retold p (map (token_object d) (filter (sees_kept login) es)) o
          → map (token_object d) (cond b (e ∷ filter (sees_kept login) (rekept es index o))
          (filter (sees_kept login) (rekept es index o)))
          ≡ retold (cond b (option_map suc p) p)
          (map (token_object d) (cond b (e ∷ filter (sees_kept login) es) (filter (sees_kept login) es))) o
      step true None h = ap (λ ts. token_object d e ∷ ts) h
      step true (Some q) h = ap (λ ts. token_object d e ∷ ts) h
      step false p h = h

pub view_of-changed : (change : Change) (c c' : Contents) (d : DeskState) → ChangesContents change c c' → Fits c d.handles.entries
    → view_of c' d ≡ seen (as_seen (sees d.sessions.login) (objects_of c) change) (view_of c d)
view_of-changed Stays c c' d is fits = rw is refl
view_of-changed (Insert o) c c' d is fits =
    let f : List TokenObject → View = λ ts. record (view_of c d) { tokens = ts } in
    rw is (ap (λ es. f (map (token_object d) es)) (filter-push (sees_kept d.sessions.login) c.objects (c.last_id + 1, o))
    ∙ step (sees d.sessions.login o) (number-not_given c.last_id (c.last_id + 1) d.handles.entries fits.given (omega arith))) where
      step : (b : Bool) → handle_number d.handles.entries (c.last_id + 1) ≡ None
          → record (view_of c d) {
            tokens =
                map (token_object d) (filter (sees_kept d.sessions.login) c.objects ++ cond b ((c.last_id + 1, o) ∷ []) []);
          }
          ≡ seen (cond b (Insert o) Stays) (view_of c d)
      step true none =
          let f : List TokenObject → View = λ ts. record (view_of c d) { tokens = ts } in
          ap f (map-push (token_object d) (filter (sees_kept d.sessions.login) c.objects) (c.last_id + 1, o)
          ∙ ap (λ x. map (token_object d) (filter (sees_kept d.sessions.login) c.objects) ++ record { object = o; handle = x }
          ∷ []) none)
      step false none =
          let f : List TokenObject → View = λ ts. record (view_of c d) { tokens = ts } in
          ap (λ es. f (map (token_object d) es)) (append_nil (filter (sees_kept d.sessions.login) c.objects))
view_of-changed (Replace index o) c c' d is fits =
    let f : List TokenObject → View = λ ts. record (view_of c d) { tokens = ts } in
    rw (is.1, seen_index-map (sees d.sessions.login) (λ (e : Kept). e.1) c.objects index)
    (ap f (tokens-rekept d d.sessions.login o c.objects index is.0)
    ∙ step (seen_index (sees_kept d.sessions.login) c.objects index)) where
      step : (p : Option ℕ) → record (view_of c d) { tokens = retold p (view_of c d).tokens o } ≡ seen (replaced_at o p) (view_of c d)
      step None = refl
      step (Some q) = refl
view_of-changed (Remove index) c c' d is fits =
    let f : List TokenObject → View = λ ts. record (view_of c d) { tokens = ts } in
    rw (is, seen_index-map (sees d.sessions.login) (λ (e : Kept). e.1) c.objects index)
    (ap (λ es. f (map (token_object d) es)) (filter-remove (sees_kept d.sessions.login) c.objects index)
    ∙ step (seen_index (sees_kept d.sessions.login) c.objects index)) where
      step : (o : Option ℕ) → record
          (view_of c d) { tokens = map (token_object d) (taken_out o (filter (sees_kept d.sessions.login) c.objects)) }
          ≡ seen (removed_at o) (view_of c d)
      step None = refl
      step (Some q) =
          let f : List TokenObject → View = λ ts. record (view_of c d) { tokens = ts } in
          ap f (map-remove (token_object d) (filter (sees_kept d.sessions.login) c.objects) q)
view_of-changed (Records r) c c' d is fits = rw is refl
view_of-changed (Resets r) c c' d is fits = rw is refl
