-- C_CreateObject: an object that is new.
use Rattle.std.proofs.Common.{◌≡◌, ◌≢◌, ℕ, ◌+◌, ◌<◌, ◌≤◌, Bool, true, false, cond, not, List, [], ◌∷◌, ◌++◌, map, Option, Some, None, refl, sym, ◌∙◌, ap, arith}
use Rattle.std.specs.Prelude.{filter, ◌==◌}
use Rattle.std.specs.Option.{option_map}
use Rattle.std.specs.List.{AllByRecursion}
use Rattle.std.proofs.lemmas.Bool.{ne_eqb}
use Rattle.ck_types.specs.declared.entry.Entry.{Entry}
use Rattle.ck_types.specs.declared.attr_type.AttrType.TheVariants as attr
use Rattle.ck_calls.specs.declared.reply.Reply.TheVariants.{Object}
use Rattle.attrs.specs.Objects.{flag}
use Rattle.guard.specs.Access.{is_public}
use Rattle.handles.specs.declared.Handle.{Handle}
use Rattle.handles.specs.Handles.{handle_number, with_handle}
use Rattle.handles.proofs.HandleLemmas.{number_of-push}
use Rattle.keep.specs.Contents.{Contents, Kept, IdsRise, IsSound, with_object}
use Rattle.desk.specs.Desks.{DeskState, SameDesk}
use Rattle.model_views.specs.Views.{TokenObject, SessionObject, View, sees}
use Rattle.model_views.specs.Answering.{Replies}
use Rattle.model_answers.specs.CreateObject.{adds_token_object, adds_session_object}
use Rattle.serve_base.specs.Shown.{sees_kept, token_object, session_object, view_of, IsNoted, Fits, GivesAnswer}
use Rattle.lists.proofs.ListLemmas.{find-push_fails, filter-push_passes, All-push, map-push}

-- ---- the next id

-- no handle is of an id that was not given yet
number-new : (last : ℕ) (hs : List Handle) → AllByRecursion (λ h. h.id ≤ last) hs → handle_number hs (last + 1) ≡ None
number-new last [] given = refl
number-new last (h ∷ hs) given =
    rw (ne_eqb h.id (last + 1) (λ e. let low : h.id ≤ last = given.0 in omega arith)) (number-new last hs given.1)

number-others : (h : Handle) (hs : List Handle) (id : ℕ) → h.id ≢ id → handle_number (hs ++ h ∷ []) id ≡ handle_number hs id
number-others h hs id differ = ap (option_map (λ h. h.handle)) (find-push_fails (λ h. h.id == id) hs h (ne_eqb h.id id differ))

-- the handles of those that were there stay
tokens-given : (low last : ℕ) (d d' : DeskState) (h : Handle) (t : Kept → Bool) (es : List Kept) → IdsRise low es last → last < h.id
    → d'.handles.entries ≡ d.handles.entries ++ h ∷ [] → map (token_object d') (filter t es) ≡ map (token_object d) (filter t es)
tokens-given low last d d' h t [] ids above same = refl
tokens-given low last d d' h t (e ∷ es) ids above same =
    step (t e) (ap (λ hs. handle_number hs e.0) same
    ∙ number-others h d.handles.entries e.0 (λ k. let l : e.0 ≤ last = ids.1 in omega arith))
    (tokens-given e.0 last d d' h t es ids.2 above same) where
      step : (b : Bool) → handle_number d'.handles.entries e.0 ≡ handle_number d.handles.entries e.0
          → map (token_object d') (filter t es) ≡ map (token_object d) (filter t es)
          → map (token_object d') (cond b (e ∷ filter t es) (filter t es)) ≡ map (token_object d) (cond b (e ∷ filter t es) (filter t es))
      step true n rest =
          let f : Option ℕ → TokenObject = λ x. record { object = e.1; handle = x } in
          ap (λ x. f x ∷ map (token_object d') (filter t es)) n ∙ ap (λ xs. token_object d e ∷ xs) rest
      step false n rest = rest

-- ---- handles fit still

given-more : (last : ℕ) (hs : List Handle) → AllByRecursion (λ h. h.id ≤ last) hs → AllByRecursion (λ h. h.id ≤ last + 1) hs
given-more last [] given = tt
given-more last (h ∷ hs) given = (let low : h.id ≤ last = given.0 in omega arith, given-more last hs given.1)

all-noted-more : (low last : ℕ) (h : Handle) (hs : List Handle) (es : List Kept) → IdsRise low es last → last < h.id
    → AllByRecursion (IsNoted hs) es → AllByRecursion (IsNoted (hs ++ h ∷ [])) es
all-noted-more low last h hs [] ids above noted = tt
all-noted-more low last h hs (e ∷ es) ids above noted = (
  All-push (λ (h : Handle). h.id ≡ e.0 → h.private ≡ not (is_public e.1)) hs h noted.0
      (λ k. absurd (let l : e.0 ≤ last = ids.1 in omega arith)),
  all-noted-more e.0 last h hs es ids.2 above noted.1,
)

-- handles of other ids record nothing of the new object
noted-new : (last : ℕ) (hs : List Handle) (o : List Entry) → AllByRecursion (λ h. h.id ≤ last) hs → IsNoted hs (last + 1, o)
noted-new last [] o given = tt
noted-new last (h ∷ hs) o given = (λ k. absurd (let low : h.id ≤ last = given.0 in omega arith), noted-new last hs o given.1)

not-not : (b : Bool) → b ≡ not (not b)
not-not true = refl
not-not false = refl

module _ (c : Contents) (d : DeskState) (o : List Entry) (sound : IsSound c) (fits : Fits c d.handles.entries) where
  abbrev new_handle : Handle
  new_handle = record { handle = d.handles.next_number; id = c.last_id + 1; private = flag o attr.Private }

  fits-more : Fits (with_object o c) (d.handles.entries ++ new_handle ∷ [])
  fits-more = record {
    given = All-push (λ (h : Handle). h.id ≤ c.last_id + 1) d.handles.entries new_handle
        (given-more c.last_id d.handles.entries fits.given) (omega arith);
    noted = All-push (λ e. IsNoted (d.handles.entries ++ new_handle ∷ []) e) c.objects (c.last_id + 1, o)
        (all-noted-more 0 c.last_id new_handle d.handles.entries c.objects sound.ids (omega arith) fits.noted)
        (All-push (λ (h : Handle). h.id ≡ c.last_id + 1 → h.private ≡ not (is_public o)) d.handles.entries new_handle
        (noted-new c.last_id d.handles.entries o fits.given) (λ k. not-not (flag o attr.Private)));
  }

  -- memory for so much is allocated
  module _ (own_capacity capacity : ℕ) where
    abbrev pub given_handle : DeskState
    given_handle = record d {
      own_capacity = own_capacity;
      handles = record { entries = d.handles.entries ++ new_handle ∷ []; next_number = d.handles.next_number + 1; capacity = capacity };
    }

    -- it is listed last, under the handle that was just given
    tokens-new : sees d.sessions.login o ≡ true
        → map (token_object given_handle) (filter (sees_kept d.sessions.login) (with_object o c).objects)
        ≡ map (token_object d) (filter (sees_kept d.sessions.login) c.objects)
        ++ record { object = o; handle = Some d.handles.next_number } ∷ []
    tokens-new seen =
        let t = sees_kept d.sessions.login in
        let own : handle_number given_handle.handles.entries (c.last_id + 1) ≡ Some d.handles.next_number =
        number_of-push d.handles.entries new_handle (number-new c.last_id d.handles.entries fits.given) in
        let f : Option ℕ → TokenObject = λ x. record { object = o; handle = x } in
        ap (map (token_object given_handle)) (filter-push_passes t c.objects (c.last_id + 1, o) seen)
        ∙ map-push (token_object given_handle) (filter t c.objects) (c.last_id + 1, o)
        ∙ ap (λ xs. xs ++ token_object given_handle (c.last_id + 1, o) ∷ [])
        (tokens-given 0 c.last_id d given_handle new_handle t c.objects sound.ids (omega arith) refl)
        ∙ ap (λ x. map (token_object d) (filter t c.objects) ++ f x ∷ []) own

    gives-given : sees d.sessions.login o ≡ true
        → GivesAnswer (adds_token_object (view_of c d) o) d.sessions.login c (Replies (Object d.handles.next_number))
        (with_object o c) given_handle
    gives-given seen =
        let f : List TokenObject → View = λ ts. record (view_of c d) { tokens = ts; next_handle = d.handles.next_number + 1 } in
        record {
          says = refl;
          view = ap f (tokens-new seen);
          changes = refl;
          fits = fits-more;
        }

-- where memory for its handle was allocated
pub gives-added : (c : Contents) (d r : DeskState) (o : List Entry) (id number : ℕ) → IsSound c → Fits c d.handles.entries
    → sees d.sessions.login o ≡ true → SameDesk d r → id ≡ c.last_id + 1
    → handle_number (with_handle r.handles id (flag o attr.Private)).entries id ≡ Some number
    → GivesAnswer (adds_token_object (view_of c d) o) d.sessions.login c (Replies (Object number)) (with_object o c)
    (record r { handles = with_handle r.handles id (flag o attr.Private) })
gives-added c d r o id number sound fits seen same is numbered =
    let none : handle_number d.handles.entries (c.last_id + 1) ≡ None = number-new c.last_id d.handles.entries fits.given in
    let own : handle_number (d.handles.entries ++ new_handle c d o sound fits ∷ []) (c.last_id + 1) ≡ Some d.handles.next_number =
    number_of-push d.handles.entries (new_handle c d o sound fits) none in
    let there : handle_number (d.handles.entries ++ new_handle c d o sound fits ∷ []) (c.last_id + 1) ≡ Some number =
    rw (same, is, none) at numbered in
    let k : Some d.handles.next_number ≡ Some number = sym own ∙ there in
    let n : d.handles.next_number ≡ number = cc in
    rw (same, is, none, ← n) (gives-given c d o sound fits r.own_capacity r.handles.capacity seen)

-- ---- the answer

pub gives-added_own : (c : Contents) (d d' : DeskState) (session number : ℕ) (o : List Entry) → Fits c d.handles.entries
    → number ≡ d.handles.next_number
    → SameDesk (record d {
      own = d.own ++ record { handle = d.handles.next_number; session = session; object = o } ∷ [];
      handles = record d.handles { next_number = d.handles.next_number + 1 };
    }) d'
    → GivesAnswer (adds_session_object (view_of c d) session o) d.sessions.login c (Replies (Object number)) c d'
gives-added_own c d d' session number o fits is same =
    let f : List SessionObject → View = λ os. record (view_of c d) { own = os; next_handle = d.handles.next_number + 1 } in
    rw (is, same) (record {
      says = refl;
      view = ap f (map-push session_object d.own (record { handle = d.handles.next_number; session = session; object = o }));
      changes = refl;
      fits = fits;
    })
