-- Sessions that are closed: what is seen afterwards, and under which handles.
use Rattle.std.proofs.Common.{◌≡◌, ℕ, ◌≤◌, Bool, true, false, cond, not, List, [], ◌∷◌, map, Option, Some, None, refl, sym, ◌∙◌, ap, inl, inr}
use Rattle.std.specs.Prelude.{find, filter, ◌==◌, ◌||◌, is_some, is_none}
use Rattle.std.specs.Option.{option_map}
use Rattle.std.specs.List.{AllByRecursion}
use Rattle.std.proofs.lemmas.Bool.{cases_Bool, cases_eq, eq-eqb, ne_eqb}
use Rattle.ck_types.specs.declared.entry.Entry.{Entry}
use Rattle.ck_types.specs.declared.user_type.UserType.{UserType}
use Rattle.ck_types.specs.declared.rv.Rv.TheVariants.{Ok}
use Rattle.ck_calls.specs.declared.reply.Reply.TheVariants.{Code}
use Rattle.guard.specs.Access.{is_public}
use Rattle.lists.proofs.InOrderLemmas.{All-filter}
use Rattle.handles.specs.declared.Handle.{Handle}
use Rattle.handles.specs.Handles.{HandleTable, handle_number, public_handles}
use Rattle.keep.specs.Contents.{Contents, Kept}
use Rattle.sessions.specs.declared.Session.{Session}
use Rattle.sessions.specs.Sessions.{login_among}
use Rattle.ck_types.specs.declared.attr_type.AttrType.TheVariants.{Private}
use Rattle.attrs.specs.Objects.{flag}
use Rattle.desk.specs.declared.own_object.OwnObject.{OwnObject}
use Rattle.desk.specs.Desks.{DeskState, closed as desk_closed, all_closed as desk_all_closed, logged_out_desk, handles_for}
use Rattle.ops.specs.Operations.{Operations}
use Rattle.model_views.specs.Views.{TokenObject, SessionObject, sees, seen_by}
use Rattle.model_views.specs.Answering.{Replies, session_of}
use Rattle.model_session_answers.specs.CloseSession.{close_session, close_all_sessions}
use Rattle.model_session_answers.specs.Logout.{logout}
use Rattle.model_session_answers.specs.OpenSession.{is_slot}
use Rattle.serve_base.specs.Shown.{sees_kept, token_object, session_object, view_of, IsNoted, Fits, GivesAnswer}
use Rattle.serve_base.proofs.Seeing.{IsLess, less-none}
use Rattle.lists.proofs.ListLemmas.{filter-map, filter-less}

-- ---- handles of private objects are retired

find-public : (id : ℕ) (o : List Entry) (hs : List Handle) → is_public o ≡ true → IsNoted hs (id, o)
    → find (λ h. h.id == id) (public_handles hs) ≡ find (λ h. h.id == id) hs
find-public id o [] shown noted = refl
find-public id o (h ∷ hs) shown noted = elim (cases_eq h.id id) [
  | inl is ↦ let kept : h.private ≡ false = noted.0 is ∙ ap not shown in rw (kept, eq-eqb h.id id is) refl
  | inr differ ↦ elim (cases_Bool h.private) [
    | inl p ↦ rw (p, ne_eqb h.id id differ) (find-public id o hs shown noted.1)
    | inr p ↦ rw (p, ne_eqb h.id id differ) (find-public id o hs shown noted.1)
  ]
]

-- those of public objects stay
tokens-public : (d d' : DeskState) (es : List Kept) → d'.handles.entries ≡ public_handles d.handles.entries
    → AllByRecursion (IsNoted d.handles.entries) es
    → map (token_object d') (filter (sees_kept None) es) ≡ map (token_object d) (filter (sees_kept None) es)
tokens-public d d' [] same noted = refl
tokens-public d d' (e ∷ es) same noted = step (is_public e.1) refl (tokens-public d d' es same noted.1) where
  step : (b : Bool) → is_public e.1 ≡ b
      → map (token_object d') (filter (sees_kept None) es) ≡ map (token_object d) (filter (sees_kept None) es)
      → map (token_object d') (cond (b || false) (e ∷ filter (sees_kept None) es) (filter (sees_kept None) es))
      ≡ map (token_object d) (cond (b || false) (e ∷ filter (sees_kept None) es) (filter (sees_kept None) es))
  step true shown rest =
      let n : handle_number d'.handles.entries e.0 ≡ handle_number d.handles.entries e.0 =
      ap (λ hs. handle_number hs e.0) same ∙ ap (option_map (λ h. h.handle)) (find-public e.0 e.1 d.handles.entries shown noted.0) in
      let f : Option ℕ → TokenObject = λ x. record { object = e.1; handle = x } in
      ap (λ x. f x ∷ map (token_object d') (filter (sees_kept None) es)) n ∙ ap (λ xs. token_object d e ∷ xs) rest
  step false shown rest = rest

-- ---- what is seen by who is logged in then

less-among : (ss : List (Session Operations)) (login : Option UserType) → IsLess (login_among ss login) login
less-among [] login e k = less-none login e k
less-among (s ∷ ss) login e k = k

-- the tokens that are seen then, under the handles that stay
tokens-closed : (c : Contents) (d d' : DeskState) (login : Option UserType) → d'.handles ≡ handles_for (is_some login) d.handles
    → AllByRecursion (IsNoted d.handles.entries) c.objects → IsLess login d.sessions.login
    → map (token_object d') (filter (sees_kept login) c.objects)
    ≡ seen_by login (map (token_object d) (filter (sees_kept d.sessions.login) c.objects))
tokens-closed c d d' login same noted less = ends login same less
    ∙ sym (filter-map (λ (t : TokenObject). sees login t.object) (token_object d) (filter (sees_kept d.sessions.login) c.objects)
    ∙ ap (map (token_object d)) (filter-less (sees_kept login) (sees_kept d.sessions.login) c.objects less)) where
      ends : (l : Option UserType) → d'.handles ≡ handles_for (is_some l) d.handles → IsLess l d.sessions.login
          → map (token_object d') (filter (sees_kept l) c.objects) ≡ map (token_object d) (filter (sees_kept l) c.objects)
      ends None s k = tokens-public d d' c.objects (ap (λ t. t.entries) s) noted
      ends (Some who) s k = rw s refl

-- ---- handles fit still

noted-public : (hs : List Handle) (e : Kept) → IsNoted hs e → IsNoted (public_handles hs) e
noted-public hs e noted = All-filter (λ (h : Handle). h.id ≡ e.0 → h.private ≡ not (is_public e.1)) (λ h. not h.private) hs noted

all-noted-public : (hs : List Handle) (es : List Kept) → AllByRecursion (IsNoted hs) es → AllByRecursion (IsNoted (public_handles hs)) es
all-noted-public hs [] noted = tt
all-noted-public hs (e ∷ es) noted = (noted-public hs e noted.0, all-noted-public hs es noted.1)

pub fits-public : (c : Contents) (hs : List Handle) → Fits c hs → Fits c (public_handles hs)
fits-public c hs fits = record {
  given = All-filter (λ (h : Handle). h.id ≤ c.last_id) (λ h. not h.private) hs fits.given;
  noted = all-noted-public hs c.objects fits.noted;
}

fits-for : (b : Bool) (c : Contents) (d : DeskState) → Fits c d.handles.entries → Fits c (handles_for b d.handles).entries
fits-for true c d fits = fits
fits-for false c d fits = fits-public c d.handles.entries fits

-- ---- the answers

next-for : (b : Bool) (t : HandleTable) → (handles_for b t).next_number ≡ t.next_number
next-for true t = refl
next-for false t = refl

pub gives-closed : (c : Contents) (d : DeskState) (s : ℕ) → is_none (session_of (view_of c d) s) ≡ false → Fits c d.handles.entries
    → GivesAnswer (close_session (view_of c d) s) d.sessions.login c (Replies (Code Ok)) c (desk_closed d s)
gives-closed c d s there fits =
    let others = filter (λ x. not (x.handle == s)) d.sessions.sessions in
    let login = login_among others d.sessions.login in
    rw there (record {
      says = refl;
      view = rw (
        tokens-closed c d (desk_closed d s) login refl fits.noted (less-among others d.sessions.login),
        filter-map (λ (e : SessionObject). not (e.session == s)) session_object d.own,
        next-for (is_some login) d.handles,
      ) refl;
      changes = refl;
      fits = fits-for (is_some login) c d fits;
    })

pub gives-all-closed : (c : Contents) (d : DeskState) (slot : ℕ) → is_slot slot ≡ true → Fits c d.handles.entries
    → GivesAnswer (close_all_sessions (view_of c d) slot) d.sessions.login c (Replies (Code Ok)) c (desk_all_closed d)
gives-all-closed c d slot is fits =
    rw is (record {
      says = refl;
      view = rw (tokens-closed c d (desk_all_closed d) None refl fits.noted (less-none d.sessions.login)) refl;
      changes = refl;
      fits = fits-public c d.handles.entries fits;
    })

-- ---- and where nobody is logged in any more

public-own : (es : List OwnObject)
    → map session_object (filter (λ e. not (flag e.object Private)) es) ≡ filter (λ e. not (flag e.object Private)) (map session_object es)
public-own es = sym (filter-map (λ (e : SessionObject). not (flag e.object Private)) session_object es)

pub gives-logged-out : (c : Contents) (d : DeskState) (s : ℕ) → is_none (session_of (view_of c d) s) ≡ false
    → is_none d.sessions.login ≡ false → Fits c d.handles.entries
    → GivesAnswer (logout (view_of c d) s) d.sessions.login c (Replies (Code Ok)) c (logged_out_desk d)
gives-logged-out c d s there logged fits =
    rw (there, logged) (record {
      says = refl;
      view = rw (tokens-closed c d (logged_out_desk d) None refl fits.noted (less-none d.sessions.login), public-own d.own) refl;
      changes = refl;
      fits = fits-public c d.handles.entries fits;
    })
