-- Who is logged in after a right PIN, and what is seen then.
use Rattle.std.proofs.Common.{◌≡◌, ℕ, Bool, true, false, cond, not, List, [], ◌∷◌, map, Option, Some, None, inl, inr, refl, sym, ◌∙◌, ap}
use Rattle.std.specs.Prelude.{filter, ◌||◌, unwrap_or}
use Rattle.std.specs.List.{AllByRecursion}
use Rattle.std.proofs.lemmas.Bool.{cases_eq, ne_eqb}
use Rattle.ck_types.specs.declared.entry.Entry.{Entry}
use Rattle.ck_types.specs.declared.rv.Rv.TheVariants.{Ok, FunctionFailed}
use Rattle.ck_types.specs.declared.user_type.UserType.{UserType}
use Rattle.ck_types.specs.declared.user_type.UserType.TheVariants.{So, User}
use Rattle.ck_calls.specs.declared.reply.Reply.TheVariants.{Code}
use Rattle.guard.specs.Access.{is_public, is_user_in}
use Rattle.handles.specs.declared.Handle.{Handle}
use Rattle.handles.specs.Handles.{handle_number}
use Rattle.keep.specs.Contents.{Contents, Kept, with_record}
use Rattle.pin_record.specs.Records.{with_tries}
use Rattle.desk.specs.Desks.{DeskState, IsDiscreet}
use Rattle.model_views.specs.Views.{TokenObject, View, sees, without_handle}
use Rattle.model_views.specs.Answering.{Replies}
use Rattle.model_session_answers.specs.Login.{merged, tokens_for, may_log_in, right_pin}
use Rattle.model_session_answers.specs.Pins.{is_charged}
use Rattle.serve_base.specs.Shown.{sees_kept, token_object, view_of, IsNoted, Fits, GivesAnswer}
use Rattle.serve_sessions.specs.Recording.{codes_with, objects_for, right_reveal}
use Rattle.serve_sessions.proofs.Charging.{fits-recorded}

-- ---- the objects that a user sees beside public ones have no handles

-- where no handle is of a private object
hidden : (id : ℕ) (o : List Entry) (hs : List Handle) → is_public o ≡ false → AllByRecursion (λ h. h.private ≡ false) hs
    → IsNoted hs (id, o) → handle_number hs id ≡ None
hidden id o [] private discreet noted = refl
hidden id o (h ∷ hs) private discreet noted = elim (cases_eq h.id id) [
  | inl is ↦ (let k : true ≡ false = sym (ap not private) ∙ sym (noted.0 is) ∙ discreet.0 in absurd cc)
  | inr differ ↦ rw (ne_eqb h.id id differ) (hidden id o hs private discreet.1 noted.1)
]

merged-hidden : (o : List Entry) (os : List (List Entry)) (ts : List TokenObject) → sees None o ≡ false
    → merged (o ∷ os) ts ≡ without_handle o ∷ merged os ts
merged-hidden o os [] unseen = refl
merged-hidden o os (t ∷ ts) unseen = rw unseen refl

tokens-merged : (d : DeskState) (es : List Kept) → AllByRecursion (λ h. h.private ≡ false) d.handles.entries
    → AllByRecursion (IsNoted d.handles.entries) es
    → map (token_object d) es ≡ merged (map (λ (e : Kept). e.1) es) (map (token_object d) (filter (sees_kept None) es))
tokens-merged d [] discreet noted = refl
tokens-merged d (e ∷ es) discreet noted = step (is_public e.1) refl (tokens-merged d es discreet noted.1) where
  step : (b : Bool) → is_public e.1 ≡ b
      → map (token_object d) es ≡ merged (map (λ (e : Kept). e.1) es) (map (token_object d) (filter (sees_kept None) es))
      → token_object d e ∷ map (token_object d) es
      ≡ merged (e.1 ∷ map (λ (e : Kept). e.1) es)
      (map (token_object d) (cond (b || false) (e ∷ filter (sees_kept None) es) (filter (sees_kept None) es)))
  step true is rest = rw is (ap (λ ts. token_object d e ∷ ts) rest)
  step false is rest =
      let f : Option ℕ → TokenObject = λ x. record { object = e.1; handle = x } in
      ap (λ x. f x ∷ map (token_object d) es) (hidden e.0 e.1 d.handles.entries is discreet noted.0)
      ∙ ap (λ ts. without_handle e.1 ∷ ts) rest
      ∙ sym (merged-hidden e.1 (map (λ (e : Kept). e.1) es) (map (token_object d) (filter (sees_kept None) es)) (ap (λ b. b || false) is))

all-seen : (es : List Kept) → filter (sees_kept (Some User)) es ≡ es
all-seen [] = refl
all-seen (e ∷ es) = step (is_public e.1) (all-seen es) where
  step : (b : Bool) → filter (sees_kept (Some User)) es ≡ es
      → cond (b || true) (e ∷ filter (sees_kept (Some User)) es) (filter (sees_kept (Some User)) es) ≡ e ∷ es
  step true rest = ap (λ xs. e ∷ xs) rest
  step false rest = ap (λ xs. e ∷ xs) rest

-- ---- a right PIN

module _ (c : Contents) (d : DeskState) (under_way : ℕ) where
  abbrev pub desk_in : UserType → DeskState
  desk_in who = record d { sessions = record d.sessions { login = Some who } }

  tokens-in : (who : UserType) → d.sessions.login ≡ None → IsDiscreet d → AllByRecursion (IsNoted d.handles.entries) c.objects
      → map (token_object (desk_in who)) (filter (sees_kept (Some who)) c.objects)
      ≡ tokens_for who (unwrap_or (objects_for who c) []) (map (token_object d) (filter (sees_kept d.sessions.login) c.objects))
  tokens-in So nobody discreet noted = rw nobody refl
  tokens-in User nobody discreet noted =
      rw nobody (ap (map (token_object d)) (all-seen c.objects) ∙ tokens-merged d c.objects (discreet (ap is_user_in nobody)) noted)

  pub gives-logged-in : (who : UserType) → is_charged c.token_record who under_way ≡ true → may_log_in (view_of c d) who ≡ true
      → d.sessions.login ≡ None → IsDiscreet d → Fits c d.handles.entries
      → GivesAnswer (right_pin (view_of c d) who (right_reveal who under_way c)) d.sessions.login c (Replies (Code Ok))
      (with_record (with_tries c.token_record who under_way) c) (desk_in who)
  gives-logged-in who charged may nobody discreet fits =
      let new = with_tries c.token_record who under_way in
      let f : List TokenObject → View = λ ts. record (view_of (with_record new c) (desk_in who)) { tokens = ts } in
      rw (charged, may) (record {
        says = refl;
        view = ap f (tokens-in who nobody discreet fits.noted);
        changes = refl;
        fits = fits-recorded c new d.handles.entries fits;
      })

  pub right-refused : (who : UserType) → is_charged c.token_record who under_way ≡ true → may_log_in (view_of c d) who ≡ false
      → right_pin (view_of c d) who (right_reveal who under_way c)
      ≡ codes_with FunctionFailed (with_tries c.token_record who under_way) (view_of c d)
  right-refused who charged may = rw (charged, may) refl
