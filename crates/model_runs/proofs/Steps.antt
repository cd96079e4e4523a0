-- What an event at one desk is to all applications.
use Rattle.std.proofs.Common.{◌≡◌, ◌≢◌, ℕ, Bool, true, false, cond, not, List, [], ◌∷◌, ◌++◌, map, None, Result, Ok, Err, refl, sym, ◌∙◌, ap, inl, inr}
use Rattle.std.specs.Prelude.{filter, ◌==◌, ◌||◌}
use Rattle.std.specs.List.{AllByRecursion, list_any}
use Rattle.std.proofs.lemmas.Bool.{cases_eq, eq-eqb, ne_eqb, eqb-true}
use Rattle.ck_calls.specs.declared.call.Call.{Call}
use Rattle.keep.specs.Contents.{Contents, Kept}
use Rattle.keep.specs.Keeping.{Terms}
use Rattle.model_views.specs.declared.fault.Fault.{Fault}
use Rattle.desk.specs.Desks.{DeskState, SameDesk, empty_desk}
use Rattle.model_worlds.specs.declared.check.Check.{Check}
use Rattle.model_worlds.specs.declared.event.Event.TheVariants.{Gone}
use Rattle.serve_base.specs.declared.out.Out.{Out}
use Rattle.model_views.specs.Views.{TokenObject, View, sees, without_handle, fresh, left}
use Rattle.model_views.specs.Changes.{Change, seen, in_list, as_seen}
use Rattle.model_views.specs.Answering.{Said, Answer, Reveal, has_session, pin_checked_in}
use Rattle.model_answers.specs.Answers.{answer}
use Rattle.serve_base.specs.Stores.{StoreState, ServesAnswer}
use Rattle.model_worlds.specs.Worlds.{World, seated, list_change, change_for, checks_of, without_checks, stepped, unchecked, with_view, goes}
use Rattle.serve_base.specs.Shown.{objects_of, sees_kept, token_object, view_of, IsNoted, Fits, GivesAnswer, said_of}
use Rattle.model_runs.specs.Applications.{State, desk_at, Depicts, opening, AllFit}
use Rattle.lists.proofs.ListLemmas.{map-map, filter-map, filter-less, any-none, any-less}
use Rattle.serve_base.proofs.Seeing.{less-none}
use Rattle.serve_base.proofs.Changing.{fits-changed, objects-changed, record-changed, view_of-changed}

abbrev pub state : Contents → List (ℕ × DeskState) → List Check → State
state c ds cs = record { kept = c; desks = ds; checks = cs }

-- capacities aren't seen
pub view_of-same : (c : Contents) (d d' : DeskState) → SameDesk d d' → view_of c d' ≡ view_of c d
view_of-same c d d' same = rw same refl

pub fits-same : (c : Contents) (d d' : DeskState) → SameDesk d d' → Fits c d.handles.entries → Fits c d'.handles.entries
fits-same c d d' same fits = rw same fits

-- ---- which applications have a session

in-own : (app : ℕ) (v : View) (apps : List ℕ) → list_any (λ n. n == app) (seated app v apps) ≡ has_session v
in-own app v apps = step (has_session v) where
  step : (b : Bool) → list_any (λ n. n == app) (cond b (app ∷ filter (λ n. not (n == app)) apps) (filter (λ n. not (n == app)) apps)) ≡ b
  step true = ap (λ b. b || list_any (λ n. n == app) (filter (λ n. not (n == app)) apps)) (eq-eqb app app refl)
  step false = any-none (λ n. n == app) apps

in-other : (app b : ℕ) (v : View) (apps : List ℕ) → b ≢ app → list_any (λ n. n == b) (seated app v apps) ≡ list_any (λ n. n == b) apps
in-other app b v apps differ = step (has_session v) where
  rest : list_any (λ n. n == b) (filter (λ n. not (n == app)) apps) ≡ list_any (λ n. n == b) apps
  rest = any-less (λ n. n == b) (λ n. not (n == app)) apps (λ n is. ap not (ne_eqb n app (λ e. differ (sym (eqb-true n b is) ∙ e))))

  step : (t : Bool) → list_any (λ n. n == b) (cond t (app ∷ filter (λ n. not (n == app)) apps) (filter (λ n. not (n == app)) apps))
      ≡ list_any (λ n. n == b) apps
  step true = ap (λ t. t || list_any (λ n. n == b) (filter (λ n. not (n == app)) apps)) (ne_eqb app b (λ e. differ (sym e))) ∙ rest
  step false = rest

session-same : (c c' : Contents) (d d' : DeskState) → SameDesk d d' → has_session (view_of c d) ≡ has_session (view_of c' d')
session-same c c' d d' same = rw same refl

-- ---- an answer at one desk, after which the other desks are as before
module _ (a : Answer) (c c' : Contents) (ds ds' : List (ℕ × DeskState)) (app : ℕ) (fits : AllFit c ds)
    (others : (b : ℕ) → b ≢ app → SameDesk (desk_at ds b) (desk_at ds' b)) (said : Said)
    (gives : GivesAnswer a (desk_at ds app).sessions.login c said c' (desk_at ds' app)) where
  pub fits-given : AllFit c' ds'
  fits-given b = elim (cases_eq b app) [
    | inl is ↦ rw is gives.fits
    | inr differ ↦ fits-same c' (desk_at ds b) (desk_at ds' b) (others b differ)
        (fits-changed (in_list (sees (desk_at ds app).sessions.login) (objects_of c) a.change) c c'
        (desk_at ds b).handles.entries gives.changes (fits b))
  ]

  pub depicts-given : (cs : List Check) (w : World) → Depicts (state c ds cs) w
      → Depicts (state c' ds' (cs ++ checks_of app (pin_checked_in a.says))) (stepped w app a)
  depicts-given cs w s =
      let change : Change = in_list (sees (desk_at ds app).sessions.login) (objects_of c) a.change in
      let is : list_change w app a ≡ change = rw (s.views app, s.objects) refl in
      record {
        token_record = rw (is, s.token_record) (sym (record-changed change c c' gives.changes));
        objects = rw (is, s.objects) (sym (objects-changed change c c' gives.changes));
        checks = ap (λ xs. xs ++ checks_of app (pin_checked_in a.says)) s.checks;
        in_session = λ b. elim (cases_eq b app) [
          | inl same ↦ rw same (in-own app a.view w.in_session ∙ ap has_session (sym gives.view))
          | inr differ ↦ in-other app b a.view w.in_session differ ∙ s.in_session b
              ∙ session-same c c' (desk_at ds b) (desk_at ds' b) (others b differ)
        ];
        views = λ b. elim (cases_eq b app) [
          | inl same ↦ rw (eq-eqb b app same) (rw same (sym gives.view))
          | inr differ ↦ rw (ne_eqb b app differ) (
              let to : change_for b w app a ≡ as_seen (sees (desk_at ds b).sessions.login) (objects_of c) change =
              rw (is, s.views b, s.objects) refl in
              ap (λ x. seen x (w.views b)) to ∙ ap (seen (as_seen (sees (desk_at ds b).sessions.login) (objects_of c) change)) (s.views b)
              ∙ sym (view_of-changed change c c' (desk_at ds b) gives.changes (fits b))
              ∙ sym (view_of-same c' (desk_at ds b) (desk_at ds' b) (others b differ)))
        ];
      }

-- ---- nothing changes but capacities
pub fits-all : (c : Contents) (ds ds' : List (ℕ × DeskState)) → ((b : ℕ) → SameDesk (desk_at ds b) (desk_at ds' b)) → AllFit c ds
    → AllFit c ds'
fits-all c ds ds' same fits b = fits-same c (desk_at ds b) (desk_at ds' b) (same b) (fits b)

pub depicts-same : (c : Contents) (ds ds' : List (ℕ × DeskState)) (cs : List Check) (w : World)
    → ((b : ℕ) → SameDesk (desk_at ds b) (desk_at ds' b)) → Depicts (state c ds cs) w → Depicts (state c ds' cs) w
depicts-same c ds ds' cs w same s = record {
  token_record = s.token_record;
  objects = s.objects;
  checks = s.checks;
  in_session = λ b. s.in_session b ∙ session-same c c (desk_at ds b) (desk_at ds' b) (same b);
  views = λ b. s.views b ∙ sym (view_of-same c (desk_at ds b) (desk_at ds' b) (same b));
}

-- ---- one desk is another, and its application's checks are over
pub depicts-put : (c : Contents) (ds ds' : List (ℕ × DeskState)) (cs : List Check) (app : ℕ) (d : DeskState) (v : View) (w : World)
    → SameDesk d (desk_at ds' app) → view_of c d ≡ v → ((b : ℕ) → b ≢ app → SameDesk (desk_at ds b) (desk_at ds' b))
    → Depicts (state c ds cs) w → Depicts (state c ds' (without_checks app cs)) (unchecked (with_view w app v) app)
depicts-put c ds ds' cs app d v w own is others s = record {
  token_record = s.token_record;
  objects = s.objects;
  checks = ap (without_checks app) s.checks;
  in_session = λ b. elim (cases_eq b app) [
    | inl same ↦ rw same (in-own app v w.in_session ∙ ap has_session (sym is) ∙ session-same c c d (desk_at ds' app) own)
    | inr differ ↦ in-other app b v w.in_session differ ∙ s.in_session b ∙ session-same c c (desk_at ds b) (desk_at ds' b) (others b differ)
  ];
  views = λ b. elim (cases_eq b app) [
    | inl same ↦ rw (eq-eqb b app same) (rw same (sym (view_of-same c d (desk_at ds' app) own ∙ is)))
    | inr differ ↦ rw (ne_eqb b app differ) (s.views b ∙ sym (view_of-same c (desk_at ds b) (desk_at ds' b) (others b differ)))
  ];
}

pub fits-put : (c : Contents) (ds ds' : List (ℕ × DeskState)) (app : ℕ) → Fits c (desk_at ds' app).handles.entries
    → ((b : ℕ) → b ≢ app → SameDesk (desk_at ds b) (desk_at ds' b)) → AllFit c ds → AllFit c ds'
fits-put c ds ds' app own others fits b = elim (cases_eq b app) [
  | inl is ↦ rw is own
  | inr differ ↦ fits-same c (desk_at ds b) (desk_at ds' b) (others b differ) (fits b)
]

-- ---- an application that isn't there

pub fits-empty : (c : Contents) → Fits c empty_desk.handles.entries
fits-empty c = record { given = tt; noted = noted c.objects } where
  noted : (es : List Kept) → AllByRecursion (IsNoted []) es
  noted [] = tt
  noted (e ∷ es) = (tt, noted es)

pub view_of-empty : (c : Contents) → view_of c empty_desk ≡ fresh c.token_record (objects_of c)
view_of-empty c =
    let f : List TokenObject → View = λ ts. record (view_of c empty_desk) { tokens = ts } in
    ap f (sym (ap (map without_handle) (filter-map (sees None) (λ (e : Kept). e.1) c.objects)
    ∙ map-map (λ (e : Kept). e.1) without_handle (filter (sees_kept None) c.objects)))

-- what it saw before it disconnected is what it sees
pub view_of-left : (c : Contents) (d : DeskState) → view_of c empty_desk ≡ left (view_of c d)
view_of-left c d =
    let f : List TokenObject → View = λ ts. record (view_of c empty_desk) { tokens = ts } in
    let seen : List Kept = filter (sees_kept d.sessions.login) c.objects in
    ap f (sym (
    ap (λ os. map without_handle (filter (sees None) os)) (map-map (token_object d) (λ t. t.object) seen)
    ∙ ap (map without_handle) (filter-map (sees None) (λ (e : Kept). e.1) seen
    ∙ ap (map (λ (e : Kept). e.1)) (filter-less (sees_kept None) (sees_kept d.sessions.login) c.objects (less-none d.sessions.login)))
    ∙ map-map (λ (e : Kept). e.1) without_handle (filter (sees_kept None) c.objects)))

pub depicts-opening : (c : Contents) → Depicts (state c [] []) (opening c)
depicts-opening c = record {
  token_record = refl;
  objects = refl;
  checks = refl;
  in_session = λ app. refl;
  views = λ app. sym (view_of-empty c);
}

pub depicts-gone : (c : Contents) (ds ds' : List (ℕ × DeskState)) (cs : List Check) (app : ℕ) (w : World)
    → desk_at ds' app ≡ empty_desk → ((b : ℕ) → b ≢ app → desk_at ds' b ≡ desk_at ds b) → Depicts (state c ds cs) w
    → Depicts (state c ds' (without_checks app cs)) (goes w (Gone app))
depicts-gone c ds ds' cs app w own others s =
    depicts-put c ds ds' cs app empty_desk (left (w.views app)) w (rw own refl)
    (view_of-left c (desk_at ds app) ∙ ap left (sym (s.views app))) (λ b differ. rw (others b differ) refl) s

-- ---- a call at a desk that is the same but for capacities
pub served-same : {K : Type 0} (terms : Terms K) (call : Call) (random : List ℕ) (reveal : Reveal) (c : Contents)
    (old new : StoreState K) (d mid : DeskState) (r : Result Out Fault) (desk : DeskState) → SameDesk d mid
    → ServesAnswer terms said_of (answer (view_of c mid) call random reveal) c old new mid mid r desk
    → ServesAnswer terms said_of (answer (view_of c d) call random reveal) c old new d d r desk
served-same terms call random reveal c old new d mid (Ok out) desk same s = rw same at s
served-same terms call random reveal c old new d mid (Err fault) desk same s =
    record { has = s.has; same = rw same at s.same; leaves = rw same at s.leaves }
