-- A search begins.
use Rattle.std.proofs.Common.{◌≡◌, ℕ, false, List, ◌++◌, map, Option, Some, None, Bor, refl, sym, ◌∙◌, ap, subst}
use Rattle.std.specs.Prelude.{filter, is_some, is_none}
use Rattle.std.specs.Option.{option_copied}
use Rattle.ck_types.specs.declared.entry.Entry.{Entry}
use Rattle.ck_types.specs.declared.rv.Rv.TheVariants.{Ok}
use Rattle.ck_calls.specs.declared.reply.Reply.TheVariants.{Code}
use Rattle.find.specs.Matching.{template_matches}
use Rattle.handles.specs.Handles.{HandleTable}
use Rattle.keep.specs.Contents.{Contents, IsSound}
use Rattle.lists.proofs.ListLemmas.{filter-map, map-map}
use Rattle.sessions.specs.declared.Session.{Session}
use Rattle.sessions.specs.Sessions.{session_at}
use Rattle.ops.specs.Operations.{Operations, search_in, searching_in, with_search}
use Rattle.desk.specs.declared.own_object.OwnObject.{OwnObject}
use Rattle.desk.specs.Desks.{DeskState, SameDesk}
use Rattle.model_views.specs.Views.{View, TokenObject, SessionObject}
use Rattle.model_views.specs.Answering.{Replies, session_of}
use Rattle.model_answers.specs.FindObjectsInit.{with_handles, tokens_found as handles_found, own_found, searches, find_objects_init}
use Rattle.serve_base.specs.declared.searching.Match.{Match}
use Rattle.serve_base.specs.Searching.{kept_found}
use Rattle.serve_base.specs.Shown.{session_object, view_of, Fits, GivesAnswer}
use Rattle.serve_objects.specs.Giving.{own_matches, given, numbers}
use Rattle.serve_objects.proofs.Numbering.{token_by, seen, before, numbered, given-own, numbers-own, own-handles}
use Rattle.serve_objects.proofs.Fitting.{fits-found}

-- ---- the checks

pub none-is : {X : Type 0} (r : Option (Bor X)) (o : Option X) → option_copied r ≡ o → is_some r ≡ false → is_some o ≡ false
none-is None o is idle = ap is_some (sym is)
none-is (Some x) o is idle = absurd cc

pub begins-is : (v : View) (session : ℕ) (template : List Entry) → is_none (session_of v session) ≡ false
    → is_some (search_in (session_of v session)) ≡ false → find_objects_init v session template ≡ searches v session template
begins-is v session template there idle = rw (there, idle) refl

-- ---- the answer

pub login-stays : (d : DeskState) (session : ℕ) (search : Option (List ℕ))
    → (with_search d.sessions session search).login ≡ d.sessions.login
login-stays d session search = at (session_at d.sessions.sessions session) where
  at : (s : Option (Session Operations)) → (searching_in d.sessions session s search).login ≡ d.sessions.login
  at None = refl
  at (Some s) = refl

own-is : (template : List Entry) (es : List OwnObject)
    → own_found template (map session_object es) ≡ map (λ e. e.handle) (filter (λ e. template_matches template e.object) es)
own-is template es =
    ap (map (λ (e : SessionObject). e.handle)) (filter-map (λ (e : SessionObject). template_matches template e.object) session_object es)
    ∙ map-map session_object (λ (e : SessionObject). e.handle) (filter (λ e. template_matches template e.object) es)

module _ (c : Contents) (d : DeskState) (session : ℕ) (template : List Entry) (sound : IsSound c) (fits : Fits c d.handles.entries)
    (own_capacity capacity : ℕ) where
  abbrev table : HandleTable
  table = record d.handles { capacity = capacity }

  abbrev found : List Match
  found = kept_found d.sessions.login template c.objects ++ own_matches template d.own

  abbrev own_handles : List ℕ
  own_handles = map (λ e. e.handle) (filter (λ e. template_matches template e.object) d.own)

  abbrev seen_tokens : List TokenObject
  seen_tokens = with_handles template d.handles.next_number (before d.sessions.login template table c.objects)

  -- what the desk has after it, and what of that is seen
  abbrev searching : HandleTable → List ℕ → DeskState
  searching t ns = record d { own_capacity = own_capacity; handles = t; sessions = with_search d.sessions session (Some ns) }

  abbrev shown : List TokenObject → ℕ → List ℕ → View
  shown ts next ns = record (view_of c d) { tokens = ts; next_handle = next; sessions = with_search d.sessions session (Some ns) }

  shown-is : (t : HandleTable) (ns : List ℕ)
      → view_of c (searching t ns) ≡ shown (map (token_by t.entries) (seen d.sessions.login template c.objects)) t.next_number ns
  shown-is t ns = rw (login-stays d session (Some ns)) refl

  given-is : given table found ≡ given table (kept_found d.sessions.login template c.objects)
  given-is = ap (λ ms. given table (kept_found d.sessions.login template c.objects ++ ms)) (own-handles template d.own)
      ∙ given-own table (kept_found d.sessions.login template c.objects) own_handles

  numbers-is : numbers table found ≡ handles_found template seen_tokens ++ own_found template (view_of c d).own
  numbers-is =
      ap (λ ms. numbers table (kept_found d.sessions.login template c.objects ++ ms)) (own-handles template d.own)
      ∙ numbers-own table (kept_found d.sessions.login template c.objects) own_handles
      ∙ ap (λ ns. ns ++ own_handles) (numbered d.sessions.login template table 0 c.last_id c.objects sound.ids).2
      ∙ ap (λ ns. handles_found template seen_tokens ++ ns) (sym (own-is template d.own))

  view-is : view_of c (searching (given table found) (numbers table found)) ≡ (searches (view_of c d) session template).view
  view-is =
      let n = numbered d.sessions.login template table 0 c.last_id c.objects sound.ids in
      let ms = kept_found d.sessions.login template c.objects in
      let es = seen d.sessions.login template c.objects in
      shown-is (given table found) (numbers table found)
      ∙ ap (λ t. shown (map (token_by t.entries) es) t.next_number (numbers table found)) given-is
      ∙ ap (λ ts. shown ts (given table ms).next_number (numbers table found)) n.0
      ∙ ap (λ next. shown seen_tokens next (numbers table found)) n.1
      ∙ ap (λ ns. shown seen_tokens (searches (view_of c d) session template).view.next_handle ns) numbers-is

  gives-searching : GivesAnswer (searches (view_of c d) session template) d.sessions.login c (Replies (Code Ok)) c
      (searching (given table found) (numbers table found))
  gives-searching = record {
    says = refl;
    view = view-is;
    changes = refl;
    fits = subst (λ ms. Fits c (given table (kept_found d.sessions.login template c.objects ++ ms)).entries)
        (sym (own-handles template d.own)) (fits-found d.sessions.login template c table own_handles sound fits);
  }

-- where memory for the handles was allocated
pub gives-search : (c : Contents) (d r : DeskState) (session : ℕ) (template : List Entry) (ms : List Match) → IsSound c
    → Fits c d.handles.entries → SameDesk d r → ms ≡ kept_found d.sessions.login template c.objects ++ own_matches template d.own
    → GivesAnswer (searches (view_of c d) session template) d.sessions.login c (Replies (Code Ok)) c
    (record r { handles = given r.handles ms; sessions = with_search r.sessions session (Some (numbers r.handles ms)) })
gives-search c d r session template ms sound fits same is =
    rw (same, is) (gives-searching c d session template sound fits r.own_capacity r.handles.capacity)
