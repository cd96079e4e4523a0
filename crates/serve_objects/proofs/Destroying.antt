-- C_DestroyObject: an object is destroyed.
use Rattle.std.proofs.Common.{◌≡◌, ◌≢◌, ℕ, suc, ◌<◌, ◌≤◌, Bool, true, false, cond, not, List, [], ◌∷◌, map, Option, Some, None, refl, sym, ◌∙◌, ap, arith, inl, inr}
use Rattle.std.specs.Prelude.{find, filter, ◌==◌, ◌&&◌}
use Rattle.std.specs.Option.{option_map}
use Rattle.std.specs.List.{AllByRecursion, remove}
use Rattle.std.proofs.lemmas.Bool.{cases_Bool, cases_eq, eq-eqb, ne_eqb}
use Rattle.ck_types.specs.declared.entry.Entry.{Entry}
use Rattle.ck_types.specs.declared.attr_type.AttrType.TheVariants as attr
use Rattle.ck_types.specs.declared.rv.Rv.TheVariants.{Ok}
use Rattle.ck_calls.specs.declared.reply.Reply.TheVariants.{Code}
use Rattle.attrs.specs.Objects.{flag}
use Rattle.guard.specs.Access.{is_public}
use Rattle.lists.proofs.InOrderLemmas.{All-filter}
use Rattle.handles.specs.declared.Handle.{Handle}
use Rattle.handles.specs.Handles.{handle_number, handles_without as without_handles, IsHandleTable}
use Rattle.keep.specs.Contents.{Contents, Kept, IdsRise, IsSound, without_object}
use Rattle.sessions.specs.declared.Session.{Session}
use Rattle.desk.specs.Desks.{DeskState}
use Rattle.ops.specs.Operations.{Operations}
use Rattle.lists.specs.Indexes.{first_index, kept_index}
use Rattle.model_views.specs.Views.{TokenObject, SessionObject, View, sees}
use Rattle.model_views.specs.Changes.{Stays}
use Rattle.model_views.specs.Answering.{Replies, session_of, object_at, index_of}
use Rattle.model_answers.specs.DestroyObject.{destroy_object, destroyed}
use Rattle.serve_base.specs.Shown.{sees_kept, token_object, session_object, view_of, IsNoted, Fits, GivesAnswer}
use Rattle.serve_base.specs.Found.{IsObjectAt}
use Rattle.lists.proofs.ListLemmas.{filter-map, map-remove, find-filter_none, find-filter_some, index-none, index-some, kept-hidden, kept-seen, filter-kept, kept_index-map}
use Rattle.serve_base.proofs.Listing.{index-is, find-above, kept-is}

-- ids above are all kept
kept-above : (low last id : ℕ) (es : List Kept) → IdsRise low es last → id ≤ low → filter (λ e. not (e.0 == id)) es ≡ es
kept-above low last id [] ids below = refl
kept-above low last id (e ∷ es) ids below =
    rw (ne_eqb e.0 id (λ k. let l : low < e.0 = ids.0 in omega arith))
    (ap (λ xs. e ∷ xs) (kept-above e.0 last id es ids.2 (let l : low < e.0 = ids.0 in omega arith)))

-- an object of an id that is seen at an index stands where that index is kept
removed : (low last id : ℕ) (t : Kept → Bool) (es : List Kept) (p : ℕ) → IdsRise low es last
    → first_index (λ e. e.0 == id) (filter t es) ≡ Some p → filter (λ e. not (e.0 == id)) es ≡ remove es (kept_index t es p)
removed low last id t [] p ids at = let k : None ≡ Some p = at in cc
removed low last id t (e ∷ es) p ids at = elim (cases_Bool (t e)) [
  | inl seen ↦ elim (cases_eq e.0 id) [
    | inl is ↦ let z : Some 0 ≡ Some p = rw (seen, eq-eqb e.0 id is) at at in let s : 0 ≡ p = cc in
        rw (eq-eqb e.0 id is, ← s, seen) (kept-above e.0 last id es ids.2 (omega arith))
    | inr differ ↦ rw (ne_eqb e.0 id differ)
        (further seen (first_index (λ e. e.0 == id) (filter t es)) refl (rw (seen, ne_eqb e.0 id differ) at at)
        (λ q is. removed e.0 last id t es q ids.2 is))
  ]
  | inr hidden ↦ elim (cases_eq e.0 id) [
    | inl is ↦ let none : first_index (λ e. e.0 == id) (filter t es) ≡ None =
        index-none (λ e. e.0 == id) (filter t es)
        (find-filter_none (λ e. e.0 == id) t es (find-above e.0 last id es ids.2 (omega arith))) in
        let some : first_index (λ e. e.0 == id) (filter t es) ≡ Some p = rw hidden at at in cc
    | inr differ ↦ rw (ne_eqb e.0 id differ, kept-hidden t e es p hidden)
        (ap (λ xs. e ∷ xs) (removed e.0 last id t es p ids.2 (rw hidden at at)))
  ]
] where
  further : t e ≡ true → (f : Option ℕ) → first_index (λ e. e.0 == id) (filter t es) ≡ f → option_map suc f ≡ Some p
      → ((q : ℕ) → first_index (λ e. e.0 == id) (filter t es) ≡ Some q
      → filter (λ e. not (e.0 == id)) es ≡ remove es (kept_index t es q))
      → e ∷ filter (λ e. not (e.0 == id)) es ≡ remove (e ∷ es) (kept_index t (e ∷ es) p)
  further seen None is at again = let k : None ≡ Some p = at in cc
  further seen (Some q) is at again = let s : suc q ≡ p = cc in
      rw (← s) (ap (λ xs. e ∷ xs) (again q is) ∙ ap (remove (e ∷ es)) (sym (kept-seen t e es q seen)))

-- ---- handles of other objects stay

number-other : (id other : ℕ) (hs : List Handle) → other ≢ id → handle_number (without_handles hs id) other ≡ handle_number hs other
number-other id other hs differ = ap (option_map (λ h. h.handle)) (find-other hs) where
  find-other : (hs : List Handle) → find (λ h. h.id == other) (without_handles hs id) ≡ find (λ h. h.id == other) hs
  find-other [] = refl
  find-other (h ∷ hs) = elim (cases_eq h.id id) [
    | inl is ↦ rw (eq-eqb h.id id is, ne_eqb h.id other (λ k. differ (sym k ∙ is))) (find-other hs)
    | inr d ↦ rw (ne_eqb h.id id d) (ap (cond (h.id == other) (Some h)) (find-other hs))
  ]

tokens-others : (id : ℕ) (d d' : DeskState) (t : Kept → Bool) (es : List Kept)
    → d'.handles.entries ≡ without_handles d.handles.entries id
    → map (token_object d') (filter t (filter (λ e. not (e.0 == id)) es))
    ≡ map (token_object d) (filter t (filter (λ e. not (e.0 == id)) es))
tokens-others id d d' t [] same = refl
tokens-others id d d' t (e ∷ es) same = elim (cases_eq e.0 id) [
  | inl is ↦ rw (eq-eqb e.0 id is) (tokens-others id d d' t es same)
  | inr differ ↦ rw (ne_eqb e.0 id differ)
      (step (t e) (ap (λ hs. handle_number hs e.0) same ∙ number-other id e.0 d.handles.entries differ) (tokens-others id d d' t es same))
] where
  step : (b : Bool) → handle_number d'.handles.entries e.0 ≡ handle_number d.handles.entries e.0
      → map (token_object d') (filter t (filter (λ e. not (e.0 == id)) es))
      ≡ map (token_object d) (filter t (filter (λ e. not (e.0 == id)) es))
      → map (token_object d') (cond b (e ∷ filter t (filter (λ e. not (e.0 == id)) es))
      (filter t (filter (λ e. not (e.0 == id)) es)))
      ≡ map (token_object d) (cond b (e ∷ filter t (filter (λ e. not (e.0 == id)) es)) (filter t (filter (λ e. not (e.0 == id)) es)))
  step true n rest =
      let f : Option ℕ → TokenObject = λ x. record { object = e.1; handle = x } in
      ap (λ x. f x ∷ map (token_object d') (filter t (filter (λ e. not (e.0 == id)) es))) n ∙ ap (λ xs. token_object d e ∷ xs) rest
  step false n rest = rest

all-noted-less : (id : ℕ) (hs : List Handle) (es : List Kept) → AllByRecursion (IsNoted hs) es
    → AllByRecursion (IsNoted (without_handles hs id)) es
all-noted-less id hs [] noted = tt
all-noted-less id hs (e ∷ es) noted = (
  All-filter (λ (h : Handle). h.id ≡ e.0 → h.private ≡ not (is_public e.1)) (λ h. not (h.id == id)) hs noted.0,
  all-noted-less id hs es noted.1,
)

fits-less : (c : Contents) (hs : List Handle) (id : ℕ) → Fits c hs → Fits (without_object id c) (without_handles hs id)
fits-less c hs id fits = record {
  given = All-filter (λ (h : Handle). h.id ≤ c.last_id) (λ h. not (h.id == id)) hs fits.given;
  noted = All-filter (λ e. IsNoted (without_handles hs id) e) (λ e. not (e.0 == id)) c.objects (all-noted-less id hs c.objects fits.noted);
}

abbrev pub retired : DeskState → ℕ → DeskState
retired d id = record d { handles = record d.handles { entries = without_handles d.handles.entries id } }

-- ---- the answers

abbrev pub IsFree : List Entry → Bool → Type 0
IsFree o read_write = ((flag o attr.Token && not read_write) ≡ false) × (not (flag o attr.Destroyable) ≡ false)

pub destroy-is : (v : View) (session handle : ℕ) (s : Session Operations) (o : List Entry) → session_of v session ≡ Some s
    → object_at v handle ≡ Some o → IsFree o s.read_write → destroy_object v session handle ≡ destroyed v handle (index_of v.tokens handle)
destroy-is v session handle s o there found free = rw (there, found, free.0, free.1) refl

module _ (c : Contents) (d : DeskState) (next handle : ℕ) (table : IsHandleTable next d.handles.entries) (o : List Entry) where
  pub index-kept : (id : ℕ) → IsObjectAt c d handle o (Some id) → (p : ℕ) × (index_of (view_of c d).tokens handle ≡ Some p)
      × (first_index (λ e. e.0 == id) (filter (sees_kept d.sessions.login) c.objects) ≡ Some p)
  index-kept id at =
      let x = kept-is c d next handle table id o at.1 in
      let p = index-some (λ (e : Kept). e.0 == id) (filter (sees_kept d.sessions.login) c.objects) x.0
      (find-filter_some (λ (e : Kept). e.0 == id) (sees_kept d.sessions.login) c.objects x.0 x.1 (rw x.2 at.2)) in
      (p.0, index-is c d next handle table ∙ rw at.0 p.1, p.1)

  pub gives-kept : (id : ℕ) → IsObjectAt c d handle o (Some id) → IsSound c → Fits c d.handles.entries
      → GivesAnswer (destroyed (view_of c d) handle (index_of (view_of c d).tokens handle)) d.sessions.login c (Replies (Code Ok))
      (without_object id c) (retired d id)
  gives-kept id at sound fits =
      let p = index-kept id at in
      let seen = sees_kept d.sessions.login in
      let f : List TokenObject → View = λ ts. record (view_of c d) { tokens = ts } in
      let g : List Kept → Contents = λ es. record { objects = es; token_record = c.token_record; last_id = c.last_id } in
      let gone = removed 0 c.last_id id seen c.objects p.0 sound.ids p.2 in
      rw p.1 (record {
        says = refl;
        view = ap f (tokens-others id d (retired d id) seen c.objects refl ∙ ap (λ es. map (token_object d) (filter seen es)) gone
            ∙ ap (map (token_object d)) (filter-kept seen c.objects p.0) ∙ map-remove (token_object d) (filter seen c.objects) p.0);
        changes = ap g (gone ∙ ap (remove c.objects) (sym (kept_index-map (sees d.sessions.login) (λ (e : Kept). e.1) c.objects p.0)));
        fits = fits-less c d.handles.entries id fits;
      })

  pub gives-own : IsObjectAt c d handle o None → Fits c d.handles.entries
      → GivesAnswer (destroyed (view_of c d) handle (index_of (view_of c d).tokens handle)) d.sessions.login c (Replies (Code Ok)) c
      (record d { own = filter (λ e. not (e.handle == handle)) d.own })
  gives-own at fits =
      let f : List SessionObject → View = λ os. record (view_of c d) { own = os } in
      rw at (record {
        says = refl;
        view = ap f (sym (filter-map (λ (e : SessionObject). not (e.handle == handle)) session_object d.own));
        changes = refl;
        fits = fits;
      })

  pub stays-own : IsObjectAt c d handle o None → (destroyed (view_of c d) handle (index_of (view_of c d).tokens handle)).change ≡ Stays
  stays-own at = rw at refl
