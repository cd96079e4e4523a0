-- Objects under handles, and the places of token objects.
use Rattle.std.proofs.Common.{◌≡◌, ℕ, ◌<◌, ◌≤◌, Bool, true, false, List, [], ◌∷◌, map, Option, Some, None, refl, sym, subst, ◌∙◌, ap, arith, inl, inr}
use Rattle.std.specs.Prelude.{find, filter, ◌==◌}
use Rattle.std.specs.Option.{option_map}
use Rattle.std.proofs.lemmas.Bool.{cases_Bool, cases_eq, eq-eqb, ne_eqb}
use Rattle.ck_types.specs.declared.entry.Entry.{Entry}
use Rattle.handles.specs.declared.Handle.{Handle}
use Rattle.handles.specs.Handles.{handle_number, object_of, IsHandleTable}
use Rattle.handles.proofs.HandleLemmas.{number_of-object_of, object_of-number_of}
use Rattle.keep.specs.Contents.{Contents, Kept, IdsRise, IsSound, object_at as kept_at}
use Rattle.desk.specs.declared.own_object.OwnObject.{OwnObject}
use Rattle.desk.specs.Desks.{DeskState, own_at}
use Rattle.model_views.specs.Views.{TokenObject, SessionObject, sees}
use Rattle.serve_base.specs.declared.finding.Found.{Found}
use Rattle.serve_base.specs.Found.{IsObjectAt, IsFound, IsOwn}
use Rattle.lists.specs.Indexes.{first_index}
use Rattle.model_views.specs.Answering.{is_handle, first_object, object_at, index_of}
use Rattle.serve_base.specs.Shown.{sees_kept, token_object, session_object, view_of}
use Rattle.lists.proofs.ListLemmas.{find-map, find-same, find-never, find-filter_none, find-filter_some, index-map, index-same, index-none}

-- ---- ids rise

pub find-above : (low last id : ℕ) (es : List Kept) → IdsRise low es last → id ≤ low → find (λ e. e.0 == id) es ≡ None
find-above low last id [] ids below = refl
find-above low last id (e ∷ es) ids below =
    rw (ne_eqb e.0 id (λ k. let l : low < e.0 = ids.0 in omega arith))
    (find-above e.0 last id es ids.2 (let l : low < e.0 = ids.0 in omega arith))

find-hidden : (low last id : ℕ) (t : Kept → Bool) (es : List Kept) (x : Kept) → IdsRise low es last
    → find (λ e. e.0 == id) es ≡ Some x → t x ≡ false → find (λ e. e.0 == id) (filter t es) ≡ None
find-hidden low last id t [] x ids some hidden = refl
find-hidden low last id t (e ∷ es) x ids some hidden = elim (cases_eq e.0 id) [
  | inl is ↦ let k : Some e ≡ Some x = rw (eq-eqb e.0 id is) at some in let s : e ≡ x = cc in
      rw (s, hidden) (find-filter_none (λ e. e.0 == id) t es (find-above e.0 last id es ids.2 (omega arith)))
  | inr d ↦ elim (cases_Bool (t e)) [
    | inl f ↦ rw (f, ne_eqb e.0 id d) (find-hidden e.0 last id t es x ids.2 (rw (ne_eqb e.0 id d) at some) hidden)
    | inr f ↦ rw f (find-hidden e.0 last id t es x ids.2 (rw (ne_eqb e.0 id d) at some) hidden)
  ]
]

-- ---- handles and ids match both ways

abbrev pub is_id : Option ℕ → ℕ → Bool
is_id None id = false
is_id (Some i) id = id == i

same_test : (next : ℕ) (hs : List Handle) (h id : ℕ) → IsHandleTable next hs → is_handle (handle_number hs id) h ≡ is_id (object_of hs h) id
same_test next hs h id t = both (handle_number hs id) (object_of hs h) refl refl where
  both : (a b : Option ℕ) → handle_number hs id ≡ a → object_of hs h ≡ b → is_handle a h ≡ is_id b id
  both None None p q = refl
  both (Some x) None p q = ne_eqb x h
      (λ e. let k : object_of hs h ≡ Some id = object_of-number_of 1 next h id hs t.rising (rw (← e) p) in cc)
  both None (Some i) p q = sym (ne_eqb id i (λ e. let k : handle_number hs id ≡ Some h = number_of-object_of h id hs t.distinct (rw e q) in cc))
  both (Some x) (Some i) p q = elim (cases_eq x h) [
    | inl e ↦ let k : object_of hs h ≡ Some id = object_of-number_of 1 next h id hs t.rising (rw (← e) p) in let s : id ≡ i = cc in
        eq-eqb x h e ∙ sym (eq-eqb id i s)
    | inr d ↦ ne_eqb x h d ∙ sym (ne_eqb id i
        (λ e. let k : handle_number hs id ≡ Some h = number_of-object_of h id hs t.distinct (rw e q) in let s : x ≡ h = cc in d s))
  ]

-- ---- the object under a handle

module _ (c : Contents) (d : DeskState) (next h : ℕ) (table : IsHandleTable next d.handles.entries) where
  abbrev seen : List Kept
  seen = filter (sees_kept d.sessions.login) c.objects

  found-tokens : find (λ t. is_handle t.handle h) (view_of c d).tokens
      ≡ option_map (token_object d) (find (λ e. is_id (object_of d.handles.entries h) e.0) seen)
  found-tokens =
      find-map (λ (t : TokenObject). is_handle t.handle h) (token_object d) seen
      ∙ ap (option_map (token_object d))
      (find-same (λ (e : Kept). is_handle (handle_number d.handles.entries e.0) h) (λ e. is_id (object_of d.handles.entries h) e.0) seen
      (λ e. same_test next d.handles.entries h e.0 table))

  found-own : (o : Option OwnObject) → first_object None (option_map session_object o) ≡ option_map (λ e. e.object) o
  found-own None = refl
  found-own (Some e) = refl

  -- by what is found of the token's
  object-is : (f : Option Kept) → find (λ e. is_id (object_of d.handles.entries h) e.0) seen ≡ f
      → object_at (view_of c d) h ≡ first_object (option_map (token_object d) f)
      (option_map session_object (find (λ e. e.handle == h) d.own))
  object-is f is =
      ap (λ o. first_object o (find (λ e. e.handle == h) (map session_object d.own))) (found-tokens ∙ ap (option_map (token_object d)) is)
      ∙ ap (first_object (option_map (token_object d) f)) (find-map (λ (e : SessionObject). e.handle == h) session_object d.own)

  none-is : find (λ e. is_id (object_of d.handles.entries h) e.0) seen ≡ None → own_at d.own h ≡ object_at (view_of c d) h
  none-is is = sym (object-is None is ∙ found-own (find (λ e. e.handle == h) d.own))

  pub kept-is : (id : ℕ) (o : List Entry) → kept_at c id ≡ Some o → (x : Kept) × (find (λ e. e.0 == id) c.objects ≡ Some x) × (x.1 ≡ o)
  kept-is id o there = at (find (λ e. e.0 == id) c.objects) refl there where
    at : (f : Option Kept) → find (λ e. e.0 == id) c.objects ≡ f → option_map (λ e. e.1) f ≡ Some o → (x : Kept)
        × (find (λ e. e.0 == id) c.objects ≡ Some x) × (x.1 ≡ o)
    at None e some = let k : None ≡ Some o = some in cc
    at (Some x) e some = (x, e, cc)

  kept-none : (id : ℕ) → kept_at c id ≡ None → find (λ e. e.0 == id) c.objects ≡ None
  kept-none id gone = at (find (λ e. e.0 == id) c.objects) gone where
    at : (f : Option Kept) → option_map (λ e. e.1) f ≡ None → f ≡ None
    at None e = refl
    at (Some x) e = let k : Some x.1 ≡ None = e in cc

  object-there : (id : ℕ) (o : List Entry) → object_of d.handles.entries h ≡ Some id → kept_at c id ≡ Some o
      → sees d.sessions.login o ≡ true → Some o ≡ object_at (view_of c d) h
  object-there id o is there visible =
      let x = kept-is id o there in
      let f : find (λ e. is_id (object_of d.handles.entries h) e.0) seen ≡ Some x.0 =
      rw is (find-filter_some (λ (e : Kept). e.0 == id) (sees_kept d.sessions.login) c.objects x.0 x.1 (rw x.2 visible)) in
      sym (object-is (Some x.0) f ∙ ap Some x.2)

  -- where no token object is seen under the handle
  pub missing-hidden : (id : ℕ) (o : List Entry) → IsSound c → object_of d.handles.entries h ≡ Some id → kept_at c id ≡ Some o
      → sees d.sessions.login o ≡ false → find (λ e. is_id (object_of d.handles.entries h) e.0) seen ≡ None
  missing-hidden id o sound is there hidden =
      let x = kept-is id o there in
      rw is (find-hidden 0 c.last_id id (sees_kept d.sessions.login) c.objects x.0 sound.ids x.1 (rw x.2 hidden))

  pub missing-gone : (id : ℕ) → object_of d.handles.entries h ≡ Some id → kept_at c id ≡ None
      → find (λ e. is_id (object_of d.handles.entries h) e.0) seen ≡ None
  missing-gone id is gone = rw is (find-filter_none (λ (e : Kept). e.0 == id) (sees_kept d.sessions.login) c.objects (kept-none id gone))

  pub missing-none : object_of d.handles.entries h ≡ None → find (λ e. is_id (object_of d.handles.entries h) e.0) seen ≡ None
  missing-none is = rw is (find-never seen)

  -- ---- its place

  pub index-is : index_of (view_of c d).tokens h ≡ first_index (λ e. is_id (object_of d.handles.entries h) e.0) seen
  index-is =
      index-map (λ (t : TokenObject). is_handle t.handle h) (token_object d) seen
      ∙ index-same (λ (e : Kept). is_handle (handle_number d.handles.entries e.0) h)
      (λ e. is_id (object_of d.handles.entries h) e.0) seen (λ e. same_test next d.handles.entries h e.0 table)

  -- ---- what is found

  pub own-found : find (λ e. is_id (object_of d.handles.entries h) e.0) seen ≡ None → (f : Option Found) → IsOwn (own_at d.own h) f
      → IsFound c d h f
  own-found none None own = sym (none-is none) ∙ own
  own-found none (Some f) own = (
    sym (none-is none) ∙ own.0,
    subst (λ i. IsObjectAt c d h f.object i) (sym own.1)
        (index-is ∙ index-none (λ (e : Kept). is_id (object_of d.handles.entries h) e.0) seen none),
  )

  pub kept-found : (id : ℕ) (o : List Entry) → object_of d.handles.entries h ≡ Some id → kept_at c id ≡ Some o
      → sees d.sessions.login o ≡ true → (object_at (view_of c d) h ≡ Some o) × IsObjectAt c d h o (Some id)
  kept-found id o is there visible = (sym (object-there id o is there visible), (is, there, visible))
