-- C_SetAttributeValue: an object that changes.
use Rattle.std.proofs.Common.{◌≡◌, ℕ, suc, ◌<◌, ◌≤◌, Bool, true, false, cond, List, [], ◌∷◌, map, Option, Some, None, refl, sym, subst, ◌∙◌, ap, arith, inl, inr}
use Rattle.std.specs.Prelude.{find, filter, ◌==◌}
use Rattle.std.specs.Option.{option_map}
use Rattle.std.proofs.lemmas.Bool.{cases_Bool, cases_eq, eq-eqb, ne_eqb}
use Rattle.ck_types.specs.declared.entry.Entry.{Entry}
use Rattle.ck_types.specs.declared.rv.Rv.TheVariants.{Ok}
use Rattle.ck_calls.specs.declared.reply.Reply.TheVariants.{Code}
use Rattle.guard.specs.Access.{is_public}
use Rattle.handles.specs.Handles.{IsHandleTable}
use Rattle.keep.specs.Contents.{Contents, Kept, IdsRise, IsSound, kept_replaced_at, with_replacement}
use Rattle.desk.specs.declared.own_object.OwnObject.{OwnObject}
use Rattle.desk.specs.Desks.{DeskState, replaced_own}
use Rattle.lists.specs.Indexes.{first_index, kept_index, seen_index}
use Rattle.model_views.specs.Views.{SessionObject, View, sees}
use Rattle.model_views.specs.Changes.{Stays, Replace, seen as seen_after, replaced_at as replaced_seen}
use Rattle.model_views.specs.Answering.{Replies, index_of}
use Rattle.model_answers.specs.SetAttributeValue.{rewritten_own, puts_object}
use Rattle.serve_base.specs.Shown.{sees_kept, session_object, view_of, rekept, IsAsPublic, ChangesContents, Fits, GivesAnswer}
use Rattle.serve_base.specs.Found.{IsObjectAt}
use Rattle.lists.proofs.ListLemmas.{find-filter_none, index-none, kept-hidden, kept-seen, kept_index-map}
use Rattle.lists.proofs.IndexLemmas.{seen_index-map}
use Rattle.serve_base.proofs.Listing.{find-above, kept-is}
use Rattle.serve_objects.proofs.Destroying.{index-kept}
use Rattle.serve_base.proofs.Changing.{fits-changed, view_of-changed}

-- ---- an object of an id that is seen at an index

-- it is replaced where that index is kept, and seen there still
record StandsAt (t : Kept → Bool) (id : ℕ) (o : List Entry) (es : List Kept) (p q : ℕ) : Type 0 where
  put : map (kept_replaced_at id o) es ≡ rekept es q o
  public : IsAsPublic es q o
  seen : seen_index t es q ≡ Some p

-- ids above stay
kept-above : (low last id : ℕ) (o : List Entry) (es : List Kept) → IdsRise low es last → id ≤ low → map (kept_replaced_at id o) es ≡ es
kept-above low last id o [] ids below = refl
kept-above low last id o (e ∷ es) ids below =
    rw (ne_eqb e.0 id (λ k. let l : low < e.0 = ids.0 in omega arith))
    (ap (λ xs. e ∷ xs) (kept-above e.0 last id o es ids.2 (let l : low < e.0 = ids.0 in omega arith)))

module _ (t : Kept → Bool) (last id : ℕ) (o : List Entry) where
  after-seen : (e : Kept) (es : List Kept) (p q : ℕ) → t e ≡ true → (e.0 == id) ≡ false → StandsAt t id o es p q
      → StandsAt t id o (e ∷ es) (suc p) (suc q)
  after-seen e es p q seen other at = record {
    put = rw other (ap (λ xs. e ∷ xs) at.put);
    public = at.public;
    seen = ap (λ b. cond b (option_map suc (seen_index t es q)) (seen_index t es q)) seen ∙ ap (option_map suc) at.seen;
  }

  after-hidden : (e : Kept) (es : List Kept) (p q : ℕ) → t e ≡ false → (e.0 == id) ≡ false → StandsAt t id o es p q
      → StandsAt t id o (e ∷ es) p (suc q)
  after-hidden e es p q hidden other at = record {
    put = rw other (ap (λ xs. e ∷ xs) at.put);
    public = at.public;
    seen = ap (λ b. cond b (option_map suc (seen_index t es q)) (seen_index t es q)) hidden ∙ at.seen;
  }

  put-at : (low : ℕ) (es : List Kept) (p : ℕ) → IdsRise low es last → first_index (λ e. e.0 == id) (filter t es) ≡ Some p
      → ((x : Kept) → find (λ e. e.0 == id) es ≡ Some x → is_public o ≡ is_public x.1) → StandsAt t id o es p (kept_index t es p)
  put-at low [] p ids at same = absurd (let k : None ≡ Some p = at in cc)
  put-at low (e ∷ es) p ids at same = elim (cases_Bool (t e)) [
    | inl seen ↦ elim (cases_eq e.0 id) [
      | inl is ↦
          let z : Some 0 ≡ Some p = rw (seen, eq-eqb e.0 id is) at at in
          let first : 0 ≡ p = cc in
          let k : kept_index t (e ∷ es) 0 ≡ 0 = ap (λ b. cond b 0 (suc (kept_index t es 0))) seen in
          subst (λ x. StandsAt t id o (e ∷ es) x (kept_index t (e ∷ es) x)) first
          (subst (λ q. StandsAt t id o (e ∷ es) 0 q) (sym k) (record {
            put = rw (eq-eqb e.0 id is) (ap (λ xs. (e.0, o) ∷ xs) (kept-above e.0 last id o es ids.2 (omega (arith, is))));
            public = same e (rw (eq-eqb e.0 id is) refl);
            seen = ap (λ b. cond b (Some 0) None) seen;
          }))
      | inr differ ↦
          let other = ne_eqb e.0 id differ in
          further seen other (first_index (λ e. e.0 == id) (filter t es)) refl (rw (seen, other) at at)
          (λ q is. put-at e.0 es q ids.2 is (λ x found. same x (rw other found)))
    ]
    | inr hidden ↦ elim (cases_eq e.0 id) [
      | inl is ↦ let none : first_index (λ e. e.0 == id) (filter t es) ≡ None =
          index-none (λ e. e.0 == id) (filter t es)
          (find-filter_none (λ e. e.0 == id) t es (find-above e.0 last id es ids.2 (omega (arith, is)))) in
          let some : first_index (λ e. e.0 == id) (filter t es) ≡ Some p = rw hidden at at in
          absurd (let k : None ≡ Some p = sym none ∙ some in cc)
      | inr differ ↦
          let other = ne_eqb e.0 id differ in
          subst (λ q. StandsAt t id o (e ∷ es) p q) (sym (kept-hidden t e es p hidden))
          (after-hidden e es p (kept_index t es p) hidden other
          (put-at e.0 es p ids.2 (rw hidden at at) (λ x found. same x (rw other found))))
    ]
  ] where
    further : t e ≡ true → (e.0 == id) ≡ false → (f : Option ℕ) → first_index (λ e. e.0 == id) (filter t es) ≡ f
        → option_map suc f ≡ Some p →
        ((q : ℕ) → first_index (λ e. e.0 == id) (filter t es) ≡ Some q → StandsAt t id o es q (kept_index t es q))
        → StandsAt t id o (e ∷ es) p (kept_index t (e ∷ es) p)
    further seen other None is at again = absurd (let k : None ≡ Some p = at in cc)
    further seen other (Some q) is at again =
        let k : Some (suc q) ≡ Some p = at in
        let next : suc q ≡ p = cc in
        subst (λ x. StandsAt t id o (e ∷ es) x (kept_index t (e ∷ es) x)) next
        (subst (λ x. StandsAt t id o (e ∷ es) (suc q) x) (sym (kept-seen t e es q seen))
        (after-seen e es q (kept_index t es q) seen other (again q is)))

-- ---- the answers

own-put : (es : List OwnObject) (handle : ℕ) (o : List Entry)
    → map session_object (replaced_own es handle o) ≡ rewritten_own (map session_object es) handle o
own-put [] handle o = refl
own-put (e ∷ es) handle o = step (e.handle == handle) (own-put es handle o) where
  step : (b : Bool) → map session_object (replaced_own es handle o) ≡ rewritten_own (map session_object es) handle o
      → map session_object (cond b (record { handle = e.handle; session = e.session; object = o } ∷ es)
      (e ∷ replaced_own es handle o))
      ≡ cond b (record { object = o; handle = e.handle; session = e.session } ∷ map session_object es)
      (session_object e ∷ rewritten_own (map session_object es) handle o)
  step true rest = refl
  step false rest = ap (λ xs. session_object e ∷ xs) rest

module _ (c : Contents) (d : DeskState) (next handle : ℕ) (table : IsHandleTable next d.handles.entries) (old o : List Entry) where
  pub gives-put : (id : ℕ) → is_public o ≡ is_public old → IsObjectAt c d handle old (Some id) → IsSound c → Fits c d.handles.entries
      → GivesAnswer (puts_object (view_of c d) handle o (index_of (view_of c d).tokens handle)) d.sessions.login c (Replies (Code Ok))
      (with_replacement id o c) d
  gives-put id public at sound fits =
      let p = index-kept c d next handle table old id at in
      let x = kept-is c d next handle table id old at.1 in
      let t = sees_kept d.sessions.login in
      let q = kept_index t c.objects p.0 in
      let same : (y : Kept) → find (λ e. e.0 == id) c.objects ≡ Some y → is_public o ≡ is_public y.1 =
      λ y found. (let k : Some x.0 ≡ Some y = sym x.1 ∙ found in let e : x.0 ≡ y = cc in
      public ∙ ap is_public (sym x.2 ∙ ap (λ (z : Kept). z.1) e)) in
      let stands = put-at t c.last_id id o 0 c.objects p.0 sound.ids p.2 same in
      let kept = kept_index-map (sees d.sessions.login) (λ (e : Kept). e.1) c.objects p.0 in
      let f : List Kept → Contents = λ es. record { objects = es; token_record = c.token_record; last_id = c.last_id } in
      let changes : ChangesContents (Replace q o) c (with_replacement id o c) = (stands.public, ap f stands.put) in
      rw p.1 (record {
        says = refl;
        view = view_of-changed (Replace q o) c (with_replacement id o c) d changes fits
            ∙ ap (λ r. seen_after (replaced_seen o r) (view_of c d))
            (seen_index-map (sees d.sessions.login) (λ (e : Kept). e.1) c.objects q ∙ stands.seen);
        changes = subst (λ n. ChangesContents (Replace n o) c (with_replacement id o c)) (sym kept) changes;
        fits = fits-changed (Replace q o) c (with_replacement id o c) d.handles.entries changes fits;
      })

  pub gives-put_own : IsObjectAt c d handle old None → Fits c d.handles.entries
      → GivesAnswer (puts_object (view_of c d) handle o (index_of (view_of c d).tokens handle)) d.sessions.login c (Replies (Code Ok)) c
      (record d { own = replaced_own d.own handle o })
  gives-put_own at fits =
      let f : List SessionObject → View = λ os. record (view_of c d) { own = os } in
      rw at (record {
        says = refl;
        view = ap f (own-put d.own handle o);
        changes = refl;
        fits = fits;
      })

  pub stays-own : IsObjectAt c d handle old None → (puts_object (view_of c d) handle o (index_of (view_of c d).tokens handle)).change ≡ Stays
  stays-own at = rw at refl
