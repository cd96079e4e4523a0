-- Which applications' connections came, as clients come, go and are served.
use Rattle.std.proofs.Common.{◌≡◌, ◌≢◌, inl, inr, ⊎_elim, ℕ, ◌+◌, ◌<◌, ◌^◌, List, [], ◌∷◌, ◌++◌, Bool, not, true, false, get_or, length, set, sym, ap, ◌∙◌, subst, arith, Option, Some, None}
use Rattle.std.specs.List.{slice_get}
use Rattle.std.specs.Bool.{IsTrue, IsFalse}
use Rattle.std.specs.Option.{IfSome, IfNone, is_some}
use Rattle.std.proofs.lemmas.List.{length-set}
use Rattle.std.proofs.lemmas.Option.{slice_get_within}
use Rattle.std.proofs.Math.Logic.{∥∥₁_elim}
use mathlib.Core.HLevel.{¬_prop, ×_prop, Unit-prop}
use Rattle.door.specs.Coming.{IsFreshApp}
use Rattle.line_places.specs.declared.client.Client.{Client}
use Rattle.line_places.specs.declared.place.Place.{Place}
use Rattle.line_places.specs.declared.places.Places.{Places}
use Rattle.line_places.specs.Arriving.{AllCame, HasCome, IsNext, IsPast, KeepsCome}
use Rattle.line_places.specs.Keeping.{app_at, IsFree}
use Rattle.line_places.proofs.Doing.{at-index}
use Rattle.line_places.proofs.Keeping.{get_same, get_other, one_place, same_or, same_place, same_some}

-- who had come before has come still
pub all-came : {R W : Type 0} (old new : Places R W) → KeepsCome old new → (apps : List ℕ)
    → AllCame old.number old.places.items apps → AllCame new.number new.places.items apps
all-came old new keeps [] h = tt
all-came old new keeps (app ∷ apps) h = (keeps app h.0, all-came old new keeps apps h.1)

pub all-more : {R W : Type 0} (s : ℕ) (places : List (Place R W)) (apps : List ℕ) (app : ℕ) → AllCame s places apps
    → HasCome s places app → AllCame s places (apps ++ app ∷ [])
all-more s places [] app h it = (it, tt)
all-more s places (x ∷ apps) app h it = (h.0, all-more s places apps app h.1 it)

fresh-prop : (app : ℕ) (apps : List ℕ) → IsProp (IsFreshApp app apps)
fresh-prop app [] = Unit-prop
fresh-prop app (x ∷ apps) = ×_prop ¬_prop (fresh-prop app apps)

module _ {R W : Type 0} (s : ℕ) (places : List (Place R W)) (j app : ℕ) (is : IsNext s places j app) where
  -- the next application of a place has not come
  not_come : (x : ℕ) → HasCome s places x → x ≢ app
  not_come x h same =
      let both = same_place s (length places) h.j j h.turn is.place.turn (slice_get_within places h.j h.place h.at)
      (slice_get_within places j is.place is.at) (sym h.app_is ∙ same ∙ is.app_is) in
      let one : h.place ≡ is.place = one_place places j h.j is.place h.place is.at h.at both.0 in
      let turn : h.place.turn ≡ is.place.turn = ap (λ (q : Place R W). q.turn) one in
      ⊎_elim (λ (later : h.turn < h.place.turn). omega (arith, later, both.1, turn))
      (λ (now : (h.turn ≡ h.place.turn) × ((c : Client R W) × (h.place.client ≡ Some c))). nobody now.1.0
      (sym now.1.1 ∙ ap (λ (q : Place R W). q.client) one ∙ is.none)) h.past where
        nobody : (c : Client R W) → Some c ≡ None → ⊥
        nobody c e = absurd cc

  none_came : (apps : List ℕ) → AllCame s places apps → IsFreshApp app apps
  none_came [] h = tt
  none_came (x ∷ apps) h = (not_come x h.0, none_came apps h.1)

  pub fresh : (apps : List ℕ) → ∥ AllCame s places apps ∥₁ → IsFreshApp app apps
  fresh apps h = ∥∥₁_elim h (fresh-prop app apps) (none_came apps)

module _ {R W : Type 0} (s : ℕ) (places : List (Place R W)) (j : ℕ) (p p' : Place R W) (at : slice_get places j ≡ Some p) where
  -- whoever was at the place, or is, has come
  pub come-set : ((turn : ℕ) → IsPast turn p → IsPast turn p') → (app : ℕ) → HasCome s places app → HasCome s (set places j p') app
  come-set past app h = ⊎_elim
      (λ (e : h.j ≡ j). record {
        j = j;
        turn = h.turn;
        place = p';
        at = get_same places j p' p at;
        past = past h.turn (subst (λ (q : Place R W). IsPast h.turn q) (one_place places j h.j p h.place at h.at e) h.past);
        app_is = h.app_is ∙ ap (λ (z : ℕ × ℕ). app_at s z.0 z.1 h.turn) (λ i. (sym (length-set places j p') i, e i));
      })
      (λ (n : h.j ≢ j). record {
        j = h.j;
        turn = h.turn;
        place = h.place;
        at = get_other places j h.j p' h.place n h.at;
        past = h.past;
        app_is = h.app_is ∙ ap (λ n. app_at s n h.j h.turn) (sym (length-set places j p'));
      })
      (same_or h.j j)

  -- and the application of this turn
  pub come-here : (turn app : ℕ) → IsPast turn p' → app ≡ app_at s (length places) j turn → HasCome s (set places j p') app
  come-here turn app past is = record {
    j = j;
    turn = turn;
    place = p';
    at = get_same places j p' p at;
    past = past;
    app_is = is ∙ ap (λ n. app_at s n j turn) (sym (length-set places j p'));
  }

-- the turn of a client that is served stays, one that goes is past, and one that comes has its turn
pub past-stays : {R W : Type 0} (p p' : Place R W) (c' : Client R W) → p'.turn ≡ p.turn → p'.client ≡ Some c' → (turn : ℕ)
    → IsPast turn p → IsPast turn p'
past-stays p p' c' same is turn h =
    ⊎_elim (λ (l : turn < p.turn). inl (omega (arith, l, same)))
    (λ (n : (turn ≡ p.turn) × ((c : Client _ _) × (p.client ≡ Some c))). inr (n.0 ∙ sym same, (c', is))) h

pub past-goes : {R W : Type 0} (p p' : Place R W) → p'.turn ≡ p.turn + 1 → (turn : ℕ) → IsPast turn p → IsPast turn p'
past-goes p p' next turn h = ⊎_elim (λ (l : turn < p.turn). inl (omega (arith, l, next)))
    (λ (n : (turn ≡ p.turn) × ((c : Client _ _) × (p.client ≡ Some c))). let e = n.0 in inl (omega (arith, e, next))) h

-- ---- where somebody may come

-- the place that an index gives
pub next-at : {R W : Type 0} (s : ℕ) (places : List (Place R W)) (j app : ℕ) → IsNext s places j app → (p : Place R W)
    → p ≡ get_or places j p → (slice_get places j ≡ Some p) × (p.client ≡ None) × (p.turn < 2 ^ 55)
    × (app ≡ app_at s (length places) j p.turn)
next-at s places j app n p is =
    let at : slice_get places j ≡ Some p = at-index places j p (slice_get_within places j n.place n.at) is in
    let one : n.place ≡ p = same_some n.place p (sym n.at ∙ at) in (
      at,
      ap (λ (q : Place _ _). q.client) (sym one) ∙ n.none,
      subst (λ (q : Place _ _). q.turn < 2 ^ 55) one n.turns,
      n.app_is
          ∙ ap (λ (q : Place _ _). app_at s (length places) j q.turn) one,
    )

pub free-some : {R W : Type 0} (s : ℕ) (places : List (Place R W)) (j : ℕ) (o : Option ℕ) → IfSome o (λ app. IsNext s places j app)
    → IsTrue (is_some o) → IsFree places j
free-some s places j None next h = absurd (let clash : false ≡ true = h in cc)
free-some s places j (Some app) next h = record { place = next.place; at = next.at; none = next.none; turns = next.turns }

pub next-some : {R W : Type 0} {b : Bool} (s : ℕ) (places : List (Place R W)) (j : ℕ) (o : Option ℕ)
    → IfSome o (λ app. IsNext s places j app) → is_some o ≡ not b → b ≡ false → (app : ℕ) × IsNext s places j app
next-some s places j None next is free = absurd (let clash : false ≡ true = is ∙ ap not free in cc)
next-some s places j (Some app) next is free = (app, next)

pub taken-none : (o : Option ℕ) (P : Type 0) → IfNone o P → IsFalse (is_some o) → P
taken-none None P none h = none
taken-none (Some app) P none h = absurd (let clash : true ≡ false = h in cc)
