-- A client comes to a place or goes, and what is kept of all of them.
use Rattle.std.proofs.Common.{◌≡◌, ◌≢◌, ℕ, ◌+◌, ◌*◌, ◌^◌, ◌<◌, ◌≤◌, ◌%◌, inl, inr, ⊎_elim, List, [], ◌∷◌, ◌++◌, length, set, sym, refl, ap, ◌∙◌, subst, arith, Some, None}
use Rattle.std.specs.List.{slice_get}
use Rattle.std.proofs.lemmas.List.{length-append, length-set}
use Rattle.std.proofs.lemmas.Option.{slice_get_within}
use Rattle.std.proofs.Math.Nat.{add-mul-mod_self_left, mod-eq_of_lt}
use Rattle.ck_calls.specs.declared.reply.Reply.{Reply}
use Rattle.hall_log.specs.Lists.{of}
use Rattle.ck_calls.specs.declared.app_call.AppCall.{AppCall}
use Rattle.hall_log.proofs.Lists.{get_more}
use Rattle.line.specs.Words.{words_for}
use Rattle.line_places.specs.declared.client.Client.{Client}
use Rattle.line_places.specs.declared.place.Place.{Place}
use Rattle.line_places.specs.Keeping.{app_at, calls_of, IsAmong, IsClientAt, IsLife, WasAt, PlacesKeep}
use Rattle.line_places.proofs.Keeping.{still_before, same_place, same_some, get_set, get_same, get_other, one_place, same_or, among-snoc, among-more, among-last}

-- ---- applications of a worker

pub own-app : (s n j t : ℕ) → s < 4 → app_at s n j t % 4 ≡ s
own-app s n j t lt = add-mul-mod_self_left s 4 (j + n * t) ∙ mod-eq_of_lt lt

-- ---- a place changes

module _ {R W : Type 0} (seed : List ℕ) (s : ℕ) (places : List (Place R W)) (past : List (Client R W)) (asked : List AppCall)
    (told : List (ℕ × Reply)) (k : PlacesKeep seed s places past asked told)
    (j : ℕ) (p : Place R W) (at : slice_get places j ≡ Some p) (p' : Place R W) where
  here : slice_get (set places j p') j ≡ Some p'
  here = get_same places j p' p at

  same_length : length (set places j p') ≡ length places
  same_length = length-set places j p'

  now_else : (i : ℕ) (q : Place R W) (d : Client R W) → slice_get places i ≡ Some q → q.client ≡ Some d
      → (d.app ≡ app_at s (length (set places j p')) i q.turn) × (q.turn < 2 ^ 55)
  now_else i q d at' is = let was = k.now i q d at' is in (was.0 ∙ ap (λ n. app_at s n i q.turn) (sym same_length), was.1)

  -- ---- a client comes

  module _ (none : p.client ≡ None) (c : Client R W) (turn : p'.turn ≡ p.turn) (is : p'.client ≡ Some c)
      (app : c.app ≡ app_at s (length places) j p.turn) (bound : p.turn < 2 ^ 55)
      (words : c.first.value ≡ words_for seed c.app) (no_call : c.asked.items ≡ []) (no_reply : c.told.items ≡ []) where
    fresh : (d : Client R W) → IsLife places past d → d.app ≢ c.app
    fresh d life same = ⊎_elim
        (λ (x : IsAmong d past).
        let w = k.before d x in
        let both = same_place s (length places) w.j j w.t p.turn (slice_get_within places w.j w.place w.at)
        (slice_get_within places j p at) (sym w.app ∙ same ∙ app) in
        let x : w.place.turn ≡ p.turn = ap (λ (q : Place R W). q.turn) (one_place places j w.j p w.place at w.at both.0) in
        omega (arith, w.later, both.1, x))
        (λ (x : (i : ℕ) × IsClientAt places i d).
        let both = same_place s (length places) x.0 j x.1.place.turn p.turn (slice_get_within places x.0 x.1.place x.1.at)
        (slice_get_within places j p at) (sym (k.now x.0 x.1.place d x.1.at x.1.client).0 ∙ same ∙ app) in
        let one = one_place places j x.0 p x.1.place at x.1.at both.0 in
        let two : Some d ≡ None = sym x.1.client ∙ ap (λ (q : Place R W). q.client) one ∙ none in
        absurd cc) life

    whose_then : (P : Client R W → Type 0) → P c → ((d : Client R W) → IsLife places past d → P d) → (d : Client R W)
        → IsLife (set places j p') past d → P d
    whose_then P mine rest d life = ⊎_elim (λ (x : IsAmong d past). rest d (inl x))
        (λ (x : (i : ℕ) × IsClientAt (set places j p') i d). ⊎_elim
        (λ (y : (x.0 ≡ j) × (p' ≡ x.1.place)). subst P (same_some c d (sym is ∙ ap (λ (q : Place R W). q.client) y.1 ∙ x.1.client)) mine)
        (λ (y : (x.0 ≢ j) × (slice_get places x.0 ≡ Some x.1.place)). rest d
        (inr (x.0, record { place = x.1.place; at = y.1; client = x.1.client })))
        (get_set places j x.0 p' x.1.place x.1.at)) life

    still_lives : (d : Client R W) → IsLife places past d → IsLife (set places j p') past d
    still_lives d life = ⊎_elim (λ (x : IsAmong d past). inl x)
        (λ (x : (i : ℕ) × IsClientAt places i d). ⊎_elim
        (λ (e : x.0 ≡ j). let two : Some d ≡ None = sym x.1.client
        ∙ ap (λ (q : Place R W). q.client) (one_place places j x.0 p x.1.place at x.1.at e) ∙ none in absurd cc)
        (λ (n : x.0 ≢ j). inr (x.0, record { place = x.1.place; at = get_other places j x.0 p' x.1.place n x.1.at; client = x.1.client }))
        (same_or x.0 j)) life

    pub kept-open : PlacesKeep seed s (set places j p') past asked told
    kept-open = let empty = k.others c.app fresh in record {
      now = λ i q d at' client'. ⊎_elim
          (λ (y : (i ≡ j) × (p' ≡ q)).
          let one : c ≡ d = same_some c d (sym is ∙ ap (λ (z : Place R W). z.client) y.1 ∙ client') in
          let turn' : q.turn ≡ p.turn = ap (λ (z : Place R W). z.turn) (sym y.1) ∙ turn in (
            ap (λ (z : Client R W). z.app) (sym one) ∙ app
                ∙ ap (λ (z : ℕ × ℕ × ℕ). app_at s z.0 z.1 z.2) (λ e. (sym same_length e, sym y.0 e, sym turn' e)),
            omega (arith, bound, turn'),
          ))
          (λ (y : (i ≢ j) × (slice_get places i ≡ Some q)). now_else i q d y.1 client')
          (get_set places j i p' q at');
      before = λ d among. still_before s places j p p' at (omega (arith, turn)) d (k.before d among);
      words = whose_then (λ d. d.first.value ≡ words_for seed d.app) words k.words;
      parts = whose_then (λ d. (calls_of d.app asked ≡ d.asked.items) × (of d.app told ≡ d.told.items))
          (empty.0 ∙ sym no_call, empty.1 ∙ sym no_reply) k.parts;
      others = λ a without. k.others a (λ d life. without d (still_lives d life));
    }

  -- ---- a client goes

  module _ (c : Client R W) (is : p.client ≡ Some c) (turn : p'.turn ≡ p.turn + 1) (none : p'.client ≡ None) where
    mine : IsLife places past c
    mine = inr (j, record { place = p; at = at; client = is })

    not_here : (q : Place R W) (d : Client R W) → p' ≡ q → q.client ≡ Some d → ⊥
    not_here q d one client = let two : Some d ≡ None = sym client ∙ ap (λ (z : Place R W). z.client) (sym one) ∙ none in absurd cc

    was : (d : Client R W) → IsLife (set places j p') (past ++ c ∷ []) d → IsLife places past d
    was d life = ⊎_elim
        (λ (x : IsAmong d (past ++ c ∷ [])). ⊎_elim (λ (y : IsAmong d past). inl y)
        (λ (y : d ≡ c). subst (IsLife places past) (sym y) mine) (among-snoc d c past x))
        (λ (x : (i : ℕ) × IsClientAt (set places j p') i d). ⊎_elim
        (λ (y : (x.0 ≡ j) × (p' ≡ x.1.place)). absurd (not_here x.1.place d y.1 x.1.client))
        (λ (y : (x.0 ≢ j) × (slice_get places x.0 ≡ Some x.1.place)). inr
        (x.0, record { place = x.1.place; at = y.1; client = x.1.client }))
        (get_set places j x.0 p' x.1.place x.1.at)) life

    stays : (d : Client R W) → IsLife places past d → IsLife (set places j p') (past ++ c ∷ []) d
    stays d life = ⊎_elim (λ (x : IsAmong d past). inl (among-more d c past x))
        (λ (x : (i : ℕ) × IsClientAt places i d). ⊎_elim
        (λ (e : x.0 ≡ j). let same : d ≡ c =
        same_some d c (sym x.1.client ∙ ap (λ (q : Place R W). q.client) (one_place places j x.0 p x.1.place at x.1.at e) ∙ is) in
        inl (subst (λ z. IsAmong z (past ++ c ∷ [])) (sym same) (among-last c past)))
        (λ (n : x.0 ≢ j). inr (x.0, record { place = x.1.place; at = get_other places j x.0 p' x.1.place n x.1.at; client = x.1.client }))
        (same_or x.0 j)) life

    pub kept-close : PlacesKeep seed s (set places j p') (past ++ c ∷ []) asked told
    kept-close = record {
      now = λ i q d at' client'. ⊎_elim
          (λ (y : (i ≡ j) × (p' ≡ q)). absurd (not_here q d y.1 client'))
          (λ (y : (i ≢ j) × (slice_get places i ≡ Some q)). now_else i q d y.1 client')
          (get_set places j i p' q at');
      before = λ d among. ⊎_elim
          (λ (x : IsAmong d past). still_before s places j p p' at (omega (arith, turn)) d (k.before d x))
          (λ (x : d ≡ c). record {
            j = j;
            t = p.turn;
            place = p';
            at = here;
            later = omega (arith, turn);
            app = ap (λ (z : Client R W). z.app) x ∙ (k.now j p c at is).0 ∙ ap (λ n. app_at s n j p.turn) (sym same_length);
          })
          (among-snoc d c past among);
      words = λ d life. k.words d (was d life);
      parts = λ d life. k.parts d (was d life);
      others = λ a without. k.others a (λ d life. without d (stays d life));
    }

  -- ---- nobody comes, and the place's next turn begins

  module _ (none : p.client ≡ None) (turn : p'.turn ≡ p.turn + 1) (none' : p'.client ≡ None) where
    no_one : (q z : Place R W) (d : Client R W) → q.client ≡ None → q ≡ z → z.client ≡ Some d → ⊥
    no_one q z d empty one client = let two : Some d ≡ None = sym client ∙ ap (λ (z : Place R W). z.client) (sym one) ∙ empty in absurd cc

    lived : (d : Client R W) → IsLife (set places j p') past d → IsLife places past d
    lived d life = ⊎_elim (λ (x : IsAmong d past). inl x)
        (λ (x : (i : ℕ) × IsClientAt (set places j p') i d). ⊎_elim
        (λ (y : (x.0 ≡ j) × (p' ≡ x.1.place)). absurd (no_one p' x.1.place d none' y.1 x.1.client))
        (λ (y : (x.0 ≢ j) × (slice_get places x.0 ≡ Some x.1.place)). inr
        (x.0, record { place = x.1.place; at = y.1; client = x.1.client }))
        (get_set places j x.0 p' x.1.place x.1.at)) life

    lives : (d : Client R W) → IsLife places past d → IsLife (set places j p') past d
    lives d life = ⊎_elim (λ (x : IsAmong d past). inl x)
        (λ (x : (i : ℕ) × IsClientAt places i d). ⊎_elim
        (λ (e : x.0 ≡ j). absurd (no_one p x.1.place d none (sym (one_place places j x.0 p x.1.place at x.1.at e)) x.1.client))
        (λ (n : x.0 ≢ j). inr (x.0, record { place = x.1.place; at = get_other places j x.0 p' x.1.place n x.1.at; client = x.1.client }))
        (same_or x.0 j)) life

    pub kept-pass : PlacesKeep seed s (set places j p') past asked told
    kept-pass = record {
      now = λ i q d at' client'. ⊎_elim
          (λ (y : (i ≡ j) × (p' ≡ q)). absurd (no_one p' q d none' y.1 client'))
          (λ (y : (i ≢ j) × (slice_get places i ≡ Some q)). now_else i q d y.1 client')
          (get_set places j i p' q at');
      before = λ d among. still_before s places j p p' at (omega (arith, turn)) d (k.before d among);
      words = λ d life. k.words d (lived d life);
      parts = λ d life. k.parts d (lived d life);
      others = λ a without. k.others a (λ d life. without d (lives d life));
    }

-- ---- no client yet

pub kept-none : {R W : Type 0} (seed : List ℕ) (s : ℕ) (places : List (Place R W))
    → ((j : ℕ) (p : Place R W) → slice_get places j ≡ Some p → p.client ≡ None) → PlacesKeep seed s places [] [] []
kept-none {R} {W} seed s places empty = record {
  now = λ j p c at is. absurd (nobody j p c at is);
  before = λ c among. absurd among;
  words = λ c life. absurd (no_life c life);
  parts = λ c life. absurd (no_life c life);
  others = λ a without. (refl, refl);
} where
  nobody : (j : ℕ) (p : Place R W) (c : Client R W) → slice_get places j ≡ Some p → p.client ≡ Some c → ⊥
  nobody j p c at is = let two : Some c ≡ None = sym is ∙ empty j p at in absurd cc

  no_life : (c : Client R W) → IsLife places [] c → ⊥
  no_life c life = ⊎_elim (λ x. x) (λ (x : (j : ℕ) × IsClientAt places j c). nobody x.0 x.1.place c x.1.at x.1.client) life

pub kept-new : {R W : Type 0} (seed : List ℕ) (s : ℕ) (places : List (Place R W)) (past : List (Client R W)) (asked : List AppCall)
    (told : List (ℕ × Reply)) → past ≡ [] → asked ≡ [] → told ≡ []
    → ((j : ℕ) (p : Place R W) → slice_get places j ≡ Some p → p.client ≡ None) → PlacesKeep seed s places past asked told
kept-new {R} {W} seed s places past asked told a b c empty =
    subst (λ (z : List (Client R W) × List AppCall × List (ℕ × Reply)). PlacesKeep seed s places z.0 z.1 z.2)
    (λ i. (sym a i, sym b i, sym c i)) (kept-none seed s places empty)

pub more-places : {R W : Type 0} (places places' : List (Place R W)) (p : Place R W) (n : ℕ) → (length places ≡ n)
    × ((j : ℕ) (q : Place R W) → slice_get places j ≡ Some q → q.client ≡ None) → places' ≡ places ++ p ∷ [] → p.client ≡ None
    → (length places' ≡ n + 1) × ((j : ℕ) (q : Place R W) → slice_get places' j ≡ Some q → q.client ≡ None)
more-places places places' p n was more none = (
  ap length more ∙ length-append places (p ∷ []) ∙ ap (λ m. m + 1) was.0,
  λ j q at. ⊎_elim (λ (x : slice_get places j ≡ Some q). was.1 j q x)
      (λ (x : (j ≡ length places) × (p ≡ q)). ap (λ (y : _). y.client) (sym x.1) ∙ none)
      (get_more places p q j (ap (λ l. slice_get l j) (sym more) ∙ at)),
)
