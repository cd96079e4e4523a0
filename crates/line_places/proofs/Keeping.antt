-- One client of a worker changes, and what is kept of all of them.
use Rattle.std.proofs.Common.{◌≡◌, ◌≢◌, ℕ, zero, suc, ◌+◌, ◌*◌, ◌<◌, ◌≤◌, ◌/◌, ◌%◌, ◌⊎◌, inl, inr, ⊎_elim, List, [], ◌∷◌, ◌++◌, length, map, set, sym, refl, ap, ◌∙◌, subst, append-nil, arith, Some, None}
use Rattle.std.specs.List.{slice_get}
use Rattle.std.proofs.lemmas.List.{map-append, length-set}
use Rattle.std.proofs.lemmas.Option.{slice_get_within}
use Rattle.std.proofs.lemmas.Nat.{div-mul-add, mod-mul-add}
use Rattle.std.proofs.Math.Nat.{mul_comm}
use Rattle.ck_calls.specs.declared.reply.Reply.{Reply}
use Rattle.hall_log.specs.Lists.{of}
use Rattle.ck_calls.specs.declared.app_call.AppCall.{AppCall}
use Rattle.hall_log.proofs.Lists.{of-append, of-one, of-other}
use Rattle.line.specs.Words.{words_for}
use Rattle.line_places.specs.declared.client.Client.{Client}
use Rattle.line_places.specs.declared.place.Place.{Place}
use Rattle.line_places.specs.Keeping.{app_at, calls_of, IsAmong, IsClientAt, IsLife, HasGone, WasAt, PlacesKeep}

-- ---- applications

pub same_place : (s n j j' t t' : ℕ) → j < n → j' < n → app_at s n j t ≡ app_at s n j' t' → (j ≡ j') × (t ≡ t')
same_place s n j j' t t' l l' e =
    let four : (a b : ℕ) → s + 4 * a ≡ s + 4 * b → a ≡ b = λ a b h. omega (arith, h) in
    let plain : j + n * t ≡ j' + n * t' = four _ _ e in
    let turned : (a b : ℕ) → a + n * b ≡ b * n + a = λ a b. let m = mul_comm n b in omega (arith, m) in
    let x : t * n + j ≡ t' * n + j' = sym (turned j t) ∙ plain ∙ turned j' t' in (
      sym (mod-mul-add t n j l) ∙ ap (λ a. a % n) x ∙ mod-mul-add t' n j' l',
      sym (div-mul-add t n j l) ∙ ap (λ a. a / n) x
          ∙ div-mul-add t' n j' l',
    )

-- ---- lists of calls and replies

named : AppCall → ℕ × AppCall
named c = (c.app, c)

pub asked-own : (app : ℕ) (cs : List AppCall) (c : AppCall) → c.app ≡ app → calls_of app (cs ++ c ∷ []) ≡ calls_of app cs ++ c ∷ []
asked-own app cs c is = ap (of app) (map-append (λ (c : AppCall). (c.app, c)) cs (c ∷ []))
    ∙ of-append app (map (λ (c : AppCall). (c.app, c)) cs) ((c.app, c) ∷ []) ∙ ap (λ l. calls_of app cs ++ l) (of-one app c.app c is)

pub asked-other : (app : ℕ) (cs : List AppCall) (c : AppCall) → c.app ≢ app → calls_of app (cs ++ c ∷ []) ≡ calls_of app cs
asked-other app cs c not = ap (of app) (map-append (λ (c : AppCall). (c.app, c)) cs (c ∷ []))
    ∙ of-append app (map (λ (c : AppCall). (c.app, c)) cs) ((c.app, c) ∷ [])
    ∙ ap (λ l. calls_of app cs ++ l) (of-other app c.app c not) ∙ append-nil (calls_of app cs)

pub told-own : (app : ℕ) (rs : List (ℕ × Reply)) (r : Reply) → of app (rs ++ (app, r) ∷ []) ≡ of app rs ++ r ∷ []
told-own app rs r = of-append app rs ((app, r) ∷ []) ∙ ap (λ l. of app rs ++ l) (of-one app app r refl)

pub told-other : (app other : ℕ) (rs : List (ℕ × Reply)) (r : Reply) → other ≢ app → of app (rs ++ (other, r) ∷ []) ≡ of app rs
told-other app other rs r not = of-append app rs ((other, r) ∷ []) ∙ ap (λ l. of app rs ++ l) (of-other app other r not)
    ∙ append-nil (of app rs)

-- ---- places

pub same_some : {A : Type 0} (x y : A) → Some x ≡ Some y → x ≡ y
same_some x y e = cc

pub get_set : {A : Type 0} (xs : List A) (i j : ℕ) (a b : A) → slice_get (set xs i a) j ≡ Some b → ((j ≡ i) × (a ≡ b))
    ⊎ ((j ≢ i) × (slice_get xs j ≡ Some b))
get_set [] i j a b e = absurd (let h : None ≡ Some b = e in cc)
get_set (x ∷ xs) zero zero a b e = inl (refl, let h : Some a ≡ Some b = e in cc)
get_set (x ∷ xs) zero (suc j) a b e = inr ((λ h. omega arith), e)
get_set (x ∷ xs) (suc i) zero a b e = inr ((λ h. omega arith), e)
get_set (x ∷ xs) (suc i) (suc j) a b e =
    ⊎_elim (λ (t : (j ≡ i) × (a ≡ b)). inl (ap suc t.0, t.1))
    (λ (t : (j ≢ i) × (slice_get xs j ≡ Some b)). let n = t.0 in inr ((λ h. n (omega arith)), t.1)) (get_set xs i j a b e)

pub get_same : {A : Type 0} (xs : List A) (i : ℕ) (a x : A) → slice_get xs i ≡ Some x → slice_get (set xs i a) i ≡ Some a
get_same [] i a x e = absurd (let h : None ≡ Some x = e in cc)
get_same (y ∷ xs) zero a x e = refl
get_same (y ∷ xs) (suc i) a x e = get_same xs i a x e

pub get_other : {A : Type 0} (xs : List A) (i j : ℕ) (a x : A) → j ≢ i → slice_get xs j ≡ Some x → slice_get (set xs i a) j ≡ Some x
get_other [] i j a x n e = e
get_other (y ∷ xs) zero zero a x n e = absurd (n refl)
get_other (y ∷ xs) zero (suc j) a x n e = e
get_other (y ∷ xs) (suc i) zero a x n e = e
get_other (y ∷ xs) (suc i) (suc j) a x n e = get_other xs i j a x (λ h. n (ap suc h)) e

pub one_place : {A : Type 0} (xs : List A) (j i : ℕ) (p q : A) → slice_get xs j ≡ Some p → slice_get xs i ≡ Some q → i ≡ j → q ≡ p
one_place xs j i p q a b is = same_some q p (sym b ∙ ap (slice_get xs) is ∙ a)

pub same_or : (a b : ℕ) → (a ≡ b) ⊎ (a ≢ b)
same_or zero zero = inl refl
same_or zero (suc b) = inr (λ e. omega (arith, e))
same_or (suc a) zero = inr (λ e. omega (arith, e))
same_or (suc a) (suc b) = ⊎_elim (λ (e : a ≡ b). inl (ap suc e)) (λ (n : a ≢ b). inr (λ e. n (omega (arith, e)))) (same_or a b)

-- the turn of a client that is there no more is still before that of its place
module _ {R W : Type 0} (s : ℕ) (places : List (Place R W)) (j : ℕ) (p p' : Place R W) (at : slice_get places j ≡ Some p) where
  as_long : length (set places j p') ≡ length places
  as_long = length-set places j p'

  pub still_before : p.turn ≤ p'.turn → (d : Client R W) → WasAt s places d → WasAt s (set places j p') d
  still_before le d w = ⊎_elim
      (λ (e : w.j ≡ j). record {
        j = j;
        t = w.t;
        place = p';
        at = get_same places j p' p at;
        later = let x : w.place.turn ≡ p.turn = ap (λ (q : Place R W). q.turn) (one_place places j w.j p w.place at w.at e) in
            omega (arith, w.later, x, le);
        app = w.app ∙ ap (λ (z : ℕ × ℕ). app_at s z.0 z.1 w.t) (λ i. (sym as_long i, e i));
      })
      (λ (n : w.j ≢ j). record {
        j = w.j;
        t = w.t;
        place = w.place;
        at = get_other places j w.j p' w.place n w.at;
        later = w.later;
        app = w.app ∙ ap (λ n. app_at s n w.j w.t) (sym as_long);
      })
      (same_or w.j j)

module _ {R W : Type 0} where
  pub among-snoc : (c d : Client R W) (past : List (Client R W)) → IsAmong c (past ++ d ∷ []) → IsAmong c past ⊎ (c ≡ d)
  among-snoc c d [] h = ⊎_elim (λ (e : c ≡ d). inr e) (λ x. absurd x) h
  among-snoc c d (x ∷ past) h =
      ⊎_elim (λ (e : c ≡ x). inl (inl e))
      (λ (t : IsAmong c (past ++ d ∷ [])). ⊎_elim (λ (u : IsAmong c past). inl (inr u)) (λ (u : c ≡ d). inr u) (among-snoc c d past t)) h

  pub among-more : (c d : Client R W) (past : List (Client R W)) → IsAmong c past → IsAmong c (past ++ d ∷ [])
  among-more c d [] h = absurd h
  among-more c d (x ∷ past) h = ⊎_elim (λ (e : c ≡ x). inl e) (λ (t : IsAmong c past). inr (among-more c d past t)) h

  pub among-last : (d : Client R W) (past : List (Client R W)) → IsAmong d (past ++ d ∷ [])
  among-last d [] = inl refl
  among-last d (x ∷ past) = inr (among-last d past)

  -- ---- who is at a place now

  module _ (seed : List ℕ) (s : ℕ) (places : List (Place R W)) (past : List (Client R W)) (asked : List AppCall)
      (told : List (ℕ × Reply)) (k : PlacesKeep seed s places past asked told)
      (j : ℕ) (p : Place R W) (c : Client R W) (at : slice_get places j ≡ Some p) (is : p.client ≡ Some c) where
    pub within : j < length places
    within = slice_get_within places j p at

    -- is none of those before
    pub not_before : (d : Client R W) → IsAmong d past → d.app ≢ c.app
    not_before d among same =
        let w = k.before d among in
        let both = same_place s (length places) w.j j w.t p.turn (slice_get_within places w.j w.place w.at) within
        (sym w.app ∙ same ∙ (k.now j p c at is).0) in
        let one : w.place ≡ p = one_place places j w.j p w.place at w.at both.0 in
        let turn : w.place.turn ≡ p.turn = ap (λ (q : Place R W). q.turn) one in
        omega (arith, w.later, both.1, turn)

    pub not_gone : ¬ HasGone past c.app
    not_gone h = not_before h.0 h.1 h.2

    -- is of no application of another place
    not_else : (i : ℕ) (d : Client R W) → i ≢ j → IsClientAt places i d → d.app ≢ c.app
    not_else i d not x same =
        not (same_place s (length places) i j x.place.turn p.turn (slice_get_within places i x.place x.at) within
        (sym (k.now i x.place d x.at x.client).0 ∙ same ∙ (k.now j p c at is).0)).0

    -- ---- it does something

    module _ (c' : Client R W) (p' : Place R W) (turn : p'.turn ≡ p.turn) (is' : p'.client ≡ Some c') (app : c'.app ≡ c.app)
        (first : c'.first.value ≡ c.first.value)
        (asked' : List AppCall) (told' : List (ℕ × Reply))
        (own : (calls_of c'.app asked' ≡ c'.asked.items) × (of c'.app told' ≡ c'.told.items))
        (other : (a : ℕ) → a ≢ c.app → (calls_of a asked' ≡ calls_of a asked) × (of a told' ≡ of a told)) where
      here : slice_get (set places j p') j ≡ Some p'
      here = get_same places j p' p at

      same_length : length (set places j p') ≡ length places
      same_length = length-set places j p'

      -- who there is now was there, or is this one
      whose : (P : Client R W → Type 0) → P c' → ((d : Client R W) → IsLife places past d → d.app ≢ c.app → P d) → (d : Client R W)
          → IsLife (set places j p') past d → P d
      whose P mine rest d life = ⊎_elim
          (λ (x : IsAmong d past). rest d (inl x) (not_before d x))
          (λ (x : (i : ℕ) × IsClientAt (set places j p') i d). ⊎_elim
          (λ (y : (x.0 ≡ j) × (p' ≡ x.1.place)). subst P
          (same_some c' d (sym is' ∙ ap (λ (q : Place R W). q.client) y.1 ∙ x.1.client)) mine)
          (λ (y : (x.0 ≢ j) × (slice_get places x.0 ≡ Some x.1.place)). let it : IsClientAt places x.0 d =
          record { place = x.1.place; at = y.1; client = x.1.client } in
          rest d (inr (x.0, it)) (not_else x.0 d y.0 it))
          (get_set places j x.0 p' x.1.place x.1.at)) life

      pub kept-did : PlacesKeep seed s (set places j p') past asked' told'
      kept-did = record {
        now = λ i q d at' client'. ⊎_elim
            (λ (y : (i ≡ j) × (p' ≡ q)).
            let one : c' ≡ d = same_some c' d (sym is' ∙ ap (λ (z : Place R W). z.client) y.1 ∙ client') in
            let turn' : q.turn ≡ p.turn = ap (λ (z : Place R W). z.turn) (sym y.1) ∙ turn in
            let was = k.now j p c at is in (
              ap (λ (z : Client R W). z.app) (sym one) ∙ app ∙ was.0
                  ∙ ap (λ (z : ℕ × ℕ × ℕ). app_at s z.0 z.1 z.2) (λ e. (sym same_length e, sym y.0 e, sym turn' e)),
              omega (arith, was.1, turn'),
            ))
            (λ (y : (i ≢ j) × (slice_get places i ≡ Some q)). let was = k.now i q d y.1 client' in
            (was.0 ∙ ap (λ n. app_at s n i q.turn) (sym same_length), was.1))
            (get_set places j i p' q at');
        before = λ d among. still_before s places j p p' at (omega (arith, turn)) d (k.before d among);
        words = whose (λ d. d.first.value ≡ words_for seed d.app)
            (first ∙ k.words c (inr (j, record { place = p; at = at; client = is })) ∙ ap (words_for seed) (sym app))
            (λ d life not. k.words d life);
        parts = whose (λ d. (calls_of d.app asked' ≡ d.asked.items) × (of d.app told' ≡ d.told.items)) own
            (λ d life not. let o = other d.app not in let was = k.parts d life in (o.0 ∙ was.0, o.1 ∙ was.1));
        others = λ a none.
            let mine : a ≢ c.app = λ e. none c' (inr (j, record { place = p'; at = here; client = is' })) (app ∙ sym e) in
            let o = other a mine in
            let was = k.others a (λ d life. still a none mine d life) in
            (o.0 ∙ was.0, o.1 ∙ was.1);
      } where
        still : (a : ℕ) → ((d : Client R W) → IsLife (set places j p') past d → d.app ≢ a) → a ≢ c.app → (d : Client R W)
            → IsLife places past d → d.app ≢ a
        still a none mine d life = ⊎_elim (λ (x : IsAmong d past). none d (inl x))
            (λ (x : (i : ℕ) × IsClientAt places i d). ⊎_elim
            (λ (e : x.0 ≡ j). λ same. mine
            (sym same ∙ ap (λ (z : Client R W). z.app)
            (same_some d c (sym x.1.client ∙ ap (λ (q : Place R W). q.client) (one_place places j x.0 p x.1.place at x.1.at e) ∙ is))))
            (λ (n : x.0 ≢ j). none d (inr
            (x.0, record { place = x.1.place; at = get_other places j x.0 p' x.1.place n x.1.at; client = x.1.client })))
            (same_or x.0 j)) life
