-- What a client at a place did, for all clients of its worker.
use Rattle.std.proofs.Common.{◌≡◌, inr, ℕ, ◌<◌, ◌≤◌, ◌%◌, ◌^◌, List, [], ◌∷◌, ◌++◌, length, set, get_or, sym, refl, ap, ◌∙◌, subst, arith, nat_lt, true, false, Option, Some, None}
use Rattle.std.specs.List.{slice_get}
use Rattle.std.specs.Option.{is_some}
use Rattle.std.proofs.lemmas.List.{length-set}
use Rattle.std.proofs.lemmas.Option.{slice_get-get_or, slice_get_within}
use Rattle.std.proofs.Math.Logic.{∥∥₁_elim}
use Rattle.std.proofs.lemmas.Bool.Decides.{nat_tests}
use mathlib.Core.HLevel.{¬_prop, ×_prop}
use native.Mathlib.Nat.{ℕ_set}
use native.Mathlib.Bridge.{le_prop}
use Rattle.ck_calls.specs.declared.reply.Reply.{Reply}
use Rattle.hall_log.specs.Lists.{of}
use Rattle.ck_calls.specs.declared.app_call.AppCall.{AppCall}
use Rattle.line.specs.declared.next.Next.TheVariants.{Call}
use Rattle.line_places.specs.declared.client.Client.{Client}
use Rattle.line_places.specs.declared.place.Place.{Place}
use Rattle.line_places.specs.Coming.{ClientGave, SameApp, ClientTakes}
use Rattle.line_places.specs.Keeping.{calls_of, HasGone, IsClientAt, IsFree, IsOwed, PlacesKeep}
use Rattle.line_places.specs.declared.places.TheConstants.{MAX_CLIENTS}
use Rattle.line_places.proofs.Keeping.{kept-did, asked-own, asked-other, told-own, told-other, get_same, not_gone, same_some}
use Rattle.line_places.proofs.Changing.{own-app}

-- the place that an index gives
pub at-index : {A : Type 0} (xs : List A) (j : ℕ) (p : A) → j < length xs → p ≡ get_or xs j p → slice_get xs j ≡ Some p
at-index xs j p within is = slice_get-get_or xs j p within ∙ ap Some (sym is)

pub count-set : {A : Type 0} (xs : List A) (j : ℕ) (p : A) → length xs ≤ MAX_CLIENTS → length (set xs j p) ≤ MAX_CLIENTS
count-set xs j p le = omega (arith, length-set xs j p, le)

module _ {R W : Type 0} (seed : List ℕ) (s : ℕ) (places : List (Place R W)) (past : List (Client R W)) (asked : List AppCall)
    (told : List (ℕ × Reply))
    (j : ℕ) (p : Place R W) (c c' : Client R W) (at : slice_get places j ≡ Some p) (is : p.client ≡ Some c) (same : SameApp c c') where
  abbrev pub next : Place R W
  next = record { turn = p.turn; client = Some c' }

  -- it gave a call
  pub did-call : (call : AppCall) (asked' : List AppCall) → ClientGave c c' (Call call) → asked' ≡ asked ++ call ∷ []
      → PlacesKeep seed s places past asked told → PlacesKeep seed s (set places j next) past asked' told
  did-call call asked' gave more k =
      let parts = k.parts c (inr (j, record { place = p; at = at; client = is })) in
      kept-did seed s places past asked told k j p c at is c' next refl refl same.0 same.1 asked' told (
        ap (λ a. calls_of a asked') same.0 ∙ ap (calls_of c.app) more ∙ asked-own c.app asked call gave.0
            ∙ ap (λ l. l ++ call ∷ []) parts.0 ∙ sym gave.3,
        ap (λ a. of a told) same.0 ∙ parts.1 ∙ sym gave.4,
      )
      (λ a not. (ap (calls_of a) more ∙ asked-other a asked call (λ e. not (sym e ∙ gave.0)), refl))

  -- it gave none
  pub did-nothing : c'.asked.items ≡ c.asked.items → c'.told.items ≡ c.told.items → PlacesKeep seed s places past asked told
      → PlacesKeep seed s (set places j next) past asked told
  did-nothing no_call no_reply k =
      let parts = k.parts c (inr (j, record { place = p; at = at; client = is })) in
      kept-did seed s places past asked told k j p c at is c' next refl refl same.0 same.1 asked told
      (ap (λ a. calls_of a asked) same.0 ∙ parts.0 ∙ sym no_call, ap (λ a. of a told) same.0 ∙ parts.1 ∙ sym no_reply)
      (λ a not. (refl, refl))

  -- it took a reply
  pub did-reply : (app : ℕ) (reply : Reply) (told' : List (ℕ × Reply)) → c.app ≡ app → ClientTakes c c' reply
      → told' ≡ told ++ (app, reply) ∷ [] → PlacesKeep seed s places past asked told → PlacesKeep seed s (set places j next) past asked told'
  did-reply app reply told' named takes more k =
      let parts = k.parts c (inr (j, record { place = p; at = at; client = is })) in
      kept-did seed s places past asked told k j p c at is c' next refl refl same.0 same.1 asked told' (
        ap (λ a. calls_of a asked) same.0 ∙ parts.0 ∙ sym takes.1,
        ap (λ a. of a told') (same.0 ∙ named) ∙ ap (of app) more ∙ told-own app told reply
            ∙ ap (λ l. l ++ reply ∷ []) (ap (λ a. of a told) (sym named) ∙ parts.1) ∙ sym takes.2,
      )
      (λ a not. (refl, ap (of a) more ∙ told-other a app told reply (λ e. not (sym e ∙ sym named))))

  -- it owes a reply
  pub owed-there : c'.is_owed ≡ true → (app : ℕ) → c.app ≡ app → IsOwed (set places j next) j app
  owed-there owed app named = record {
    client = c';
    is = record { place = next; at = get_same places j next p at; client = refl };
    owed = owed;
    app_is = same.0 ∙ named;
  }

-- ---- who is at a place

same_place_at : {A : Type 0} (xs : List A) (j : ℕ) (p q : A) → slice_get xs j ≡ Some p → slice_get xs j ≡ Some q → p ≡ q
same_place_at xs j p q a b = let e : Some p ≡ Some q = sym a ∙ b in cc

module _ {R W : Type 0} (places : List (Place R W)) (j : ℕ) (p q : Place R W) where
  pub client-at : (c : Client R W) → slice_get places j ≡ Some p → slice_get places j ≡ Some q → p.client ≡ Some c → q.client ≡ Some c
  client-at c a b is = ap (λ (x : Place R W). x.client) (sym (same_place_at places j p q a b)) ∙ is

  pub one-client : (c d : Client R W) → slice_get places j ≡ Some p → slice_get places j ≡ Some q → p.client ≡ Some c
      → q.client ≡ Some d → c ≡ d
  one-client c d a b is is' = let e : Some c ≡ Some d = sym (client-at c a b is) ∙ is' in cc

-- the application of a client that is there
pub is-there : {R W : Type 0} (seed : List ℕ) (s : ℕ) (places : List (Place R W)) (past : List (Client R W)) (asked : List AppCall)
    (told : List (ℕ × Reply))
    (j : ℕ) (p : Place R W) (c : Client R W) → slice_get places j ≡ Some p → p.client ≡ Some c → (app : ℕ) → app ≡ c.app → s < 4
    → ∥ PlacesKeep seed s places past asked told ∥₁ → (app % 4 ≡ s) × (¬ HasGone past app)
is-there seed s places past asked told j p c at is app named lt kept =
    ∥∥₁_elim kept (×_prop (ℕ_set _ _) ¬_prop)
    (λ k. (
      ap (λ a. a % 4) (named ∙ (k.now j p c at is).0)
          ∙ own-app s (length places) j p.turn lt,
      subst (λ a. ¬ HasGone past a) (sym named) (not_gone seed s places past asked told k j p c at is),
    ))

-- how often its place was taken
pub bound-of : {R W : Type 0} (seed : List ℕ) (s : ℕ) (places : List (Place R W)) (past : List (Client R W)) (asked : List AppCall)
    (told : List (ℕ × Reply))
    (j : ℕ) (p : Place R W) (c : Client R W) → slice_get places j ≡ Some p → p.client ≡ Some c
    → ∥ PlacesKeep seed s places past asked told ∥₁ → p.turn < 2 ^ 55
bound-of seed s places past asked told j p c at is kept = ∥∥₁_elim kept le_prop (λ k. (k.now j p c at is).1)

-- ---- places that are free

pub no-some : {A : Type 0} (x : Option A) → is_some x ≡ false → x ≡ None
no-some None e = refl
no-some (Some y) e = absurd cc

pub some-none : {A : Type 0} (x : Option A) → x ≡ None → is_some x ≡ true → ⊥
some-none None e h = absurd cc
some-none (Some y) e h = absurd cc

pub lt-true : (a b : ℕ) → nat_lt a b ≡ true → a < b
lt-true a b h = grind (arith, nat_tests)

pub lt-false : (a b : ℕ) → nat_lt a b ≡ false → b ≤ a
lt-false a b h = grind (arith, nat_tests)

module _ {R W : Type 0} (places : List (Place R W)) (j : ℕ) (p : Place R W) (at : slice_get places j ≡ Some p) where
  same-place : (f : IsFree places j) → f.place ≡ p
  same-place f = same_some f.place p (sym f.at ∙ at)

  pub free : p.client ≡ None → p.turn < 2 ^ 55 → IsFree places j
  free none turns = record { place = p; at = at; none = none; turns = turns }

  pub free-client : IsFree places j → p.client ≡ None
  free-client f = ap (λ (q : Place R W). q.client) (sym (same-place f)) ∙ f.none

  pub free-turn : IsFree places j → p.turn < 2 ^ 55
  free-turn f = let e : f.place.turn ≡ p.turn = ap (λ (q : Place R W). q.turn) (same-place f) in omega (arith, f.turns, e)

pub free-within : {R W : Type 0} (places : List (Place R W)) (j : ℕ) → IsFree places j → j < length places
free-within places j f = slice_get_within places j f.place f.at

pub none-free : {R W : Type 0} (places : List (Place R W)) (j : ℕ) (p : Place R W) (c : Client R W) → slice_get places j ≡ Some p
    → p.client ≡ Some c → IsFree places j → ⊥
none-free places j p c at is f = let e : Some c ≡ None = sym is ∙ free-client places j p at f in absurd cc

pub none-at : {R W : Type 0} (places : List (Place R W)) (j : ℕ) (p : Place R W) (c : Client R W) → slice_get places j ≡ Some p
    → p.client ≡ None → IsClientAt places j c → ⊥
none-at places j p c at none it = let e : Some c ≡ None = sym it.client
    ∙ ap (λ (q : Place _ _). q.client) (same_some it.place p (sym it.at ∙ at)) ∙ none in absurd cc
