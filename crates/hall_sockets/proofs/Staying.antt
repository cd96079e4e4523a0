-- What a seat does, one thing after the other.
use Rattle.std.specs.Option.{IfNone, is_some}
use Rattle.std.proofs.Common.{◌≡◌, ◌≢◌, ◌⊎◌, inl, inr, ⊎_elim, ℕ, ◌+◌, ◌<◌, ◌≤◌, arith, length, true, false, List, [], ◌∷◌, ◌++◌, sym, refl, ap, ◌∙◌, subst, Option, Some, None}
use Rattle.std.proofs.lemmas.List.{map-append}
use Rattle.std.proofs.lemmas.Option.{slice_get_within}
use Rattle.std.proofs.Math.Logic.{∥∥₁_map}
use Rattle.door.specs.Coming.{AreEnds}
use Rattle.door.specs.Ends.{Reading, Writing}
use Rattle.ck_calls.specs.declared.app_call.AppCall.{AppCall}
use Rattle.hall.specs.SeatEvents.{seat_app}
use Rattle.hall.specs.declared.seats.SeatEvent.{SeatEvent}
use Rattle.hall.specs.declared.seats.SeatEvent.TheVariants.{Call, Gone}
use Rattle.line_places.specs.declared.client.Client.{Client}
use Rattle.line_places.specs.declared.place.Place.{Place}
use Rattle.line_places.specs.declared.places.Places.{Places}
use Rattle.line_places.specs.Arriving.{AllCame, HasCome, KeepsCome}
use Rattle.line_places.specs.Keeping.{HasGone, IsAmong, IsClientAt, IsOwed}
use Rattle.line_places.specs.Permitting.{MayGoOnAt}
use Rattle.line_places.specs.Tying.{AllTied, AreEndsOf}
use Rattle.line_places.proofs.Arriving.{all-came, all-more}
use Rattle.line_places.proofs.Keeping.{among-last, among-more, same_or}
use Rattle.hall_sockets.specs.declared.seat.SocketSeat.{SocketSeat}
use Rattle.hall_sockets.specs.Staying.{SeatGives, IsEmptyAt, IsNew, IsNobodyLeft, IsStill, MayGoOnFrom, Rests, SeatStandsAfter, SeatStays}
use Rattle.hall_sockets.specs.Telling.{calls_in, gone_in, apps_of}

-- ---- lists

pub calls-call : (es : List SeatEvent) (c : AppCall) → calls_in (es ++ Call c ∷ []) ≡ calls_in es ++ c ∷ []
calls-call [] c = refl
calls-call (Call d ∷ es) c = ap (λ (l : List AppCall). d ∷ l) (calls-call es c)
calls-call (Gone app ∷ es) c = calls-call es c

pub calls-gone : (es : List SeatEvent) (app : ℕ) → calls_in (es ++ Gone app ∷ []) ≡ calls_in es
calls-gone [] app = refl
calls-gone (Call d ∷ es) app = ap (λ (l : List AppCall). d ∷ l) (calls-gone es app)
calls-gone (Gone a ∷ es) app = calls-gone es app

pub gone-call : (es : List SeatEvent) (c : AppCall) → gone_in (es ++ Call c ∷ []) ≡ gone_in es
gone-call [] c = refl
gone-call (Call d ∷ es) c = gone-call es c
gone-call (Gone a ∷ es) c = ap (λ (l : List ℕ). a ∷ l) (gone-call es c)

pub gone-gone : (es : List SeatEvent) (app : ℕ) → gone_in (es ++ Gone app ∷ []) ≡ gone_in es ++ app ∷ []
gone-gone [] app = refl
gone-gone (Call d ∷ es) app = gone-gone es app
gone-gone (Gone a ∷ es) app = ap (λ (l : List ℕ). a ∷ l) (gone-gone es app)

pub apps-more : {R W : Type 0} (past : List (Client R W)) (c : Client R W) (app : ℕ) → c.app ≡ app
    → apps_of (past ++ c ∷ []) ≡ apps_of past ++ app ∷ []
apps-more past c app is = map-append (λ c. c.app) past (c ∷ []) ∙ ap (λ a. apps_of past ++ a ∷ []) is

-- ---- who is there no more

module _ {R W : Type 0} where
  pub gone-same : (past past' : List (Client R W)) → past' ≡ past → (app : ℕ) → HasGone past app → HasGone past' app
  gone-same past past' is app h = subst (λ l. HasGone l app) (sym is) h

  pub gone-more : (past past' : List (Client R W)) (c : Client R W) → past' ≡ past ++ c ∷ [] → (app : ℕ) → HasGone past app
      → HasGone past' app
  gone-more past past' c is app h = subst (λ l. HasGone l app) (sym is) (h.0, among-more h.0 c past h.1, h.2)

  pub gone-last : (past past' : List (Client R W)) (c : Client R W) (app : ℕ) → past' ≡ past ++ c ∷ [] → c.app ≡ app → HasGone past' app
  gone-last past past' c app is named = subst (λ l. HasGone l app) (sym is) (c, among-last c past, named)

-- a reply is owed, by other names of the places
pub owed-as : {R W : Type 0} (places places' : List (Place R W)) (j j' app : ℕ) → places ≡ places' → j ≡ j' → IsOwed places' j' app
    → IsOwed places j app
owed-as {R} {W} places places' j j' app same here h =
    subst (λ (z : List (Place R W) × ℕ). IsOwed z.0 z.1 app) (λ i. (sym same i, sym here i)) h

-- ---- one thing after the other

module _ {S L C : Type 0} (given : ℕ → List ℕ → Type 0) (a b c : SocketSeat S L C) where
  pub rests-stays : Rests a b → SeatStays given a b
  rests-stays r = (
    ap (λ k. k.number) r.0,
    ap (λ k. k.seed) r.0,
    ap (λ k. k.past.items) r.0,
    ap (λ k. k.asked.items) r.0,
    ap (λ k. k.told.items) r.0,
    r.1,
    λ tied. subst (λ (k : Places Reading Writing). ∥ AllTied given (λ r. r) (λ w. w) k.places.items k.past.items ∥₁) (sym r.0) tied,
  )

  pub stays-stays : SeatStays given a b → SeatStays given b c → SeatStays given a c
  stays-stays x y = (y.0 ∙ x.0, y.1 ∙ x.1, y.2 ∙ x.2, y.3 ∙ x.3, y.4 ∙ x.4, y.5 ∙ x.5, λ tied. y.6 (x.6 tied))

  pub stays-gives : (e : Option SeatEvent) → SeatStays given a b → SeatGives given b c e → SeatGives given a c e
  stays-gives None x y = stays-stays x y
  stays-gives (Some e) x y = (
    y.0 ∙ x.0,
    y.1 ∙ x.1,
    y.2 ∙ x.4,
    y.3 ∙ ap (λ l. l ++ e ∷ []) x.5,
    (y.4.0 ∙ x.0, λ h. y.4.1 (gone-same a.clients.past.items b.clients.past.items x.2 (seat_app e) h)),
    y.5,
    λ app h. y.6 app (gone-same a.clients.past.items b.clients.past.items x.2 app h),
    λ tied. y.7 (x.6 tied),
  )

module _ {S L C : Type 0} (given : ℕ → List ℕ → Type 0) (a b c : SocketSeat S L C) where
  pub rests-gives : (e : Option SeatEvent) → Rests a b → SeatGives given b c e → SeatGives given a c e
  rests-gives e x y = stays-gives given a b c e (rests-stays given a b c x) y

  pub gives-after : (e : Option SeatEvent) → SeatGives given b c e → SeatStays given a b → SeatGives given a c e
  gives-after e y x = stays-gives given a b c e x y

  pub rests-then : Rests a b → SeatStays given b c → SeatStays given a c
  rests-then x y = stays-stays given a b c (rests-stays given a b c x) y

  pub then-rests : SeatStays given a b → Rests b c → SeatStays given a c
  then-rests x y = stays-stays given a b c x (rests-stays given b c c y)

-- ---- under a licence

module _ {S L C : Type 0} (given : ℕ → List ℕ → Type 0) (allows : ℕ → List ℕ → List ℕ → Type 0) (a b : SocketSeat S L C) where
  pub from-stays : SeatStays given a b → MayGoOnFrom given allows a → MayGoOnFrom given allows b
  from-stays x may = λ now y. may now (stays-stays given a b now x y)

  pub from-rests : Rests a b → MayGoOnFrom given allows a → MayGoOnFrom given allows b
  from-rests x may = from-stays (rests-stays given a b b x) may

pub from-now : {S L C : Type 0} (given : ℕ → List ℕ → Type 0) (allows : ℕ → List ℕ → List ℕ → Type 0) (a : SocketSeat S L C)
    → MayGoOnFrom given allows a → (j : ℕ) → MayGoOnAt given allows (λ r. r) (λ w. w) a.clients.places.items j
from-now given allows a may = may a (rests-stays given a a a (refl, refl))

-- ---- where there is no event

pub of-none : {A : Type 0} (o : Option A) (P : Type 0) → o ≡ None → P → IfNone o P
of-none o P is p = subst (λ o. IfNone o P) (sym is) p

pub and-none : {A : Type 0} (o : Option A) (P Q : Type 0) → (P → Q) → IfNone o P → IfNone o Q
and-none None P Q f p = f p
and-none (Some x) P Q f p = tt

pub if-none : {A : Type 0} (o : Option A) (P : Type 0) → is_some o ≡ false → IfNone o P → P
if-none None P none p = p
if-none (Some x) P none p = absurd (let clash : true ≡ false = none in cc)

pub gives-none : {S L C : Type 0} (given : ℕ → List ℕ → Type 0) (a b : SocketSeat S L C) (e : Option SeatEvent) → is_some e ≡ false
    → SeatGives given a b e → SeatStays given a b
gives-none given a b None none y = y
gives-none given a b (Some e) none y = absurd (let clash : true ≡ false = none in cc)

-- nobody is at the places that were looked at, nor at the next one
pub empty-more : {S L C : Type 0} (old new : SocketSeat S L C) (n : ℕ) → ((j : ℕ) → j < n → IsEmptyAt old j) → IsStill old new
    → IsEmptyAt new n → (j : ℕ) → j < n + 1 → IsEmptyAt new j
empty-more old new n empty still here j less = by (same_or j n) where
  by : (j ≡ n) ⊎ (j ≢ n) → IsEmptyAt new j
  by (inl e) = subst (IsEmptyAt new) (sym e) here
  by (inr n') = let inside : j < n = omega (arith, less, n') in
      subst (λ k. (c : Client Reading Writing) → ¬ IsClientAt k.places.items j c) (sym still.0) (empty j inside)

-- beyond the last place is nobody
pub empty-all : {S L C : Type 0} (seat : SocketSeat S L C) (n : ℕ) → length seat.clients.places.items ≤ n
    → ((j : ℕ) → j < n → IsEmptyAt seat j) → IsNobodyLeft seat
empty-all seat n all empty j c at = let within = slice_get_within seat.clients.places.items j at.place at.at in
    let inside : j < n = omega (arith, within, all) in empty j inside c at

-- ---- who comes by the door

pub ends-of : (app : ℕ) (r : Reading) (w : Writing) → AreEnds app (r, w) → AreEndsOf app r w
ends-of app r w are = record {
  reader = ap (λ (x : Reading). x.app) are.0;
  writer = ap (λ (x : Writing). x.app) are.1;
  gave = ap (λ (x : Reading). x.gave) are.0;
  took = ap (λ (x : Writing). x.took) are.1;
}

-- whoever came before has come, and now this application
pub came-more : (old new : Places Reading Writing) (door door' : List ℕ) (app : ℕ) → KeepsCome old new
    → HasCome new.number new.places.items app → door' ≡ door ++ app ∷ [] → ∥ AllCame old.number old.places.items door ∥₁
    → ∥ AllCame new.number new.places.items door' ∥₁
came-more old new door door' app keeps come more came =
    ∥∥₁_map came (λ all. subst (AllCame new.number new.places.items) (sym more)
    (all-more new.number new.places.items door app (all-came old new keeps door all) come))

-- nobody has read or written yet
pub none-tied : (given : ℕ → List ℕ → Type 0) (places : List (Place Reading Writing)) (past : List (Client Reading Writing))
    → past ≡ [] → ((j : ℕ) (c : Client Reading Writing) → ¬ IsClientAt places j c) → AllTied given (λ r. r) (λ w. w) places past
none-tied given places past none empty c life =
    ⊎_elim (λ (x : IsAmong c past). absurd (subst (IsAmong c) none x))
    (λ (x : (j : ℕ) × IsClientAt places j c). absurd (empty x.0 c x.1)) life

-- a new seat stands as before all exchanges
pub new-stands : {S L C : Type 0} (given : ℕ → List ℕ → Type 0) (seat : SocketSeat S L C) (seed : List ℕ) (s : ℕ)
    → IsNew seat seed s → SeatStandsAfter given seat []
new-stands given seat seed s fresh =
    (fresh.5, fresh.4, ∣ none-tied given seat.clients.places.items seat.clients.past.items fresh.2 fresh.6 ∣₁)
