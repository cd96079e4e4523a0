-- From the history of four seats to the bytes of their connections.
use Rattle.std.proofs.Common.{◌≡◌, ℕ, ◌%◌, Bool, true, false, List, [], ◌∷◌, ◌++◌, sym, refl, ap, ◌∙◌, subst, append_assoc, Option, Some, None, Result, Ok, Err}
use Rattle.std.specs.Prelude.{IfOk}
use Rattle.std.proofs.Math.Logic.{∥∥₁_map}
use Rattle.rand_chacha.specs.ChaCha.{ChaCha}
use Rattle.ck_calls.specs.declared.reply.Reply.{Reply as ReplyType}
use Rattle.hall_log.specs.Lists.{of}
use Rattle.ck_calls.specs.declared.app_call.AppCall.{AppCall}
use Rattle.hall_log.specs.Histories.{AllOwn, Exchange, History, event_app}
use Rattle.hall.specs.Terms.{MachineTerms}
use Rattle.hall.specs.Histories.{AllProper}
use Rattle.hall.specs.SeatEvents.{asked_in, heard_in}
use Rattle.hall.specs.Held.{WereHeld}
use Rattle.hall.specs.declared.holding.Held.{Held}
use Rattle.model_worlds.specs.Worlds.{World}
use Rattle.token.specs.States.{Lasting}
use Rattle.line.specs.State.{Connected}
use Rattle.line.specs.Turns.{Ask}
use Rattle.line.specs.Whole.{Lived, LeaveLaw, StopLaw}
use Rattle.line.specs.Words.{words_for}
use Rattle.line_places.specs.Keeping.{PlacesKeep}
use Rattle.line_places.specs.Standing.{asks_in, Stands, StandsBy}
use Rattle.hall_sockets.specs.declared.seat.SocketSeat.{SocketSeat}
use Rattle.hall_sockets.specs.Served.{WasServed, WereServed}
use Rattle.hall_sockets.specs.Staying.{AreNew, IsNew, IsTied, SeatStandsAfter}
use Rattle.hall_sockets.specs.Telling.{gone_in}
use Rattle.hall_sockets.proofs.Calling.{called-own, life-app, told-own}

-- ---- lives

-- however a client stands, it has lived so
lived : StopLaw → LeaveLaw → (first : ChaCha) (c : Connected) (owed : Bool) (asked : List AppCall) (told : List ReplyType)
    → Stands first c owed asked told → Lived first c (asks_in asked) told
lived stop leave first c true asked told h = leave first c (asks_in asked) told h
lived stop leave first c false asked told h = by c.ended refl where
  by : (e : Option _) → c.ended ≡ e → Lived first c (asks_in asked) told
  by None is = stop first c (asks_in asked) told (subst (λ e. StandsBy e first c asked told) is h) is
  by (Some ending) is = subst (λ e. StandsBy e first c asked told) is h

-- ---- a seat

module _ {S L C : Type 0} (stop : StopLaw) (leave : LeaveLaw) (given : ℕ → List ℕ → Type 0) (seed : List ℕ)
    (seat : SocketSeat S L C) (s : ℕ) (history : History) (own : AllOwn history)
    (named : seat.clients.number ≡ s) (seeded : seat.clients.seed ≡ seed) (asked : seat.asked.items ≡ asked_in (of s history))
    (told : seat.clients.told.items ≡ heard_in (of s history)) (tied : IsTied given seat) where
  served : PlacesKeep seat.clients.seed seat.clients.number seat.clients.places.items seat.clients.past.items seat.clients.asked.items
      seat.clients.told.items → WasServed given seed seat s history
  served k = record {
    number = named;
    each = λ it has.
        let mine = life-app seat.clients.seed seat.clients.number seat.clients.places.items seat.clients.past.items
        seat.clients.asked.items seat.clients.told.items seat.clients.worker k it has ∙ named in
        let parts = k.parts it has in
        let words = k.words it has ∙ ap (λ x. words_for x it.app) seeded in
        ∥∥₁_map it.stands (λ h. subst (λ (z : ChaCha × List Ask × List ReplyType). Lived z.0 it.connection z.1 z.2)
        (λ i. (
          words i,
          (ap asks_in (sym parts.0) ∙ called-own seat s history own asked it.app mine) i,
          (sym parts.1 ∙ told-own seat s history own seat.clients.told.items told it.app mine) i,
        ))
        (lived stop leave it.first.value it.connection it.is_owed it.asked.items it.told.items h));
    tied = λ it has. ∥∥₁_map tied (λ all_tied. all_tied it has);
    others = λ app is none. let no = k.others app none in (
      sym (called-own seat s history own asked app is)
          ∙ ap asks_in no.0,
      sym (told-own seat s history own seat.clients.told.items told app is) ∙ no.1,
    );
    left = sym seat.gone ∙ ap gone_in asked;
  }

  pub was_served : ∥ WasServed given seed seat s history ∥₁
  was_served = ∥∥₁_map seat.clients.kept served

-- ---- four seats

-- each event of a history of proper seats is of an application of its own seat
abbrev OwnLaw : Type 0
OwnLaw = (before : History) (x : ℕ × Exchange) (rest : History) → AllProper (before ++ x ∷ rest) → event_app x.1.0 % 4 ≡ x.0

all_own : OwnLaw → (before rest : History) → AllProper (before ++ rest) → AllOwn rest
all_own law before [] p = tt
all_own law before (x ∷ rest) p =
    (law before x rest p, all_own law (before ++ x ∷ []) rest (subst AllProper (sym (append_assoc before (x ∷ []) rest)) p))

abbrev pub fixed_of : {S L C : Type 0} → SocketSeat S L C → List ℕ
fixed_of s = s.clients.number ∷ s.clients.seed

first-of : (m n : ℕ) (xs ys : List ℕ) → m ∷ xs ≡ n ∷ ys → m ≡ n
first-of m n xs ys e = cc

rest-of : (m n : ℕ) (xs ys : List ℕ) → m ∷ xs ≡ n ∷ ys → xs ≡ ys
rest-of m n xs ys e = cc

module _ (stop : StopLaw) (leave : LeaveLaw) (own : OwnLaw) (given : ℕ → List ℕ → Type 0) where
  one_served : {S L C : Type 0} (seed : List ℕ) (s : ℕ) (history : History) (old new : SocketSeat S L C) → AllProper history
      → IsNew old seed s → fixed_of new ≡ fixed_of old
      → SeatStandsAfter given new (of s history) → ∥ WasServed given seed new s history ∥₁
  one_served seed s history old new proper fresh fixed part =
      was_served stop leave given seed new s history (all_own own [] history proper) (first-of _ _ _ _ fixed ∙ fresh.0)
      (rest-of _ _ _ _ fixed ∙ fresh.1) part.0 part.1 part.2

  were_served : {S L C T : Type 0} (terms : MachineTerms T) (served : History → Type 0) (seed : List ℕ)
      (old new : SocketSeat S L C × SocketSeat S L C × SocketSeat S L C × SocketSeat S L C) (before after : T) → AreNew seed old
      → (fixed_of new.0 ≡ fixed_of old.0) × (fixed_of new.1 ≡ fixed_of old.1) × (fixed_of new.2 ≡ fixed_of old.2)
      × (fixed_of new.3 ≡ fixed_of old.3)
      → WereHeld (λ (s : SocketSeat S L C) xs. SeatStandsAfter given s xs) served terms new before after
      → WereServed terms served given seed new before after
  were_served terms served seed old new before after fresh fixed held = record {
    history = held.history;
    told = held.told;
    interleaves = held.interleaves;
    seat0 = one_served seed 0 held.history old.0 new.0 held.interleaves.proper fresh.0 fixed.0 held.part0;
    seat1 = one_served seed 1 held.history old.1 new.1 held.interleaves.proper fresh.1 fixed.1 held.part1;
    seat2 = one_served seed 2 held.history old.2 new.2 held.interleaves.proper fresh.2 fixed.2 held.part2;
    seat3 = one_served seed 3 held.history old.3 new.3 held.interleaves.proper fresh.3 fixed.3 held.part3;
    counts = held.counts;
    runs = held.runs;
    spends = held.spends;
  }

  -- where they were held
  pub served_by : {S L C T E : Type 0} (terms : MachineTerms T) (served : History → Type 0) (seed : List ℕ)
      (old : SocketSeat S L C × SocketSeat S L C × SocketSeat S L C × SocketSeat S L C) (before : T)
      (r : Result (Held T (SocketSeat S L C)) E) → AreNew seed old
      → IfOk r (λ h. (fixed_of h.seats.0 ≡ fixed_of old.0) × (fixed_of h.seats.1 ≡ fixed_of old.1)
      × (fixed_of h.seats.2 ≡ fixed_of old.2) × (fixed_of h.seats.3 ≡ fixed_of old.3))
      → IfOk r (λ h. WereHeld (λ (s : SocketSeat S L C) xs. SeatStandsAfter given s xs) served terms h.seats
      before h.token)
      → IfOk r (λ h. WereServed terms served given seed h.seats before h.token)
  served_by terms served seed old before (Ok h) fresh fixed held =
      were_served terms served seed old h.seats before h.token fresh fixed held
  served_by terms served seed old before (Err e) fresh fixed held = tt
