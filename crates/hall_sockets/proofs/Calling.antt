-- Calls and replies of one application: in a history, among the exchanges of its seat, and with its client.
use Rattle.std.proofs.Common.{◌≡◌, ◌≢◌, ℕ, ◌<◌, ◌%◌, ⊎_elim, nat_eq, cond, Bool, true, false, map, filter, List, [], ◌∷◌, ◌++◌, sym, refl, ap, ◌∙◌, arith, Option, Some, None}
use Rattle.std.proofs.lemmas.Bool.Decides.{nat_tests}
use Rattle.ck_calls.specs.declared.reply.Reply.{Reply as ReplyType}
use Rattle.serve_base.specs.declared.out.Out.{Out}
use Rattle.serve_base.specs.declared.out.Out.TheVariants.{Reply, Ask as AskOut}
use Rattle.model_worlds.specs.Traces.{replies_to}
use Rattle.hall_log.specs.Lists.{of}
use Rattle.ck_calls.specs.declared.app_call.AppCall.{AppCall}
use Rattle.hall_log.specs.declared.event.Event.{Event}
use Rattle.hall_log.specs.declared.event.Event.TheVariants.{Call, Finish, Gone}
use Rattle.hall_log.specs.Histories.{AllOwn, Exchange, History, event_app}
use Rattle.hall_log.proofs.Lists.{of-append, of-other}
use Rattle.hall.specs.Histories.{told_by, told_in}
use Rattle.hall.specs.SeatEvents.{asked_in, heard_by, heard_in}
use Rattle.line_places.specs.declared.client.Client.{Client}
use Rattle.line_places.specs.Keeping.{calls_of, IsAmong, IsClientAt, IsLife, PlacesKeep}
use Rattle.line_places.specs.Standing.{ask_in, asks_in}
use Rattle.line_places.proofs.Changing.{own-app}
use Rattle.hall_sockets.specs.declared.seat.SocketSeat.{SocketSeat}
use Rattle.hall_sockets.specs.Calling.{called, called_by, called_in}
use Rattle.hall_sockets.specs.Telling.{calls_in}

-- ---- of one seat

pub asks-calls : (app : ℕ) (xs : List Exchange) → asks_in (calls_of app (calls_in (asked_in xs))) ≡ of app (called_by xs)
asks-calls app [] = refl
asks-calls app ((Call c, o) ∷ xs) =
    elim (nat_eq c.app app) as (λ b. asks_in
    (cond b (c ∷ calls_of app (calls_in (asked_in xs))) (calls_of app (calls_in (asked_in xs))))
    ≡ cond b (ask_in c ∷ of app (called_by xs)) (of app (called_by xs)))
    [ true ↦ ap (λ l. ask_in c ∷ l) (asks-calls app xs) | false ↦ asks-calls app xs ]
asks-calls app ((Finish a done, o) ∷ xs) = asks-calls app xs
asks-calls app ((Gone a, o) ∷ xs) = asks-calls app xs

-- ---- of all seats

-- what is heard of one exchange
same_told : (app : ℕ) (o : Option Out) → told_by app o ≡ heard_by app o
same_told app None = refl
same_told app (Some (Reply r)) = refl
same_told app (Some (AskOut j)) = refl

not_told : (app other : ℕ) (o : Option Out) → other ≢ app → of app (told_by other o) ≡ []
not_told app other None n = refl
not_told app other (Some (Reply r)) n = of-other app other r n
not_told app other (Some (AskOut j)) n = refl

not_called : (app : ℕ) (e : Event) → event_app e ≢ app → of app (called e) ≡ []
not_called app (Call c) n = of-other app c.app (ask_in c) n
not_called app (Finish a done) n = refl
not_called app (Gone a) n = refl

-- what the history has of one application is what its seat has
called-seat : (app : ℕ) (history : History) → AllOwn history → of app (called_in history) ≡ of app (called_by (of (app % 4) history))
called-seat app [] own = refl
called-seat app (x ∷ xs) own =
    elim (nat_eq x.0 (app % 4)) as
    (λ b. nat_eq x.0 (app % 4) ≡ b
    → of app (called x.1.0 ++ called_in xs) ≡ of app (called_by (cond b (x.1 ∷ of (app % 4) xs) (of (app % 4) xs)))) [
      | true ↦ λ h. of-append app (called x.1.0) (called_in xs) ∙ ap (λ l. of app (called x.1.0) ++ l) (called-seat app xs own.1)
          ∙ sym (of-append app (called x.1.0) (called_by (of (app % 4) xs)))
      | false ↦ λ h. of-append app (called x.1.0) (called_in xs)
          ∙ ap (λ l. l ++ of app (called_in xs)) (not_called app x.1.0 (λ e. other_seat x.0 app h (sym own.0 ∙ ap (λ a. a % 4) e)))
          ∙ called-seat app xs own.1
    ] refl where
      other_seat : (s a : ℕ) → nat_eq s (a % 4) ≡ false → s ≢ a % 4
      other_seat s a h e = grind (arith, nat_tests)

told-seat : (app : ℕ) (history : History) → AllOwn history → of app (told_in history) ≡ of app (heard_in (of (app % 4) history))
told-seat app [] own = refl
told-seat app (x ∷ xs) own = elim (nat_eq x.0 (app % 4)) as
    (λ b. nat_eq x.0 (app % 4) ≡ b
    → of app (told_by (event_app x.1.0) x.1.1 ++ told_in xs) ≡ of app (heard_in (cond b (x.1 ∷ of (app % 4) xs) (of (app % 4) xs)))) [
      | true ↦ λ h. of-append app (told_by (event_app x.1.0) x.1.1) (told_in xs)
          ∙ ap (λ l. of app (told_by (event_app x.1.0) x.1.1) ++ l) (told-seat app xs own.1)
          ∙ ap (λ l. of app l ++ of app (heard_in (of (app % 4) xs))) (same_told (event_app x.1.0) x.1.1)
          ∙ sym (of-append app (heard_by (event_app x.1.0) x.1.1) (heard_in (of (app % 4) xs)))
      | false ↦ λ h. of-append app (told_by (event_app x.1.0) x.1.1) (told_in xs)
          ∙ ap (λ l. l ++ of app (told_in xs))
          (not_told app (event_app x.1.0) x.1.1 (λ e. other_seat x.0 app h (sym own.0 ∙ ap (λ a. a % 4) e))) ∙ told-seat app xs own.1
    ] refl where
      other_seat : (s a : ℕ) → nat_eq s (a % 4) ≡ false → s ≢ a % 4
      other_seat s a h e = grind (arith, nat_tests)

-- ---- one filter of replies is the other

eq_comm : (a b : ℕ) → nat_eq a b ≡ nat_eq b a
eq_comm a b = grind (arith, nat_tests)

replies-of : (app : ℕ) (told : List (ℕ × ReplyType)) → of app told ≡ replies_to app told
replies-of app [] = refl
replies-of app (x ∷ xs) = ap (λ b. cond b (x.1 ∷ of app xs) (of app xs)) (eq_comm x.0 app) ∙ by (nat_eq app x.0) (replies-of app xs) where
  by : (b : Bool) → of app xs ≡ replies_to app xs
      → cond b (x.1 ∷ of app xs) (of app xs)
      ≡ map (λ (r : ℕ × ReplyType). r.1) (cond b (x ∷ filter (λ r. nat_eq app r.0) xs) (filter (λ r. nat_eq app r.0) xs))
  by true rest = ap (λ l. x.1 ∷ l) rest
  by false rest = rest

-- ---- of a seat

-- the application of a client is of its worker
pub life-app : {R W : Type 0} (seed : List ℕ) (s : ℕ) (places : List _) (past : List (Client R W)) (asked : List AppCall)
    (told : List (ℕ × ReplyType)) → s < 4 → PlacesKeep seed s places past asked told → (c : Client R W) → IsLife places past c
    → c.app % 4 ≡ s
life-app seed s places past asked told lt k c life = ⊎_elim
    (λ (x : IsAmong c past). let w = k.before c x in ap (λ a. a % 4) w.app ∙ own-app s _ w.j w.t lt)
    (λ (x : (j : ℕ) × IsClientAt places j c). ap (λ a. a % 4) (k.now x.0 x.1.place c x.1.at x.1.client).0
    ∙ own-app s _ x.0 x.1.place.turn lt) life

module _ {S L C : Type 0} (seat : SocketSeat S L C) (s : ℕ) (history : History) (own : AllOwn history) where
  -- the calls that it gave are those of the history
  pub called-own : seat.asked.items ≡ asked_in (of s history) → (app : ℕ) → app % 4 ≡ s
      → asks_in (calls_of app seat.clients.asked.items) ≡ of app (called_in history)
  called-own asked app is = ap (λ l. asks_in (calls_of app l)) (sym seat.calls ∙ ap calls_in asked) ∙ asks-calls app (of s history)
      ∙ ap (λ t. of app (called_by (of t history))) (sym is) ∙ sym (called-seat app history own)

  -- and so are the replies that it took
  pub told-own : (told : List (ℕ × ReplyType)) → told ≡ heard_in (of s history) → (app : ℕ) → app % 4 ≡ s
      → of app told ≡ replies_to app (told_in history)
  told-own told is app mine = ap (of app) is ∙ ap (λ t. of app (heard_in (of t history))) (sym mine)
      ∙ sym (told-seat app history own) ∙ replies-of app (told_in history)
