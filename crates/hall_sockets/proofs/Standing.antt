-- How a seat stands, by its exchanges.
use Rattle.std.proofs.Common.{◌≡◌, ◌≢◌, ◌⊎◌, inl, inr, ⊎_elim, ℕ, ◌%◌, List, [], ◌∷◌, ◌++◌, sym, refl, ap, ◌∙◌, subst, append-nil, Option, Some, None}
use Rattle.std.specs.Prelude.{IfSome, MatchOption}
use Rattle.ck_calls.specs.declared.reply.Reply.{Reply as ReplyType}
use Rattle.mech.specs.declared.job.Job.{Job}
use Rattle.mech.specs.declared.done.Done.{Done}
use Rattle.serve_base.specs.declared.out.Out.TheVariants.{Reply, Ask}
use Rattle.ck_calls.specs.declared.app_call.AppCall.{AppCall}
use Rattle.hall_log.specs.declared.event.Event.TheVariants.{Call as CallEvent, Finish as FinishEvent, Gone as GoneEvent}
use Rattle.hall_log.specs.Histories.{Exchange}
use Rattle.hall_log.specs.Putting.{IsThere}
use Rattle.hall.specs.SeatEvents.{IsAwaitedReply, IsTurn, MayAsk, StandsThen, asked_in, heard_in, seat_app}
use Rattle.hall.specs.declared.seats.SeatEvent.{SeatEvent}
use Rattle.hall.specs.declared.seats.SeatEvent.TheVariants.{Call, Gone}
use Rattle.hall.proofs.Turns.{asked_in-append, heard_in-append}
use Rattle.line_places.specs.declared.client.Client.{Client}
use Rattle.line_places.specs.Keeping.{HasGone, IsOwed}
use Rattle.hall_sockets.specs.declared.seat.SocketSeat.{SocketSeat}
use Rattle.hall_sockets.specs.Staying.{SeatGives, SeatHears, SeatStandsAfter, WaitsFor}
use Rattle.hall_sockets.specs.Telling.{apps_of, gone_in}

-- ---- who is there

abbrev IsIn : ℕ → List ℕ → Type 0
IsIn app [] = ⊥
IsIn app (a ∷ rest) = (a ≡ app) ⊎ IsIn app rest

gone-in : {R W : Type 0} (past : List (Client R W)) (app : ℕ) → IsIn app (apps_of past) → HasGone past app
gone-in [] app h = absurd h
gone-in (c ∷ cs) app h = ⊎_elim (λ (e : c.app ≡ app). (c, inl refl, e))
    (λ (m : IsIn app (apps_of cs)). let r = gone-in cs app m in (r.0, inr r.1, r.2)) h

no_app : (app : ℕ) → None ≢ Some app
no_app app e = cc

same_app : (a b : ℕ) → Some a ≡ Some b → a ≡ b
same_app a b e = cc

-- whoever is not among those that disconnected is there
there-by : (app : ℕ) (xs : List Exchange) → ¬ IsIn app (gone_in (asked_in xs)) → IsThere app xs
there-by app [] out = tt
there-by app ((CallEvent c, o) ∷ xs) out = ((λ e. no_app app e), there-by app xs out)
there-by app ((FinishEvent a d, o) ∷ xs) out = ((λ e. no_app app e), there-by app xs out)
there-by app ((GoneEvent a, o) ∷ xs) out = ((λ e. out (inl (same_app a app e))), there-by app xs (λ m. out (inr m)))

-- ---- the next event

module _ {S L C : Type 0} (given : ℕ → List ℕ → Type 0) (was_read : List Exchange → AppCall → Type 0) (a b : SocketSeat S L C)
    (before : List Exchange) (stands : SeatStandsAfter given a before) where
  there : (app : ℕ) → ¬ HasGone a.clients.past.items app → IsThere app before
  there app out = there-by app before
      (λ m. out (gone-in a.clients.past.items app (subst (IsIn app) (ap gone_in (sym stands.0) ∙ a.gone) m)))

  may-ask : (e : SeatEvent) → ((c : AppCall) → e ≡ Call c → was_read before c) → (seat_app e % 4 ≡ a.clients.number)
      × (¬ HasGone a.clients.past.items (seat_app e)) → MayAsk was_read a.clients.number before e
  may-ask (Call c) read is = record { own = is.0; there = there c.app is.1; read = read c refl }
  may-ask (Gone app) read is = record { own = is.0; there = there app is.1; read = tt }

  pub next-may : (e : Option SeatEvent) → ((c : AppCall) → e ≡ Some (Call c) → was_read before c) → SeatGives given a b e
      → IfSome e (MayAsk was_read a.clients.number before)
  next-may None read gives = tt
  next-may (Some e) read gives = may-ask e (λ c is. read c (ap (λ (x : SeatEvent). Some x) is)) gives.4

module _ {S L C : Type 0} (given : ℕ → List ℕ → Type 0) (a b : SocketSeat S L C) (before : List Exchange)
    (stands : SeatStandsAfter given a before) where
  pub then : (e : SeatEvent) → SeatGives given a b (Some e) → StandsThen (SeatStandsAfter given b) (WaitsFor given b) before e
  then (Call c) gives = (gives.3 ∙ ap (λ l. l ++ Call c ∷ []) stands.0, gives.2 ∙ stands.1, gives.5.0, gives.7 stands.2, gives.5.1)
  then (Gone app) gives = (
    gives.3 ∙ ap (λ l. l ++ Gone app ∷ []) stands.0 ∙ sym (asked_in-append before ((GoneEvent app, None) ∷ [])),
    gives.2 ∙ stands.1 ∙ sym (heard_in-append before ((GoneEvent app, None) ∷ []) ∙ append-nil (heard_in before)),
    gives.7 stands.2,
  )

  pub next-stands : (e : Option SeatEvent) → SeatGives given a b e
      → MatchOption e (SeatStandsAfter given b before) (StandsThen (SeatStandsAfter given b) (WaitsFor given b) before)
  next-stands None gives = (gives.5 ∙ stands.0, gives.4 ∙ stands.1, gives.6 stands.2)
  next-stands (Some e) gives = then e gives

-- ---- the reply

turn-asked : (c : AppCall) (more : List Exchange) → IsTurn (Call c) more → asked_in more ≡ Call c ∷ []
turn-asked c more turn = ⊎_elim
    (λ (t : (r : ReplyType) × (more ≡ (CallEvent c, Some (Reply r)) ∷ [])). ap asked_in t.1)
    (λ (t : (j : Job) × (d : Done) × (r : ReplyType) × (d.job.value ≡ j)
    × (more ≡ (CallEvent c, Some (Ask j)) ∷ (FinishEvent c.app d, Some (Reply r)) ∷ [])). ap asked_in t.4)
    turn

abbrev first-app : List (ℕ × ReplyType) → ℕ
first-app [] = 0
first-app (x ∷ xs) = x.0

same-first : (a b : ℕ) (x y : ReplyType) → ◌≡◌ {A = List (ℕ × ReplyType)} ((a, x) ∷ []) ((b, y) ∷ []) → a ≡ b
same-first a b x y e = ap first-app e

turn-app : (c : AppCall) (more : List Exchange) (app : ℕ) (reply : ReplyType) → IsTurn (Call c) more
    → heard_in more ≡ (app, reply) ∷ [] → c.app ≡ app
turn-app c more app reply turn heard = ⊎_elim
    (λ (t : (r : ReplyType) × (more ≡ (CallEvent c, Some (Reply r)) ∷ [])). same-first c.app app t.0 reply (sym (ap heard_in t.1) ∙ heard))
    (λ (t : (j : Job) × (d : Done) × (r : ReplyType) × (d.job.value ≡ j)
    × (more ≡ (CallEvent c, Some (Ask j)) ∷ (FinishEvent c.app d, Some (Reply r)) ∷ [])). same-first c.app app t.2 reply
    (sym (ap heard_in t.4) ∙ heard))
    turn

module _ {S L C : Type 0} (given : ℕ → List ℕ → Type 0) (a : SocketSeat S L C) (now : List Exchange) (app : ℕ) (reply : ReplyType)
    (is : IsAwaitedReply (WaitsFor given a) now app reply) where
  pub owed-by : IsOwed a.clients.places.items a.called_place app
  owed-by = subst (IsOwed a.clients.places.items a.called_place) (turn-app is.call is.more app reply is.turn is.heard) is.waits_for.2

  -- with the reply, it gave and took what it did by these
  pub asked-by : a.asked.items ≡ asked_in now
  asked-by = is.waits_for.0 ∙ ap (λ l. asked_in is.before ++ l) (sym (turn-asked is.call is.more is.turn))
      ∙ sym (ap asked_in is.now_is ∙ asked_in-append is.before is.more)

  pub heard-by : a.clients.told.items ++ (app, reply) ∷ [] ≡ heard_in now
  heard-by = ap (λ l. l ++ (app, reply) ∷ []) is.waits_for.1 ∙ ap (λ l. heard_in is.before ++ l) (sym is.heard)
      ∙ sym (ap heard_in is.now_is ∙ heard_in-append is.before is.more)

  pub stands-by : (b : SocketSeat S L C) → SeatHears given a b app reply → SeatStandsAfter given b now
  stands-by b hears = (hears.2 ∙ asked-by, hears.3 ∙ heard-by, hears.4 is.waits_for.3)
