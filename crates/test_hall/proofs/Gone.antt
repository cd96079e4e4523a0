-- Who has gone is there out more, and nobody else.
use Rattle.std.proofs.Common.{◌≡◌, ◌≢◌, ℕ, ◌%◌, List, [], ◌∷◌, ◌++◌, append-nil, sym, ap, ◌∙◌, subst, ⊎_elim, Option, Some, None}
use Rattle.std.specs.Prelude.{IfSome, IsTrue, MatchOption}
use Rattle.ck_calls.specs.declared.reply.Reply.{Reply as ReplyType}
use Rattle.mech.specs.declared.job.Job.{Job}
use Rattle.mech.specs.declared.done.Done.{Done}
use Rattle.serve_base.specs.declared.out.Out.TheVariants.{Reply, Ask}
use Rattle.ck_calls.specs.declared.app_call.AppCall.{AppCall}
use Rattle.hall_log.specs.declared.event.Event.TheVariants.{Call as CallEvent, Finish as FinishEvent, Gone as GoneEvent}
use Rattle.hall_log.specs.Histories.{Exchange}
use Rattle.hall_log.specs.Putting.{IsThere}
use Rattle.hall.specs.SeatEvents.{IsAwaitedReply, IsTurn, MayAsk, StandsThen, heard_in, seat_app}
use Rattle.hall.specs.declared.seats.SeatEvent.{SeatEvent}
use Rattle.hall.specs.declared.seats.SeatEvent.TheVariants.{Call, Gone}
use Rattle.hall.proofs.Turns.{heard_in-append}
use Rattle.test_hall.specs.Gone.{AllGone, NotesGone, is_gone}

-- whoever has not gone is there
pub there-by : (gone : List ℕ) (app : ℕ) (xs : List Exchange) → AllGone gone xs → ¬ IsTrue (is_gone gone app) → IsThere app xs
there-by gone app [] all out = tt
there-by gone app (x ∷ xs) all out = ((λ is. out (all.0 app is)), there-by gone app xs all.1 out)

pub gone-more : (gone more : List ℕ) → ((app : ℕ) → IsTrue (is_gone gone app) → IsTrue (is_gone more app)) → (xs : List Exchange)
    → AllGone gone xs → AllGone more xs
gone-more gone more f [] all = tt
gone-more gone more f (x ∷ xs) all = ((λ app is. f app (all.0 app is)), gone-more gone more f xs all.1)

pub gone-append : (gone : List ℕ) (xs ys : List Exchange) → AllGone gone xs → AllGone gone ys → AllGone gone (xs ++ ys)
gone-append gone [] ys a b = b
gone-append gone (x ∷ xs) ys a b = (a.0, gone-append gone xs ys a.1 b)

no_app : (app : ℕ) → None ≢ Some app
no_app app e = cc

pub same_app : (gone : List ℕ) (a b : ℕ) → Some a ≡ Some b → IsTrue (is_gone gone a) → IsTrue (is_gone gone b)
same_app gone a b e x = let is : a ≡ b = cc in subst (λ n. IsTrue (is_gone gone n)) is x

-- nobody goes by a call
pub turn-gone : (gone : List ℕ) (c : AppCall) (more : List Exchange) → IsTurn (Call c) more → AllGone gone more
turn-gone gone c more turn = ⊎_elim
    (λ (t : (r : ReplyType) × (more ≡ (CallEvent c, Some (Reply r)) ∷ [])). subst (AllGone gone) (sym t.1)
    ((λ app e. absurd (no_app app e)), tt))
    (λ (t : (j : Job) × (d : Done) × (r : ReplyType) × (d.job.value ≡ j)
    × (more ≡ (CallEvent c, Some (Ask j)) ∷ (FinishEvent c.app d, Some (Reply r)) ∷ [])).
    subst (AllGone gone) (sym t.4) ((λ app e. absurd (no_app app e)), ((λ app e. absurd (no_app app e)), tt)))
    turn

-- ---- the next event

own_event : (was_read : List Exchange → AppCall → Type 0) (number : ℕ) (gone : List ℕ) (before : List Exchange)
    → ((before : List Exchange) (call : AppCall) → was_read before call) → AllGone gone before
    → (e : SeatEvent) → seat_app e % 4 ≡ number → ¬ IsTrue (is_gone gone (seat_app e)) → MayAsk was_read number before e
own_event was_read number gone before reads all (Call c) own there =
    record { own = own; there = there-by gone c.app before all there; read = reads before c }
own_event was_read number gone before reads all (Gone app) own there =
    record { own = own; there = there-by gone app before all there; read = tt }

pub next-may : (was_read : List Exchange → AppCall → Type 0) (number : ℕ) (gone : List ℕ) (before : List Exchange)
    → ((before : List Exchange) (call : AppCall) → was_read before call) → AllGone gone before
    → (e : Option SeatEvent) → IfSome e (λ x. seat_app x % 4 ≡ number) → IfSome e (λ x. ¬ IsTrue (is_gone gone (seat_app x)))
    → IfSome e (MayAsk was_read number before)
next-may was_read number gone before reads all None own there = tt
next-may was_read number gone before reads all (Some e) own there = own_event was_read number gone before reads all e own there

module _ (told : List (ℕ × ReplyType)) (gone : List ℕ) (room : Type 0) (before : List Exchange) (heard : told ≡ heard_in before)
    (all : AllGone gone before) where
  then : (e : SeatEvent) → NotesGone gone e → room
      → StandsThen (λ xs. (told ≡ heard_in xs) × AllGone gone xs) (λ xs call. (told ≡ heard_in xs) × AllGone gone xs × room) before e
  then (Call c) goes has = (heard, all, has)
  then (Gone app) goes has = (
    heard ∙ sym (heard_in-append before ((GoneEvent app, None) ∷ []) ∙ append-nil (heard_in before)),
    gone-append gone before ((GoneEvent app, None) ∷ []) all ((λ a e. same_app gone app a e goes), tt),
  )

  pub next-stands : (e : Option SeatEvent) → IfSome e (NotesGone gone) → IfSome e (λ _. room)
      → MatchOption e ((told ≡ heard_in before) × AllGone gone before)
      (StandsThen (λ xs. (told ≡ heard_in xs) × AllGone gone xs) (λ xs call. (told ≡ heard_in xs) × AllGone gone xs × room) before)
  next-stands None goes has = (heard, all)
  next-stands (Some e) goes has = then e goes has

-- ---- the reply

pub reply-stands : (told : List (ℕ × ReplyType)) (gone : List ℕ) (room : Type 0) (now : List Exchange) (app : ℕ) (reply : ReplyType)
    → IsAwaitedReply (λ xs call. (told ≡ heard_in xs) × AllGone gone xs × room) now app reply → (new : List (ℕ × ReplyType))
    → new ≡ told ++ (app, reply) ∷ [] → (new ≡ heard_in now) × AllGone gone now
reply-stands told gone room now app reply is new more = (
  more ∙ ap (λ l. l ++ (app, reply) ∷ []) is.waits_for.0 ∙ ap (λ l. heard_in is.before ++ l) (sym is.heard)
      ∙ sym (ap heard_in is.now_is ∙ heard_in-append is.before is.more),
  subst (AllGone gone) (sym is.now_is) (gone-append gone is.before is.more is.waits_for.1 (turn-gone gone is.call is.more is.turn)),
)
