-- What a turn adds to a seat's exchanges.
use Rattle.std.proofs.Common.{◌≡◌, ◌≢◌, ℕ, List, [], ◌∷◌, ◌++◌, sym, refl, ap, ◌∙◌, subst, append_assoc, Option, Some, None}
use Rattle.std.specs.Prelude.{IfSome}
use Rattle.serve_base.specs.declared.out.Out.{Out}
use Rattle.hall_log.specs.Lists.{last, of}
use Rattle.hall_log.specs.Log.{served}
use Rattle.hall_log.specs.SeatLogs.{SeatLog, done_by}
use Rattle.hall_log.specs.declared.entry.Entry.{Entry}
use Rattle.ck_calls.specs.declared.app_call.AppCall.{AppCall}
use Rattle.hall_log.specs.declared.event.Event.{Event}
use Rattle.hall_log.specs.declared.event.Event.TheVariants.{Call}
use Rattle.hall_log.specs.Histories.{Exchange, event_app}
use Rattle.hall_log.specs.Putting.{IsProper, IsThere, asks, pending}
use Rattle.hall_log.proofs.Lists.{last_snoc}
use Rattle.hall.specs.SeatEvents.{seat_events_of, asked_in, heard_by, heard_in}

pub proper_front : (s : ℕ) (xs ys : List Exchange) → IsProper s (xs ++ ys) → IsProper s xs
proper_front s xs ys proper before d after is = proper before d (after ++ ys) (ap (λ l. l ++ ys) is ∙ append_assoc before (d ∷ after) ys)

IsThere-append : (app : ℕ) (xs ys : List Exchange) → IsThere app xs → IsThere app ys → IsThere app (xs ++ ys)
IsThere-append app [] ys a b = b
IsThere-append app (x ∷ xs) ys a b = (a.0, IsThere-append app xs ys a.1 b)

no_app : (app : ℕ) → None ≢ Some app
no_app app e = cc

-- by a call nobody goes
pub there_still : (app : ℕ) (old new : List Exchange) (c : AppCall) (o : Option Out) → IsThere app old
    → new ≡ old ++ (Call c, o) ∷ [] → IsThere app new
there_still app old new c o there is =
    subst (IsThere app) (sym is) (IsThere-append app old ((Call c, o) ∷ []) there ((λ e. no_app app e), tt))

-- what is pending after the last exchange
pub pending_is : (old new : List Exchange) (x : Exchange) → new ≡ old ++ x ∷ [] → pending (last new) ≡ asks x.0 x.1
pending_is old new x is = ap (λ l. pending (last l)) is ∙ ap pending (last_snoc old x)

pub two_more : {A : Type 0} (a b c : List A) (x y : A) → b ≡ a ++ x ∷ [] → c ≡ b ++ y ∷ [] → c ≡ a ++ x ∷ y ∷ []
two_more a b c x y e f = f ∙ ap (λ l. l ++ y ∷ []) e ∙ append_assoc a (x ∷ []) (y ∷ [])

pub asked_in-append : (xs ys : List Exchange) → asked_in (xs ++ ys) ≡ asked_in xs ++ asked_in ys
asked_in-append [] ys = refl
asked_in-append (x ∷ xs) ys = ap (λ l. seat_events_of x.0 ++ l) (asked_in-append xs ys)
    ∙ sym (append_assoc (seat_events_of x.0) (asked_in xs) (asked_in ys))

pub heard_in-append : (xs ys : List Exchange) → heard_in (xs ++ ys) ≡ heard_in xs ++ heard_in ys
heard_in-append [] ys = refl
heard_in-append (x ∷ xs) ys = ap (λ l. heard_by (event_app x.0) x.1 ++ l) (heard_in-append xs ys)
    ∙ sym (append_assoc (heard_by (event_app x.0) x.1) (heard_in xs) (heard_in ys))

pub if_some : {A : Type 0} (o : Option A) (P Q : A → Type 0) → ((x : A) → P x → Q x) → IfSome o P → IfSome o Q
if_some None P Q f h = tt
if_some (Some x) P Q f h = f x h

-- what a seat was told has just its own exchanges, which it knows
pub told_is : (p : SeatLog) (number : ℕ) (told : List Entry) → number ≡ p.seat → told ≡ p.told → of number (served told) ≡ done_by p
told_is p number told seat is = λ i. of (seat i) (served (is i))

-- an answer by another name
pub answered_so : (old new : List Exchange) (e : Event) (o p : Out) → new ≡ old ++ (e, Some o) ∷ [] → o ≡ p → new ≡ old ++ (e, Some p) ∷ []
answered_so old new e o p is same = is ∙ (λ i. old ++ (e, Some (same i)) ∷ [])
