-- What has been served grows event by event.
use Rattle.std.proofs.Common.{◌≡◌, ℕ, List, [], ◌∷◌, ◌++◌, subst, Option}
use Rattle.model_worlds.specs.Worlds.{World}
use Rattle.serve_base.specs.declared.out.Out.{Out}
use Rattle.keep.specs.Keeping.{Terms}
use Rattle.token.specs.States.{Lasting, TokenState}
use Rattle.hall_log.specs.Lists.{of}
use Rattle.ck_calls.specs.declared.app_call.AppCall.{AppCall}
use Rattle.hall_log.specs.declared.event.Event.{Event}
use Rattle.hall_log.specs.Histories.{AllMay, AllOwn, Exchange, History}
use Rattle.hall_log.specs.Putting.{MayPut}
use Rattle.hall_log.proofs.Mays.{all_own, may_more, proper_all}
use Rattle.hall_log.specs.Suiting.{HistorySuits, Suits}
use Rattle.hall.specs.Terms.{MachineTerms}
use Rattle.hall.specs.Given.{Did, IsLed, IsSoFar, Serves}
use Rattle.hall.specs.Histories.{AllProper}
use Rattle.hall.proofs.MoreHistory.{SpareLaw, served_more, served_none}

pub proper_so : (was_read : List Exchange → AppCall → Type 0) (history : History) → AllMay (MayPut was_read) history → AllProper history
proper_so was_read history all s = proper_all was_read history s all

module _ {T : Type 0} (terms : MachineTerms T) where
  pub led_none : (m : T) → IsLed terms m m
  led_none m = record {
    history = [];
    proper = proper_so (λ before call. Unit {0}) [] tt;
    served = served_none terms m;
  }

  module _ (was_read : List Exchange → AppCall → Type 0) where
    pub so_none : (m : T) → IsSoFar terms was_read m m []
    so_none m = (served_none terms m, tt)

    pub so_led : (m n : T) (ts : History) → IsSoFar terms was_read m n ts
        → IsLed terms m n
    so_led m n ts so = record { history = ts; proper = proper_so was_read ts so.1; served = so.0 }

    -- the machine answered one event more, which its seat might put, and which has two names
    pub so_more : (m n k : T) (ts : History) (s : ℕ) (e f : Event) (o : Option Out)
        → IsSoFar terms was_read m n ts → Prim.∥◌∥₁ (MayPut was_read s (of s ts) f)
        → e ≡ f → Suits e o → Did terms n k e o → SpareLaw terms
        → IsSoFar terms was_read m k (ts ++ (s, (f, o)) ∷ [])
    so_more m n k ts s e f o so may is suits did law =
        let d = subst (λ (x : Event). Did terms n k x o) is did in (
          served_more terms m n k ts s f o so.0
              (subst (λ (x : Event). Suits x o) is suits) d.counts d.takes law d.spends,
          may_more (MayPut was_read) ts (s, (f, o)) so.1 may,
        )

-- in what a machine has served each event is of an application of its own seat
pub own_so : {T : Type 0} (terms : MachineTerms T) (was_read : List Exchange → AppCall → Type 0) (began : T) (history : History)
    → Serves terms was_read began history → AllOwn history
own_so terms was_read began history so = all_own (MayPut was_read) history (λ s before e may. may.own) so.1.1

-- and each has an answer that suits it
pub suits_so : {T : Type 0} (terms : MachineTerms T) (was_read : List Exchange → AppCall → Type 0) (began : T)
    (history : History) → Serves terms was_read began history → HistorySuits history
suits_so terms was_read began history so = so.1.0.suited
