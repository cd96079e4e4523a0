-- What a seat may put: the rule of one seat.
use Rattle.std.specs.Prelude.{◌≡◌, ◌≢◌, ℕ, ◌%◌, List, [], ◌∷◌, ◌++◌, Option, Some, None}
use Rattle.mech.specs.declared.job.Job.{Job}
use Rattle.serve_base.specs.declared.out.Out.{Out}
use Rattle.serve_base.specs.declared.out.Out.TheVariants.{Reply, Ask}
use Rattle.ck_calls.specs.declared.app_call.AppCall.{AppCall}
use Rattle.hall_log.specs.declared.event.Event.{Event}
use Rattle.hall_log.specs.declared.event.Event.TheVariants.{Call, Finish, Gone}
use Rattle.hall_log.specs.Lists.{last}
use Rattle.hall_log.specs.Histories.{Exchange, event_app}

-- ---- jobs

-- the application and the job, where a call was answered by a job
abbrev pub job_in : ℕ → Out → Option (ℕ × Job)
job_in app (Ask job) = Some (app, job)
job_in app (Reply reply) = None

abbrev pub job_of : ℕ → Option Out → Option (ℕ × Job)
job_of app None = None
job_of app (Some out) = job_in app out

abbrev pub asks : Event → Option Out → Option (ℕ × Job)
asks (Call c) answer = job_of c.app answer
asks (Finish app done) answer = None
asks (Gone app) answer = None

-- the job that a seat has after its last exchange
abbrev pub pending : Option Exchange → Option (ℕ × Job)
pending None = None
pending (Some x) = asks x.0 x.1

-- ---- the rule

-- A result stands directly after a call that was answered by a job, is of that job, and stands nowhere else.
abbrev pub Follows : Option Exchange → Event → Type 0
Follows before (Call c) = pending before ≡ None
Follows before (Finish app done) = pending before ≡ Some (app, done.job.value)
Follows before (Gone app) = pending before ≡ None

abbrev pub gone_by : Event → Option ℕ
gone_by (Call c) = None
gone_by (Finish app done) = None
gone_by (Gone app) = Some app

-- the application disconnected by none of these
abbrev pub IsThere : ℕ → List Exchange → Type 0
IsThere app [] = Unit {0}
IsThere app (x ∷ xs) = (gone_by x.0 ≢ Some app) × IsThere app xs

-- a call was read of its application's connection
abbrev pub WasRead : (List Exchange → AppCall → Type 0) → List Exchange → Event → Type 0
WasRead was_read before (Call c) = was_read before c
WasRead was_read before (Finish app done) = Unit {0}
WasRead was_read before (Gone app) = Unit {0}

-- What seat s may put after these exchanges of its own: an event that follows so, of an application of that seat, which has not
-- disconnected. A call was read.
pub record MayPut (was_read : List Exchange → AppCall → Type 0) (s : ℕ) (before : List Exchange) (event : Event) : Type 0 where
  pub follows : Follows (last before) event
  pub own : event_app event % 4 ≡ s
  pub there : IsThere (event_app event) before
  pub read : WasRead was_read before event

-- Each event of seat s follows so, and is of an application of that seat, which has not disconnected.
abbrev pub IsProper : ℕ → List Exchange → Type 0
IsProper s xs = (before : List Exchange) (x : Exchange) (after : List Exchange) → xs ≡ before ++ x ∷ after
    → Follows (last before) x.0 × (event_app x.0 % 4 ≡ s) × IsThere (event_app x.0) before
