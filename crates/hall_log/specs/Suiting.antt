-- Which answers suit which events.
use Rattle.std.specs.Prelude.{[], ◌∷◌, Option, Some, None}
use Rattle.serve_base.specs.declared.out.Out.{Out}
use Rattle.serve_base.specs.declared.out.Out.TheVariants.{Reply, Ask}
use Rattle.serve_base.specs.Short.{IsShort, IsShortCall, IsShortSaid, IsShortTask}
use Rattle.serve_base.specs.Shown.{said_of, task_of}
use Rattle.hall_log.specs.declared.event.Event.{Event}
use Rattle.hall_log.specs.declared.event.Event.TheVariants.{Call, Finish, Gone}
use Rattle.hall_log.specs.Histories.{History}

-- A disconnect is not answered, and each other event is: a call with data that fits into a frame by something as short, or by a job for
-- it, and the result of a short job by a short reply.
abbrev pub Suits : Event → Option Out → Type 0
Suits (Call c) None = ⊥
Suits (Call c) (Some out) = IsShortCall c.call → IsShortSaid (said_of out)
Suits (Finish app done) None = ⊥
Suits (Finish app done) (Some (Ask job)) = ⊥
Suits (Finish app done) (Some (Reply reply)) = IsShortTask (task_of done.job.value.work.value) → IsShort reply
Suits (Gone app) None = Unit {0}
Suits (Gone app) (Some out) = ⊥

abbrev pub HistorySuits : History → Type 0
HistorySuits [] = Unit {0}
HistorySuits (x ∷ xs) = Suits x.1.0 x.1.1 × HistorySuits xs
