-- The pending jobs over one event: they are those that seats have.
use Rattle.std.proofs.Common.{◌≡◌, ◌≢◌, ℕ, List, [], ◌∷◌, ◌++◌, refl, sym, ap, ◌∙◌, subst, inl, inr, append-nil, Option, Some, None}
use Rattle.std.specs.Prelude.{◌==◌, filter, not}
use Rattle.std.specs.Global.{Vec}
use Rattle.std.proofs.lemmas.Bool.{cases_eq, eq-eqb, ne_eqb}
use Rattle.ck_calls.specs.declared.call.Call.{Call as CallType}
use Rattle.ck_calls.specs.declared.reply.Reply.{Reply as ReplyType}
use Rattle.mech.specs.declared.job.Job.{Job}
use Rattle.mech.specs.declared.done.Done.{Done}
use Rattle.model_views.specs.declared.fault.Fault.{Fault}
use Rattle.model_views.specs.Answering.{Replies}
use Rattle.model_views.specs.Refusals.{resource_error, resource_error_in}
use Rattle.model_worlds.specs.declared.event.Event.{Event as ModelEvent}
use Rattle.model_worlds.specs.declared.event.Event.TheVariants.{Call as ModelCall, Finish as ModelFinish, Gone as ModelGone}
use Rattle.model_worlds.specs.Worlds.{World, Move, Goes, event_of, called, says_called, told, happens, reply_to}
use Rattle.serve_base.specs.declared.out.Out.{Out}
use Rattle.serve_base.specs.declared.out.Out.TheVariants.{Reply, Ask}
use Rattle.serve_base.specs.Shown.{said_of}
use Rattle.token.specs.States.{HasJobs, TakesJob, jobs_of, moved, IsStep, Lasting, LeavesBy, LeftBy, call_change}
use Rattle.token.proofs.States.{open_is, step_reply, step_ask, step_finish, step_gone}
use Rattle.hall_log.specs.declared.event.Event.{Event}
use Rattle.hall_log.specs.declared.event.Event.TheVariants.{Call, Finish, Gone}
use Rattle.hall_log.specs.Histories.{Exchange, event_app}
use Rattle.hall_log.specs.Putting.{asks, pending, Follows}
use Rattle.hall.specs.Histories.{Allowed, TellsEvent, TellsResult, as_event, moved_by, own_job, told_by, waiting}

-- ---- moves

pub event_moved : (event : ModelEvent) (fault : Option Fault) → event_of (moved event fault) ≡ event
event_moved event None = refl
event_moved event (Some fault) = refl

pub event_moved_by : (event : ModelEvent) (answer : Option Out) → event_of (moved_by event answer) ≡ event
event_moved_by event None = refl
event_moved_by event (Some out) = event_moved event (resource_error_in (said_of out))

-- a call by the answer is the event by the answer
pub called_is : (w : World) (app : ℕ) (call : CallType) (words : Vec ℕ) (fault : Option Fault)
    → called w app call words.items fault ≡ happens w (moved (ModelCall app call words) fault)
called_is w app call words None = refl
called_is w app call words (Some fault) = refl

pub left_is : (prior : Option Lasting → Type 0) (w : World) (app : ℕ) (call : CallType) (words : Vec ℕ) (fault : Option Fault)
    (l : Option Lasting)
    → LeavesBy prior (call_change w app call words.items) (called w app call words.items None) fault l
    → LeftBy prior w (moved (ModelCall app call words) fault) l
left_is prior w app call words None l x = x
left_is prior w app call words (Some fault) l x = x

-- what is returned is the answer's reply
reply_is : (w : World) (app : ℕ) (call : CallType) (words : Vec ℕ) (r : ReplyType) (fault : Option Fault)
    → Replies r ≡ says_called w app call words.items fault → reply_to w (moved (ModelCall app call words) fault) ≡ (app, r) ∷ []
reply_is w app call words r None says = ap (told app) (sym says)
reply_is w app call words r (Some fault) says = ap (told app) (sym says)

result_is : (w : World) (app : ℕ) (job : Job) (out : Out) → TellsResult w app job out
    → reply_to w (moved_by (ModelFinish app) (Some out)) ≡ told_by app (Some out)
result_is w app job (Reply r) t = t.1
result_is w app job (Ask j) t = absurd t

pub tells_is : (w : World) (event : Event) (answer : Option Out) → TellsEvent w event answer
    → reply_to w (moved_by (as_event event) answer) ≡ told_by (event_app event) answer
tells_is w (Call c) (Some (Reply r)) t = reply_is w c.app c.call c.random r (resource_error r) t.0
tells_is w (Call c) (Some (Ask j)) t = ap (told c.app) (sym t.0)
tells_is w (Call c) None t = absurd t
tells_is w (Finish app d) (Some out) t = result_is w app d.job.value out t
tells_is w (Finish app d) None t = absurd t
tells_is w (Gone app) None t = refl
tells_is w (Gone app) (Some out) t = absurd t

-- ---- lists of jobs

-- the list without an application's
abbrev pub without : ℕ → List (ℕ × Job) → List (ℕ × Job)
without app out = filter (λ j. not (app == j.0)) out

jobs_of-push : (app : ℕ) (out : List (ℕ × Job)) (j : ℕ × Job) → jobs_of app (out ++ j ∷ []) ≡ jobs_of app out ++ own_job app (Some j)
jobs_of-push app [] j = elim (cases_eq app j.0) [
  | inl is ↦ rw (eq-eqb app j.0 is) refl
  | inr differ ↦ rw (ne_eqb app j.0 differ) refl
]
jobs_of-push app (x ∷ out) j = elim (cases_eq app x.0) [
  | inl is ↦ rw (eq-eqb app x.0 is) (ap (λ js. x.1 ∷ js) (jobs_of-push app out j))
  | inr differ ↦ rw (ne_eqb app x.0 differ) (jobs_of-push app out j)
]

jobs_of-without_own : (app : ℕ) (out : List (ℕ × Job)) → jobs_of app (without app out) ≡ []
jobs_of-without_own app [] = refl
jobs_of-without_own app (x ∷ out) = elim (cases_eq app x.0) [
  | inl is ↦ rw (eq-eqb app x.0 is) (jobs_of-without_own app out)
  | inr differ ↦ rw (ne_eqb app x.0 differ) (rw (ne_eqb app x.0 differ) (jobs_of-without_own app out))
]

jobs_of-without_other : (b app : ℕ) (out : List (ℕ × Job)) → b ≢ app → jobs_of b (without app out) ≡ jobs_of b out
jobs_of-without_other b app [] differ = refl
jobs_of-without_other b app (x ∷ out) differ = elim (cases_eq app x.0) [
  | inl is ↦ rw (eq-eqb app x.0 is) (rw (ne_eqb b x.0 (λ e. differ (e ∙ sym is))) (jobs_of-without_other b app out differ))
  | inr d ↦ rw (ne_eqb app x.0 d) (elim (cases_eq b x.0) [
    | inl own ↦ rw (eq-eqb b x.0 own) (ap (λ js. x.1 ∷ js) (jobs_of-without_other b app out differ))
    | inr e ↦ rw (ne_eqb b x.0 e) (jobs_of-without_other b app out differ)
  ])
]

own_job-own : (app : ℕ) (job : Job) → own_job app (Some (app, job)) ≡ job ∷ []
own_job-own app job = rw (eq-eqb app app refl) refl

own_job-other : (b app : ℕ) (job : Job) → b ≢ app → own_job b (Some (app, job)) ≡ []
own_job-other b app job differ = rw (ne_eqb b app differ) refl

-- ---- the jobs after an event

abbrev pub out_after : Event → Option Out → List (ℕ × Job) → List (ℕ × Job)
out_after (Call c) (Some (Ask j)) out = out ++ (c.app, j) ∷ []
out_after (Call c) (Some (Reply r)) out = out
out_after (Call c) None out = out
out_after (Finish app d) answer out = without app out
out_after (Gone app) answer out = out

takes_own : (app : ℕ) (out : List (ℕ × Job)) (p : Option Exchange) (job : Job) → pending p ≡ Some (app, job)
    → jobs_of app out ≡ waiting app p → TakesJob app out (Some job) (without app out)
takes_own app out p job is owns = (
  owns ∙ ap (own_job app) is ∙ own_job-own app job ∙ ap (λ js. job ∷ js) (sym (jobs_of-without_own app out)),
  λ b differ. jobs_of-without_other b app out differ,
)

none_own : (app : ℕ) (out : List (ℕ × Job)) (p : Option Exchange) → pending p ≡ None → jobs_of app out ≡ waiting app p
    → jobs_of app out ≡ []
none_own app out p is owns = owns ∙ ap (own_job app) is

pub allowed_after : (w : World) (out : List (ℕ × Job)) → HasJobs w out → (p : Option Exchange) (event : Event) → Follows p event
    → jobs_of (event_app event) out ≡ waiting (event_app event) p → Allowed w event
allowed_after w out h p (Call c) f owns = tt
allowed_after w out h p (Finish app d) f owns =
    (open_is w app out (without app out) d.job.value h (takes_own app out p d.job.value f owns)).0
allowed_after w out h p (Gone app) f owns = tt

jobs_result : (w : World) (out : List (ℕ × Job)) → HasJobs w out → (p : Option Exchange) (app : ℕ) (d : Done) (o : Out)
    → pending p ≡ Some (app, d.job.value) → jobs_of app out ≡ waiting app p
    → TellsResult w app d.job.value o → HasJobs (happens w (moved_by (ModelFinish app) (Some o))) (without app out)
jobs_result w out h p app d (Ask j) f owns t = absurd t
jobs_result w out h p app d (Reply r) f owns t =
    let m : Move = moved_by (ModelFinish app) (Some (Reply r)) in
    let none : Option Lasting → Type 0 = λ l. ⊥ in
    let st : IsStep (λ v. v ≡ happens w m) none none w (ModelFinish app) ((app, r) ∷ []) (without app out) =
    step_finish w out h app (λ v. v ≡ happens w m) none none (without app out) (jobs_of-without_own app out)
    (λ b differ. jobs_of-without_other b app out differ) d.job.value r t.0 t.1 refl (λ l x. absurd x) in
    subst (λ v. HasJobs v (without app out)) st.shows st.jobs

pub jobs_after : (w : World) (out : List (ℕ × Job)) → HasJobs w out → (p : Option Exchange) (event : Event) (answer : Option Out)
    → Follows p event → jobs_of (event_app event) out ≡ waiting (event_app event) p
    → TellsEvent w event answer → HasJobs (happens w (moved_by (as_event event) answer)) (out_after event answer out)
jobs_after w out h p (Call c) (Some (Reply r)) f owns t =
    let m : Move = moved_by (as_event (Call c)) (Some (Reply r)) in
    let none : Option Lasting → Type 0 = λ l. ⊥ in
    let st : IsStep (λ v. v ≡ happens w m) none none w (ModelCall c.app c.call c.random) ((c.app, r) ∷ []) out =
    step_reply w out h c.app (λ v. v ≡ happens w m) none none c.call c.random r t.0
    (called_is w c.app c.call c.random (resource_error r)) (λ l x. absurd x) in
    subst (λ v. HasJobs v out) st.shows st.jobs
jobs_after w out h p (Call c) (Some (Ask j)) f owns t =
    let m : Move = moved_by (as_event (Call c)) (Some (Ask j)) in
    let none : Option Lasting → Type 0 = λ l. ⊥ in
    let st : IsStep (λ v. v ≡ happens w m) none none w (ModelCall c.app c.call c.random) [] (out ++ (c.app, j) ∷ []) =
    step_ask w out h c.app (λ v. v ≡ happens w m) none none c.call c.random j t.1 t.0 refl (λ l x. absurd x) in
    subst (λ v. HasJobs v (out ++ (c.app, j) ∷ [])) st.shows st.jobs
jobs_after w out h p (Call c) None f owns t = absurd t
jobs_after w out h p (Finish app d) (Some o) f owns t = jobs_result w out h p app d o f owns t
jobs_after w out h p (Finish app d) None f owns t = absurd t
jobs_after w out h p (Gone app) None f owns t =
    let m : Move = Goes (ModelGone app) in
    let none : Option Lasting → Type 0 = λ l. ⊥ in
    let st : IsStep (λ v. v ≡ happens w m) none none w (ModelGone app) [] out =
    step_gone w out h app (λ v. v ≡ happens w m) none none out (none_own app out p f owns) (λ b differ. refl) refl (λ l x. absurd x) in
    subst (λ v. HasJobs v out) st.shows st.jobs
jobs_after w out h p (Gone app) (Some o) f owns t = absurd t

-- ---- whose they are

-- those of the seat's applications are of its last exchange
pub own_after : (w : World) (out : List (ℕ × Job)) (p : Option Exchange) (event : Event) (answer : Option Out) (a : ℕ)
    → Follows p event → jobs_of a out ≡ waiting a p
    → TellsEvent w event answer → jobs_of a (out_after event answer out) ≡ own_job a (asks event answer)
own_after w out p (Call c) (Some (Reply r)) a f owns t = none_own a out p f owns
own_after w out p (Call c) (Some (Ask j)) a f owns t = jobs_of-push a out (c.app, j)
    ∙ ap (λ js. js ++ own_job a (Some (c.app, j))) (none_own a out p f owns)
own_after w out p (Call c) None a f owns t = absurd t
own_after w out p (Finish app d) answer a f owns t = elim (cases_eq a app) [
  | inl is ↦ ap (λ b. jobs_of b (without app out)) is ∙ jobs_of-without_own app out
  | inr differ ↦ jobs_of-without_other a app out differ ∙ owns ∙ ap (own_job a) f ∙ own_job-other a app d.job.value differ
]
own_after w out p (Gone app) answer a f owns t = none_own a out p f owns

-- and the others' stay
pub other_after : (out : List (ℕ × Job)) (event : Event) (answer : Option Out) (a : ℕ) → a ≢ event_app event
    → jobs_of a (out_after event answer out) ≡ jobs_of a out
other_after out (Call c) (Some (Reply r)) a differ = refl
other_after out (Call c) (Some (Ask j)) a differ = jobs_of-push a out (c.app, j)
    ∙ ap (λ js. jobs_of a out ++ js) (own_job-other a c.app j differ) ∙ append-nil (jobs_of a out)
other_after out (Call c) None a differ = refl
other_after out (Finish app d) answer a differ = jobs_of-without_other a app out differ
other_after out (Gone app) answer a differ = refl
