-- The pending jobs, over one event.
use Rattle.std.proofs.Common.{◌≡◌, ◌≢◌, ℕ, ◌+◌, ◌<◌, ◌≤◌, Bool, true, false, cond, suc, length, arith, not, List, [], ◌∷◌, ◌++◌, map, Option, Some, None, refl, sym, subst, ◌∙◌, ap, inl, inr}
use Rattle.std.specs.Global.{Vec}
use Rattle.ck_calls.specs.Functions.{function_number}
use Rattle.std.specs.Option.{option_map}
use Rattle.std.specs.Prelude.{◌==◌, ◌&&◌, nat_lt, option_to_list, slice_index_or}
use Rattle.std.specs.List.{position, prefix_len, remove}
use Rattle.std.proofs.lemmas.Bool.Decides.{nat_tests}
use Rattle.std.proofs.lemmas.Bool.{cases_eq, eq-eqb, ne_eqb}
use Rattle.ck_calls.specs.declared.call.Call.{Call}
use Rattle.ck_calls.specs.declared.reply.Reply.{Reply}
use Rattle.model_views.specs.declared.fault.Fault.{Fault}
use Rattle.mech.specs.declared.job.Job.{Job}
use Rattle.keep.specs.Keeping.{Terms}
use Rattle.desk.specs.Desks.{DeskState}
use Rattle.model_worlds.specs.declared.check.Check.{Check}
use Rattle.serve_base.specs.Stores.{StoreState}
use Rattle.model_runs.specs.Applications.{Shows, desk_at, asked_by, is_answer, HasNumbers, IsOther, move_of, moved, jobs_of, HasJobs, IsOpen, TakesJob}
use Rattle.model_worlds.specs.declared.event.Event.TheVariants.{Call as EventCall, Finish, Gone}
use Rattle.serve_base.specs.declared.out.Out.TheVariants.{Reply as OutReply}
use Rattle.model_views.specs.Views.{Question}
use Rattle.model_views.specs.Answering.{Replies, Asks}
use Rattle.model_views.specs.Refusals.{resource_error}
use Rattle.model_worlds.specs.Worlds.{World, Move, Goes, Refuses, value_of, reveal_to_call, reveal_to_task, answer_at, result_at, change_for, called, says_called, goes, happens, told, reply_to}
use Rattle.serve_base.specs.Shown.{question_of}
use Rattle.model_runs.specs.Runs.{Lasting, LeavesBy, LeftBy, IsStep, call_change}
use Rattle.lists.proofs.ListLemmas.{map-push}
use Rattle.model_views.proofs.Blind.{Leaves}
use Rattle.model_answers.proofs.Proper.{leaves-answer, none-asked, over-result}
use Rattle.model_worlds.proofs.Tries.{seen-question}

-- ---- the jobs of one application

jobs_of-push_own : (app : ℕ) (out : List (ℕ × Job)) (j : Job) → jobs_of app (out ++ (app, j) ∷ []) ≡ jobs_of app out ++ j ∷ []
jobs_of-push_own app [] j = rw (eq-eqb app app refl) refl
jobs_of-push_own app (x ∷ out) j = elim (cases_eq app x.0) [
  | inl is ↦ rw (eq-eqb app x.0 is) (ap (λ js. x.1 ∷ js) (jobs_of-push_own app out j))
  | inr differ ↦ rw (ne_eqb app x.0 differ) (jobs_of-push_own app out j)
]

jobs_of-push_other : (b app : ℕ) (out : List (ℕ × Job)) (j : Job) → b ≢ app → jobs_of b (out ++ (app, j) ∷ []) ≡ jobs_of b out
jobs_of-push_other b app [] j differ = rw (ne_eqb b app differ) refl
jobs_of-push_other b app (x ∷ out) j differ = elim (cases_eq b x.0) [
  | inl is ↦ rw (eq-eqb b x.0 is) (ap (λ js. x.1 ∷ js) (jobs_of-push_other b app out j differ))
  | inr d ↦ rw (ne_eqb b x.0 d) (jobs_of-push_other b app out j differ)
]

-- ---- the first job of an application

-- is at this place, and not taken with others'
taken : (app : ℕ) (out : List (ℕ × Job)) (d : ℕ × Job) → prefix_len (λ j. not (app == j.0)) out < length out
    → TakesJob app out (Some (slice_index_or out (prefix_len (λ j. not (app == j.0)) out) d).1)
    (remove out (prefix_len (λ j. not (app == j.0)) out))
taken app [] d below = absurd (omega (arith, below))
taken app (x ∷ out) d below = elim (cases_eq app x.0) [
  | inl is ↦ rw (eq-eqb app x.0 is) (refl, λ b differ. rw (ne_eqb b x.0 (λ e. differ (e ∙ sym is))) refl)
  | inr differ ↦
      let k : 1 + prefix_len (λ j. not (app == j.0)) out < suc (length out) = rw (ne_eqb app x.0 differ) at below in
      let r = taken app out d (omega (arith, k)) in
      let e : prefix_len (λ j. not (app == j.0)) (x ∷ out) ≡ suc (prefix_len (λ j. not (app == j.0)) out) =
      rw (ne_eqb app x.0 differ) (omega arith) in
      subst (λ m. TakesJob app (x ∷ out) (Some (slice_index_or (x ∷ out) m d).1) (remove (x ∷ out) m)) (sym e)
      (rw (ne_eqb app x.0 differ) (
        r.0,
        λ b other. elim (cases_eq b x.0) [
          | inl own ↦ rw (eq-eqb b x.0 own) (ap (λ js. x.1 ∷ js) (r.1 b other))
          | inr d ↦ rw (ne_eqb b x.0 d) (r.1 b other)
        ],
      ))
]

not-there : (app : ℕ) (out : List (ℕ × Job)) → length out ≤ prefix_len (λ j. not (app == j.0)) out → jobs_of app out ≡ []
not-there app [] above = refl
not-there app (x ∷ out) above = elim (cases_eq app x.0) [
  | inl is ↦ let k : suc (length out) ≤ 0 = rw (eq-eqb app x.0 is) at above in absurd (omega (arith, k))
  | inr differ ↦ let k : suc (length out) ≤ 1 + prefix_len (λ j. not (app == j.0)) out = rw (ne_eqb app x.0 differ) at above in
      rw (ne_eqb app x.0 differ) (not-there app out (omega (arith, k)))
]

pub takes_some : (app : ℕ) (out : List (ℕ × Job)) (p : ℕ) (job : ℕ × Job) → position (λ j. app == j.0) out ≡ Some p
    → job ≡ slice_index_or out p job → TakesJob app out (Some job.1) (remove out p)
takes_some app out p job at is = step (nat_lt (prefix_len (λ j. not (app == j.0)) out) (length out)) refl at where
  step : (b : Bool) → nat_lt (prefix_len (λ j. not (app == j.0)) out) (length out) ≡ b
      → cond b (Some (prefix_len (λ j. not (app == j.0)) out)) None ≡ Some p → TakesJob app out (Some job.1) (remove out p)
  step true below at =
      let n : p ≡ prefix_len (λ j. not (app == j.0)) out = cc in
      let t = taken app out job (grind (arith, nat_tests)) in
      let j : slice_index_or out (prefix_len (λ j. not (app == j.0)) out) job ≡ job = sym (is ∙ ap (λ n. slice_index_or out n job) n) in
      rw n (rw j at t)
  step false below at = let k : None ≡ Some p = at in cc

pub takes_none : (app : ℕ) (out : List (ℕ × Job)) → position (λ j. app == j.0) out ≡ None → TakesJob app out None out
takes_none app out at = step (nat_lt (prefix_len (λ j. not (app == j.0)) out) (length out)) refl at where
  step : (b : Bool) → nat_lt (prefix_len (λ j. not (app == j.0)) out) (length out) ≡ b
      → cond b (Some (prefix_len (λ j. not (app == j.0)) out)) None ≡ None → TakesJob app out None out
  step true below at = let k : Some (prefix_len (λ j. not (app == j.0)) out) ≡ None = at in cc
  step false above at = (not-there app out (grind (arith, nat_tests)), refl)

-- ---- the pending call, by the jobs

abbrev asked : ℕ → Option Question → List (ℕ × Question)
asked app o = map (λ q. (app, q)) (option_to_list o)

pub open_is : (w : World) (app : ℕ) (out rest : List (ℕ × Job)) (job : Job) → HasJobs w out → TakesJob app out (Some job) rest
    → IsOpen w app job × (jobs_of app rest ≡ [])
open_is w app out rest job h taken =
    only (w.views app).question refl (jobs_of app rest) refl (ap (map asked_by) (sym taken.0) ∙ h app) where
      only : (o : Option Question) → (w.views app).question ≡ o → (js : List Job) → jobs_of app rest ≡ js
          → asked_by job ∷ map asked_by js ≡ asked app o → IsOpen w app job × (jobs_of app rest ≡ [])
      only None at js rest_is e = cc
      only (Some q) at (j ∷ js) rest_is e = cc
      only (Some q) at [] rest_is e =
          let found : ℕ × Question = asked_by job in
          let put : ℕ × Question = (app, q) in
          let p : found ≡ put = cc in
          (record { asker = ap (λ x. x.0) p; question = at ∙ ap (λ x. Some x.1) (sym p) }, rest_is)

pub no_question : (w : World) (app : ℕ) (out : List (ℕ × Job)) → HasJobs w out → jobs_of app out ≡ [] → (w.views app).question ≡ None
no_question w app out h is = only (w.views app).question (ap (map asked_by) (sym is) ∙ h app) where
  only : (o : Option Question) → [] ≡ asked app o → o ≡ None
  only None e = refl
  only (Some q) e = cc

module _ (w : World) (out : List (ℕ × Job)) (h : HasJobs w out) (app : ℕ) (shows : World → Type 0)
    (prior left : Option Lasting → Type 0) where
  abbrev pub Left : Move → Type 0
  Left m = (l : Option Lasting) → left l → LeftBy prior w m l

  -- ---- a call
  module _ (call : Call) (random : Vec ℕ) where
    reply_jobs : (r : Reply) → Replies r ≡ (answer_at w app call random.items).says → HasJobs (goes w (EventCall app call random)) out
    reply_jobs r says b = elim (cases_eq b app) [
      | inl is ↦ rw (eq-eqb b app is)
          (rw is (h app ∙ ap (asked app)
          (sym (subst (λ s. Leaves (w.views app).question s (answer_at w app call random.items).view.question) (sym says)
          (leaves-answer (w.views app) call random.items (reveal_to_call w app call))))))
      | inr differ ↦ rw (ne_eqb b app differ)
          (h b ∙ ap (asked b) (sym (seen-question (change_for b w app (answer_at w app call random.items)) (w.views b))))
    ]

    -- that is answered
    pub step_reply : (r : Reply) → Replies r ≡ says_called w app call random.items (resource_error r)
        → shows (called w app call random.items (resource_error r))
        → ((l : Option Lasting) → left l
        → LeavesBy prior (call_change w app call random.items) (called w app call random.items None) (resource_error r) l)
        → IsStep shows prior left w (EventCall app call random) ((app, r) ∷ []) out
    step_reply r says sh l = both (resource_error r) says sh l where
      both : (o : Option Fault) → Replies r ≡ says_called w app call random.items o → shows (called w app call random.items o)
          → ((l : Option Lasting) → left l
          → LeavesBy prior (call_change w app call random.items) (called w app call random.items None) o l)
          → IsStep shows prior left w (EventCall app call random) ((app, r) ∷ []) out
      both None is s l = record {
        move = Goes (EventCall app call random);
        takes = refl;
        tells = ap (told app) (sym is);
        shows = s;
        jobs = reply_jobs r is;
        leaves = l;
      }
      both (Some fault) is s l = record {
        move = Refuses (EventCall app call random) fault;
        takes = refl;
        tells = ap (told app) (sym is);
        shows = s;
        jobs = h;
        leaves = l;
      }

    -- -- that returns a job
    pub step_ask : (job : Job) → job.app ≡ app → Asks (question_of job) ≡ (answer_at w app call random.items).says
        → shows (called w app call random.items None)
        → ((l : Option Lasting) → left l
        → LeavesBy prior (call_change w app call random.items) (called w app call random.items None) None l)
        → IsStep shows prior left w (EventCall app call random) [] (out ++ (app, job) ∷ [])
    step_ask job asker says sh l = record {
      move = Goes (EventCall app call random);
      takes = refl;
      tells = ap (told app) (sym says);
      shows = sh;
      leaves = l;
      jobs = λ b. elim (cases_eq b app) [
        | inl is ↦ rw (eq-eqb b app is) (rw is (
            ap (map asked_by) (jobs_of-push_own app out job) ∙ map-push asked_by (jobs_of app out) job
            ∙ ap (λ qs. qs ++ asked_by job ∷ [])
            (h app ∙ ap (asked app) (none-asked (w.views app) call random.items (reveal_to_call w app call) (question_of job) (sym says)))
            ∙ ap (λ a. (a, question_of job) ∷ []) asker
            ∙ ap (asked app) (sym (subst (λ s. Leaves (w.views app).question s (answer_at w app call random.items).view.question)
            (sym says) (leaves-answer (w.views app) call random.items (reveal_to_call w app call))))))
        | inr differ ↦ rw (ne_eqb b app differ)
            (ap (map asked_by) (jobs_of-push_other b app out job differ) ∙ h b
            ∙ ap (asked b) (sym (seen-question (change_for b w app (answer_at w app call random.items)) (w.views b))))
      ];
    }

  -- ---- a result
  module _ (rest : List (ℕ × Job)) (none : jobs_of app rest ≡ []) (others : (b : ℕ) → b ≢ app → jobs_of b rest ≡ jobs_of b out) where
    finish_jobs : (q : Question) (o : Option Fault) → (w.views app).question ≡ Some q → HasJobs (happens w (moved (Finish app) o)) rest
    finish_jobs q None is = λ b. elim (cases_eq b app) [
      | inl e ↦ rw is (rw (eq-eqb b app e)
          (rw e (ap (map asked_by) none
          ∙ ap (asked app) (sym (over-result (w.views app) (value_of q.task) (reveal_to_task w app q.task))))))
      | inr d ↦ rw is (rw (ne_eqb b app d)
          (ap (map asked_by) (others b d) ∙ h b ∙ ap (asked b) (sym (seen-question (change_for b w app (result_at w app q)) (w.views b)))))
    ]
    finish_jobs q (Some fault) is = λ b. elim (cases_eq b app) [
      | inl e ↦ rw is (rw (eq-eqb b app e) (rw e (ap (map asked_by) none)))
      | inr d ↦ rw is (rw (ne_eqb b app d) (ap (map asked_by) (others b d) ∙ h b))
    ]

    pub step_finish : (job : Job) (r : Reply) → IsOpen w app job → reply_to w (move_of (Finish app) (OutReply r)) ≡ (app, r) ∷ []
        → shows (happens w (move_of (Finish app) (OutReply r))) → Left (move_of (Finish app) (OutReply r))
        → IsStep shows prior left w (Finish app) ((app, r) ∷ []) rest
    step_finish job r is tells sh l = both (resource_error r) tells sh l where
      both : (o : Option Fault) → reply_to w (moved (Finish app) o) ≡ (app, r) ∷ [] → shows (happens w (moved (Finish app) o))
          → Left (moved (Finish app) o) → IsStep shows prior left w (Finish app) ((app, r) ∷ []) rest
      both None t s l = record {
        move = Goes (Finish app);
        takes = refl;
        tells = t;
        shows = s;
        jobs = finish_jobs (question_of job) None is.question;
        leaves = l;
      }
      both (Some fault) t s l = record {
        move = Refuses (Finish app) fault;
        takes = refl;
        tells = t;
        shows = s;
        jobs = finish_jobs (question_of job) (Some fault) is.question;
        leaves = l;
      }

    -- -- ---- a disconnect
    pub step_gone : shows (goes w (Gone app)) → ((l : Option Lasting) → left l → prior l) → IsStep shows prior left w (Gone app) [] rest
    step_gone sh l = record {
      move = Goes (Gone app);
      takes = refl;
      tells = refl;
      shows = sh;
      leaves = λ x may. inl (l x may, refl);
      jobs = λ b. elim (cases_eq b app) [
        | inl e ↦ rw (eq-eqb b app e) (rw e (ap (map asked_by) none))
        | inr d ↦ rw (ne_eqb b app d) (ap (map asked_by) (others b d) ∙ h b)
      ];
    }

  -- -- ---- no call is pending
  pub step_pass : (w.views app).question ≡ None → shows w → ((l : Option Lasting) → left l → prior l)
      → IsStep shows prior left w (Finish app) [] out
  step_pass none sh l = record {
    move = Goes (Finish app);
    takes = refl;
    tells = rw none refl;
    shows = rw none sh;
    leaves = λ x may. inl (l x may, rw none refl);
    jobs = λ b. rw none (h b);
  }

-- an application that disconnects has no job left
pub none-left : (app : ℕ) (out : List (ℕ × Job)) (job : Option Job) (rest : List (ℕ × Job)) (w : World) → HasJobs w out
    → TakesJob app out job rest → (jobs_of app rest ≡ []) × ((b : ℕ) → b ≢ app → jobs_of b rest ≡ jobs_of b out)
none-left app out None rest w h taken = (ap (jobs_of app) taken.1 ∙ taken.0, λ b differ. ap (jobs_of b) taken.1)
none-left app out (Some job) rest w h taken = ((open_is w app out rest job h taken).1, taken.1)

-- ---- the test of a job

pub answer-has : (o : Option Job) (app : ℕ) (job : Job) → HasNumbers (option_map question_of o) app job → is_answer o app job ≡ true
answer-has None app job has = absurd has
answer-has (Some j) app job has =
    rw (
      eq-eqb job.app app has.0,
      eq-eqb job.question j.question has.1,
      eq-eqb (function_number job.function) (function_number j.function) has.2,
    ) refl

-- there is a pending call then
pub asked-of : (o : Option Question) (app : ℕ) (job : Job) → HasNumbers o app job → (q : Question) × (o ≡ Some q)
asked-of None app job has = absurd has
asked-of (Some q) app job has = (q, refl)

-- and its job
pub job-of : (o : Option Job) (app : ℕ) (job : Job) → HasNumbers (option_map question_of o) app job → (j : Job) × (o ≡ Some j)
job-of None app job has = absurd has
job-of (Some j) app job has = (j, refl)

and-false : (b : Bool) → (b && false) ≡ false
and-false true = refl
and-false false = refl

pub answer-other : (o : Option Job) (app : ℕ) (job : Job) → IsOther (option_map question_of o) app job → is_answer o app job ≡ false
answer-other None app job other = refl
answer-other (Some j) app job (inl asker) = rw (ne_eqb job.app app asker) refl
answer-other (Some j) app job (inr (inl number)) = rw (ne_eqb job.question j.question number) (and-false (job.app == app))
answer-other (Some j) app job (inr (inr f)) =
    rw (ne_eqb (function_number job.function) (function_number j.function) f)
    (ap (λ b. job.app == app && b) (and-false (job.question == j.question)) ∙ and-false (job.app == app))

-- as the token determines it by its desks
module _ {K : Type 0} (terms : Terms K) (store : StoreState K) (ds : List (ℕ × DeskState)) (cs : List Check) (app : ℕ) (job : Job)
    (w : World) (s : Shows terms (record { store = store; desks = ds; checks = cs }) w) where
  pub told-has : HasNumbers (w.views app).question app job → is_answer (desk_at ds app).question app job ≡ true
  told-has has = answer-has (desk_at ds app).question app job (rw (ap (λ v. v.question) (s.depicts.views app)) at has)
