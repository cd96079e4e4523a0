-- What a refusal leaves of an application's desk, whatever is kept.
use Rattle.std.proofs.Common.{◌≡◌, ◌⊎◌, inl, inr, ℕ, List, true, Some, Result, Ok, Err, refl, sym, ◌∙◌, ap, subst}
use Rattle.std.specs.Prelude.{IfErr, IfOk}
use Rattle.std.specs.Option.{option_map}
use Rattle.ck_calls.specs.declared.call.Call.{Call}
use Rattle.keep.specs.Contents.{Contents}
use Rattle.mech.specs.declared.job.Job.{Job}
use Rattle.pin_record.specs.Records.{TokenRecord}
use Rattle.desk.specs.Desks.{DeskState, SameDesk, over}
use Rattle.model_views.specs.declared.fault.Fault.{Fault}
use Rattle.model_views.specs.Views.{View, Task, Ciphers, Takes, Signs, Verifies}
use Rattle.model_views.specs.Answering.{Answer, Replies, Reveal, answered}
use Rattle.model_views.specs.Refusals.{is_refusal, is_refused}
use Rattle.model_answers.specs.Answers.{answer}
use Rattle.model_answers.specs.Standing.{StandsAfter, ended_with, LeavesTries}
use Rattle.model_answers.proofs.Standing.{fails-alone, refuses-alone}
use Rattle.model_worlds.specs.Worlds.{value_of}
use Rattle.serve_base.specs.declared.out.Out.{Out}
use Rattle.keep.specs.Keeping.{Terms}
use Rattle.serve_base.specs.Refusing.{GivesAnyway}
use Rattle.serve_base.specs.Stores.{StoreState, Served}
use Rattle.serve_base.specs.Shown.{question_of, said_of, view_of, ShowsSame}
use Rattle.token.specs.Dispatching.{DeskStands}
use Rattle.model_runs.specs.Applications.{StandsAtDesk, StandsOverDesk, answer_to_job, asked_by_job, by_job, told_as, told_result}

-- ---- a call

pub stands-called : (call : Call) (random : List ℕ) (reveal : Reveal) (before desk : DeskState) (r : Result Out Fault)
    → IfErr r (λ fault. SameDesk before desk) → DeskStands (λ v. answer v call random reveal) before r desk
    → is_refused (said_of (told_as r)) ≡ true → StandsAtDesk call before desk
stands-called call random reveal before desk (Ok out) stays refused is c fits = elim (refused is) [
  | inl shows ↦ inl (shows c fits)
  | inr gives ↦
      let k = gives c fits in
      subst (λ u. StandsAfter call (view_of c before) u) (sym k.view)
      (refuses-alone (view_of c before) call random reveal (ap is_refused (sym k.says) ∙ is)).0
]
stands-called call random reveal before desk (Err fault) stays refused is c fits = inl (rw stays refl)

-- ---- a result

ended-record : (s : ℕ) (t : Task) (u : View) → (ended_with s t u).token_record ≡ u.token_record
ended-record s (Ciphers part o input) u = refl
ended-record s (Takes p o input) u = refl
ended-record s (Signs o input) u = refl
ended-record s (Verifies o input signature) u = refl
ended-record s _ u = refl

-- at the desk there are no tries
stands-view : (s : ℕ) (t : Task) (u new : View) (r : TokenRecord) → new ≡ ended_with s t (record u { token_record = r })
    → new.token_record ≡ u.token_record → new ≡ ended_with s t u
stands-view s t u new r is same =
    let kept : r ≡ u.token_record =
    sym (ended-record s t (record u { token_record = r })) ∙ sym (ap (λ (v : View). v.token_record) is) ∙ same in
    is ∙ ap (λ x. ended_with s t (record u { token_record = x })) kept

asked-at : (c : Contents) (before : DeskState) (j : Job) → before.question ≡ Some j → (view_of c before).question ≡ Some (question_of j)
asked-at c before j asked = ap (option_map question_of) asked

pub stands-finished : (job j : Job) (reveal : Contents → Reveal) (before desk : DeskState) (r : Result _ Fault)
    → before.question ≡ Some j → IfErr r (λ fault. SameDesk (over before) desk)
    → IfOk r (λ reply. is_refusal reply ≡ true → ShowsSame (over before) desk
    ⊎ GivesAnyway (λ c v. answer_to_job job v (reveal c)) before (Replies reply) desk)
    → is_refusal (told_result r) ≡ true → StandsOverDesk job before desk
stands-finished job j reveal before desk (Ok reply) asked stays refused is c fits = elim (refused is) [
  | inl shows ↦ inl (shows c fits)
  | inr gives ↦
      let v = view_of c before in
      let k = gives c fits in
      let q = by_job job (question_of j) in
      let left : LeavesTries (asked_by_job job v) q (answer_to_job job v (reveal c)) =
      fails-alone (asked_by_job job v) q (value_of (question_of job).task) (reveal c)
      (ap (option_map (by_job job)) (asked-at c before j asked)) (ap is_refused (sym k.says) ∙ is) in
      inr (
        question_of j,
        asked-at c before j asked,
        stands-view j.session (question_of job).task (answered v) (view_of c desk) _ (k.view ∙ left.view) refl,
      )
]
stands-finished job j reveal before desk (Err fault) asked stays refused is c fits = inl (rw stays refl)

-- ---- at a desk among others

-- of one with other capacities
pub stands-from : (f : View → Answer) (old before desk : DeskState) (r : Result Out Fault) → SameDesk old before
    → IfOk r (λ out. is_refused (said_of out) ≡ true → ShowsSame before desk ⊎ GivesAnyway (λ c. f) before (said_of out) desk)
    → DeskStands f old r desk
stands-from f old before desk (Ok out) same refused =
    subst (λ d. is_refused (said_of out) ≡ true → ShowsSame d desk ⊎ GivesAnyway (λ c. f) d (said_of out) desk) same refused
stands-from f old before desk (Err fault) same refused = tt

-- what is served over one with other capacities is served over it
pub served-from : {K : Type 0} (terms : Terms K) (f : View → Answer) (old new : StoreState K) (before met desk : DeskState)
    (r : Result Out Fault) → SameDesk before met
    → Served terms said_of f old new met met r desk → Served terms said_of f old new before before r desk
served-from terms f old new before met desk (Ok out) same served =
    subst (λ d. Served terms {E = Fault} said_of f old new d d (Ok out) desk) same served
served-from terms f old new before met desk (Err fault) same served = λ sure c h fits.
    let k = subst (λ d. Served terms {T = Out} said_of f old new d d (Err fault) desk) same served sure c h fits in
    record { has = k.has; same = k.same; leaves = k.leaves }

-- a failure with which nothing has changed but capacities is served
pub served-failed : {K : Type 0} (terms : Terms K) (f : View → Answer) (store : StoreState K) (before desk : DeskState)
    (r : Result Out Fault) → IfOk r (λ out. ⊥) → SameDesk before desk
    → Served terms said_of f store store before before r desk
served-failed terms f store before desk (Ok out) none same = absurd none
served-failed terms f store before desk (Err fault) none same =
    λ sure c h fits. record { has = h; same = same; leaves = λ left may. inl may }
