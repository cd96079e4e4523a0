-- The result of a pending call at its desk.
use Rattle.std.proofs.Common.{◌≡◌, ◌⊎◌, inr, ℕ, false, true, Option, Some, None, Result, Ok, Err, refl, sym, ◌∙◌, ap, subst, inl, arith}
use Rattle.std.specs.Prelude.{IfErr, IfOk, IsSome, IsErrOf}
use Rattle.std.specs.Option.{option_map}
use Rattle.ck_types.specs.declared.rv.Rv.{Rv}
use Rattle.ck_types.specs.declared.rv.Rv.TheVariants.{DeviceError, FunctionFailed}
use Rattle.ck_types.specs.declared.rv.Rv.TheVariants as rv
use Rattle.ck_calls.specs.declared.reply.Reply.{Reply}
use Rattle.ck_calls.specs.declared.reply.Reply.TheVariants.{Code}
use Rattle.precede.specs.Condition.{code_of}
use Rattle.keep.specs.Contents.{Contents}
use Rattle.keep.specs.Keeping.{Counted, Terms}
use Rattle.mech.specs.declared.job.Job.{Job}
use Rattle.mech.specs.declared.outcome.Outcome.{Outcome}
use Rattle.mech.specs.Rooms.{HasRoom}
use Rattle.mech.specs.Works.{outcome_of}
use Rattle.desk.specs.Desks.{DeskState, SameDesk, over}
use Rattle.model_views.specs.declared.fault.Fault.{Fault}
use Rattle.model_views.specs.declared.fault.Fault.TheVariants.{Memory, Device}
use Rattle.model_worlds.specs.WorkResults.{told_of}
use Rattle.model_views.specs.Views.{View}
use Rattle.model_views.specs.Answering.{Replies, Answer, Reveal, answered, refuses}
use Rattle.model_views.specs.Refusals.{is_refusal, resource_error}
use Rattle.model_answers.specs.Answers.{answer_outcome, answer_question, answer_result}
use Rattle.model_views.proofs.Checks.{plain-row}
use Rattle.model_worlds.specs.Worlds.{reveal_by_outcome, value_of}
use Rattle.serve_base.specs.declared.refusal.Refusal.{Refusal}
use Rattle.serve_base.specs.declared.refusal.Refusal.TheVariants as refusals
use Rattle.serve_base.specs.Refusing.{DoesAs, EndsNone, GivesAnyway, IsDoneAs, IsDoneIf, IsPlainAs}
use Rattle.serve_base.specs.Short.{IsShort}
use Rattle.serve_base.specs.Shown.{objects_of, question_of, task_of, view_of, Fits, GivesAnswer, ShowsSame}
use Rattle.serve_base.specs.Stores.{StoreState, StoreHas, GaveAnswer, ServesAnswer}
use Rattle.serve_base.proofs.Gaves.{gave-quiet, gave-reply}
use Rattle.serve_base.proofs.Refusals.{does_as-is, lacks-does_as}
use Rattle.serve_base.proofs.Serving.{same-shows}
use Rattle.token.specs.declared.ending.Others.{Others}
use Rattle.model_runs.specs.Applications.{Finishes, answer_to_job, by_job, reveal_by_job, told_result}
use Rattle.token.specs.Endings.{OutcomeEndsBy, IsShortOutcome, outcome_answer, settled_reply, under_way_of}
use Rattle.token.proofs.Outcomes.{answer_by, answer-ends, ends_by, work-value}
use Rattle.token.proofs.Shortness.{outcome-short}
use Rattle.model_views.specs.Views.{sees}
use Rattle.model_views.specs.Changes.{Stays, in_list}
use Rattle.serve_base.specs.Stores.{LacksId, LeavesTried}

-- ---- the outcome of a call that is pending no more

pub over-view : (c : Contents) (d : DeskState) → over d ≡ d → answered (view_of c d) ≡ view_of c d
over-view c d is = ap (view_of c) is

-- nothing is asked
asked-none : (c : Contents) (d : DeskState) → d.question ≡ None → record (view_of c d) { question = None } ≡ view_of c d
asked-none c d none = let f : Option Job → View = λ q. record (view_of c d) { question = option_map question_of q } in ap f (sym none)

module _ {K : Type 0} (terms : Terms K) where
  -- the same answer, written otherwise
  ends-is : (f g : Contents → View → Answer) (before : DeskState) (r : Result Reply Refusal) (desk : DeskState)
      → ((c : Contents) → f c (view_of c before) ≡ g c (view_of c before))
      → IfOk r (λ reply. is_refusal reply ≡ true → ShowsSame before desk ⊎ GivesAnyway g before (Replies reply) desk)
      → IfOk r (λ reply. is_refusal reply ≡ true → ShowsSame before desk ⊎ GivesAnyway f before (Replies reply) desk)
  ends-is f g before (Ok reply) desk same refused = λ is. elim (refused is) [
    | inl k ↦ inl k
    | inr gives ↦ inr (λ c fits. subst (λ a. GivesAnswer a before.sessions.login c (Replies reply) c desk) (sym (same c)) (gives c fits))
  ]
  ends-is f g before (Err e) desk same refused = tt

  pub done-is : {given : Type 0} (writes : ℕ) (f g : Contents → View → Answer) (old new : StoreState K) (before : DeskState)
      (r : Result Reply Refusal) (desk : DeskState) → ((c : Contents) → f c (view_of c before) ≡ g c (view_of c before))
      → IsDoneIf given (λ said. GivesAnyway g before said desk) terms Replies writes g old new before r desk
      → IsDoneIf given (λ said. GivesAnyway f before said desk) terms Replies writes f old new before r desk
  done-is writes f g old new before r desk same done = record {
    serves = λ sure c h fits. does_as-is terms Replies (f c (view_of c before)) (g c (view_of c before)) c old new before desk r
        (same c) (done.serves sure c h fits);
    counts = done.counts;
    cause = done.cause;
    plain = done.plain;
    stays = done.stays;
    refused = ends-is f g before r desk same done.refused;
    short = done.short;
  }

  untouched : (store : StoreState K) → Counted terms store.keep store.keep 0 1
  untouched store = record { steady = λ s. s; doubt = omega arith; failures = omega arith; tried = omega arith; bounded = omega arith }

  -- an outcome is answered by what it is alone
  pub ends-as : (s : ℕ) (x : Outcome) (others : Others) (old new : StoreState K) (before : DeskState) (r : Result Reply Refusal)
      (desk : DeskState) → IsDoneIf (IsShortOutcome x)
      (λ said. GivesAnyway (λ c v. ends_by v (objects_of c)
      (under_way_of others) others.others_have_sessions s x) before said desk) terms Replies 1
      (λ c v. ends_by v (objects_of c) (under_way_of others) others.others_have_sessions s x) old new before r desk
      → OutcomeEndsBy terms s x others old new before r desk
  ends-as s x others old new before r desk done w q is session =
      done-is 1 (λ c v. answer_by v (objects_of c) (under_way_of others) others.others_have_sessions q w x)
      (λ c v. ends_by v (objects_of c) (under_way_of others) others.others_have_sessions s x) old new before r desk
      (λ c.
      let v = view_of c before in
      ap (answer_by v (objects_of c) (under_way_of others) others.others_have_sessions q w) is
      ∙ answer-ends v (objects_of c) (under_way_of others) others.others_have_sessions q w
      ∙ ap (ends_by v (objects_of c) (under_way_of others) others.others_have_sessions q.session) (sym is)
      ∙ ap (λ n. ends_by v (objects_of c) (under_way_of others) others.others_have_sessions n x) session)
      done

  -- it changes the desk alone
  pub done-at-desk : {given : Type 0} (a : View → Answer) (store : StoreState K) (d desk : DeskState) (reply : Reply) → over d ≡ d
      → resource_error reply ≡ None → ((v : View) → (a v).change ≡ Stays)
      → ((c : Contents) → Fits c d.handles.entries → GivesAnswer (a (view_of c d)) d.sessions.login c (Replies reply) c desk)
      → (given → IsShort reply) → IsDoneIf given (λ said. GivesAnyway (λ c v. a (answered v)) d said desk) terms Replies 1
      (λ c v. a (answered v)) store store d (Ok reply) desk
  done-at-desk a store d desk reply none plain still gives short = record {
    serves = λ sure c h fits. rw (over-view c d none)
        (gave-quiet terms (a (view_of c d)) d.sessions.login c store store (Replies reply) desk h (λ l may. may)
        (still (view_of c d)) (gives c fits));
    counts = untouched store;
    cause = λ device. let k : Ok reply ≡ Err refusals.Device = device in cc;
    plain = plain;
    stays = tt;
    refused = λ is. inr (λ c fits. subst (λ v. GivesAnswer (a v) d.sessions.login c (Replies reply) c desk) (sym (over-view c d none))
        (gives c fits));
    short = short;
  }

  -- a code that changes nothing
  pub done-code : {given : Type 0} (code : Rv) (store : StoreState K) (d : DeskState) → over d ≡ d
      → resource_error (Code code) ≡ None
      → IsDoneIf given (λ said. GivesAnyway (λ c v. refuses (answered v) code) d said d) terms Replies 1
      (λ c v. refuses (answered v) code) store store d (Err (refusals.Code code)) d
  done-code code store d none plain = record {
    serves = λ sure c h fits. (ap (λ v. refuses v code) (over-view c d none), record { has = h; leaves = λ l may. may; desk = refl });
    counts = untouched store;
    cause = λ device. let k : Err (refusals.Code code) ≡ Err refusals.Device = device in cc;
    plain = plain;
    stays = refl;
    refused = tt;
    short = λ few. tt;
  }

  -- what another crate has done at a view without a pending call
  pub done-over : {given : Type 0} (f : Contents → View → Answer) (old new : StoreState K) (d desk : DeskState)
      (r : Result Reply Refusal) → over d ≡ d → IsDoneAs terms Replies 1 f old new d r desk
      → IsDoneIf given (λ said. GivesAnyway (λ c v. f c (answered v)) d said desk) terms Replies 1
      (λ c v. f c (answered v)) old new d r desk
  done-over f old new d desk r none done = record {
    serves = λ sure c h fits. does_as-is terms Replies (f c (answered (view_of c d))) (f c (view_of c d)) c old new d desk r
        (ap (f c) (over-view c d none)) (done.serves sure c h fits);
    counts = done.counts;
    cause = done.cause;
    plain = done.plain;
    stays = done.stays;
    refused = refused-over r done.refused;
    short = λ few. done.short tt;
  } where
    refused-over : (r : Result Reply Refusal)
        → IfOk r (λ reply. is_refusal reply ≡ true → ShowsSame d desk ⊎ EndsNone (Replies reply))
        → IfOk r (λ reply. is_refusal reply ≡ true → ShowsSame d desk ⊎ GivesAnyway (λ c v. f c (answered v)) d (Replies reply) desk)
    refused-over (Ok reply) shows = λ is. elim (shows is) [
      | inl k ↦ inl k
      | inr none ↦ absurd none
    ]
    refused-over (Err e) shows = tt

-- ---- and what is returned for it

served-told : {K : Type 0} (terms : Terms K) (a : Answer) (c : Contents) (old new : StoreState K) (before mid desk : DeskState)
    (r : Result Reply Refusal) → mid ≡ over before → Fits c mid.handles.entries → DoesAs terms Replies a c old new mid r desk
    → ServesAnswer terms Replies a c old new before mid (settled_reply r) desk
served-told terms a c old new before mid desk (Ok reply) is fits does =
    subst (λ login. GaveAnswer terms a login c old new (Replies reply) desk) (ap (λ (d : DeskState). d.sessions.login) is) does
served-told terms a c old new before mid desk (Err (refusals.Condition row)) is fits does =
    subst (λ login. GaveAnswer terms a login c old new (Replies (Code (code_of rv.Ok row))) desk)
    (ap (λ (d : DeskState). d.sessions.login) is)
    (rw does.1.desk (gave-reply terms a c old new mid (Code (code_of rv.Ok row)) does.1.has does.1.leaves fits does.0))
served-told terms a c old new before mid desk (Err (refusals.Code code)) is fits does =
    subst (λ login. GaveAnswer terms a login c old new (Replies (Code code)) desk) (ap (λ (d : DeskState). d.sessions.login) is)
    (rw does.1.desk (gave-reply terms a c old new mid (Code code) does.1.has does.1.leaves fits does.0))
served-told terms a c old new before mid desk (Err refusals.Memory) is fits does =
    record {
      has = does.has;
      same = does.same;
      leaves = subst (λ login. LeavesTried terms (in_list (sees login) (objects_of c) a.change) old new c)
          (ap (λ (d : DeskState). d.sessions.login) is) does.leaves;
    }
served-told terms a c old new before mid desk (Err refusals.Device) is fits does =
    record {
      has = does.0.has;
      same = does.0.same;
      leaves = subst (λ login. LeavesTried terms (in_list (sees login) (objects_of c) a.change) old new c)
          (ap (λ (d : DeskState). d.sessions.login) is) does.0.leaves;
    }

plain-told : (r : Result Reply Refusal) → IsPlainAs Replies r → IfOk (settled_reply r) (λ reply. resource_error reply ≡ None)
plain-told (Ok reply) plain = plain
plain-told (Err (refusals.Condition row)) plain = plain-row row
plain-told (Err (refusals.Code code)) plain = plain
plain-told (Err refusals.Memory) plain = tt
plain-told (Err refusals.Device) plain = tt

blamed-told : (r : Result Reply Refusal) → IsErrOf (settled_reply r) Device → IsErrOf r refusals.Device
blamed-told (Ok reply) is = let k : Ok reply ≡ Err Device = is in cc
blamed-told (Err (refusals.Condition row)) is = let k : Ok (Code (code_of rv.Ok row)) ≡ Err Device = is in cc
blamed-told (Err (refusals.Code code)) is = let k : Ok (Code code) ≡ Err Device = is in cc
blamed-told (Err refusals.Memory) is = let k : Err Memory ≡ Err Device = is in cc
blamed-told (Err refusals.Device) is = refl

stays-told : (mid desk : DeskState) (r : Result Reply Refusal) → IfErr r (λ refusal. SameDesk mid desk)
    → IfErr (settled_reply r) (λ fault. SameDesk mid desk)
stays-told mid desk (Ok reply) stays = tt
stays-told mid desk (Err (refusals.Condition row)) stays = tt
stays-told mid desk (Err (refusals.Code code)) stays = tt
stays-told mid desk (Err refusals.Memory) stays = stays
stays-told mid desk (Err refusals.Device) stays = stays

-- a refusal leaves what is shown without the pending call, or what the answer says
refused-told : (f g : Contents → View → Answer) (before mid desk : DeskState) (r : Result Reply Refusal) → mid ≡ over before
    → ((c : Contents) → g c (view_of c before) ≡ f c (view_of c mid)) → IfErr r (λ refusal. SameDesk mid desk)
    → IfOk r (λ reply. is_refusal reply ≡ true → ShowsSame mid desk ⊎ GivesAnyway f mid (Replies reply) desk)
    → IfOk (settled_reply r) (λ reply. is_refusal reply ≡ true → ShowsSame (over before) desk ⊎ GivesAnyway g before (Replies reply) desk)
refused-told f g before mid desk (Ok reply) mid-is same stays refused = λ is. elim (refused is) [
  | inl k ↦ inl (subst (λ d. ShowsSame d desk) mid-is k)
  | inr gives ↦ inr (λ c fits. subst (λ login. GivesAnswer (g c (view_of c before)) login c (Replies reply) c desk)
      (ap (λ (d : DeskState). d.sessions.login) mid-is)
      (subst (λ a. GivesAnswer a mid.sessions.login c (Replies reply) c desk) (sym (same c)) (gives c (rw mid-is fits))))
]
refused-told f g before mid desk (Err (refusals.Condition row)) mid-is same stays refused =
    λ is. inl (subst (λ d. ShowsSame d desk) mid-is (same-shows mid desk stays))
refused-told f g before mid desk (Err (refusals.Code code)) mid-is same stays refused =
    λ is. inl (subst (λ d. ShowsSame d desk) mid-is (same-shows mid desk stays))
refused-told f g before mid desk (Err refusals.Memory) mid-is same stays refused = tt
refused-told f g before mid desk (Err refusals.Device) mid-is same stays refused = tt

short-told : (r : Result Reply Refusal) → IfOk r (λ reply. IsShort reply) → IfOk (settled_reply r) (λ reply. IsShort reply)
short-told (Ok reply) short = short
short-told (Err (refusals.Condition row)) short = tt
short-told (Err (refusals.Code code)) short = tt
short-told (Err refusals.Memory) short = tt
short-told (Err refusals.Device) short = tt

-- ---- the result of the job

module _ {K : Type 0} (terms : Terms K) (job : Job) (others : Others) (old new : StoreState K) (before : DeskState) where
  abbrev reveal : Contents → Reveal
  reveal = reveal_by_job job (under_way_of others) others.others_have_sessions

  -- of the pending call
  job-answer : (c : Contents) (j : Job) → before.question ≡ Some j
      → answer_to_job job (view_of c before) (reveal c)
      ≡ answer_outcome (view_of c (over before)) (by_job job (question_of j)) (task_of job.work.value)
      (value_of (task_of job.work.value)) (reveal c)
  unfolding answer_result
  job-answer c j asked =
      let v = view_of c before in
      let f : Option Job → Answer =
      λ q. answer_question (record v { question = option_map (by_job job) (option_map question_of q) })
      (option_map (by_job job) (option_map question_of q)) (value_of (task_of job.work.value)) (reveal c) in
      ap f asked

  pub finishes-by : (s : ℕ) (j : Job) (x : Outcome) (mid desk : DeskState) (r : Result Reply Refusal) (out : Result Reply Fault)
      → before.question ≡ Some j → s ≡ j.session → x ≡ outcome_of job.work.value → mid ≡ over before → out ≡ settled_reply r
      → HasRoom job.work.value x → ((k : K) → terms.is_steady k → terms.doubt k ≡ 0) → OutcomeEndsBy terms s x others old new mid r desk
      → Finishes terms job reveal old new before out desk
  finishes-by s j x mid desk r out asked session is mid-is told room sure_of ends =
      let q = by_job job (question_of j) in
      let done = ends job.work.value q is (sym session) in
      let value : told_of x ≡ value_of (task_of job.work.value) = ap told_of is ∙ work-value job.work.value in
      let answer : (c : Contents) → answer_to_job job (view_of c before) (reveal c)
      ≡ answer_outcome (view_of c mid) q (task_of job.work.value) (told_of x)
      (reveal_by_outcome (task_of job.work.value) (told_of x) (objects_of c) (under_way_of others) others.others_have_sessions) =
      λ c. job-answer c j asked
      ∙ ap (λ d. answer_outcome (view_of c d) q (task_of job.work.value) (value_of (task_of job.work.value)) (reveal c)) (sym mid-is)
      ∙ ap (λ y. answer_outcome (view_of c mid) q (task_of job.work.value) y
      (reveal_by_outcome (task_of job.work.value) y (objects_of c) (under_way_of others) others.others_have_sessions)) (sym value) in
      let does : terms.doubt new.keep ≡ 0 → (c : Contents) → StoreHas terms old c → Fits c before.handles.entries
      → DoesAs terms Replies (answer_to_job job (view_of c before) (reveal c)) c old new mid r desk =
      λ sure c h fits. does_as-is terms Replies (answer_to_job job (view_of c before) (reveal c))
      (answer_outcome (view_of c mid) q (task_of job.work.value) (told_of x)
      (reveal_by_outcome (task_of job.work.value) (told_of x) (objects_of c)
      (under_way_of others) others.others_have_sessions)) c old new mid desk r (answer c) (done.serves sure c h (rw mid-is fits)) in
      rw told (record {
        serves = λ sure c h fits. subst
            (λ d. ServesAnswer terms Replies (answer_to_job job (view_of c before) (reveal c)) c old new before d (settled_reply r) desk) mid-is
            (served-told terms (answer_to_job job (view_of c before) (reveal c)) c old new before mid desk r mid-is (rw mid-is fits)
            (does sure c h fits));
        counts = done.counts;
        cause = λ device. done.cause (blamed-told r device);
        steady = λ was device c h fits. lacks-does_as terms Replies
            (answer_to_job job (view_of c before) (reveal c)) c old new mid desk r
            (does (sure_of new.keep (done.counts.steady was)) c h fits) was (blamed-told r device);
        plain = plain-told r done.plain;
        stays = subst (λ d. IfErr (settled_reply r) (λ fault. SameDesk d desk)) mid-is (stays-told mid desk r done.stays);
        refused = refused-told (outcome_answer x others job.work.value q)
            (λ c v. answer_to_job job v (reveal c)) before mid desk r mid-is answer done.stays done.refused;
        short = λ few. short-told r (done.short (outcome-short job.work.value x is room few));
      })

module _ {K : Type 0} (terms : Terms K) (job : Job) (reveal : Contents → Reveal) (store : StoreState K) (before : DeskState) where
  -- an allocation failed in the job
  pub finishes-memory : (desk : DeskState) → desk ≡ over before → Finishes terms job reveal store store before (Err Memory) desk
  finishes-memory desk is = rw is (record {
    serves = λ sure c h fits. record { has = h; same = refl; leaves = λ l may. inl may };
    counts = untouched terms store;
    cause = λ device. let k : Err Memory ≡ Err Device = device in cc;
    steady = λ was device. let k : Err Memory ≡ Err Device = device in cc;
    plain = tt;
    stays = refl;
    refused = tt;
    short = λ few. tt;
  })

  -- no call is pending
  none-answer : (c : Contents) → before.question ≡ None
      → answer_to_job job (view_of c before) (reveal c) ≡ refuses (view_of c before) FunctionFailed
  unfolding answer_result
  none-answer c none =
      let v = view_of c before in
      let f : Option Job → Answer =
      λ q. answer_question (record v { question = option_map (by_job job) (option_map question_of q) })
      (option_map (by_job job) (option_map question_of q)) (value_of (task_of job.work.value)) (reveal c) in
      ap f none ∙ ap (λ u. refuses u FunctionFailed) (asked-none c before none)

  pub finishes-none : before.question ≡ None → Finishes terms job reveal store store before (Ok (Code FunctionFailed)) before
  finishes-none none = record {
    serves = λ sure c h fits. gave-reply terms (answer_to_job job (view_of c before) (reveal c)) c store store before
        (Code FunctionFailed) h (λ l may. may) fits (none-answer c none);
    counts = untouched terms store;
    cause = λ device. let k : Ok (Code FunctionFailed) ≡ Err Device = device in cc;
    steady = λ was device. let k : Ok (Code FunctionFailed) ≡ Err Device = device in cc;
    plain = refl;
    stays = tt;
    refused = λ is. inr (λ c fits. subst (λ a. GivesAnswer a before.sessions.login c (Replies (Code FunctionFailed)) c before)
        (sym (none-answer c none)) (record { says = refl; view = refl; changes = refl; fits = fits }));
    short = λ few. tt;
  }

-- the reveals of what is counted
pub finishes-as : {K : Type 0} (terms : Terms K) (job : Job) (f g : Contents → Reveal) (old new : StoreState K) (before : DeskState)
    (r : Result Reply Fault) (desk : DeskState) → ((c : Contents) → f c ≡ g c) → Finishes terms job f old new before r desk
    → Finishes terms job g old new before r desk
finishes-as terms job f g old new before r desk same done = record {
  serves = λ sure c h fits. subst
      (λ x. ServesAnswer terms Replies (answer_to_job job (view_of c before) x) c old new before (over before) r desk) (same c)
      (done.serves sure c h fits);
  counts = done.counts;
  cause = done.cause;
  steady = λ was device c h fits. subst (λ x. LacksId (answer_to_job job (view_of c before) x).change c) (same c)
      (done.steady was device c h fits);
  plain = done.plain;
  stays = done.stays;
  refused = refused-as r done.refused;
  short = done.short;
} where
  refused-as : (r : Result Reply Fault)
      → IfOk r (λ reply. is_refusal reply ≡ true → ShowsSame (over before) desk
      ⊎ GivesAnyway (λ c v. answer_to_job job v (f c)) before (Replies reply) desk)
      → IfOk r (λ reply. is_refusal reply ≡ true → ShowsSame (over before) desk
      ⊎ GivesAnyway (λ c v. answer_to_job job v (g c)) before (Replies reply) desk)
  refused-as (Ok reply) refused = λ is. elim (refused is) [
    | inl k ↦ inl k
    | inr gives ↦ inr (λ c fits. subst
        (λ x. GivesAnswer (answer_to_job job (view_of c before) x) before.sessions.login c (Replies reply) c desk) (same c) (gives c fits))
  ]
  refused-as (Err fault) refused = tt

-- ---- whatever is kept

module _ {K : Type 0} (terms : Terms K) (job : Job) (reveal : Contents → Reveal) (old new : StoreState K) (before : DeskState) where
  pub blames-device : (r : Result Reply Fault) (desk : DeskState) → Finishes terms job reveal old new before r desk
      → told_result r ≡ Code DeviceError → IsErrOf r Device
  blames-device (Ok reply) desk done is = let p : Some Device ≡ None = ap resource_error (sym is) ∙ done.plain in cc
  blames-device (Err Memory) desk done is = cc
  blames-device (Err Device) desk done is = refl

  pub stays-finished : (r : Result Reply Fault) (desk : DeskState) → Finishes terms job reveal old new before r desk
      → IsSome (resource_error (told_result r)) → SameDesk (over before) desk
  stays-finished (Ok reply) desk done some = let k : false ≡ true = subst IsSome done.plain some in cc
  stays-finished (Err fault) desk done some = done.stays

-- what is returned for a fault is short
pub short-result : (r : Result Reply Fault) → IfOk r (λ reply. IsShort reply) → IsShort (told_result r)
short-result (Ok reply) short = short
short-result (Err Memory) short = tt
short-result (Err Device) short = tt
