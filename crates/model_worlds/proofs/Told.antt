-- An application gets the replies of its trace.
use Rattle.std.proofs.Common.{◌≡◌, ◌≢◌, ℕ, Bool, true, false, cond, List, [], ◌∷◌, ◌++◌, Option, Some, None, refl, sym, subst, ◌∙◌, ap, inl, inr}
use Rattle.std.specs.List.{AllByRecursion}
use Rattle.std.proofs.lemmas.Bool.{cases_eq, eq-eqb, ne_eqb}
use Rattle.ck_types.specs.declared.rv.Rv.TheVariants.{HostMemory, DeviceError}
use Rattle.ck_calls.specs.declared.call.Call.{Call as CallType}
use Rattle.ck_calls.specs.declared.reply.Reply.{Reply}
use Rattle.model_views.specs.TaskResults.{TaskResult, mask_outcome}
use Rattle.ck_calls.specs.declared.reply.Reply.TheVariants.{Code}
use Rattle.model_views.specs.declared.fault.Fault.{Fault}
use Rattle.model_views.specs.declared.fault.Fault.TheVariants.{Memory, Device}
use Rattle.model_worlds.specs.declared.event.Event.TheVariants.{Call, Finish, Gone}
use Rattle.model_views.specs.Views.{Question, View, left, mask}
use Rattle.model_views.specs.Changes.{Change, mask_change, seen, is_seen}
use Rattle.model_views.specs.Answering.{Said, Replies, Asks, mask_said, Answer, Reveal, mask_reveal, shown, answered}
use Rattle.model_answers.specs.Answers.{answer, answer_result}
use Rattle.model_views.specs.Refusals.{refusal}
use Rattle.model_worlds.specs.Worlds.{World, answer_at, result_at, value_of, reveal_to_call, reveal_to_task, Move, Goes, Refuses, change_for, happens, after, told, finish_tells, finish_refusal, finish_refused, finished, reply_to, replies}
use Rattle.model_worlds.specs.Traces.{Moment, Calls, Gets, CallFails, ResultFails, Leaves, Sees, saw, got, saw_result, failed, moments, trace, said, replies_told, view_told, replies_to, NoResourceError, HasNoFailure, IsTold}
use Rattle.model_views.proofs.Masks.{seen-mask, left-mask}
use Rattle.model_views.proofs.Seen.{unseen-view}
use Rattle.model_answers.proofs.Proper.{shown-answer, shown-result}

-- what others change comes as it is seen
replies_told-saw : (v : View) (change : Change) (ms : List Moment)
    → replies_told (mask v) (saw v change ++ ms) ≡ replies_told (mask (seen change v)) ms
replies_told-saw v change ms = step (is_seen v change) refl where
  step : (b : Bool) → is_seen v change ≡ b
      → replies_told (mask v) (cond b (Sees (mask_change change) ∷ []) [] ++ ms) ≡ replies_told (mask (seen change v)) ms
  step true is = ap (λ u. replies_told u ms) (seen-mask v change)
  step false is = ap (λ u. replies_told u ms) (unseen-view v change is)

view_told-saw : (v : View) (change : Change) (ms : List Moment)
    → view_told (mask v) (saw v change ++ ms) ≡ view_told (mask (seen change v)) ms
view_told-saw v change ms = step (is_seen v change) refl where
  step : (b : Bool) → is_seen v change ≡ b
      → view_told (mask v) (cond b (Sees (mask_change change) ∷ []) [] ++ ms) ≡ view_told (mask (seen change v)) ms
  step true is = ap (λ u. view_told u ms) (seen-mask v change)
  step false is = ap (λ u. view_told u ms) (unseen-view v change is)

pub replies_to-append : (app : ℕ) (xs ys : List (ℕ × Reply)) → replies_to app (xs ++ ys) ≡ replies_to app xs ++ replies_to app ys
replies_to-append app [] ys = refl
replies_to-append app (x ∷ xs) ys = elim (cases_eq app x.0) [
  | inl is ↦ rw (eq-eqb app x.0 is) (ap (λ rs. x.1 ∷ rs) (replies_to-append app xs ys))
  | inr differ ↦ rw (ne_eqb app x.0 differ) (replies_to-append app xs ys)
]

-- a reply to the application, and to another one
pub told-own : (app other : ℕ) (s : Said) → app ≡ other → replies_to app (told other s) ≡ said s
told-own app other (Replies reply) is = rw (eq-eqb app other is) refl
told-own app other (Asks question) is = refl

pub told-other : (app other : ℕ) (s : Said) → app ≢ other → replies_to app (told other s) ≡ []
told-other app other (Replies reply) differ = rw (ne_eqb app other differ) refl
told-other app other (Asks question) differ = refl

said-mask : (s : Said) → said (mask_said s) ≡ said s
said-mask (Replies reply) = refl
said-mask (Asks question) = refl

-- what an answer returns, and what it leads to, by what it reveals
told-shown : (a b : Answer) (ms : List Moment) → shown a ≡ shown b
    → said a.says ++ replies_told (mask a.view) ms ≡ said b.says ++ replies_told (mask b.view) ms
told-shown a b ms same = ap (λ rs. rs ++ replies_told (mask a.view) ms) (sym (said-mask a.says))
    ∙ ap (λ (x : Answer). said x.says ++ replies_told x.view ms) same ∙ ap (λ rs. rs ++ replies_told (mask b.view) ms) (said-mask b.says)

told-answer : (v : View) (c : CallType) (random : List ℕ) (r : Reveal) (ms : List Moment)
    → said (answer (mask v) c random (mask_reveal r)).says ++ replies_told (mask (answer (mask v) c random (mask_reveal r)).view) ms
    ≡ said (answer v c random r).says ++ replies_told (mask (answer v c random r).view) ms
told-answer v c random r ms = told-shown (answer (mask v) c random (mask_reveal r)) (answer v c random r) ms (shown-answer v c random r)

told-result : (v : View) (outcome : TaskResult) (r : Reveal) (ms : List Moment)
    → said (answer_result (mask v) (mask_outcome outcome) (mask_reveal r)).says
    ++ replies_told (mask (answer_result (mask v) (mask_outcome outcome) (mask_reveal r)).view) ms
    ≡ said (answer_result v outcome r).says ++ replies_told (mask (answer_result v outcome r).view) ms
told-result v outcome r ms = told-shown (answer_result (mask v) (mask_outcome outcome) (mask_reveal r))
    (answer_result v outcome r) ms (shown-result v outcome r)

-- a finish, by the pending call
module _ (app other : ℕ) (w : World) (ms : List Moment) where
  finish-own : (is : app ≡ other) (q : Option Question)
      → replies_to app (finish_tells w other q) ++ replies_told (mask ((finished w other q).views app)) ms
      ≡ replies_told (mask (w.views app)) (got w other q ++ ms)
  finish-own is None = refl
  finish-own is (Some q) = rw (told-own app other (result_at w other q).says is, eq-eqb app other is)
      (rw is (sym (told-result (w.views other) (value_of q.task) (reveal_to_task w other q.task) ms)))

  finish-other : (differ : app ≢ other) (q : Option Question)
      → replies_to app (finish_tells w other q) ++ replies_told (mask ((finished w other q).views app)) ms
      ≡ replies_told (mask (w.views app)) (saw_result app w other q ++ ms)
  finish-other differ None = refl
  finish-other differ (Some q) =
      rw (told-other app other (result_at w other q).says differ, ne_eqb app other differ)
      (sym (replies_told-saw (w.views app) (change_for app w other (result_at w other q)) ms))

  finish-seen_own : (is : app ≡ other) (q : Option Question)
      → view_told (mask ((finished w other q).views app)) ms ≡ view_told (mask (w.views app)) (got w other q ++ ms)
  finish-seen_own is None = refl
  finish-seen_own is (Some q) =
      rw (eq-eqb app other is) (rw is
      (ap (λ (a : Answer). view_told a.view ms) (sym (shown-result (w.views other) (value_of q.task) (reveal_to_task w other q.task)))))

  finish-seen_other : (differ : app ≢ other) (q : Option Question)
      → view_told (mask ((finished w other q).views app)) ms ≡ view_told (mask (w.views app)) (saw_result app w other q ++ ms)
  finish-seen_other differ None = refl
  finish-seen_other differ (Some q) =
      rw (ne_eqb app other differ) (sym (view_told-saw (w.views app) (change_for app w other (result_at w other q)) ms))

-- and one that met a resource error: the pending call is over
answered-mask : (v : View) → mask (answered v) ≡ answered (mask v)
answered-mask v = refl

module _ (app other : ℕ) (w : World) (fault : Fault) (ms : List Moment) where
  failed-own : (is : app ≡ other) (q : Option Question)
      → replies_to app (finish_refusal other fault q) ++ replies_told (mask ((finish_refused w other q).views app)) ms
      ≡ replies_told (mask (w.views app)) (failed fault q ++ ms)
  failed-own is None = refl
  failed-own is (Some q) = rw (eq-eqb app other is) (rw is (ap (λ u. refusal fault ∷ replies_told u ms) (answered-mask (w.views other))))

  failed-other : (differ : app ≢ other) (q : Option Question)
      → replies_to app (finish_refusal other fault q) ++ replies_told (mask ((finish_refused w other q).views app)) ms
      ≡ replies_told (mask (w.views app)) ms
  failed-other differ None = refl
  failed-other differ (Some q) = rw (ne_eqb app other differ) refl

  failed-seen_own : (is : app ≡ other) (q : Option Question)
      → view_told (mask ((finish_refused w other q).views app)) ms ≡ view_told (mask (w.views app)) (failed fault q ++ ms)
  failed-seen_own is None = refl
  failed-seen_own is (Some q) = rw (eq-eqb app other is) (rw is (ap (λ u. view_told u ms) (answered-mask (w.views other))))

  failed-seen_other : (differ : app ≢ other) (q : Option Question)
      → view_told (mask ((finish_refused w other q).views app)) ms ≡ view_told (mask (w.views app)) ms
  failed-seen_other differ None = refl
  failed-seen_other differ (Some q) = rw (ne_eqb app other differ) refl

-- one event, as it comes to the application
step_told : (app : ℕ) (w : World) (m : Move) (ms : List Moment)
    → replies_to app (reply_to w m) ++ replies_told (mask ((happens w m).views app)) ms
    ≡ replies_told (mask (w.views app)) (moments app w m ++ ms)
step_told app w (Goes (Call other call random)) ms = elim (cases_eq app other) [
  | inl is ↦ rw (told-own app other (answer_at w other call random.items).says is, eq-eqb app other is)
      (rw is (sym (told-answer (w.views other) call random.items (reveal_to_call w other call) ms)))
  | inr differ ↦ rw (told-other app other (answer_at w other call random.items).says differ, ne_eqb app other differ)
      (sym (replies_told-saw (w.views app) (change_for app w other (answer_at w other call random.items)) ms))
]
step_told app w (Goes (Finish other)) ms = elim (cases_eq app other) [
  | inl is ↦ rw (eq-eqb app other is) (finish-own app other w ms is (w.views other).question)
  | inr differ ↦ rw (ne_eqb app other differ) (finish-other app other w ms differ (w.views other).question)
]
step_told app w (Goes (Gone other)) ms = elim (cases_eq app other) [
  | inl is ↦ rw (eq-eqb app other is) (rw is (ap (λ u. replies_told u ms) (sym (left-mask (w.views other)))))
  | inr differ ↦ rw (ne_eqb app other differ) refl
]
step_told app w (Refuses (Call other call random) fault) ms = elim (cases_eq app other) [
  | inl is ↦ rw (eq-eqb app other is) refl
  | inr differ ↦ rw (ne_eqb app other differ) refl
]
step_told app w (Refuses (Finish other) fault) ms = elim (cases_eq app other) [
  | inl is ↦ rw (eq-eqb app other is) (failed-own app other w fault ms is (w.views other).question)
  | inr differ ↦ rw (ne_eqb app other differ) (failed-other app other w fault ms differ (w.views other).question)
]
step_told app w (Refuses (Gone other) fault) ms = elim (cases_eq app other) [
  | inl is ↦ rw (eq-eqb app other is) (rw is (ap (λ u. replies_told u ms) (sym (left-mask (w.views other)))))
  | inr differ ↦ rw (ne_eqb app other differ) refl
]

step_seen : (app : ℕ) (w : World) (m : Move) (ms : List Moment)
    → view_told (mask ((happens w m).views app)) ms ≡ view_told (mask (w.views app)) (moments app w m ++ ms)
step_seen app w (Goes (Call other call random)) ms = elim (cases_eq app other) [
  | inl is ↦ rw (eq-eqb app other is)
      (rw is (ap (λ (a : Answer). view_told a.view ms)
      (sym (shown-answer (w.views other) call random.items (reveal_to_call w other call)))))
  | inr differ ↦ rw (ne_eqb app other differ)
      (sym (view_told-saw (w.views app) (change_for app w other (answer_at w other call random.items)) ms))
]
step_seen app w (Goes (Finish other)) ms = elim (cases_eq app other) [
  | inl is ↦ rw (eq-eqb app other is) (finish-seen_own app other w ms is (w.views other).question)
  | inr differ ↦ rw (ne_eqb app other differ) (finish-seen_other app other w ms differ (w.views other).question)
]
step_seen app w (Goes (Gone other)) ms = elim (cases_eq app other) [
  | inl is ↦ rw (eq-eqb app other is) (rw is (ap (λ u. view_told u ms) (sym (left-mask (w.views other)))))
  | inr differ ↦ rw (ne_eqb app other differ) refl
]
step_seen app w (Refuses (Call other call random) fault) ms = elim (cases_eq app other) [
  | inl is ↦ rw (eq-eqb app other is) refl
  | inr differ ↦ rw (ne_eqb app other differ) refl
]
step_seen app w (Refuses (Finish other) fault) ms = elim (cases_eq app other) [
  | inl is ↦ rw (eq-eqb app other is) (failed-seen_own app other w fault ms is (w.views other).question)
  | inr differ ↦ rw (ne_eqb app other differ) (failed-seen_other app other w fault ms differ (w.views other).question)
]
step_seen app w (Refuses (Gone other) fault) ms = elim (cases_eq app other) [
  | inl is ↦ rw (eq-eqb app other is) (rw is (ap (λ u. view_told u ms) (sym (left-mask (w.views other)))))
  | inr differ ↦ rw (ne_eqb app other differ) refl
]

-- a whole run
pub told-trace : (app : ℕ) (w : World) (ms : List Move) → replies_to app (replies w ms) ≡ replies_told (mask (w.views app)) (trace app w ms)
told-trace app w [] = refl
told-trace app w (m ∷ ms) = replies_to-append app (reply_to w m) (replies (happens w m) ms)
    ∙ ap (λ rs. replies_to app (reply_to w m) ++ rs) (told-trace app (happens w m) ms) ∙ step_told app w m (trace app (happens w m) ms)

pub seen-trace : (app : ℕ) (w : World) (ms : List Move) → mask ((after w ms).views app) ≡ view_told (mask (w.views app)) (trace app w ms)
seen-trace app w [] = refl
seen-trace app w (m ∷ ms) = seen-trace app (happens w m) ms ∙ step_seen app w m (trace app (happens w m) ms)

pub is_told : (app : ℕ) (w : World) (ms : List Move) → IsTold app w ms
is_told app w ms = record { told = told-trace app w ms; sees = seen-trace app w ms }

-- ---- without resource errors

All-back : {A : Type 0} (P : A → Type 0) (xs ys : List A) → AllByRecursion P (xs ++ ys) → AllByRecursion P ys
All-back P [] ys h = h
All-back P (x ∷ xs) ys h = All-back P xs ys h.1

abbrev IsPlainReply : Reply → Type 0
IsPlainReply r = (r ≢ Code HostMemory) × (r ≢ Code DeviceError)

not-plain : (fault : Fault) → IsPlainReply (refusal fault) → ⊥
not-plain Memory plain = plain.0 refl
not-plain Device plain = plain.1 refl

-- the replies of a trace with a resource error have one
no-failure : (v : View) (ms : List Moment) → AllByRecursion IsPlainReply (replies_told v ms) → HasNoFailure ms
no-failure v [] plain = tt
no-failure v (Calls call random reveal ∷ ms) plain =
    let a = answer v call random reveal in
    (refl, no-failure (mask a.view) ms (All-back IsPlainReply (said a.says) (replies_told (mask a.view) ms) plain))
no-failure v (Gets outcome reveal ∷ ms) plain =
    let a = answer_result v outcome reveal in
    (refl, no-failure (mask a.view) ms (All-back IsPlainReply (said a.says) (replies_told (mask a.view) ms) plain))
no-failure v (CallFails fault ∷ ms) plain = absurd (not-plain fault plain.0)
no-failure v (ResultFails fault ∷ ms) plain = absurd (not-plain fault plain.0)
no-failure v (Leaves ∷ ms) plain = (refl, no-failure (left v) ms plain)
no-failure v (Sees change ∷ ms) plain = (refl, no-failure (seen change v) ms plain)

pub no-failure-trace : (app : ℕ) (w : World) (ms : List Move) → NoResourceError app (replies w ms) → HasNoFailure (trace app w ms)
no-failure-trace app w ms none =
    no-failure (mask (w.views app)) (trace app w ms) (subst (λ rs. AllByRecursion IsPlainReply rs) (told-trace app w ms) none)
