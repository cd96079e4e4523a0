-- Which definition answers a call, and what it returns.
use Rattle.std.proofs.Common.{◌≡◌, ◌⊎◌, inl, inr, ℕ, ◌^◌, ◌≤◌, arith, Bool, true, false, cond, List, length, Option, Some, None, Result, Ok, Err, refl, sym, ap, subst}
use Rattle.std.specs.Prelude.{is_some, ◌||◌, nat_le, IfErr, IfOk}
use Rattle.std.specs.Option.{option_map}
use Rattle.std.proofs.lemmas.Bool.{cond_both, leb-true}
use Rattle.ck_types.specs.declared.constants.TheConstants.{MAX_RANDOM_LEN}
use Rattle.ck_types.specs.declared.user_type.UserType.{UserType}
use Rattle.ck_calls.specs.declared.call.Call.{Call}
use Rattle.ck_calls.specs.declared.call.Call.TheVariants as calls
use Rattle.ck_calls.specs.Need.{random_bytes}
use Rattle.ck_calls.specs.declared.reply.Reply.{Reply}
use Rattle.ck_calls.specs.Functions.{function_of}
use Rattle.keep.specs.Contents.{Contents}
use Rattle.keep.specs.Keeping.{Terms}
use Rattle.precede.specs.declared.condition.Condition.TheVariants.{Busy, NoSession, NotSo, PinLength}
use Rattle.mech.specs.declared.job.Job.{Job}
use Rattle.desk.specs.Desks.{DeskState, SameDesk, is_busy, with_call}
use Rattle.model_views.specs.declared.fault.Fault.{Fault}
use Rattle.ck_calls.specs.declared.function.Function.TheVariants as function
use Rattle.model_views.specs.Views.{View, MakesPin, sees}
use Rattle.model_views.specs.Changes.{Stays, in_list}
use Rattle.model_views.specs.Answering.{Said, Replies, Asks, Answer, Reveal, asks, noted, noted_by, refuses_by, is_closed}
use Rattle.model_views.specs.Refusals.{is_refused}
use Rattle.model_answers.specs.Answers.{answer, answer_to, is_still_function}
use Rattle.model_session_answers.specs.InitPin.{init_pin_row, init_pin}
use Rattle.model_worlds.specs.Worlds.{reveal_by_call}
use Rattle.model_answers.proofs.Proper.{proper-answer_to}
use Rattle.serve_base.specs.declared.out.Out.{Out}
use Rattle.serve_base.specs.declared.out.Out.TheVariants.{Reply as OutReply, Ask}
use Rattle.serve_base.specs.declared.refusal.Refusal.{Refusal}
use Rattle.serve_base.specs.declared.refusal.Refusal.TheVariants as refusals
use Rattle.serve_base.specs.Refusing.{AtDeskIf, EndsNone, GivesAnyway, IsDoneIf, IsServedIf, settled}
use Rattle.serve_base.specs.Short.{IsShortCall}
use Rattle.serve_base.specs.Shown.{objects_of, question_of, said_of, view_of, GivesAnswer, IsFor, ShowsSame}
use Rattle.serve_base.specs.Stores.{StoreState, LacksId, LeavesChange, LeavesTried, ServesAnswer}
use Rattle.serve_base.proofs.Plain.{plain-at-desk, some-fits, stays-at-desk}
use Rattle.serve_base.proofs.Refusals.{serves-at-desk}
use Rattle.serve_base.proofs.Serving.{blamed, same-shows, served-as, short-settled}
use Rattle.token.specs.Dispatching.{noted_at}

closed-is : (c : Contents) (d : DeskState) → is_closed (view_of c d) ≡ is_busy d
unfolding is_closed
closed-is c d = ap (λ b. b ||
    (nat_le (2 ^ 63) d.sessions.next_number || (nat_le (2 ^ 63) d.handles.next_number || nat_le (2 ^ 63) d.next_question)))
    (out d.question) where
      out : (q : Option Job) → is_some (option_map question_of q) ≡ is_some q
      out None = refl
      out (Some q) = refl

-- where a call is taken
pub answer-is : (c : Contents) (d : DeskState) (x : Call) (random : List ℕ) (r : Reveal) → is_busy d ≡ false
    → answer (view_of c d) x random r ≡ noted x (answer_to (view_of c d) x random r)
unfolding answer
answer-is c d x random r free = rw (closed-is c d, free) refl

pub busy-is : (c : Contents) (d : DeskState) (x : Call) (random : List ℕ) (r : Reveal) → is_busy d ≡ true
    → answer (view_of c d) x random r ≡ refuses_by (view_of c d) Busy
unfolding answer
busy-is c d x random r busy = rw (closed-is c d, busy) refl

-- the same answer, written otherwise
pub serves-is : {K : Type 0} (terms : Terms K) (a b : Answer) (c : Contents) (old new : StoreState K) (before desk : DeskState)
    (r : Result Out Fault) → a ≡ b → ServesAnswer terms said_of b c old new before before r desk
    → ServesAnswer terms said_of a c old new before before r desk
serves-is terms a b c old new before desk r is serves = subst (λ x. ServesAnswer terms said_of x c old new before before r desk) (sym is) serves

-- ---- what is returned

-- a reply is no other application's job
for-reply : (app : ℕ) (r : Result Reply Refusal) → IfOk (settled OutReply r) (IsFor app)
for-reply app (Ok reply) = tt
for-reply app (Err (refusals.Condition row)) = tt
for-reply app (Err (refusals.Code code)) = tt
for-reply app (Err refusals.Memory) = tt
for-reply app (Err refusals.Device) = tt

for-out : (app : ℕ) (r : Result Out Refusal) → IfOk r (IsFor app) → IfOk (settled (λ out. out) r) (IsFor app)
for-out app (Ok out) is = is
for-out app (Err (refusals.Condition row)) is = tt
for-out app (Err (refusals.Code code)) is = tt
for-out app (Err refusals.Memory) is = tt
for-out app (Err refusals.Device) is = tt

-- a refusal at the desk leaves it, or what the answer says
refused-at-desk : {given T : Type 0} (tell : T → Said) (as_out : T → Out) (f : View → Answer) (before desk : DeskState)
    (r : Result T Refusal) → ((t : T) → said_of (as_out t) ≡ tell t) → AtDeskIf given tell f before r desk
    → IfOk (settled as_out r) (λ out. is_refused (said_of out) ≡ true → ShowsSame before desk
    ⊎ GivesAnyway (λ c. f) before (said_of out) desk)
refused-at-desk tell as_out f before desk (Ok t) same does =
    λ is. inr (λ c fits. subst (λ said. GivesAnswer (f (view_of c before)) before.sessions.login c said c desk) (sym (same t))
    (does.serves c fits))
refused-at-desk tell as_out f before desk (Err (refusals.Condition row)) same does = let some = some-fits before.handles.entries in
    λ is. inl (same-shows before desk (rw (does.serves some.0 some.1).1 refl))
refused-at-desk tell as_out f before desk (Err (refusals.Code code)) same does = let some = some-fits before.handles.entries in
    λ is. inl (same-shows before desk (rw (does.serves some.0 some.1).1 refl))
refused-at-desk tell as_out f before desk (Err refusals.Memory) same does = tt
refused-at-desk tell as_out f before desk (Err refusals.Device) same does = tt

module _ {K : Type 0} (terms : Terms K) (app : ℕ) (others_have_sessions : Bool) (call x : Call) (random : List ℕ) (is : call ≡ x) where
  abbrev answers : View → Answer
  answers v = answer_to v x random (reveal_by_call x others_have_sessions)

  abbrev pub IsCallServed : StoreState K → StoreState K → DeskState → Result Out Fault → DeskState → Type 0
  IsCallServed old new before out desk =
      IsServedIf (IsShortCall call) terms (IsFor app)
      (λ v. answer_to v call random (reveal_by_call call others_have_sessions)) old new before out desk

  -- a call at the desk and the store
  pub call-done : (writes : ℕ) (old new : StoreState K) (before desk : DeskState) (r : Result Reply Refusal)
      (out : Result Out Fault) → writes ≤ 1 → out ≡ settled OutReply r
      → IsDoneIf (IsShortCall x) EndsNone terms Replies writes (λ c. answers) old new before r desk
      → ((k : K) → terms.is_steady k → terms.doubt k ≡ 0) → IsCallServed old new before out desk
  call-done writes old new before desk r out few told done sure =
      rw (is, told) (served-as terms Replies OutReply (IsFor app) writes answers old new before desk r (λ t. refl) few
      (for-reply app r) sure done)

  -- which may return a job
  pub call-asked : (writes : ℕ) → writes ≤ 1
      → (old new : StoreState K) (before desk : DeskState) (r : Result Out Refusal) (out : Result Out Fault)
      → out ≡ settled (λ out. out) r → IfOk r (IsFor app)
      → IsDoneIf (IsShortCall x) EndsNone terms said_of writes (λ c. answers) old new before r desk
      → ((k : K) → terms.is_steady k → terms.doubt k ≡ 0) → IsCallServed old new before out desk
  call-asked writes few old new before desk r out told for done sure =
      rw (is, told) (served-as terms said_of (λ out. out) (IsFor app) writes answers old new before desk r (λ t. refl) few
      (for-out app r for) sure done)

  -- and at the desk alone
  at-desk : {T : Type 0} (tell : T → Said) (as_out : T → Out) (store : StoreState K) (before desk : DeskState)
      (r : Result T Refusal) (out : Result Out Fault) → ((t : T) → said_of (as_out t) ≡ tell t)
      → ((v : View) → (answers v).change ≡ Stays) → out ≡ settled as_out r → IfOk (settled as_out r) (IsFor app)
      → AtDeskIf (IsShortCall x) tell answers before r desk → IsCallServed store store before out desk
  at-desk tell as_out store before desk r out same quiet told for does = rw (is, told) (record {
    serves = λ sure c h fits. serves-at-desk terms tell as_out (answers (view_of c before)) c store before desk r same
        (quiet (view_of c before)) h fits (does.serves c fits);
    says = for;
    counts = record { steady = λ s. s; doubt = omega arith; failures = omega arith; tried = omega arith; bounded = omega arith };
    cause = λ device. absurd (does.cause (blamed as_out r device));
    steady = λ was device c h fits. absurd (does.cause (blamed as_out r device));
    plain = plain-at-desk tell as_out answers before desk r same
        (λ v. ((proper-answer_to x random).fair v (reveal_by_call x others_have_sessions)).plain) does;
    stays = stays-at-desk tell as_out answers before desk r does;
    refused = refused-at-desk tell as_out answers before desk r same does;
    short = λ few. short-settled tell as_out r same (does.short few);
  })

  still-call : is_still_function (function_of x) ≡ true → (v : View) → (answers v).change ≡ Stays
  still-call quiet v = ((proper-answer_to x random).fair v (reveal_by_call x others_have_sessions)).still quiet

  pub call-at-desk : (store : StoreState K) (before desk : DeskState) (r : Result Reply Refusal) (out : Result Out Fault)
      → is_still_function (function_of x) ≡ true → out ≡ settled OutReply r → AtDeskIf (IsShortCall x) Replies answers before r desk
      → IsCallServed store store before out desk
  call-at-desk store before desk r out quiet told does =
      at-desk Replies OutReply store before desk r out (λ t. refl) (still-call quiet) told (for-reply app r) does

  pub call-asking : (store : StoreState K) (before desk : DeskState) (r : Result Out Refusal) (out : Result Out Fault)
      → is_still_function (function_of x) ≡ true → out ≡ settled (λ out. out) r → IfOk r (IsFor app)
      → AtDeskIf (IsShortCall x) said_of answers before r desk → IsCallServed store store before out desk
  call-asking store before desk r out quiet told for does =
      at-desk said_of (λ out. out) store before desk r out (λ t. refl) (still-call quiet) told (for-out app r for) does

  -- one of a PIN that begins no check
  pub call-unchecked : (store : StoreState K) (before desk : DeskState) (r : Result Out Refusal) (out : Result Out Fault)
      → ((v : View) → (answers v).change ≡ Stays) → out ≡ settled (λ out. out) r → IfOk r (IsFor app)
      → AtDeskIf (IsShortCall x) said_of answers before r desk → IsCallServed store store before out desk
  call-unchecked store before desk r out quiet told for does =
      at-desk said_of (λ out. out) store before desk r out (λ t. refl) quiet told (for-out app r for) does

-- no more random bytes come with a call than it may ask for
pub random-few : (call : Call) (s len : ℕ) (random : List ℕ) → call ≡ calls.GenerateRandom s len → length random ≡ random_bytes call
    → length random ≤ MAX_RANDOM_LEN
random-few call s len random is as_many =
    rw (as_many, is) (cond_both (nat_le len MAX_RANDOM_LEN) len 0 (λ n. n ≤ MAX_RANDOM_LEN) (λ yes. leb-true len MAX_RANDOM_LEN yes)
    (λ no. omega arith))

-- C_InitPIN changes nothing that others see before its end
pub still-init_pin : (v : View) (s : ℕ) (pin random : List ℕ) → (init_pin v s pin random).change ≡ Stays
still-init_pin v s pin random =
    still-rows (init_pin_row v s pin NoSession) (init_pin_row v s pin NotSo) (init_pin_row v s pin PinLength) where
      still-rows : (a b d : Bool) →
          (cond a (refuses_by v NoSession)
          (cond b (refuses_by v NotSo) (cond d (refuses_by v PinLength) (asks v function.InitPin s (MakesPin pin random))))).change ≡ Stays
      still-rows true b d = refl
      still-rows false true d = refl
      still-rows false false true = refl
      still-rows false false false = refl

-- ---- the call that becomes pending is noted

noted-replies : (x : Call) (a : Answer) (reply : Reply) → Replies reply ≡ a.says → noted x a ≡ a
noted-replies x a reply is = ap (noted_by x a) (sym is)

change-noted : (x : Call) (a : Answer) → (noted x a).change ≡ a.change
change-noted x a = at a.says where
  at : (s : Said) → (noted_by x a s).change ≡ a.change
  at (Replies reply) = refl
  at (Asks q) = refl

-- a job is given, and the call is seen
gives-asked : (x : Call) (a : Answer) (login : Option UserType) (c d : Contents) (job : Job) (mid : DeskState)
    → GivesAnswer a login c (Asks (question_of job)) d mid → GivesAnswer (noted x a) login c (Asks (question_of job)) d (with_call mid x)
gives-asked x a login c d job mid k =
    let is : noted x a ≡ noted_by x a (Asks (question_of job)) = ap (noted_by x a) (sym k.says) in
    rw is (record { says = k.says; view = ap (λ (v : View). record v { call = Some x }) k.view; changes = k.changes; fits = k.fits })

-- whatever is returned
gives-noted : (x : Call) (a : Answer) (login : Option UserType) (c d : Contents) (out : Out) (mid : DeskState)
    → GivesAnswer a login c (said_of out) d mid → GivesAnswer (noted x a) login c (said_of out) d (noted_at x (Ok out) mid)
gives-noted x a login c d (OutReply reply) mid k =
    subst (λ y. GivesAnswer y login c (Replies reply) d mid) (sym (noted-replies x a reply k.says)) k
gives-noted x a login c d (Ask job) mid k = gives-asked x a login c d job mid k

module _ {K : Type 0} (terms : Terms K) (x : Call) where
  serves-noted : (a : Answer) (c : Contents) (old new : StoreState K) (before mid : DeskState) (r : Result Out Fault)
      → ServesAnswer terms said_of a c old new before before r mid → ServesAnswer terms said_of (noted x a) c old new before before r (noted_at x r mid)
  serves-noted a c old new before mid (Ok out) gave = record {
    contents = gave.contents;
    has = gave.has;
    gives = gives-noted x a before.sessions.login c gave.contents out mid gave.gives;
    leaves = subst (λ change. LeavesChange terms (in_list (sees before.sessions.login) (objects_of c) change) old new gave.contents)
        (sym (change-noted x a)) gave.leaves;
  }
  serves-noted a c old new before mid (Err fault) refused = record {
    has = refused.has;
    same = refused.same;
    leaves = subst (λ change. LeavesTried terms (in_list (sees before.sessions.login) (objects_of c) change) old new c)
        (sym (change-noted x a)) refused.leaves;
  }

  refused-noted : (f : View → Answer) (before mid : DeskState) (r : Result Out Fault)
      → IfOk r (λ out. is_refused (said_of out) ≡ true → ShowsSame before mid ⊎ GivesAnyway (λ c. f) before (said_of out) mid)
      → IfOk r (λ out. is_refused (said_of out) ≡ true → ShowsSame before (noted_at x r mid)
      ⊎ GivesAnyway (λ c v. noted x (f v)) before (said_of out) (noted_at x r mid))
  refused-noted f before mid (Ok (OutReply reply)) refused = λ is. elim (refused is) [
    | inl shows ↦ inl shows
    | inr gives ↦ inr (λ c fits. gives-noted x (f (view_of c before)) before.sessions.login c c (OutReply reply) mid (gives c fits))
  ]
  refused-noted f before mid (Ok (Ask job)) refused = λ is. absurd cc
  refused-noted f before mid (Err fault) refused = tt

  stays-noted : (before mid : DeskState) (r : Result Out Fault) → IfErr r (λ fault. SameDesk before mid)
      → IfErr r (λ fault. SameDesk before (noted_at x r mid))
  stays-noted before mid (Ok out) stays = tt
  stays-noted before mid (Err fault) stays = stays

  -- an answer that is given at the desk is given where the call is noted
  pub served-noted : {given : Type 0} {kind : Out → Type 0} (f : View → Answer) (old new : StoreState K)
      (before mid desk : DeskState) (r : Result Out Fault) → desk ≡ noted_at x r mid
      → IsServedIf given terms kind f old new before r mid → IsServedIf given terms kind (λ v. noted x (f v)) old new before r desk
  served-noted f old new before mid desk r is served = rw is (record {
    serves = λ sure c h fits. serves-noted (f (view_of c before)) c old new before mid r (served.serves sure c h fits);
    says = served.says;
    counts = served.counts;
    cause = served.cause;
    steady = λ was device c h fits. subst (λ change. LacksId change c) (sym (change-noted x (f (view_of c before))))
        (served.steady was device c h fits);
    plain = served.plain;
    stays = stays-noted before mid r served.stays;
    refused = refused-noted f before mid r served.refused;
    short = served.short;
  })

-- a call that is taken is answered so
pub taken : {K : Type 0} (terms : Terms K) (app : ℕ) (others_have_sessions : Bool) (x : Call) (random : List ℕ)
    (old new : StoreState K) (before mid desk : DeskState) (r : Result Out Fault) → is_busy before ≡ false → desk ≡ noted_at x r mid
    → IsServedIf (IsShortCall x) terms (IsFor app)
    (λ v. answer_to v x random (reveal_by_call x others_have_sessions)) old new before r mid
    → IsServedIf (IsShortCall x) terms (IsFor app) (λ v. answer v x random (reveal_by_call x others_have_sessions)) old new before r desk
taken terms app others_have_sessions x random old new before mid desk r free is served =
    let reveal = reveal_by_call x others_have_sessions in
    let done = served-noted terms x (λ v. answer_to v x random reveal) old new before mid desk r is served in
    record {
      serves = λ sure k h fits. serves-is terms _ _ k old new before desk r (answer-is k before x random reveal free)
          (done.serves sure k h fits);
      says = done.says;
      counts = done.counts;
      cause = done.cause;
      steady = λ was device k h fits. rw (answer-is k before x random reveal free) (done.steady was device k h fits);
      plain = done.plain;
      stays = done.stays;
      refused = refused-is r done.refused;
      short = done.short;
    } where
      refused-is : (r : Result Out Fault)
          → IfOk r (λ out. is_refused (said_of out) ≡ true → ShowsSame before desk
          ⊎ GivesAnyway (λ c v. noted x (answer_to v x random (reveal_by_call x others_have_sessions))) before (said_of out) desk)
          → IfOk r (λ out. is_refused (said_of out) ≡ true → ShowsSame before desk
          ⊎ GivesAnyway (λ c v. answer v x random (reveal_by_call x others_have_sessions)) before (said_of out) desk)
      refused-is (Ok out) refused = λ told. elim (refused told) [
        | inl shows ↦ inl shows
        | inr gives ↦ inr (λ c fits. rw (answer-is c before x random (reveal_by_call x others_have_sessions) free) (gives c fits))
      ]
      refused-is (Err fault) refused = tt
