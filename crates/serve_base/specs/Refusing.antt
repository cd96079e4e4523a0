-- What a call does whose refusals are an Err: nothing has changed then.
use Rattle.std.specs.Prelude.{◌≡◌, ◌⊎◌, ℕ, true, None, Result, Ok, Err, IsErrOf, IfErr, IfOk}
use Rattle.ck_types.specs.declared.rv.Rv.{Rv}
use Rattle.ck_types.specs.declared.rv.Rv.TheVariants as rv
use Rattle.ck_calls.specs.declared.reply.Reply.{Reply}
use Rattle.ck_calls.specs.declared.reply.Reply.TheVariants.{Code}
use Rattle.keep.specs.Contents.{Contents}
use Rattle.keep.specs.Keeping.{Counted, Rises, Terms}
use Rattle.keep.specs.declared.keep.KeepFault.{KeepFault}
use Rattle.keep.specs.declared.keep.KeepFault.TheVariants as keep_faults
use Rattle.templates.specs.declared.fault.MakeFault.{MakeFault}
use Rattle.templates.specs.declared.fault.MakeFault.TheVariants as make_faults
use Rattle.precede.specs.Condition.{code_of}
use Rattle.desk.specs.Desks.{DeskState, SameDesk}
use Rattle.model_views.specs.declared.fault.Fault.{Fault}
use Rattle.model_views.specs.declared.fault.Fault.TheVariants as faults
use Rattle.model_views.specs.Views.{View}
use Rattle.model_views.specs.Answering.{Said, Replies, Answer, refuses, refuses_by}
use Rattle.model_views.specs.Refusals.{is_refused, resource_error_in, resource_error}
use Rattle.serve_base.specs.declared.out.Out.{Out}
use Rattle.serve_base.specs.declared.out.Out.TheVariants.{Reply as OutReply}
use Rattle.serve_base.specs.declared.refusal.Refusal.{Refusal}
use Rattle.serve_base.specs.declared.refusal.Refusal.TheVariants as refusals
use Rattle.serve_base.specs.Short.{IsShortSaid}
use Rattle.serve_base.specs.Shown.{view_of, said_of, Fits, GivesAnswer, ShowsSame}
use Rattle.serve_base.specs.Stores.{StoreState, StoreHas, LeavesAsBefore, FailsForIds, LacksId, GaveAnswer, Refused, Served}

-- the refusal that a keeper's fault is
abbrev pub of_fault : KeepFault → Refusal
of_fault keep_faults.Memory = refusals.Memory
of_fault _ = refusals.Device

-- and that of a template that makes nothing
abbrev pub of_make_fault : MakeFault → Refusal
of_make_fault (make_faults.Refused code) = refusals.Code code
of_make_fault make_faults.Memory = refusals.Memory

-- ---- what a refusal leaves

-- the answer is given to what the desk shows, whatever is kept
abbrev pub GivesAnyway : (Contents → View → Answer) → DeskState → Said → DeskState → Type 0
GivesAnyway f before said desk = (c : Contents) → Fits c before.handles.entries
    → GivesAnswer (f c (view_of c before)) before.sessions.login c said c desk

-- ---- at the desk alone

-- The answer is given to what the application sees, whatever is kept; or it is the refusal, and nothing has changed; or an
-- allocation failed, and nothing has changed but capacities.
abbrev pub DoesAtDesk : {T : Type 0} → (T → Said) → Answer → Contents → DeskState → Result T Refusal → DeskState → Type 0
DoesAtDesk tell a c old (Ok out) new = GivesAnswer a old.sessions.login c (tell out) c new
DoesAtDesk tell a c old (Err (refusals.Condition row)) new = (a ≡ refuses_by (view_of c old) row) × (new ≡ old)
DoesAtDesk tell a c old (Err (refusals.Code code)) new = (a ≡ refuses (view_of c old) code) × (new ≡ old)
DoesAtDesk tell a c old (Err refusals.Memory) new = SameDesk old new
DoesAtDesk tell a c old (Err refusals.Device) new = ⊥

-- What a call does that uses no store, in one clause: no keeper is to blame, and what it returns is short where this is given.
pub record AtDeskIf (given : Type 0) {T : Type 0} (tell : T → Said) (f : View → Answer) (old : DeskState)
    (result : Result T Refusal) (new : DeskState) : Type 0 where
  pub serves : (c : Contents) → Fits c old.handles.entries → DoesAtDesk tell (f (view_of c old)) c old result new
  pub cause : IsErrOf result refusals.Device → ⊥
  pub short : given → IfOk result (λ out. IsShortSaid (tell out))

abbrev pub AtDesk : {T : Type 0} → (T → Said) → (View → Answer) → DeskState → Result T Refusal → DeskState → Type 0
AtDesk tell f old result new = AtDeskIf (Unit {0}) tell f old result new

-- ---- at the desk and the store

-- nothing has changed
pub record NothingChanged {K : Type 0} (terms : Terms K) (c : Contents) (old new : StoreState K) (before now : DeskState) : Type 0 where
  pub has : StoreHas terms new c
  pub leaves : LeavesAsBefore terms old new
  pub desk : now ≡ before

-- What becomes of an answer, by what is returned for its result. A steady keeper fails only where the answer adds an object and
-- the ids are used up.
abbrev pub DoesAs : {K T : Type 0} → Terms K → (T → Said) → Answer → Contents → StoreState K → StoreState K → DeskState
    → Result T Refusal → DeskState → Type 0
DoesAs terms tell a c old new before (Ok out) desk = GaveAnswer terms a before.sessions.login c old new (tell out) desk
DoesAs terms tell a c old new before (Err (refusals.Condition row)) desk = (a ≡ refuses_by (view_of c before) row)
    × NothingChanged terms c old new before desk
DoesAs terms tell a c old new before (Err (refusals.Code code)) desk = (a ≡ refuses (view_of c before) code)
    × NothingChanged terms c old new before desk
DoesAs terms tell a c old new before (Err refusals.Memory) desk = Refused terms a before.sessions.login c old new before desk
DoesAs terms tell a c old new before (Err refusals.Device) desk = Refused terms a before.sessions.login c old new before desk
    × (terms.is_steady old.keep → LacksId a.change c)

-- The answer is to the view, and what an answer takes from outside is determined by what is kept.
abbrev pub DoneAs : {K T : Type 0} → Terms K → (T → Said) → (Contents → View → Answer) → StoreState K → StoreState K → DeskState
    → Result T Refusal → DeskState → Type 0
DoneAs terms tell f old new before result desk =
    terms.doubt new.keep ≡ 0 → (c : Contents) → StoreHas terms old c → Fits c before.handles.entries
    → DoesAs terms tell (f c (view_of c before)) c old new before result desk

-- no operation ends by a refusal
abbrev pub EndsNone : Said → Type 0
EndsNone said = ⊥

-- what is returned is no resource error, nor is the code of a refusal
abbrev pub IsPlainAs : {T : Type 0} → (T → Said) → Result T Refusal → Type 0
IsPlainAs tell (Ok out) = resource_error_in (tell out) ≡ None
IsPlainAs tell (Err (refusals.Condition row)) = Unit {0}
IsPlainAs tell (Err (refusals.Code code)) = resource_error (Code code) ≡ None
IsPlainAs tell (Err refusals.Memory) = Unit {0}
IsPlainAs tell (Err refusals.Device) = Unit {0}

-- What a call or the result of its job does, in one clause. While the store is faithful its answer is given or refused. It
-- tries no more than so many writes, and CKR_DEVICE_ERROR comes only where a failure of the keeper was counted. Whether or
-- not the store is faithful, a refusal leaves what the desk shows, unless it ends an operation. What is returned is short where
-- this is given.
pub record IsDoneIf (given : Type 0) (ends : Said → Type 0) {K T : Type 0} (terms : Terms K) (tell : T → Said) (writes : ℕ)
    (f : Contents → View → Answer) (old new : StoreState K) (before : DeskState) (result : Result T Refusal)
    (desk : DeskState) : Type 0 where
  pub serves : DoneAs terms tell f old new before result desk
  pub counts : Counted terms old.keep new.keep 0 writes
  pub cause : IsErrOf result refusals.Device → Rises (terms.failures old.keep) (terms.failures new.keep)
  pub plain : IsPlainAs tell result
  pub stays : IfErr result (λ refusal. SameDesk before desk)
  pub refused : IfOk result (λ out. is_refused (tell out) ≡ true → ShowsSame before desk ⊎ ends (tell out))
  pub short : given → IfOk result (λ out. IsShortSaid (tell out))

abbrev pub IsDoneAs : {K T : Type 0} → Terms K → (T → Said) → ℕ → (Contents → View → Answer) → StoreState K → StoreState K
    → DeskState → Result T Refusal → DeskState → Type 0
IsDoneAs terms tell writes f old new before result desk = IsDoneIf (Unit {0}) EndsNone terms tell writes f old new before result desk

-- ---- and where it replies, to the view alone

abbrev pub CallDoes : {K : Type 0} → Terms K → Answer → Contents → StoreState K → StoreState K → DeskState → Result Reply Refusal
    → DeskState → Type 0
CallDoes terms a c old new before result desk = DoesAs terms Replies a c old new before result desk

abbrev pub IsPlain : Result Reply Refusal → Type 0
IsPlain result = IsPlainAs Replies result

abbrev pub IsDone : {K : Type 0} → Terms K → ℕ → (View → Answer) → StoreState K → StoreState K → DeskState → Result Reply Refusal
    → DeskState → Type 0
IsDone terms writes f old new before result desk = IsDoneAs terms Replies writes (λ c. f) old new before result desk

-- ---- as it is returned

-- The code of a refusal. An allocation failure and a failed keeper are faults, since no answer has their code.
abbrev pub refusal_code : Refusal → Result Rv Fault
refusal_code (refusals.Condition row) = Ok (code_of rv.Ok row)
refusal_code (refusals.Code code) = Ok code
refusal_code refusals.Memory = Err faults.Memory
refusal_code refusals.Device = Err faults.Device

-- and what holds a reply with it
abbrev pub with_code : {A : Type 0} → (Reply → A) → Result Rv Fault → Result A Fault
with_code of_reply (Ok code) = Ok (of_reply (Code code))
with_code of_reply (Err fault) = Err fault

abbrev pub refused_as : Refusal → Result Out Fault
refused_as refusal = with_code OutReply (refusal_code refusal)

abbrev pub settled : {T : Type 0} → (T → Out) → Result T Refusal → Result Out Fault
settled as_out (Ok out) = Ok (as_out out)
settled as_out (Err refusal) = refused_as refusal

-- And in one clause, in which what is returned is short where this is given. Over a steady keeper CKR_DEVICE_ERROR comes only
-- to an answer that adds an object, where the ids are used up. A refusal leaves what the desk shows, or what the answer
-- says, store faithful or not.
pub record IsServedIf (given : Type 0) {K : Type 0} (terms : Terms K) (kind : Out → Type 0) (f : View → Answer)
    (old new : StoreState K) (before : DeskState) (result : Result Out Fault) (desk : DeskState) : Type 0 where
  pub serves : Served terms said_of f old new before before result desk
  pub says : IfOk result kind
  pub counts : Counted terms old.keep new.keep 0 1
  pub cause : IsErrOf result faults.Device → Rises (terms.failures old.keep) (terms.failures new.keep)
  pub steady : FailsForIds terms faults.Device (λ c. f) old before result
  pub plain : IfOk result (λ out. resource_error_in (said_of out) ≡ None)
  pub stays : IfErr result (λ fault. SameDesk before desk)
  pub refused : IfOk result (λ out. is_refused (said_of out) ≡ true → ShowsSame before desk
      ⊎ GivesAnyway (λ c. f) before (said_of out) desk)
  pub short : given → IfOk result (λ out. IsShortSaid (said_of out))
