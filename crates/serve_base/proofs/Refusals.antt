-- What a call that may be refused does, and what it returns.
use Rattle.std.proofs.Common.{◌≡◌, ℕ, Result, Ok, Err, inl, inr, refl, sym, subst}
use Rattle.std.specs.Prelude.{IsErrOf}
use Rattle.std.specs.Result.{IsErrAnd}
use Rattle.ck_calls.specs.declared.reply.Reply.{Reply}
use Rattle.ck_calls.specs.declared.reply.Reply.TheVariants.{Code}
use Rattle.ck_types.specs.declared.rv.Rv.TheVariants as rv
use Rattle.precede.specs.Condition.{code_of}
use Rattle.keep.specs.Contents.{Contents}
use Rattle.keep.specs.Keeping.{HasCause, Terms}
use Rattle.keep.specs.declared.keep.KeepFault.{KeepFault}
use Rattle.keep.specs.declared.keep.KeepFault.TheVariants as keep_faults
use Rattle.desk.specs.Desks.{DeskState}
use Rattle.model_views.specs.Changes.{Stays}
use Rattle.model_views.specs.Answering.{Said, Replies, Answer}
use Rattle.serve_base.specs.declared.out.Out.{Out}
use Rattle.serve_base.specs.declared.out.Out.TheVariants.{Reply as OutReply}
use Rattle.serve_base.specs.declared.refusal.Refusal.{Refusal}
use Rattle.serve_base.specs.declared.refusal.Refusal.TheVariants as refusals
use Rattle.serve_base.specs.Refusing.{of_fault, DoesAtDesk, DoesAs, CallDoes, settled}
use Rattle.serve_base.specs.Shown.{view_of, said_of, Fits}
use Rattle.serve_base.specs.Stores.{StoreState, StoreHas, GaveAnswer, LacksId, Refused, ServesAnswer, LeavesAsBefore}
use Rattle.serve_base.proofs.Gaves.{gave-quiet, gave-reply}

-- it is a fault of the keeper, or allocation failure
abbrev pub IsFault : {T : Type 0} → Result T Refusal → Type 0
IsFault (Err refusals.Memory) = Unit {0}
IsFault (Err refusals.Device) = Unit {0}
IsFault _ = ⊥

fault-is : (T : Type 0) (fault : KeepFault) → IsFault {T = T} (Err (of_fault fault))
fault-is T keep_faults.Memory = tt
fault-is T keep_faults.Device = tt
fault-is T keep_faults.Damaged = tt

pub fault-of : {T : Type 0} (r : Result T Refusal) (fault : KeepFault) → IsErrAnd r (λ e. e ≡ of_fault fault) → IsFault r
fault-of (Ok out) fault is = absurd is
fault-of {T} (Err e) fault is = subst (λ x. IsFault {T = T} (Err x)) (sym is) (fault-is T fault)

-- the device is blamed for a fault of a keeper alone
pub device-of : {T : Type 0} {before now : ℕ} {kept : Result T KeepFault} (fault : KeepFault) → kept ≡ Err fault
    → HasCause before now kept → {U : Type 0} (r : Result U Refusal) → IsErrAnd r (λ e. e ≡ of_fault fault)
    → IsErrOf r refusals.Device → IsErrOf kept keep_faults.Device
device-of keep_faults.Device was cause r is device = was
device-of keep_faults.Damaged was cause r is device = absurd (cause.damaged was)
device-of keep_faults.Memory was cause {U} r is device = let k : refusals.Device ≡ refusals.Memory =
    subst (λ (x : Result U Refusal). IsErrAnd x (λ e. e ≡ of_fault keep_faults.Memory)) device is in cc

abbrev refused_by : (T : Type 0) → Refusal → Result T Refusal
refused_by T refusal = Err refusal

-- ---- by what is returned for the result

module _ {K T : Type 0} (terms : Terms K) (tell : T → Said) where
  pub does_as-refused : (a : Answer) (c : Contents) (old new : StoreState K) (before desk : DeskState) (r : Result T Refusal)
      → IsFault r → (IsErrOf r refusals.Device → terms.is_steady old.keep → LacksId a.change c)
      → Refused terms a before.sessions.login c old new before desk → DoesAs terms tell a c old new before r desk
  does_as-refused a c old new before desk (Err refusals.Memory) is lacks refused = refused
  does_as-refused a c old new before desk (Err refusals.Device) is lacks refused = (refused, lacks refl)
  does_as-refused a c old new before desk (Err (refusals.Condition row)) is lacks refused = absurd is
  does_as-refused a c old new before desk (Err (refusals.Code code)) is lacks refused = absurd is
  does_as-refused a c old new before desk (Ok out) is lacks refused = absurd is

  -- the same answer, written otherwise
  pub does_as-is : (a b : Answer) (c : Contents) (old new : StoreState K) (before desk : DeskState) (r : Result T Refusal) → a ≡ b
      → DoesAs terms tell b c old new before r desk → DoesAs terms tell a c old new before r desk
  does_as-is a b c old new before desk r is does = subst (λ x. DoesAs terms tell x c old new before r desk) (sym is) does

  refused-after : (a : Answer) (c : Contents) (old mid new : StoreState K) (before desk : DeskState) → LeavesAsBefore terms old mid
      → Refused terms a before.sessions.login c mid new before desk → Refused terms a before.sessions.login c old new before desk
  refused-after a c old mid new before desk first refused = record {
    has = refused.has;
    same = refused.same;
    leaves = λ d may. elim (refused.leaves d may) [
      | inl left ↦ inl (first d left)
      | inr is ↦ inr is
    ];
  }

  -- what a read leaves before it
  pub does_as-after : (a : Answer) (c : Contents) (old mid new : StoreState K) (before desk : DeskState) (r : Result T Refusal)
      → LeavesAsBefore terms old mid → (terms.is_steady old.keep → terms.is_steady mid.keep)
      → DoesAs terms tell a c mid new before r desk → DoesAs terms tell a c old new before r desk
  does_as-after a c old mid new before desk (Ok out) first steady gave = record {
    contents = gave.contents;
    has = gave.has;
    gives = gave.gives;
    leaves = λ d may. elim (gave.leaves d may) [
      | inl left ↦ inl (first d left.0, left.1)
      | inr is ↦ inr is
    ];
  }
  does_as-after a c old mid new before desk (Err (refusals.Condition row)) first steady does =
      (does.0, record { has = does.1.has; leaves = λ d may. first d (does.1.leaves d may); desk = does.1.desk })
  does_as-after a c old mid new before desk (Err (refusals.Code code)) first steady does =
      (does.0, record { has = does.1.has; leaves = λ d may. first d (does.1.leaves d may); desk = does.1.desk })
  does_as-after a c old mid new before desk (Err refusals.Memory) first steady refused =
      refused-after a c old mid new before desk first refused
  does_as-after a c old mid new before desk (Err refusals.Device) first steady does =
      (refused-after a c old mid new before desk first does.0, λ was. does.1 (steady was))

  -- over a steady keeper, for which answers alone there was no id
  pub lacks-does_as : (a : Answer) (c : Contents) (old new : StoreState K) (before desk : DeskState) (r : Result T Refusal)
      → DoesAs terms tell a c old new before r desk → terms.is_steady old.keep → IsErrOf r refusals.Device → LacksId a.change c
  lacks-does_as a c old new before desk (Err refusals.Device) does steady device = does.1 steady
  lacks-does_as a c old new before desk (Err refusals.Memory) does steady device =
      let k : refused_by T refusals.Memory ≡ Err refusals.Device = device in cc
  lacks-does_as a c old new before desk (Err (refusals.Condition row)) does steady device =
      let k : refused_by T (refusals.Condition row) ≡ Err refusals.Device = device in cc
  lacks-does_as a c old new before desk (Err (refusals.Code code)) does steady device =
      let k : refused_by T (refusals.Code code) ≡ Err refusals.Device = device in cc
  lacks-does_as a c old new before desk (Ok out) does steady device = let k : Ok out ≡ Err refusals.Device = device in cc

-- ---- and where it replies

module _ {K : Type 0} (terms : Terms K) where
  pub does-refused : (a : Answer) (c : Contents) (old new : StoreState K) (before desk : DeskState) (r : Result Reply Refusal)
      → IsFault r → (IsErrOf r refusals.Device → terms.is_steady old.keep → LacksId a.change c)
      → Refused terms a before.sessions.login c old new before desk → CallDoes terms a c old new before r desk
  does-refused a c old new before desk r is lacks refused = does_as-refused terms Replies a c old new before desk r is lacks refused

  pub does-is : (a b : Answer) (c : Contents) (old new : StoreState K) (before desk : DeskState) (r : Result Reply Refusal) → a ≡ b
      → CallDoes terms b c old new before r desk → CallDoes terms a c old new before r desk
  does-is a b c old new before desk r is does = does_as-is terms Replies a b c old new before desk r is does

  pub does-after : (a : Answer) (c : Contents) (old mid new : StoreState K) (before desk : DeskState) (r : Result Reply Refusal)
      → LeavesAsBefore terms old mid → (terms.is_steady old.keep → terms.is_steady mid.keep) → CallDoes terms a c mid new before r desk
      → CallDoes terms a c old new before r desk
  does-after a c old mid new before desk r first steady does = does_as-after terms Replies a c old mid new before desk r first steady does

  -- ---- what is returned

  -- a refusal at a desk that has not changed
  told-code : (a : Answer) (c : Contents) (old new : StoreState K) (before desk : DeskState) (code : Reply)
      → Fits c before.handles.entries → a ≡ record { says = Replies code; view = view_of c before; change = Stays }
      → StoreHas terms new c → LeavesAsBefore terms old new → desk ≡ before → GaveAnswer terms a before.sessions.login c old new (Replies code) desk
  told-code a c old new before desk code fits is h leaves same = rw same (gave-reply terms a c old new before code h leaves fits is)

  pub serves-done_as : {T : Type 0} (tell : T → Said) (as_out : T → Out) (a : Answer) (c : Contents) (old new : StoreState K)
      (before desk : DeskState) (r : Result T Refusal) → ((t : T) → said_of (as_out t) ≡ tell t) → Fits c before.handles.entries
      → DoesAs terms tell a c old new before r desk → ServesAnswer terms said_of a c old new before before (settled as_out r) desk
  serves-done_as tell as_out a c old new before desk (Ok t) same fits does = rw (same t) does
  serves-done_as tell as_out a c old new before desk (Err (refusals.Condition row)) same fits does =
      told-code a c old new before desk (Code (code_of rv.Ok row)) fits does.0 does.1.has does.1.leaves does.1.desk
  serves-done_as tell as_out a c old new before desk (Err (refusals.Code code)) same fits does =
      told-code a c old new before desk (Code code) fits does.0 does.1.has does.1.leaves does.1.desk
  serves-done_as tell as_out a c old new before desk (Err refusals.Memory) same fits does = does
  serves-done_as tell as_out a c old new before desk (Err refusals.Device) same fits does = does.0

  pub serves-done : (a : Answer) (c : Contents) (old new : StoreState K) (before desk : DeskState) (r : Result Reply Refusal)
      → Fits c before.handles.entries → CallDoes terms a c old new before r desk
      → ServesAnswer terms said_of a c old new before before (settled OutReply r) desk
  serves-done a c old new before desk r fits does = serves-done_as Replies OutReply a c old new before desk r (λ t. refl) fits does

  pub serves-at-desk : {T : Type 0} (tell : T → Said) (as_out : T → Out) (a : Answer) (c : Contents) (store : StoreState K)
      (before desk : DeskState) (r : Result T Refusal) → ((t : T) → said_of (as_out t) ≡ tell t) → a.change ≡ Stays
      → StoreHas terms store c → Fits c before.handles.entries
      → DoesAtDesk tell a c before r desk → ServesAnswer terms said_of a c store store before before (settled as_out r) desk
  serves-at-desk tell as_out a c store before desk (Ok t) same still h fits does =
      rw (same t) (gave-quiet terms a before.sessions.login c store store (tell t) desk h (λ d may. may) still does)
  serves-at-desk tell as_out a c store before desk (Err (refusals.Condition row)) same still h fits does =
      told-code a c store store before desk (Code (code_of rv.Ok row)) fits does.0 h (λ d may. may) does.1
  serves-at-desk tell as_out a c store before desk (Err (refusals.Code code)) same still h fits does =
      told-code a c store store before desk (Code code) fits does.0 h (λ d may. may) does.1
  serves-at-desk tell as_out a c store before desk (Err refusals.Memory) same still h fits does =
      record { has = h; same = does; leaves = λ d may. inl may }
  serves-at-desk tell as_out a c store before desk (Err refusals.Device) same still h fits does = absurd does
