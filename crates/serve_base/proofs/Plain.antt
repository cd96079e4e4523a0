-- Whatever is kept: a call returns a resource error only for a fault, and a refusal leaves its desk.
use Rattle.std.proofs.Common.{◌≡◌, ℕ, ◌+◌, ◌≤◌, List, [], ◌∷◌, Option, Some, None, Result, Ok, Err, refl, sym, ◌∙◌, ap, subst, arith}
use Rattle.std.specs.Prelude.{IfErr, IfOk}
use Rattle.std.specs.Result.{IsErrAnd}
use Rattle.std.specs.List.{AllByRecursion}
use Rattle.ck_types.specs.declared.entry.Entry.{Entry}
use Rattle.ck_types.specs.declared.rv.Rv.{Rv}
use Rattle.ck_calls.specs.declared.reply.Reply.{Reply}
use Rattle.ck_calls.specs.declared.reply.Reply.TheVariants.{Code}
use Rattle.handles.specs.declared.Handle.{Handle}
use Rattle.pin_record.specs.Records.{new_record}
use Rattle.keep.specs.Contents.{Contents}
use Rattle.templates.specs.declared.fault.MakeFault.{MakeFault}
use Rattle.templates.specs.declared.fault.MakeFault.TheVariants as make_faults
use Rattle.templates.specs.Made.{Answers as IsAnswered}
use Rattle.desk.specs.Desks.{DeskState, SameDesk}
use Rattle.model_views.specs.Views.{View}
use Rattle.model_views.specs.Answering.{Said, Replies, Answer}
use Rattle.model_views.specs.Refusals.{resource_error_in, resource_error}
use Rattle.model_views.proofs.Checks.{plain-row}
use Rattle.model_views.proofs.Blind.{IsPlainFault}
use Rattle.serve_base.specs.declared.out.Out.{Out}
use Rattle.serve_base.specs.declared.out.Out.TheVariants.{Reply as OutReply}
use Rattle.serve_base.specs.declared.refusal.Refusal.{Refusal}
use Rattle.serve_base.specs.declared.refusal.Refusal.TheVariants as refusals
use Rattle.serve_base.specs.Refusing.{of_make_fault, AtDeskIf, DoesAtDesk, IsPlain, IsPlainAs, settled}
use Rattle.serve_base.specs.Shown.{said_of, view_of, Fits}
use Rattle.serve_base.proofs.Refusals.{IsFault}

-- ---- at the desk and the store

-- a fault of the keeper, or allocation failure
pub plain_as-fault : {T : Type 0} (tell : T → Said) (r : Result T Refusal) → IsFault r → IsPlainAs tell r
plain_as-fault tell (Err refusals.Memory) is = tt
plain_as-fault tell (Err refusals.Device) is = tt
plain_as-fault tell (Err (refusals.Condition row)) is = tt
plain_as-fault tell (Err (refusals.Code code)) is = absurd is
plain_as-fault tell (Ok out) is = absurd is

pub plain-fault : (r : Result Reply Refusal) → IsFault r → IsPlain r
plain-fault r is = plain_as-fault Replies r is

-- what a template makes, or why it makes nothing
plain-make : (e : MakeFault) (fault : Option Rv) (made : List Entry) → IsAnswered (Err e) fault made → IsPlainFault fault
    → IsPlain (Err (of_make_fault e))
plain-make make_faults.Memory fault made is plain = tt
plain-make (make_faults.Refused code) None made is plain = let k : make_faults.Refused code ≡ make_faults.Memory = is in cc
plain-make (make_faults.Refused code) (Some known) made is plain =
    let k : make_faults.Refused code ≡ make_faults.Refused known = is in
    let same : code ≡ known = cc in
    ap (λ c. resource_error (Code c)) same ∙ plain.plain

pub plain-made : (r : Result Reply Refusal) (e : MakeFault) (fault : Option Rv) (made : List Entry)
    → IsErrAnd r (λ x. x ≡ of_make_fault e) → IsAnswered (Err e) fault made → IsPlainFault fault → IsPlain r
plain-made (Ok reply) e fault made is answered plain = absurd is
plain-made (Err x) e fault made is answered plain = subst (λ y. IsPlain (Err y)) (sym is) (plain-make e fault made answered plain)

pub plain-done_as : {T : Type 0} (tell : T → Said) (as_out : T → Out) (r : Result T Refusal)
    → ((t : T) → said_of (as_out t) ≡ tell t) → IsPlainAs tell r → IfOk (settled as_out r) (λ out. resource_error_in (said_of out) ≡ None)
plain-done_as tell as_out (Ok t) same plain = ap resource_error_in (same t) ∙ plain
plain-done_as tell as_out (Err (refusals.Condition row)) same plain = plain-row row
plain-done_as tell as_out (Err (refusals.Code code)) same plain = plain
plain-done_as tell as_out (Err refusals.Memory) same plain = tt
plain-done_as tell as_out (Err refusals.Device) same plain = tt

pub plain-done : (r : Result Reply Refusal) → IsPlain r → IfOk (settled OutReply r) (λ out. resource_error_in (said_of out) ≡ None)
plain-done r plain = plain-done_as Replies OutReply r (λ t. refl) plain

pub stays-settled : {T : Type 0} (as_out : T → Out) (before desk : DeskState) (r : Result T Refusal)
    → IfErr r (λ refusal. SameDesk before desk) → IfErr (settled as_out r) (λ fault. SameDesk before desk)
stays-settled as_out before desk (Ok t) stays = tt
stays-settled as_out before desk (Err (refusals.Condition row)) stays = tt
stays-settled as_out before desk (Err (refusals.Code code)) stays = tt
stays-settled as_out before desk (Err refusals.Memory) stays = stays
stays-settled as_out before desk (Err refusals.Device) stays = stays

-- ---- at the desk alone

-- there are contents that fit any handles
abbrev total : List Handle → ℕ
total [] = 0
total (h ∷ hs) = h.id + total hs

given-more : (hs : List Handle) (low high : ℕ) → low ≤ high → AllByRecursion (λ h. h.id ≤ low) hs → AllByRecursion (λ h. h.id ≤ high) hs
given-more [] low high more all = tt
given-more (h ∷ hs) low high more all = (let k : h.id ≤ low = all.0 in omega (arith, more, k), given-more hs low high more all.1)

given-total : (hs : List Handle) → AllByRecursion (λ h. h.id ≤ total hs) hs
given-total [] = tt
given-total (h ∷ hs) = (omega arith, given-more hs (total hs) (h.id + total hs) (omega arith) (given-total hs))

abbrev fitting : List Handle → Contents
fitting hs = record { objects = []; token_record = new_record; last_id = total hs }

fits-fitting : (hs : List Handle) → Fits (fitting hs) hs
fits-fitting hs = record { given = given-total hs; noted = tt }

pub some-fits : (hs : List Handle) → (c : Contents) × Fits c hs
some-fits hs = (fitting hs, fits-fitting hs)

module _ {T : Type 0} (tell : T → Said) (as_out : T → Out) (f : View → Answer) (before desk : DeskState) where
  abbrev at : Contents
  at = fitting before.handles.entries

  plain-does : (r : Result T Refusal) → ((t : T) → said_of (as_out t) ≡ tell t) → ((v : View) → resource_error_in (f v).says ≡ None)
      → DoesAtDesk tell (f (view_of at before)) at before r desk → IfOk (settled as_out r) (λ out. resource_error_in (said_of out) ≡ None)
  plain-does (Ok t) same plain does = ap resource_error_in (same t ∙ does.says) ∙ plain (view_of at before)
  plain-does (Err (refusals.Condition row)) same plain does = plain-row row
  plain-does (Err (refusals.Code code)) same plain does = sym (ap (λ a. resource_error_in a.says) does.0) ∙ plain (view_of at before)
  plain-does (Err refusals.Memory) same plain does = tt
  plain-does (Err refusals.Device) same plain does = tt

  pub plain-at-desk : {given : Type 0} (r : Result T Refusal) → ((t : T) → said_of (as_out t) ≡ tell t)
      → ((v : View) → resource_error_in (f v).says ≡ None) → AtDeskIf given tell f before r desk
      → IfOk (settled as_out r) (λ out. resource_error_in (said_of out) ≡ None)
  plain-at-desk r same plain does = plain-does r same plain (does.serves at (fits-fitting before.handles.entries))

  stays-does : (r : Result T Refusal) → DoesAtDesk tell (f (view_of at before)) at before r desk
      → IfErr (settled as_out r) (λ fault. SameDesk before desk)
  stays-does (Ok t) does = tt
  stays-does (Err (refusals.Condition row)) does = tt
  stays-does (Err (refusals.Code code)) does = tt
  stays-does (Err refusals.Memory) does = does
  stays-does (Err refusals.Device) does = absurd does

  pub stays-at-desk : {given : Type 0} (r : Result T Refusal) → AtDeskIf given tell f before r desk
      → IfErr (settled as_out r) (λ fault. SameDesk before desk)
  stays-at-desk r does = stays-does r (does.serves at (fits-fitting before.handles.entries))
