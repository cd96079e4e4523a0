-- A call at one desk is the world's next step.
use Rattle.std.proofs.lemmas.Bool.{cases_eq}
use Rattle.std.proofs.Common.{◌≡◌, false, true, ◌≢◌, ℕ, List, ◌++◌, Option, Some, None, Result, Ok, Err, refl, sym, ◌∙◌, ap, inl, inr, subst, arith}
use Rattle.std.specs.Prelude.{IfErr, IfOk, IsSome}
use Rattle.std.specs.Option.{option_map}
use Rattle.ck_types.specs.declared.rv.Rv.TheVariants.{DeviceError}
use Rattle.ck_calls.specs.declared.call.Call.{Call}
use Rattle.ck_calls.specs.declared.reply.Reply.TheVariants.{Code}
use Rattle.keep.specs.Contents.{Contents}
use Rattle.keep.specs.Keeping.{Terms}
use Rattle.model_views.specs.declared.fault.Fault.{Fault}
use Rattle.model_views.specs.declared.fault.Fault.TheVariants.{Memory, Device}
use Rattle.desk.specs.Desks.{DeskState, SameDesk}
use Rattle.model_worlds.specs.declared.check.Check.{Check}
use Rattle.serve_base.specs.declared.out.Out.{Out}
use Rattle.serve_base.specs.declared.out.Out.TheVariants.{Reply as OutReply}
use Rattle.model_views.specs.Views.{View, sees}
use Rattle.model_views.specs.Changes.{Change, in_list}
use Rattle.model_views.specs.Answering.{Replies, Answer, Reveal, pin_checked_in}
use Rattle.model_answers.specs.Answers.{answer}
use Rattle.model_views.specs.Refusals.{resource_error_in, refusal}
use Rattle.model_worlds.specs.Worlds.{World, answer_at, checks_of, list_change, called, reveal_by_call, reveal_to_call, says_called, stepped}
use Rattle.serve_base.specs.Short.{IsShortSaid}
use Rattle.serve_base.specs.Shown.{view_of, objects_of, said_of, ChangesContents, IsFor}
use Rattle.model_runs.specs.Applications.{desk_at, checks_after, are_others_in_session, told_as, Depicts, Shows, ShowsAfter}
use Rattle.model_runs.proofs.Seats.{seated-is}
use Rattle.serve_base.specs.Stores.{StoreState, LacksId, ServesAnswer}
use Rattle.model_runs.specs.Runs.{Lasting, lasting_of, lasting_in, MayLeave, LeavesBy, call_change}
use Rattle.model_answers.proofs.Proper.{plain-answer}
use Rattle.serve_base.proofs.Changing.{last-changed, lacks-in_list, objects-changed, record-changed}
use Rattle.model_runs.proofs.Steps.{state, fits-given, depicts-given, fits-all, depicts-same}

-- which of both it was follows from what is returned
went : (v : View) (call : Call) (random : List ℕ) (r : Reveal) (out : Out) → said_of out ≡ (answer v call random r).says
    → resource_error_in (said_of out) ≡ None
went v call random r out is = ap resource_error_in is ∙ plain-answer v call random r

refused-resource_error_in : (fault : Fault) → (f : Fault) × (resource_error_in (said_of (told_as (Err fault))) ≡ Some f)
    × (Replies (refusal f) ≡ said_of (told_as (Err fault)))
refused-resource_error_in Memory = (Memory, refl, refl)
refused-resource_error_in Device = (Device, refl, refl)

module _ {K : Type 0} (terms : Terms K) (old new : StoreState K) (ds ds' : List (ℕ × DeskState)) (cs : List Check) (app : ℕ)
    (call : Call) (random : List ℕ) (w : World) (s : Shows terms (record { store = old; desks = ds; checks = cs }) w)
    (others : (b : ℕ) → b ≢ app → SameDesk (desk_at ds b) (desk_at ds' b)) where
  abbrev reveal : Reveal
  reveal = reveal_by_call call (are_others_in_session ds app)

  abbrev given : Answer
  given = answer (view_of s.contents (desk_at ds app)) call random reveal

  abbrev pub IsServed : Result Out Fault → Type 0
  IsServed r = ServesAnswer terms said_of given s.contents old new (desk_at ds app) (desk_at ds app) r (desk_at ds' app)

  given-is : answer_at w app call random ≡ given
  given-is = ap (λ v. answer v call random (reveal_to_call w app call)) (s.depicts.views app)
      ∙ ap (λ b. answer (view_of s.contents (desk_at ds app)) call random (reveal_by_call call b))
      (seated-is ds w.in_session app s.depicts.in_session)

  change-is : call_change w app call random ≡ in_list (sees (desk_at ds app).sessions.login) (objects_of s.contents) given.change
  change-is = ap (list_change w app) given-is ∙ rw (s.depicts.views app, s.depicts.objects) refl

  refused-desks : (fault : Fault) → IsServed (Err fault) → (b : ℕ) → SameDesk (desk_at ds b) (desk_at ds' b)
  refused-desks fault m b = elim (cases_eq b app) [
    | inl is ↦ rw is m.same
    | inr differ ↦ others b differ
  ]

  pub next-called : (r : Result Out Fault) → IsServed r
      → ShowsAfter terms s.contents 1 (record { store = new; desks = ds'; checks = checks_after app r cs })
      (called w app call random (resource_error_in (said_of (told_as r))))
  next-called (Ok out) m = (
    record {
      contents = m.contents;
      has = m.has;
      fits = fits-given given s.contents m.contents ds ds' app s.fits others (said_of out) m.gives;
      depicts = rw (went (view_of s.contents (desk_at ds app)) call random reveal out m.gives.says, given-is)
          (subst (λ x. Depicts (state m.contents ds' (cs ++ checks_of app (pin_checked_in x))) (stepped w app given))
          (sym m.gives.says) (depicts-given given s.contents m.contents ds ds' app s.fits others (said_of out) m.gives cs w s.depicts));
    },
    last-changed (in_list (sees (desk_at ds app).sessions.login)
        (objects_of s.contents) given.change) s.contents m.contents m.gives.changes,
  )
  next-called (Err fault) m = let f = refused-resource_error_in fault in rw f.1 (
    record {
      contents = s.contents;
      has = m.has;
      fits = fits-all s.contents ds ds' (refused-desks fault m) s.fits;
      depicts = depicts-same s.contents ds ds' cs w (refused-desks fault m) s.depicts;
    },
    omega arith,
  )

  pub shows-called : (r : Result Out Fault) → IsServed r
      → Shows terms (record { store = new; desks = ds'; checks = checks_after app r cs })
      (called w app call random (resource_error_in (said_of (told_as r))))
  shows-called r m = (next-called r m).0

  -- an answer for which there is no id adds an object to what lasts
  pub lacks-called : LacksId given.change s.contents → LacksId (call_change w app call random) s.contents
  lacks-called lacks = rw change-is
      (lacks-in_list (sees (desk_at ds app).sessions.login) (objects_of s.contents) given.change s.contents lacks)

  pub says-called : (r : Result Out Fault) → IsServed r
      → said_of (told_as r) ≡ says_called w app call random (resource_error_in (said_of (told_as r)))
  says-called (Ok out) m = m.gives.says ∙ ap (λ (a : Answer). a.says) (sym given-is)
      ∙ sym (ap (says_called w app call random) (went (view_of s.contents (desk_at ds app)) call random reveal out m.gives.says))
  says-called (Err fault) m = let f = refused-resource_error_in fault in rw f.1 (sym f.2)

  -- the world after the answer, at which what lasts is that of contents which its change makes
  lasts : (d : Contents) → ChangesContents
      (in_list (sees (desk_at ds app).sessions.login) (objects_of s.contents) given.change) s.contents d
      → lasting_in d ≡ lasting_of (called w app call random None)
  lasts d is =
      let change : Change = in_list (sees (desk_at ds app).sessions.login) (objects_of s.contents) given.change in
      rw (
        change-is,
        s.depicts.token_record,
        s.depicts.objects,
        objects-changed change s.contents d is,
        record-changed change s.contents d is,
      ) refl

  pub leaves-called : (r : Result Out Fault) → IsServed r → (l : Option Lasting)
      → MayLeave terms (record { store = new; desks = ds'; checks = checks_after app r cs }) l
      → LeavesBy (MayLeave terms (record { store = old; desks = ds; checks = cs })) (call_change w app call random)
      (called w app call random None) (resource_error_in (said_of (told_as r))) l
  leaves-called (Ok out) m l may =
      rw (went (view_of s.contents (desk_at ds app)) call random reveal out m.gives.says) (elim (m.leaves may.0 may.1) [
        | inl before ↦ inl ((may.0, before.0, may.2), change-is ∙ before.1)
        | inr is ↦ inr (may.2 ∙ ap (option_map lasting_in) is ∙ ap Some (lasts m.contents m.gives.changes))
      ])
  leaves-called (Err fault) m l may = let f = refused-resource_error_in fault in rw f.1 (elim (m.leaves may.0 may.1) [
    | inl before ↦ inl (may.0, before, may.2)
    | inr is ↦ inr (may.2 ∙ ap (option_map lasting_in) is.1 ∙ ap Some (lasts is.0 is.2))
  ])

-- ---- whatever is kept

-- the device is to blame only where it failed
pub blames-device : (r : Result Out Fault) → IfOk r (λ out. resource_error_in (said_of out) ≡ None)
    → told_as r ≡ OutReply (Code DeviceError) → r ≡ Err Device
blames-device (Ok out) plain is = let p : Some Device ≡ None = ap (λ o. resource_error_in (said_of o)) (sym is) ∙ plain in cc
blames-device (Err Memory) plain is = cc
blames-device (Err Device) plain is = refl

-- a refusal leaves the desk
pub stays-called : (r : Result Out Fault) (before desk : DeskState) → IfOk r (λ out. resource_error_in (said_of out) ≡ None)
    → IfErr r (λ fault. SameDesk before desk) → IsSome (resource_error_in (said_of (told_as r))) → SameDesk before desk
stays-called (Ok out) before desk plain stays some = let k : false ≡ true = subst IsSome plain some in cc
stays-called (Err fault) before desk plain stays some = stays

-- what is returned for a fault is short
pub short-called : (r : Result Out Fault) → IfOk r (λ out. IsShortSaid (said_of out)) → IsShortSaid (said_of (told_as r))
short-called (Ok out) short = short
short-called (Err Memory) short = tt
short-called (Err Device) short = tt

-- a job is the application's, and a fault is none
pub for-called : (app : ℕ) (r : Result Out Fault) → IfOk r (IsFor app) → IsFor app (told_as r)
for-called app (Ok out) is = is
for-called app (Err fault) is = tt
