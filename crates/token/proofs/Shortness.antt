-- What short work gives is short.
use Rattle.std.proofs.Common.{◌≡◌, Bool, true, false, List, ℕ, [], Option, Some, None, refl, ◌∙◌, ap, arith}
use Rattle.std.specs.Prelude.{if◌then◌else◌}
use Rattle.std.specs.Str.{bytes_eq}
use Rattle.ck_types.specs.declared.entry.Entry.{Entry}
use Rattle.macs.specs.Authentication.{longer}
use Rattle.macs.specs.Tags.{tag_of}
use Rattle.mech.specs.declared.outcome.Outcome.{Outcome}
use Rattle.mech.specs.declared.outcome.Outcome.TheVariants as out
use Rattle.mech.specs.declared.work.Work.{Work}
use Rattle.mech.specs.declared.work.Work.TheVariants.{Cipher, Take, Sign, Verify, Wrap, Unwrap, CheckPin, MakePin, ChangePin, InitToken, ResetToken}
use Rattle.mech.specs.Rooms.{HasRoom, given_of}
use Rattle.mech.specs.Works.{outcome_of, key_of}
use Rattle.mech.specs.Wrappings.{value_wrapped_in}
use Rattle.pin_record.specs.Verifiers.{accepts, new_rounds, verifier_for}
use Rattle.serve_base.specs.Short.{IsShortTask}
use Rattle.serve_base.specs.Shown.{task_of}
use Rattle.token.specs.Endings.{IsShortOutcome}

nothing-short : (x : Outcome) → given_of x ≡ [] → IsShortOutcome x
nothing-short x none = rw none (omega arith)

either-none : (b : Bool) (x y : Outcome) → given_of x ≡ [] → given_of y ≡ [] → given_of (if b then x else y) ≡ []
either-none true x y one other = one
either-none false x y one other = other

key-none : (template : List Entry) (random : List ℕ) (value : Option (List ℕ)) → given_of (key_of template random value) ≡ []
key-none template random None = refl
key-none template random (Some value) = refl

pub outcome-short : (work : Work) (x : Outcome) → x ≡ outcome_of work → HasRoom work x → IsShortTask (task_of work) → IsShortOutcome x
outcome-short (Cipher stream part input) x is room few = omega (arith, room, few)
outcome-short (Sign mac input) x is room few = omega (arith, room)
outcome-short (Wrap key value) x is room few = omega (arith, room, few)
outcome-short (Take place mac input) x is room few = nothing-short x (ap given_of is)
outcome-short (Verify mac input signature) x is room few =
    nothing-short x (ap given_of is
    ∙ either-none (bytes_eq signature (tag_of (longer mac input))) out.RightSignature out.WrongSignature refl refl)
outcome-short (Unwrap key bytes state template random) x is room few =
    nothing-short x (ap given_of is ∙ key-none template random (value_wrapped_in key bytes))
outcome-short (CheckPin who verifier pin) x is room few =
    nothing-short x (ap given_of is ∙ either-none (accepts verifier pin) (out.RightPin who) out.WrongPin refl refl)
outcome-short (MakePin pin salt) x is room few = nothing-short x (ap given_of is)
outcome-short (ChangePin who verifier pin new_pin salt) x is room few =
    nothing-short x (ap given_of is
    ∙ either-none (accepts verifier pin) (out.PinChanged who (verifier_for new_pin salt new_rounds)) out.WrongPin refl refl)
outcome-short (InitToken label pin salt) x is room few = nothing-short x (ap given_of is)
outcome-short (ResetToken label verifier pin) x is room few =
    nothing-short x (ap given_of is ∙ either-none (accepts verifier pin) (out.TokenReset label) out.WrongPin refl refl)
