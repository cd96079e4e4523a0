-- C_GenerateKey (PKCS #11 v3.1, 5.18): a key of the call's random bytes.
use Rattle.std.specs.Prelude.{ℕ, Bool, not, ◌==◌, List, [], length, Option, is_none}
use Rattle.std.specs.Option.{unwrap_or}
use Rattle.ck_types.specs.declared.mech_type.MechType.{MechType}
use Rattle.ck_types.specs.declared.mech_type.MechType.TheVariants.{AesKeyGen}
use Rattle.ck_calls.specs.declared.fields.Mechanism.{Mechanism}
use Rattle.ck_calls.specs.declared.function.Function.TheVariants.{GenerateKey}
use Rattle.ck_mechanisms.specs.declared.purpose.Purpose.TheVariants.{Generation}
use Rattle.ck_mechanisms.specs.Table.{mechanism_for}
use Rattle.templates.specs.declared.making.Making.TheVariants.{Generate}
use Rattle.templates.specs.Faults.{template_fault}
use Rattle.templates.specs.Made.{object_made, generated_value}
use Rattle.precede.specs.declared.condition.Condition.TheVariants.{NoSession, WrongMechanism, WrongParameter}
use Rattle.model_views.specs.Calls.{Rv, Entry, Condition, View, Answer, session_of, checked_by, state_in, made_by}
use Rattle.model_answers.specs.CreateObject.{makes_row, makes_says, adds}

abbrev pub generation_at : ℕ → Option MechType
generation_at number = mechanism_for Generation number

-- a mechanism that generates keys has no parameter
abbrev pub generate_row : View → ℕ → Mechanism → Option Rv → List Entry → Condition → Bool
generate_row v s m fault o NoSession = is_none (session_of v s)
generate_row v s m fault o WrongMechanism = is_none (generation_at m.mech_type)
generate_row v s m fault o WrongParameter = not (length m.parameter == 0)
generate_row v s m fault o row = makes_row v (state_in v s) fault o row

abbrev pub generates : View → ℕ → Mechanism → Option Rv → List Entry → Answer
generates v s m fault o = checked_by GenerateKey (generate_row v s m fault o) (makes_says v fault) (adds v s o)

abbrev pub generate_key : View → ℕ → Mechanism → List Entry → List ℕ → Answer
generate_key v s m template random =
    let kind = unwrap_or (generation_at m.mech_type) AesKeyGen in
    let fault = template_fault (Generate kind) (state_in v s) [] template in
    generates v s m fault (made_by fault (object_made (Generate kind) [] template random (generated_value template random)))
