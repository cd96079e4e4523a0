-- C_GetMechanismList and C_GetMechanismInfo (PKCS #11 v3.1, 5.5).
use Rattle.std.specs.Prelude.{ℕ, Bool, false, not, is_none}
use Rattle.std.specs.Option.{unwrap_or}
use Rattle.ck_types.specs.declared.mech_type.MechType.TheVariants.{AesEcb}
use Rattle.ck_calls.specs.declared.function.Function.TheVariants.{GetMechanismList, GetMechanismInfo}
use Rattle.ck_calls.specs.declared.reply.Reply.TheVariants.{MechanismList, MechanismInfo}
use Rattle.ck_mechanisms.specs.Table.{listed_numbers, mechanism_at, info_of}
use Rattle.precede.specs.declared.condition.Condition.TheVariants.{NoSlot, WrongMechanism}
use Rattle.model_views.specs.Calls.{Condition, View, Answer, replies, checked}
use Rattle.model_session_answers.specs.OpenSession.{is_slot, slot_row}

abbrev pub get_mechanism_list : View → ℕ → Answer
get_mechanism_list v slot = checked GetMechanismList (slot_row slot) v (replies v (MechanismList listed_numbers))

abbrev pub mechanism_info_row : ℕ → ℕ → Condition → Bool
mechanism_info_row slot number NoSlot = not (is_slot slot)
mechanism_info_row slot number WrongMechanism = is_none (mechanism_at number)
mechanism_info_row slot number _ = false

abbrev pub get_mechanism_info : View → ℕ → ℕ → Answer
get_mechanism_info v slot number =
    checked GetMechanismInfo (mechanism_info_row slot number) v
    (replies v (MechanismInfo (info_of (unwrap_or (mechanism_at number) AesEcb))))
