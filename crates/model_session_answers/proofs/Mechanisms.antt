-- C_GetMechanismList and C_GetMechanismInfo.
use Rattle.std.proofs.Common.{ℕ, true, refl}
use Rattle.std.specs.Option.{unwrap_or}
use Rattle.ck_types.specs.declared.mech_type.MechType.TheVariants.{AesEcb}
use Rattle.ck_calls.specs.declared.function.Function.TheVariants.{GetMechanismList, GetMechanismInfo}
use Rattle.ck_calls.specs.declared.reply.Reply.TheVariants.{MechanismList, MechanismInfo}
use Rattle.ck_mechanisms.specs.Table.{listed_numbers, mechanism_at, info_of}
use Rattle.model_session_answers.specs.OpenSession.{slot_row}
use Rattle.model_session_answers.specs.Mechanisms.{get_mechanism_list, mechanism_info_row, get_mechanism_info}
use Rattle.model_views.proofs.Checks.{replies, IsProper, blind-reply, fair, proper-checked}

pub proper-get_mechanism_list : (slot : ℕ) → IsProper (λ v r. get_mechanism_list v slot) true
proper-get_mechanism_list slot =
    proper-checked GetMechanismList (λ v. slot_row slot) (λ v. replies v (MechanismList listed_numbers)) (λ v row. refl)
    (λ v. blind-reply v (MechanismList listed_numbers))
    (λ v. fair v {a = replies v (MechanismList listed_numbers)} refl refl refl refl refl)

pub proper-get_mechanism_info : (slot number : ℕ) → IsProper (λ v r. get_mechanism_info v slot number) true
proper-get_mechanism_info slot number =
    let told = MechanismInfo (info_of (unwrap_or (mechanism_at number) AesEcb)) in
    proper-checked GetMechanismInfo (λ v. mechanism_info_row slot number) (λ v. replies v told) (λ v row. refl)
    (λ v. blind-reply v told) (λ v. fair v {a = replies v told} refl refl refl refl refl)
