-- No template is refused because an allocation failed, or by the device.
use Rattle.std.proofs.Common.{◌≡◌, Bool, true, false, cond, List, Option, Some, None, refl}
use Rattle.std.specs.List.{list_any}
use Rattle.ck_types.specs.declared.entry.Entry.{Entry}
use Rattle.std.specs.Prelude.{◌||◌}
use Rattle.ck_types.specs.declared.rv.Rv.{Rv}
use Rattle.ck_types.specs.declared.rv.Rv.TheVariants as rv
use Rattle.ck_types.specs.declared.session_state.SessionState.{SessionState}
use Rattle.ck_calls.specs.declared.reply.Reply.TheVariants.{Code}
use Rattle.templates.specs.declared.making.Making.{Making}
use Rattle.attrs.specs.Objects.{class_of}
use Rattle.attrs.specs.Table.{attribute_table}
use Rattle.templates.specs.Faults.{template_fault, is_unknown, is_ill_formed, contradicts, is_read_only, is_excluded, disagrees, is_missing, has_bad_len, has_bad_unwrapped_len}
use Rattle.model_views.specs.Refusals.{resource_error}
use Rattle.model_views.proofs.Blind.{IsPlainFault}

plain-if : (b : Bool) (code : Rv) (rest : Option Rv) → resource_error (Code code) ≡ None → IsPlainFault rest
    → IsPlainFault (cond b (Some code) rest)
plain-if true code rest is p = record { plain = is }
plain-if false code rest is p = p

pub fault-plain : (c : Making) (state : SessionState) (original template : List Entry)
    → IsPlainFault (template_fault c state original template)
unfolding template_fault
fault-plain c state original template =
    plain-if (list_any (is_unknown (class_of original)) template) rv.AttributeTypeInvalid _ refl (
    plain-if (list_any is_ill_formed template) rv.AttributeValueInvalid _ refl (
    plain-if (list_any (λ e. list_any (contradicts e) template) template) rv.TemplateInconsistent _ refl (
    plain-if (list_any (is_read_only c state original) template) rv.AttributeReadOnly _ refl (
    plain-if (list_any (is_excluded c original) template || disagrees c template) rv.TemplateInconsistent _ refl (
    plain-if (list_any (is_missing c template) attribute_table) rv.TemplateIncomplete _ refl (
    plain-if (has_bad_len c template) rv.AttributeValueInvalid _ refl (
    plain-if (has_bad_unwrapped_len c template) rv.WrappedKeyLenRange None refl (
    record { plain = refl }))))))))
