-- C_CopyObject (PKCS #11 v3.1, 5.7.2).
use Rattle.std.specs.Prelude.{ℕ, Bool, not, List, [], Option, is_none}
use Rattle.std.specs.Option.{unwrap_or}
use Rattle.ck_types.specs.declared.attr_type.AttrType.TheVariants as attr
use Rattle.ck_calls.specs.declared.function.Function.TheVariants.{CopyObject}
use Rattle.templates.specs.declared.making.Making.TheVariants.{Copy}
use Rattle.templates.specs.Faults.{template_fault}
use Rattle.templates.specs.Made.{object_made}
use Rattle.precede.specs.declared.condition.Condition.TheVariants.{NoSession, NoObject, NotCopyable}
use Rattle.model_views.specs.Calls.{Rv, Entry, Condition, View, Answer, session_of, object_at, checked_by, state_in, flag_at, made_by}
use Rattle.model_answers.specs.CreateObject.{makes_row, makes_says, adds}

abbrev pub copy_row : View → ℕ → Option (List Entry) → Option Rv → List Entry → Condition → Bool
copy_row v s original fault o NoSession = is_none (session_of v s)
copy_row v s original fault o NoObject = is_none original
copy_row v s original fault o NotCopyable = not (flag_at original attr.Copyable)
copy_row v s original fault o row = makes_row v (state_in v s) fault o row

abbrev pub copies : View → ℕ → Option (List Entry) → Option Rv → List Entry → Answer
copies v s original fault o = checked_by CopyObject (copy_row v s original fault o) (makes_says v fault) (adds v s o)

-- The copy is added as a new object is: it has a handle of its own, and a session object belongs to the session
-- that makes it.
abbrev pub copies_of : View → ℕ → Option (List Entry) → List Entry → List ℕ → Answer
copies_of v s original template random =
    let fault = template_fault Copy (state_in v s) (unwrap_or original []) template in
    copies v s original fault (made_by fault (object_made Copy (unwrap_or original []) template random []))

abbrev pub copy_object : View → ℕ → ℕ → List Entry → List ℕ → Answer
copy_object v s handle template random = copies_of v s (object_at v handle) template random
