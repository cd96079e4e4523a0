-- C_SetAttributeValue (PKCS #11 v3.1, 5.7.6).
use Rattle.std.specs.Prelude.{ℕ, Bool, false, ◌==◌, ◌&&◌, not, List, [], Option, Some, None, is_some, is_none}
use Rattle.std.specs.Option.{unwrap_or}
use Rattle.ck_types.specs.declared.attr_type.AttrType.TheVariants as attr
use Rattle.ck_calls.specs.declared.function.Function.TheVariants.{SetAttributeValue}
use Rattle.guard.specs.Access.{is_rw}
use Rattle.lists.specs.Indexes.{updated_where}
use Rattle.templates.specs.declared.making.Making.TheVariants.{Set}
use Rattle.templates.specs.Faults.{template_fault}
use Rattle.templates.specs.Made.{object_made}
use Rattle.precede.specs.declared.condition.Condition.TheVariants.{NoSession, NoObject, TokenObjectReadOnly, NotModifiable, TemplateRefused}
use Rattle.model_views.specs.Calls.{Entry, Rv, Ok, Code, Condition, SessionObject, View, Replace, rewritten, Answer, Replies, becomes, session_of, index_of, object_at, checked_by, state_in, flag_at, made_by}
use Rattle.model_answers.specs.CreateObject.{makes_says}

-- another session object stands under a handle
abbrev pub rewritten_own : List SessionObject → ℕ → List Entry → List SessionObject
rewritten_own es handle o = updated_where (λ e. e.handle == handle) (λ e. record { object = o; handle = e.handle; session = e.session }) es

-- The changed object stands in the place of the session object under the handle, or of the token object at an
-- index. Its handle stays.
abbrev pub puts_object : View → ℕ → List Entry → Option ℕ → Answer
puts_object v handle o None = becomes (Code Ok) (record v { own = rewritten_own v.own handle o })
puts_object v handle o (Some index) =
    record { says = Replies (Code Ok); view = record v { tokens = rewritten v.tokens index o }; change = Replace index o }

abbrev pub set_row : View → ℕ → Option (List Entry) → Option Rv → Condition → Bool
set_row v s original fault NoSession = is_none (session_of v s)
set_row v s original fault NoObject = is_none original
set_row v s original fault TokenObjectReadOnly = flag_at original attr.Token && not (is_rw (state_in v s))
set_row v s original fault NotModifiable = not (flag_at original attr.Modifiable)
set_row v s original fault TemplateRefused = is_some fault
set_row v s original fault _ = false

abbrev pub sets_attributes : View → ℕ → ℕ → Option (List Entry) → Option Rv → List Entry → Answer
sets_attributes v s handle original fault o =
    checked_by SetAttributeValue (set_row v s original fault) (makes_says v fault) (puts_object v handle o (index_of v.tokens handle))

abbrev pub sets_in : View → ℕ → ℕ → Option (List Entry) → List Entry → Answer
sets_in v s handle original template =
    let fault = template_fault Set (state_in v s) (unwrap_or original []) template in
    sets_attributes v s handle original fault (made_by fault (object_made Set (unwrap_or original []) template [] []))

abbrev pub set_attribute_value : View → ℕ → ℕ → List Entry → Answer
set_attribute_value v s handle template = sets_in v s handle (object_at v handle) template
