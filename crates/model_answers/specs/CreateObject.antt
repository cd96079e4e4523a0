-- C_CreateObject (PKCS #11 v3.1, 5.7.1).
use Rattle.std.specs.Prelude.{ℕ, ◌+◌, Bool, false, ◌&&◌, not, nat_le, List, [], ◌∷◌, ◌++◌, length, if◌then◌else◌, Option, Some, None, is_some, is_none}
use Rattle.ck_types.specs.declared.constants.TheConstants.{MAX_SESSION_OBJECTS}
use Rattle.ck_types.specs.declared.attr_type.AttrType.TheVariants as attr
use Rattle.ck_calls.specs.declared.function.Function.TheVariants.{CreateObject}
use Rattle.ck_calls.specs.declared.reply.Reply.TheVariants.{Object}
use Rattle.guard.specs.Access.{is_rw, is_visible}
use Rattle.precede.specs.Table.{write}
use Rattle.templates.specs.declared.making.Making.TheVariants.{Create}
use Rattle.templates.specs.Faults.{template_fault}
use Rattle.templates.specs.Made.{object_made, given_value}
use Rattle.precede.specs.declared.condition.Condition.TheVariants.{NoSession, TemplateRefused, TokenObjectReadOnly, PrivateObject, ObjectLimit}
use Rattle.model_views.specs.Checked.{by_rows}
use Rattle.model_views.specs.Calls.{Rv, Entry, SessionState, flag, Condition, View, Stays, Insert, Answer, Replies, refuses_by, session_of, checked_by, state_in, made_by, refuses_template}

-- A new object has the next handle. A token object is the last, and others see it without a handle; a session
-- object belongs to the session that made it.
abbrev pub adds_token_object : View → List Entry → Answer
adds_token_object v o =
    record {
      says = Replies (Object v.next_handle);
      view = record v { tokens = v.tokens ++ record { object = o; handle = Some v.next_handle } ∷ []; next_handle = v.next_handle + 1 };
      change = Insert o;
    }

abbrev pub adds_session_object : View → ℕ → List Entry → Answer
adds_session_object v s o =
    record {
      says = Replies (Object v.next_handle);
      view = record v { own = v.own ++ record { object = o; handle = v.next_handle; session = s } ∷ []; next_handle = v.next_handle + 1 };
      change = Stays;
    }

abbrev pub adds : View → ℕ → List Entry → Answer
adds v s o = if flag o attr.Token then adds_token_object v o else adds_session_object v s o

-- the last conditions of a call that makes an object by a template
abbrev pub makes_row : View → SessionState → Option Rv → List Entry → Condition → Bool
makes_row v state fault o TemplateRefused = is_some fault
makes_row v state fault o TokenObjectReadOnly = flag o attr.Token && not (is_rw state)
makes_row v state fault o PrivateObject = not (is_visible state o)
makes_row v state fault o ObjectLimit = not (flag o attr.Token) && nat_le MAX_SESSION_OBJECTS (length v.own)
makes_row v state fault o _ = false

-- an object that is made is added, where none of these conditions holds
abbrev pub adds_where : View → ℕ → SessionState → List Entry → Answer
adds_where v s state o = by_rows write (makes_row v state None o) (refuses_by v) (adds v s o)

abbrev pub makes_says : View → Option Rv → Condition → Answer
makes_says v fault TemplateRefused = refuses_template v fault
makes_says v fault row = refuses_by v row

abbrev pub create_row : View → ℕ → Option Rv → List Entry → Condition → Bool
create_row v s fault o NoSession = is_none (session_of v s)
create_row v s fault o row = makes_row v (state_in v s) fault o row

abbrev pub creates : View → ℕ → Option Rv → List Entry → Answer
creates v s fault o = checked_by CreateObject (create_row v s fault o) (makes_says v fault) (adds v s o)

abbrev pub create_object : View → ℕ → List Entry → List ℕ → Answer
create_object v s template random =
    let fault = template_fault Create (state_in v s) [] template in
    creates v s fault (made_by fault (object_made Create [] template random (given_value template)))
