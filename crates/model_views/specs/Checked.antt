-- The conditions of a call's table, in their order: the first that holds determines the code, and the call's own answer
-- comes after the last. The order stands in the table alone.
use Rattle.std.specs.Prelude.{ℕ, ◌==◌, Bool, true, false, Option, Some, None, List, [], ◌∷◌, is_none, if◌then◌else◌}
use Rattle.std.specs.Option.{unwrap_or}
use Rattle.ck_types.specs.declared.attr_type.AttrType.{AttrType}
use Rattle.ck_types.specs.declared.entry.Entry.{Entry}
use Rattle.ck_types.specs.declared.key_type.KeyType.{KeyType}
use Rattle.ck_types.specs.declared.key_type.KeyType.TheVariants.{GenericSecret, Aes}
use Rattle.ck_types.specs.Numbers.{key_type_number}
use Rattle.ck_types.specs.declared.rv.Rv.{Rv}
use Rattle.ck_types.specs.declared.rv.Rv.TheVariants.{Ok}
use Rattle.ck_types.specs.declared.session_state.SessionState.{SessionState}
use Rattle.ck_calls.specs.declared.function.Function.{Function}
use Rattle.ck_calls.specs.declared.reply.Reply.{Reply}
use Rattle.ck_calls.specs.Functions.{function_number}
use Rattle.attrs.specs.Objects.{flag}
use Rattle.precede.specs.declared.condition.Condition.{Condition}
use Rattle.precede.specs.declared.condition.Condition.TheVariants.{NoSession, NoObject}
use Rattle.precede.specs.Table.{table_of}
use Rattle.sessions.specs.declared.Session.{Session}
use Rattle.sessions.specs.Sessions.{state_of}
use Rattle.ops.specs.Operations.{Operations}
use Rattle.model_views.specs.Views.{View}
use Rattle.model_views.specs.Answering.{Answer, replies, refuses, refuses_by, session_of, object_at}

abbrev pub by_rows : List Condition → (Condition → Bool) → (Condition → Answer) → Answer → Answer
by_rows [] holds says answer = answer
by_rows (row ∷ rows) holds says answer = if holds row then says row else by_rows rows holds says answer

abbrev pub checked_by : Function → (Condition → Bool) → (Condition → Answer) → Answer → Answer
checked_by function holds says answer = by_rows (table_of (function_number function)) holds says answer

-- where each condition refuses by its code
abbrev pub checked : Function → (Condition → Bool) → View → Answer → Answer
checked function holds v answer = checked_by function holds (refuses_by v) answer

-- ---- what conditions test

-- a session is read/write, and its state
abbrev pub writes : Option (Session Operations) → Bool
writes None = false
writes (Some s) = s.read_write

abbrev pub state_in : View → ℕ → SessionState
state_in v s = state_of v.sessions.login (writes (session_of v s))

-- a flag of an object
abbrev pub flag_at : Option (List Entry) → AttrType → Bool
flag_at o t = flag (unwrap_or o []) t

-- a key is an AES key, and is of a type
abbrev pub is_aes : Option KeyType → Bool
is_aes None = false
is_aes (Some GenericSecret) = false
is_aes (Some Aes) = true

abbrev pub is_of_type : KeyType → Option KeyType → Bool
is_of_type t None = false
is_of_type t (Some u) = key_type_number t == key_type_number u

-- ---- a call that reads an object

-- the conditions of such a call
abbrev pub object_row : View → ℕ → ℕ → Condition → Bool
object_row v s handle NoSession = is_none (session_of v s)
object_row v s handle NoObject = is_none (object_at v handle)
object_row v s handle _ = false

-- what is returned of the object under a handle
abbrev pub reads : Function → View → ℕ → ℕ → (List Entry → Reply) → Answer
reads function v s handle tells = checked function (object_row v s handle) v (replies v (tells (unwrap_or (object_at v handle) [])))

-- ---- a call that makes or changes an object by a template

-- what a template makes, where it isn't refused
abbrev pub made_by : Option Rv → List Entry → List Entry
made_by None o = o
made_by (Some code) o = []

-- the code of a template that is refused
abbrev pub refuses_template : View → Option Rv → Answer
refuses_template v fault = refuses v (unwrap_or fault Ok)
