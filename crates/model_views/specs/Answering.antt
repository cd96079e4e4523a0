-- What answers are made of.
use Rattle.std.specs.Prelude.{ℕ, ◌+◌, ◌^◌, Bool, false, ◌||◌, ◌==◌, nat_le, List, [], ◌∷◌, find, is_some, if◌then◌else◌, Option, Some, None, nat_lt, length}
use Rattle.std.specs.Option.{option_map}
use Rattle.ck_types.specs.declared.entry.Entry.{Entry}
use Rattle.ck_types.specs.declared.rv.Rv.{Rv}
use Rattle.ck_types.specs.declared.rv.Rv.TheVariants.{Ok}
use Rattle.ck_types.specs.declared.user_type.UserType.{UserType}
use Rattle.ck_types.specs.declared.user_type.UserType.TheVariants.{So}
use Rattle.ck_calls.specs.declared.call.Call.{Call}
use Rattle.ck_calls.specs.declared.function.Function.{Function}
use Rattle.ck_calls.specs.declared.reply.Reply.{Reply}
use Rattle.ck_calls.specs.declared.reply.Reply.TheVariants.{Code}
use Rattle.attrs.specs.Masking.{mask as mask_object}
use Rattle.pin_record.specs.Records.{charged}
use Rattle.precede.specs.declared.condition.Condition.{Condition}
use Rattle.precede.specs.Condition.{code_of}
use Rattle.sessions.specs.declared.Session.{Session}
use Rattle.sessions.specs.Sessions.{session_at}
use Rattle.ops.specs.declared.place.Place.{Place}
use Rattle.ops.specs.declared.place.MacPlace.{MacPlace}
use Rattle.ops.specs.Operations.{Operation, MacOperation, Operations, table_with_operation as in_sessions, table_with_mac as mac_in_sessions}
use Rattle.lists.specs.Indexes.{first_index}
use Rattle.model_views.specs.Views.{View, TokenObject, SessionObject, Task, Ciphers, Takes, Signs, Verifies, WrapsKey, UnwrapsKey, ChecksPin, MakesPin, ChangesPin, InitsToken, ResetsToken, Question, mask, mask_question}
use Rattle.model_views.specs.Changes.{Change, Stays, Records, mask_change}

-- a reply, or a job for a pending call
pub data Said : Type 0 where
  Replies : (reply : Reply) → Said
  Asks : (question : Question) → Said

abbrev pub mask_said : Said → Said
mask_said (Replies reply) = Replies reply
mask_said (Asks question) = Asks (mask_question question)

-- the PIN that a task checks
abbrev pub pin_checked_by : Task → Option UserType
pin_checked_by (Ciphers part operation input) = None
pin_checked_by (Takes place operation input) = None
pin_checked_by (Signs operation input) = None
pin_checked_by (Verifies operation input signature) = None
pin_checked_by (WrapsKey key value) = None
pin_checked_by (UnwrapsKey key wrapped state template random) = None
pin_checked_by (ChecksPin who verifier pin) = Some who
pin_checked_by (MakesPin pin salt) = None
pin_checked_by (ChangesPin who verifier pin new_pin salt) = Some who
pin_checked_by (InitsToken label pin salt) = None
pin_checked_by (ResetsToken label verifier pin) = Some So

-- and that a call which becomes pending begins to check
abbrev pub pin_checked_in : Said → Option UserType
pin_checked_in (Replies reply) = None
pin_checked_in (Asks q) = pin_checked_by q.task

-- what is returned, the application's view after it, and what others may see of it
pub record Answer : Type 0 where
  pub says : Said
  pub view : View
  pub change : Change

-- an answer as it is revealed to the application
abbrev pub shown : Answer → Answer
shown a = record { says = mask_said a.says; view = mask a.view; change = mask_change a.change }

-- what else comes in from outside with a call or a result (declassified), each where the answer depends on it: the list of
-- all token objects, how many other applications check the same PIN, and whether another one has a session
pub record Reveal : Type 0 where
  pub objects : Option (List (List Entry))
  pub under_way : Option ℕ
  pub others_have_sessions : Option Bool

abbrev pub reveals_nothing : Reveal
reveals_nothing = record { objects = None; under_way = None; others_have_sessions = None }

abbrev pub mask_objects : List (List Entry) → List (List Entry)
mask_objects [] = []
mask_objects (o ∷ os) = mask_object o ∷ mask_objects os

abbrev pub mask_reveal : Reveal → Reveal
mask_reveal r = record {
  objects = option_map mask_objects r.objects;
  under_way = r.under_way;
  others_have_sessions = r.others_have_sessions;
}

-- ---- replies

-- a reply that changes nothing
abbrev pub replies : View → Reply → Answer
replies v reply = record { says = Replies reply; view = v; change = Stays }

abbrev pub refuses : View → Rv → Answer
refuses v code = replies v (Code code)

-- the code of a condition of the call's table
abbrev pub refuses_by : View → Condition → Answer
refuses_by v row = refuses v (code_of Ok row)

-- the code of the first condition that holds, or else the answer
abbrev pub unless : View → List (Condition × Bool) → Answer → Answer
unless v [] answer = answer
unless v (row ∷ rows) answer = if row.1 then refuses_by v row.0 else unless v rows answer

-- a reply to a call that changes the application's own view alone
abbrev pub becomes : Reply → View → Answer
becomes reply v = record { says = Replies reply; view = v; change = Stays }

-- the call becomes pending: it returns a job
abbrev pub asks : View → Function → ℕ → Task → Answer
asks v function session task =
    let q : Question = record { number = v.next_question; function = function; session = session; task = task } in
    record { says = Asks q; view = record v { question = Some q; next_question = v.next_question + 1 }; change = Stays }

-- so, where the pending call checks a PIN: the check begins with its charge, which is the change that others see
abbrev pub asks_checked : View → Function → ℕ → Task → UserType → Answer
asks_checked v function session task who =
    let q : Question = record { number = v.next_question; function = function; session = session; task = task } in
    let r = charged v.token_record who in
    record {
      says = Asks q;
      view = record v { token_record = r; question = Some q; next_question = v.next_question + 1 };
      change = Records r;
    }

-- the call that becomes pending is seen
abbrev pub noted_by : Call → Answer → Said → Answer
noted_by c a (Replies reply) = a
noted_by c a (Asks q) = record a { view = record a.view { call = Some c } }

abbrev pub noted : Call → Answer → Answer
noted c a = noted_by c a a.says

-- its pending call is over
abbrev pub answered : View → View
answered v = record v { call = None; question = None }

-- ---- sessions

abbrev pub session_of : View → ℕ → Option (Session Operations)
session_of v s = session_at v.sessions.sessions s

-- the application has a session
abbrev pub has_session : View → Bool
has_session v = nat_lt 0 (length v.sessions.sessions)

-- an operation that encrypts or decrypts stands at a place of a session, or none; and one that signs or verifies
abbrev pub with_operation : View → ℕ → Place → Option Operation → View
with_operation v s place o = record v { sessions = in_sessions v.sessions s place o }

abbrev pub with_mac : View → ℕ → MacPlace → Option MacOperation → View
with_mac v s place o = record v { sessions = mac_in_sessions v.sessions s place o }

-- ---- objects

abbrev pub is_handle : Option ℕ → ℕ → Bool
is_handle None handle = false
is_handle (Some n) handle = n == handle

-- the index of the token object under a handle
abbrev pub index_of : List TokenObject → ℕ → Option ℕ
index_of ts handle = first_index (λ t. is_handle t.handle handle) ts

abbrev pub first_object : Option TokenObject → Option SessionObject → Option (List Entry)
first_object None None = None
first_object None (Some e) = Some e.object
first_object (Some t) other = Some t.object

-- the object under a handle
abbrev pub object_at : View → ℕ → Option (List Entry)
object_at v handle = first_object (find (λ t. is_handle t.handle handle) v.tokens) (find (λ e. e.handle == handle) v.own)

-- ---- numbers

-- no call is taken: a call is pending, or a next number is used up
unfoldable pub is_closed : View → Bool
is_closed v = is_some v.question ||
    (nat_le (2 ^ 63) v.sessions.next_number || (nat_le (2 ^ 63) v.next_handle || nat_le (2 ^ 63) v.next_question))
