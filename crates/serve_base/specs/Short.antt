-- How much a reply has: numbers of its parts, and lengths, with which it fits into a frame; and the calls that are answered
-- so.
use Rattle.std.specs.Prelude.{◌≡◌, ℕ, ◌<◌, ◌≤◌, ◌^◌, List, Option, Some, None, IfSome, length}
use Rattle.std.specs.List.{AllByRecursion}
use Rattle.ck_types.specs.declared.constants.TheConstants.{MAX_ENTRIES, MAX_RANDOM_LEN}
use Rattle.ck_types.specs.declared.rv.Rv.{Rv}
use Rattle.ck_types.specs.declared.rv.Rv.TheVariants as rv
use Rattle.ck_calls.specs.declared.call.Call.{Call}
use Rattle.ck_calls.specs.declared.call.Call.TheVariants as calls
use Rattle.ck_calls.specs.declared.reply.AttributeValue.{AttributeValue}
use Rattle.ck_calls.specs.declared.reply.Output.{Output}
use Rattle.ck_calls.specs.declared.reply.Output.TheVariants.{Length, Data}
use Rattle.ck_calls.specs.declared.reply.Reply.{Reply}
use Rattle.ck_calls.specs.declared.reply.Reply.TheVariants as replies
use Rattle.desk.specs.Jobs.{most_added}
use Rattle.model_views.specs.Views.{Task, Ciphers, WrapsKey}
use Rattle.model_views.specs.Answering.{Said, Replies, Asks}

-- ---- replies

-- the codes that come with values of attributes
abbrev pub IsCodeOfValues : Rv → Type 0
IsCodeOfValues rv.Ok = Unit {0}
IsCodeOfValues rv.AttributeSensitive = Unit {0}
IsCodeOfValues rv.AttributeTypeInvalid = Unit {0}
IsCodeOfValues rv.BufferTooSmall = Unit {0}
IsCodeOfValues _ = ⊥

-- a value has the length that is returned with it, and is no longer than one of a whole object
pub record IsShortValue (v : AttributeValue) : Type 0 where
  pub told : v.len < 2 ^ 64
  pub value : IfSome v.value (λ bytes. (length bytes ≡ v.len) × (length bytes ≤ 1024))

-- at most as many values as a query has, with a code that comes with values
pub record AreShortValues (code : Rv) (values : List AttributeValue) : Type 0 where
  pub code_is : IsCodeOfValues code
  pub count : length values ≤ MAX_ENTRIES
  pub each : AllByRecursion IsShortValue values

-- how much data fits into a frame: a payload of 1,048,576 bytes, less a code, a byte and a length
abbrev pub most_data : ℕ
most_data = 1048563

abbrev pub IsShortOutput : Output → Type 0
IsShortOutput (Length wanted) = Unit {0}
IsShortOutput (Data bytes) = length bytes ≤ most_data

abbrev pub IsShort : Reply → Type 0
IsShort (replies.MechanismList mechanisms) = length mechanisms ≤ 1024
IsShort (replies.AttributeValues code values) = AreShortValues code values
IsShort (replies.Objects objects) = length objects ≤ 1024
IsShort (replies.Output output) = IsShortOutput output
IsShort (replies.Random bytes) = length bytes ≤ MAX_RANDOM_LEN
IsShort _ = Unit {0}

-- a task whose result gives such a reply
abbrev pub IsShortTask : Task → Type 0
IsShortTask (Ciphers part o input) = most_added part o.mechanism o.direction (length o.taken) (length input) ≤ most_data
IsShortTask (WrapsKey key value) = IfSome value (λ bytes. length bytes ≤ 1024)
IsShortTask _ = Unit {0}

abbrev pub IsShortSaid : Said → Type 0
IsShortSaid (Replies reply) = IsShort reply
IsShortSaid (Asks question) = IsShortTask question.task

-- ---- calls

-- data that fits into a frame, where a buffer's length comes with it
abbrev pub IsShortData : List ℕ → Option ℕ → Type 0
IsShortData input None = Unit {0}
IsShortData input (Some buffer_len) = length input ≤ 1048553

-- a call with such data, or that asks for at most as many attributes as a query has
abbrev pub IsShortCall : Call → Type 0
IsShortCall (calls.GetAttributeValue session object query) = length query ≤ MAX_ENTRIES
IsShortCall (calls.Encrypt session input buffer_len) = IsShortData input buffer_len
IsShortCall (calls.EncryptUpdate session input buffer_len) = IsShortData input buffer_len
IsShortCall (calls.Decrypt session input buffer_len) = IsShortData input buffer_len
IsShortCall (calls.DecryptUpdate session input buffer_len) = IsShortData input buffer_len
IsShortCall _ = Unit {0}
