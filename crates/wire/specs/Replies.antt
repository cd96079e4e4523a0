-- Replies as bytes. The form is this project's: a return code in 64 bits, and fields where the function
-- has some with that code. The payload of a reply does not name the function, so it is read by the
-- function of its call.
use Rattle.std.specs.Prelude.{◌≡◌, ℕ, ◌<◌, ◌≤◌, ◌^◌, List, length, Option, Some, None, Result, Err, true, false, nat_lt, ◌==◌, if◌then◌else◌}
use Rattle.std.specs.List.{AllByRecursion}
use Rattle.ck_types.specs.declared.constants.TheConstants.{MAX_ENTRIES}
use Rattle.ck_types.specs.declared.rv.Rv.{Rv}
use Rattle.ck_types.specs.declared.rv.Rv.TheVariants as rv
use Rattle.ck_types.specs.Numbers.{rv_number}
use Rattle.ck_types.specs.Numbered.{return_code}
use Rattle.ck_types.specs.Format.{◌>>=◌, number64, byte_string, pair, whole}
use Rattle.ck_calls.specs.declared.function.Function.{Function}
use Rattle.ck_calls.specs.declared.reply.Output.{Output}
use Rattle.ck_calls.specs.declared.reply.Output.TheVariants.{Length, Data}
use Rattle.ck_calls.specs.declared.reply.Reply.{Reply}
use Rattle.ck_calls.specs.declared.reply.Reply.TheVariants as replies
use Rattle.ck_calls.specs.Fields.{token_info, mechanism_info, session_info, numbers, output, attribute_value, attribute_values}
use Rattle.ck_calls.specs.Functions.{function_number, function_at}
use Rattle.wire.specs.declared.fault.WireFault.{WireFault}
use Rattle.wire.specs.declared.fault.WireFault.TheVariants as faults
use Rattle.ck_calls.specs.declared.shape.Shape.{Shape}
use Rattle.ck_calls.specs.declared.shape.Shape.TheVariants as shapes
use Rattle.ck_calls.specs.Shapes.{carries}
use Rattle.ck_calls.specs.Rows.{shape_of}
use Rattle.wire.specs.Messages.{most, or_malformed}

-- the payload of a reply
abbrev pub reply_payload : Reply → List ℕ
reply_payload (replies.Code code) = return_code.encode code
reply_payload (replies.TokenInfo info) = (pair return_code token_info).encode (rv.Ok, info)
reply_payload (replies.MechanismList mechanisms) = (pair return_code numbers).encode (rv.Ok, mechanisms)
reply_payload (replies.MechanismInfo info) = (pair return_code mechanism_info).encode (rv.Ok, info)
reply_payload (replies.Session session) = (pair return_code number64).encode (rv.Ok, session)
reply_payload (replies.SessionInfo info) = (pair return_code session_info).encode (rv.Ok, info)
reply_payload (replies.Object object) = (pair return_code number64).encode (rv.Ok, object)
reply_payload (replies.ObjectSize size) = (pair return_code number64).encode (rv.Ok, size)
reply_payload (replies.AttributeValues code values) = (pair return_code attribute_values).encode (code, values)
reply_payload (replies.Objects objects) = (pair return_code numbers).encode (rv.Ok, objects)
reply_payload (replies.Output out) = (pair return_code output).encode (rv.Ok, out)
reply_payload (replies.BufferTooSmall wanted) = (pair return_code output).encode (rv.BufferTooSmall, Length wanted)
reply_payload (replies.Random bytes) = (pair return_code byte_string).encode (rv.Ok, bytes)

-- whether each part of a reply has an encoding
abbrev pub Fits-reply : Reply → Type 0
Fits-reply (replies.Code code) = return_code.Fits code
Fits-reply (replies.TokenInfo info) = (pair return_code token_info).Fits (rv.Ok, info)
Fits-reply (replies.MechanismList mechanisms) = (pair return_code numbers).Fits (rv.Ok, mechanisms)
Fits-reply (replies.MechanismInfo info) = (pair return_code mechanism_info).Fits (rv.Ok, info)
Fits-reply (replies.Session session) = (pair return_code number64).Fits (rv.Ok, session)
Fits-reply (replies.SessionInfo info) = (pair return_code session_info).Fits (rv.Ok, info)
Fits-reply (replies.Object object) = (pair return_code number64).Fits (rv.Ok, object)
Fits-reply (replies.ObjectSize size) = (pair return_code number64).Fits (rv.Ok, size)
Fits-reply (replies.AttributeValues code values) = (carries shapes.AttributeValues code ≡ true)
    × (pair return_code attribute_values).Fits (code, values)
Fits-reply (replies.Objects objects) = (pair return_code numbers).Fits (rv.Ok, objects)
Fits-reply (replies.Output out) = (pair return_code output).Fits (rv.Ok, out)
Fits-reply (replies.BufferTooSmall wanted) = (pair return_code output).Fits (rv.BufferTooSmall, Length wanted)
Fits-reply (replies.Random bytes) = (pair return_code byte_string).Fits (rv.Ok, bytes)

-- Whether no list and no byte string of a reply is above its limit, and each value has the length beside it. Values come
-- with one of their codes. Then each part has an encoding, since the types bound its other numbers.
abbrev pub IsWithinLimits : Reply → Type 0
IsWithinLimits (replies.MechanismList mechanisms) = length mechanisms ≤ 1024
IsWithinLimits (replies.AttributeValues code values) = (carries shapes.AttributeValues code ≡ true) × (length values ≤ MAX_ENTRIES)
    × AllByRecursion attribute_value.Fits values
IsWithinLimits (replies.Objects objects) = length objects ≤ 1024
IsWithinLimits (replies.Output (Data bytes)) = length bytes < 2 ^ 32
IsWithinLimits (replies.Random bytes) = length bytes < 2 ^ 32
IsWithinLimits _ = Unit {0}

-- the replies that have a frame
abbrev pub HasReplyFrame : Reply → Type 0
HasReplyFrame reply = Fits-reply reply × (length (reply_payload reply) ≤ most)

-- whether a reply has a shape
abbrev pub HasShape : Shape → Reply → Type 0
HasShape shape (replies.Code code) = carries shape code ≡ false
HasShape shape (replies.TokenInfo info) = shape ≡ shapes.TokenInfo
HasShape shape (replies.MechanismList mechanisms) = shape ≡ shapes.MechanismList
HasShape shape (replies.MechanismInfo info) = shape ≡ shapes.MechanismInfo
HasShape shape (replies.Session session) = shape ≡ shapes.Session
HasShape shape (replies.SessionInfo info) = shape ≡ shapes.SessionInfo
HasShape shape (replies.Object object) = shape ≡ shapes.Object
HasShape shape (replies.ObjectSize size) = shape ≡ shapes.ObjectSize
HasShape shape (replies.AttributeValues code values) = shape ≡ shapes.AttributeValues
HasShape shape (replies.Objects objects) = shape ≡ shapes.Objects
HasShape shape (replies.Output out) = shape ≡ shapes.Output
HasShape shape (replies.BufferTooSmall wanted) = shape ≡ shapes.Output
HasShape shape (replies.Random bytes) = shape ≡ shapes.Random

-- the replies to a function that have a frame
pub record IsReplyTo (function : Function) (reply : Reply) : Type 0 where
  pub shape : HasShape (shape_of function) reply
  pub fits : Fits-reply reply
  pub short : length (reply_payload reply) ≤ most

-- the replies to the function with a number
abbrev pub IsReplyAt : ℕ → Reply → Type 0
IsReplyAt n reply = (function : Function) × (function_number function ≡ n) × IsReplyTo function reply

abbrev pub too_small : Output → Option Reply
too_small (Length wanted) = Some (replies.BufferTooSmall wanted)
too_small (Data bytes) = None

-- the reply of a shape with a code and the fields that are all of the bytes
abbrev pub decode_carried : Shape → Rv → List ℕ → Option Reply
decode_carried shapes.Code code bytes = None
decode_carried shapes.TokenInfo code bytes = whole token_info bytes >>= λ x. Some (replies.TokenInfo x)
decode_carried shapes.MechanismList code bytes = whole numbers bytes >>= λ x. Some (replies.MechanismList x)
decode_carried shapes.MechanismInfo code bytes = whole mechanism_info bytes >>= λ x. Some (replies.MechanismInfo x)
decode_carried shapes.Session code bytes = whole number64 bytes >>= λ x. Some (replies.Session x)
decode_carried shapes.SessionInfo code bytes = whole session_info bytes >>= λ x. Some (replies.SessionInfo x)
decode_carried shapes.Object code bytes = whole number64 bytes >>= λ x. Some (replies.Object x)
decode_carried shapes.ObjectSize code bytes = whole number64 bytes >>= λ x. Some (replies.ObjectSize x)
decode_carried shapes.AttributeValues code bytes = whole attribute_values bytes >>= λ x. Some (replies.AttributeValues code x)
decode_carried shapes.Objects code bytes = whole numbers bytes >>= λ x. Some (replies.Objects x)
decode_carried shapes.Output code bytes =
    whole output bytes >>= λ x. if rv_number code == rv_number rv.Ok then Some (replies.Output x) else too_small x
decode_carried shapes.Random code bytes = whole byte_string bytes >>= λ x. Some (replies.Random x)

-- the reply of a shape with a code and the bytes after it
abbrev pub decode_after : Shape → Rv → List ℕ → Option Reply
decode_after shape code bytes =
    if carries shape code then decode_carried shape code bytes else (if length bytes == 0 then Some (replies.Code code) else None)

abbrev pub decode_reply : Shape → List ℕ → Option Reply
decode_reply shape bytes = return_code.decode bytes >>= λ x. decode_after shape x.0 x.1

-- what the payload of a reply to a function decodes to, if there is one with that number
unfoldable pub reply_said : Option Function → List ℕ → Result Reply WireFault
reply_said (Some function) payload = or_malformed (decode_reply (shape_of function) payload)
reply_said None payload = Err faults.UnknownFunction

-- what the payload of a reply to the function with a number decodes to
unfoldable pub reply_in : ℕ → List ℕ → Result Reply WireFault
reply_in n payload = if nat_lt most (length payload) then Err faults.TooLong else reply_said (function_at n) payload
