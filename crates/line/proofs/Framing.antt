-- A call that was read has no more than fits into a frame, and a reply that is short has a frame.
use Rattle.std.proofs.Common.{◌≡◌, ℕ, ◌*◌, ◌≤◌, List, [], ◌∷◌, ◌++◌, length, Option, Some, None, IfSome, refl, ap, arith}
use Rattle.std.specs.Int.{w16, w64, to_be_bytes}
use Rattle.std.specs.List.{flat_map, AllByRecursion}
use Rattle.std.proofs.lemmas.List.{length-append}
use Rattle.std.proofs.lemmas.List.Concat.{flat_map-cons}
use Rattle.ck_types.specs.declared.constants.TheConstants.{MAX_ENTRIES}
use Rattle.ck_types.specs.declared.rv.Rv.{Rv}
use Rattle.ck_types.specs.declared.rv.Rv.TheVariants as rv
use Rattle.ck_types.specs.Format.{number64, byte_string, pair}
use Rattle.ck_calls.specs.declared.function.Function.{Function}
use Rattle.ck_calls.specs.declared.function.Function.TheVariants as functions
use Rattle.ck_calls.specs.declared.call.Call.{Call}
use Rattle.ck_calls.specs.declared.call.Call.TheVariants as calls
use Rattle.ck_calls.specs.declared.reply.AttributeValue.{AttributeValue}
use Rattle.ck_calls.specs.declared.reply.Output.TheVariants.{Length, Data}
use Rattle.ck_calls.specs.declared.reply.Reply.{Reply}
use Rattle.ck_calls.specs.declared.reply.Reply.TheVariants as replies
use Rattle.ck_calls.specs.Functions.{function_number}
use Rattle.ck_calls.specs.Fields.{buffer_len, token_info_counts, HasLength, encode_value, attribute_value}
use Rattle.wire.specs.declared.fault.WireFault.{WireFault}
use Rattle.wire.specs.declared.fault.WireFault.TheVariants as faults
use Rattle.wire.specs.Messages.{most, HasFrame}
use Rattle.wire.specs.Replies.{reply_payload, Fits-reply, IsWithinLimits, HasReplyFrame}
use Rattle.line.specs.Turns.{refusal_of}
use Rattle.serve_base.specs.Short.{IsCodeOfValues, IsShortValue, IsShort, IsShortData, IsShortCall}

-- ---- calls

short-data : (function : Function) (session : ℕ) (input : List ℕ) (room : Option ℕ)
    → length (to_be_bytes w16 (function_number function) ++ (pair number64 (pair byte_string buffer_len)).encode (session, (input, room)))
    ≤ most → IsShortData input room
short-data function session input None h = tt
short-data function session input (Some room) h = omega (arith, h, length-append input (1 ∷ to_be_bytes w64 room))

pub short-call : (call : Call) → HasFrame call → IsShortCall call
short-call (calls.GetAttributeValue session object query) has = omega (arith, has.0.1.1.0.0)
short-call (calls.Encrypt session input room) has = short-data functions.Encrypt session input room has.1
short-call (calls.EncryptUpdate session input room) has = short-data functions.EncryptUpdate session input room has.1
short-call (calls.Decrypt session input room) has = short-data functions.Decrypt session input room has.1
short-call (calls.DecryptUpdate session input room) has = short-data functions.DecryptUpdate session input room has.1
short-call _ has = tt

-- ---- replies

has_length : (n : ℕ) (value : Option (List ℕ)) → IfSome value (λ bytes. (length bytes ≡ n) × (length bytes ≤ 1024)) → HasLength n value
has_length n None short = tt
has_length n (Some bytes) short = short.0

each_fits : (vs : List AttributeValue) → AllByRecursion IsShortValue vs → AllByRecursion attribute_value.Fits vs
each_fits [] short = tt
each_fits (v ∷ vs) short = ((short.0.told, has_length v.len v.value short.0.value), each_fits vs short.1)

within-values : (code : Rv) (vs : List AttributeValue) → IsCodeOfValues code → length vs ≤ MAX_ENTRIES
    → AllByRecursion attribute_value.Fits vs → IsWithinLimits (replies.AttributeValues code vs)
within-values rv.Ok vs is count each = (refl, count, each)
within-values rv.AttributeSensitive vs is count each = (refl, count, each)
within-values rv.AttributeTypeInvalid vs is count each = (refl, count, each)
within-values rv.BufferTooSmall vs is count each = (refl, count, each)
within-values _ vs is count each = absurd is

within : (reply : Reply) → IsShort reply → IsWithinLimits reply
within (replies.MechanismList mechanisms) short = short
within (replies.AttributeValues code values) short = within-values code values short.code_is short.count (each_fits values short.each)
within (replies.Objects objects) short = short
within (replies.Output (Length wanted)) short = tt
within (replies.Output (Data bytes)) short = omega (arith, short)
within (replies.Random bytes) short = omega (arith, short)
within _ short = tt

numbers-length : (ns : List ℕ) → length (flat_map number64.encode ns) ≡ 8 * length ns
numbers-length [] = refl
numbers-length (n ∷ ns) = omega (arith, ap length (flat_map-cons number64.encode n ns), numbers-length ns)

value-length : (n : ℕ) (value : Option (List ℕ)) → IfSome value (λ bytes. (length bytes ≡ n) × (length bytes ≤ 1024))
    → length (encode_value value) ≤ 1025
value-length n None short = omega arith
value-length n (Some bytes) short = omega (arith, short.1)

values-length : (vs : List AttributeValue) → AllByRecursion IsShortValue vs → length (flat_map attribute_value.encode vs) ≤ 1033 * length vs
values-length [] short = omega arith
values-length (v ∷ vs) short =
    omega (
      arith,
      ap length (flat_map-cons attribute_value.encode v vs),
      length-append (attribute_value.encode v) (flat_map attribute_value.encode vs),
      value-length v.len v.value short.0.value,
      values-length vs short.1,
    )

payload-length : (reply : Reply) → IsShort reply → Fits-reply reply → length (reply_payload reply) ≤ most
payload-length (replies.Code code) short fits = omega arith
payload-length (replies.TokenInfo info) short fits =
    omega (
      arith,
      fits.1.0,
      length-append info.label
          ((pair number64 token_info_counts).encode (info.flags, (tt, (info.session_count, (tt, (info.rw_session_count, (tt, tt))))))),
    )
payload-length (replies.MechanismList mechanisms) short fits = omega (arith, short, numbers-length mechanisms)
payload-length (replies.MechanismInfo info) short fits = omega arith
payload-length (replies.Session session) short fits = omega arith
payload-length (replies.SessionInfo info) short fits = omega arith
payload-length (replies.Object object) short fits = omega arith
payload-length (replies.ObjectSize size) short fits = omega arith
payload-length (replies.AttributeValues code values) short fits = omega (arith, short.count, values-length values short.each)
payload-length (replies.Objects objects) short fits = omega (arith, short, numbers-length objects)
payload-length (replies.Output (Length wanted)) short fits = omega arith
payload-length (replies.Output (Data bytes)) short fits = omega (arith, short)
payload-length (replies.BufferTooSmall wanted) short fits = omega arith
payload-length (replies.Random bytes) short fits = omega (arith, short)

pub short-framed : (reply : Reply) → (IsWithinLimits reply → Fits-reply reply) → IsShort reply → HasReplyFrame reply
short-framed reply fits short = let each = fits (within reply short) in (each, payload-length reply short each)

-- a refusal of what is no call is short
pub short-refusal : (fault : WireFault) → IsShort (refusal_of fault)
short-refusal faults.UnknownFunction = tt
short-refusal faults.Malformed = tt
short-refusal faults.TooLong = tt
short-refusal faults.Memory = tt
