-- C_Encrypt, C_EncryptUpdate, C_EncryptFinal and C_Decrypt, C_DecryptUpdate, C_DecryptFinal (PKCS #11 v3.1, 5.2, 5.8 and
-- 5.10): a pending call, and its result.
use Rattle.std.specs.Prelude.{ℕ, Bool, true, false, ◌==◌, ◌||◌, ◌&&◌, not, nat_lt, List, [], length, Option, Some, None, is_none}
use Rattle.std.specs.Option.{unwrap_or}
use Rattle.ck_types.specs.declared.rv.Rv.TheVariants.{EncryptedDataInvalid, FunctionFailed}
use Rattle.ck_calls.specs.declared.function.Function.{Function}
use Rattle.ck_calls.specs.declared.function.Function.TheVariants as functions
use Rattle.ck_calls.specs.declared.reply.Output.TheVariants as output
use Rattle.ck_calls.specs.declared.reply.Reply.TheVariants as replied
use Rattle.aes_modes.specs.declared.direction.Direction.{Direction}
use Rattle.aes_modes.specs.declared.direction.Direction.TheVariants.{Encrypt, Decrypt}
use Rattle.streams.specs.declared.mechanism.Mechanism.TheVariants.{Ecb}
use Rattle.streams.specs.declared.part.Part.{Part}
use Rattle.streams.specs.declared.part.Part.TheVariants.{Update, Last}
use Rattle.streams.specs.Lengths.{wanted, refuses_length, ends_counters}
use Rattle.precede.specs.declared.condition.Condition.TheVariants.{NoSession, NoOperation, DataTaken, DataLength, CounterEnd, EncryptedDataLength, NoBuffer, SmallBuffer}
use Rattle.ops.specs.declared.place.Place.{Place}
use Rattle.ops.specs.Operations.{started, operation_further, text_of, operation_in}
use Rattle.model_views.specs.TaskResults.{TaskResult, Output, BadPadding}
use Rattle.model_views.specs.Views.{Ciphers}
use Rattle.model_views.specs.Calls.{Reply, Condition, Operation, View, Answer, replies, refuses_by, becomes, asks, answered, session_of, with_operation, checked_by}
use Rattle.model_answers.specs.CipherInit.{place_for, cipher_ends}

-- ---- the calls of each direction

abbrev pub update_function : Direction → Function
update_function Encrypt = functions.EncryptUpdate
update_function Decrypt = functions.DecryptUpdate

-- a call that ends the operation, with all of its data, or with none where its data came before
abbrev pub last_function : Direction → Option (List ℕ) → Function
last_function Encrypt (Some input) = functions.Encrypt
last_function Encrypt None = functions.EncryptFinal
last_function Decrypt (Some input) = functions.Decrypt
last_function Decrypt None = functions.DecryptFinal

-- ---- the conditions

-- the operation that is in progress
abbrev pub operation_or : Option Operation → Operation
operation_or o = unwrap_or o (started Ecb Encrypt None)

abbrev pub is_decrypt : Direction → Bool
is_decrypt Encrypt = false
is_decrypt Decrypt = true

abbrev pub has_taken : Operation → Bool
has_taken o = not (length o.taken == 0)

-- the data can't be all, or has no counters
abbrev pub cipher_refused : Operation → Part → List ℕ → Bool
cipher_refused o part input = refuses_length part (text_of o) (length input)

abbrev pub cipher_row : Direction → View → ℕ → Option Operation → Part → List ℕ → Option ℕ → Condition → Bool
cipher_row d v s o part input buffer_len NoSession = is_none (session_of v s)
cipher_row d v s o part input buffer_len NoOperation = is_none o
cipher_row d v s o part input buffer_len DataTaken = has_taken (operation_or o)
cipher_row d v s o part input buffer_len CounterEnd = ends_counters (text_of (operation_or o)) input
cipher_row d v s o part input buffer_len DataLength =
    ends_counters (text_of (operation_or o)) input || (not (is_decrypt d) && cipher_refused (operation_or o) part input)
cipher_row d v s o part input buffer_len EncryptedDataLength = is_decrypt d && cipher_refused (operation_or o) part input
cipher_row d v s o part input buffer_len NoBuffer = is_none buffer_len
cipher_row d v s o part input buffer_len SmallBuffer =
    nat_lt (unwrap_or buffer_len 0) (wanted part (text_of (operation_or o)) (length input))
cipher_row d v s o part input buffer_len _ = false

-- wrong data ends the operation; where the output buffer is too short, the length that is needed is returned
abbrev pub cipher_says : View → ℕ → Place → ℕ → Condition → Answer
cipher_says v s place length DataTaken = cipher_ends v s place DataTaken
cipher_says v s place length CounterEnd = cipher_ends v s place CounterEnd
cipher_says v s place length DataLength = cipher_ends v s place DataLength
cipher_says v s place length EncryptedDataLength = cipher_ends v s place EncryptedDataLength
cipher_says v s place length NoBuffer = replies v (replied.Output (output.Length length))
cipher_says v s place length SmallBuffer = replies v (replied.BufferTooSmall length)
cipher_says v s place length row = refuses_by v row

-- ---- the pending call

abbrev pub ciphers : Function → Direction → Part → View → ℕ → Option Operation → List ℕ → Option ℕ → Answer
ciphers function d part v s o input buffer_len =
    checked_by function (cipher_row d v s o part input buffer_len)
    (cipher_says v s (place_for d) (wanted part (text_of (operation_or o)) (length input)))
    (asks v function s (Ciphers part (operation_or o) input))

abbrev pub cipher : Function → Direction → Part → View → ℕ → List ℕ → Option ℕ → Answer
cipher function d part v s input buffer_len = ciphers function d part v s (operation_in (session_of v s) (place_for d)) input buffer_len

-- a part, and the last data
abbrev pub cipher_update : Direction → View → ℕ → List ℕ → Option ℕ → Answer
cipher_update d v s input buffer_len = cipher (update_function d) d Update v s input buffer_len

abbrev pub cipher_last : Direction → View → ℕ → Option (List ℕ) → Option ℕ → Answer
cipher_last d v s all buffer_len = cipher (last_function d all) d Last v s (unwrap_or all []) buffer_len

-- ---- the result

abbrev pub ciphered_reply : TaskResult → Reply
ciphered_reply (Output bytes) = replied.Output (output.Data bytes)
ciphered_reply BadPadding = replied.Code EncryptedDataInvalid
ciphered_reply _ = replied.Code FunctionFailed

-- a part leaves the operation that has taken it, and the last data none
abbrev pub further_by : Operation → List ℕ → TaskResult → Option Operation
further_by o input (Output bytes) = Some (operation_further o input bytes)
further_by o input _ = None

abbrev pub operation_after : Part → Operation → List ℕ → TaskResult → Option Operation
operation_after Update o input outcome = further_by o input outcome
operation_after Last o input outcome = None

abbrev pub ciphered : View → ℕ → Place → Part → Operation → List ℕ → TaskResult → Answer
ciphered v s place part o input outcome =
    becomes (ciphered_reply outcome) (with_operation (answered v) s place (operation_after part o input outcome))
