-- What an application asks by the payloads of its frames, and how these are answered. The frames and their payloads are this
-- project's. A call is one of the functions of PKCS #11 v3.1, 5. A message that is no call is answered by a code of 5.1:
-- CKR_FUNCTION_NOT_SUPPORTED for a function that isn't known, and CKR_ARGUMENTS_BAD for any other.
use Rattle.std.specs.Prelude.{ℕ, List, [], ◌∷◌, map, Result, Ok, Err}
use Rattle.rand_chacha.specs.ChaCha.{ChaCha}
use Rattle.ck_types.specs.declared.rv.Rv.TheVariants.{ArgumentsBad, FunctionNotSupported}
use Rattle.ck_calls.specs.declared.call.Call.{Call as CallType}
use Rattle.ck_calls.specs.declared.reply.Reply.{Reply}
use Rattle.ck_calls.specs.declared.reply.Reply.TheVariants.{Code}
use Rattle.ck_calls.specs.Need.{random_bytes}
use Rattle.wire.specs.declared.fault.WireFault.{WireFault}
use Rattle.wire.specs.declared.fault.WireFault.TheVariants as faults
use Rattle.wire.specs.Messages.{call_in, frame}
use Rattle.wire.specs.Replies.{reply_payload}
use Rattle.line.specs.Words.{taken}

-- a message is what a payload says: a call, or why it is none
abbrev pub Message : Type 0
Message = Result CallType WireFault

abbrev pub messages : List (List ℕ) → List Message
messages payloads = map call_in payloads

-- ---- the random bytes

-- A call takes the next of the words that it needs. What is no call takes none.
abbrev pub words_past : ChaCha → Message → ChaCha
words_past words (Ok call) = (taken (random_bytes call) words).1
words_past words (Err fault) = words

abbrev pub words_after : ChaCha → List Message → ChaCha
words_after words [] = words
words_after words (m ∷ ms) = words_after (words_past words m) ms

-- a call and its random bytes
abbrev pub Ask : Type 0
Ask = CallType × List ℕ

-- the calls among the messages in order, each with the next of the words
abbrev pub asks : ChaCha → List Message → List Ask
asks words [] = []
asks words (Ok call ∷ ms) = (call, (taken (random_bytes call) words).0) ∷ asks (taken (random_bytes call) words).1 ms
asks words (Err fault ∷ ms) = asks words ms

-- ---- the replies

abbrev pub reply_frame : Reply → List ℕ
reply_frame reply = frame (reply_payload reply)

abbrev pub refusal_of : WireFault → Reply
refusal_of faults.UnknownFunction = Code FunctionNotSupported
refusal_of faults.Malformed = Code ArgumentsBad
refusal_of faults.TooLong = Code ArgumentsBad
refusal_of faults.Memory = Code ArgumentsBad

-- the answer to a message that is no call
abbrev pub refusal_in : Message → Reply
refusal_in (Ok call) = refusal_of faults.Malformed
refusal_in (Err fault) = refusal_of fault

-- the answers to messages, where these are the replies to the calls among them, in turn
abbrev pub answers_with : List Message → List Reply → List Reply
answers_with [] told = []
answers_with (Ok call ∷ ms) [] = []
answers_with (Ok call ∷ ms) (t ∷ told) = t ∷ answers_with ms told
answers_with (Err fault ∷ ms) told = refusal_of fault ∷ answers_with ms told
