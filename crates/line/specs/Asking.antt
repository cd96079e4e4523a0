-- The parts of a connection: the frame at the front of what is held, and bytes that are read and written.
use Rattle.std.specs.Prelude.{◌≡◌, ◌≢◌, ℕ, ◌<◌, ◌≤◌, List, [], ◌++◌, length, Ok, Err, Result}
use Rattle.std.specs.Io.KnownBytes.{IsAtEnd}
use Rattle.door.specs.Ends.{GaveBytes, Reading, TookBytes, Writing}
use Rattle.rand_chacha.specs.ChaCha.{ChaCha}
use Rattle.ck_calls.specs.declared.reply.Reply.{Reply}
use Rattle.ck_calls.specs.Need.{random_bytes}
use Rattle.wire.specs.declared.fault.WireFault.{WireFault}
use Rattle.wire.specs.declared.fault.WireFault.TheVariants as faults
use Rattle.wire.specs.Messages.{call_in, frame, most, HasFrame}
use Rattle.wire.specs.Replies.{HasReplyFrame}
use Rattle.wire.specs.Stream.{IsPartial, IsTooLong}
use Rattle.ck_calls.specs.declared.app_call.AppCall.{AppCall}
use Rattle.line.specs.declared.asked.Asked.{Asked}
use Rattle.line.specs.declared.asked.Asked.TheVariants as asked
use Rattle.line.specs.declared.asked.Piece.{Piece}
use Rattle.line.specs.declared.asked.Piece.TheVariants as piece
use Rattle.line.specs.declared.asked.Wrote.{Wrote}
use Rattle.line.specs.declared.asked.Wrote.TheVariants as wrote
use Rattle.line.specs.declared.ending.Ending.TheVariants as endings
use Rattle.line.specs.Words.{taken}
use Rattle.watched.specs.Noting.{Noting, Unfailing, Settles, HasFailed}
use Rattle.line.specs.Turns.{refusal_of, reply_frame}
use Rattle.line.specs.State.{Outgoing}

-- ---- a payload

-- it is a call of the application, which takes its words
pub record IsCall (payload : List ℕ) (words words' : ChaCha) (given : AppCall) : Type 0 where
  pub is : call_in payload ≡ Ok given.call
  pub took : (given.random.items, words') ≡ taken (random_bytes given.call) words
  pub count : length given.random.items ≡ random_bytes given.call
  pub framed : HasFrame given.call
  pub app : given.app ≡ words.stream
  pub same_app : words'.stream ≡ words.stream

-- it is none, and is answered so
pub record IsRefused (payload : List ℕ) (words words' : ChaCha) (reply : Reply) : Type 0 where
  pub fault : WireFault
  pub is : call_in payload ≡ Err fault
  pub reply_is : reply ≡ refusal_of fault
  pub same : words' ≡ words

abbrev pub Means : List ℕ → ChaCha → ChaCha → Asked → Type 0
Means payload words words' (asked.Call given) = IsCall payload words words' given
Means payload words words' (asked.Refused reply) = IsRefused payload words words' reply
Means payload words words' asked.Lacking = ⊥
Means payload words words' asked.TooLong = ⊥
Means payload words words' asked.Memory = words' ≡ words

-- the first frame is let go, and its payload is so
pub record Lets (P : List ℕ → Type 0) (old new : List ℕ) : Type 0 where
  pub payload : List ℕ
  pub short : length payload ≤ most
  pub front : old ≡ frame payload ++ new
  pub is : P payload

abbrev pub Asks : List ℕ → List ℕ → ChaCha → ChaCha → Asked → Type 0
Asks old new words words' (asked.Call given) = Lets (λ p. IsCall p words words' given) old new
Asks old new words words' (asked.Refused reply) = Lets (λ p. IsRefused p words words' reply) old new
Asks old new words words' asked.Lacking = (new ≡ old) × (words' ≡ words) × IsPartial old
Asks old new words words' asked.TooLong = (words' ≡ words) × IsTooLong old
Asks old new words words' asked.Memory = words' ≡ words

-- ---- bytes

-- what was noted is what the reader gave
pub record Gave (old new : Reading) (noted noted' : List ℕ) : Type 0 where
  pub more : List ℕ
  pub given : GaveBytes old new more
  pub noted_is : noted' ≡ noted ++ more

-- what was noted is what the writer took
pub record Took (old new : Writing) (noted noted' : List ℕ) : Type 0 where
  pub part : List ℕ
  pub wrote : TookBytes old new part
  pub noted_is : noted' ≡ noted ++ part

-- the first of the bytes were taken, and so many lack
pub record Puts (noted noted' bytes : List ℕ) (lacking : ℕ) : Type 0 where
  pub part : List ℕ
  pub rest : List ℕ
  pub whole : bytes ≡ part ++ rest
  pub noted_is : noted' ≡ noted ++ part
  pub lacks : length rest ≡ lacking

-- ---- what the calls of the writer counted

-- so many bytes lack after the writes
abbrev pub PutBy : {T : Type 0} → Wrote → ℕ → Noting T → Noting T → Type 0
PutBy wrote.All lacking old new = (lacking ≡ 0) × Unfailing old new
PutBy wrote.Later lacking old new = (0 < lacking) × HasFailed old new
PutBy (wrote.Failed error) lacking old new = HasFailed old new

abbrev pub SentBy : {T : Type 0} → Wrote → List ℕ → Noting T → Noting T → Type 0
SentBy wrote.All pending old new = (pending ≡ []) × Settles old new
SentBy wrote.Later pending old new = (pending ≢ []) × HasFailed old new
SentBy (wrote.Failed error) pending old new = HasFailed old new

-- a reply is to be written after what is pending, or there is no memory, or it has no frame
abbrev pub Queues : {U : Type 0} → Outgoing → Outgoing → Reply → Result U WireFault → Type 0
Queues old new reply (Ok done) = (new ≡ record { written = old.written; pending = old.pending ++ reply_frame reply }) × HasReplyFrame reply
Queues old new reply (Err faults.Memory) = new ≡ old
Queues old new reply (Err fault) = (new ≡ old) × (¬ HasReplyFrame reply)

-- ---- a read

-- more was read, by what it came to
pub record Fed (noted noted' held held' : List ℕ) : Type 0 where
  pub more : List ℕ
  pub noted_is : noted' ≡ noted ++ more
  pub held_is : held' ≡ held ++ more

abbrev pub PieceTakes : List ℕ → List ℕ → List ℕ → List ℕ → Reading → Piece → Type 0
PieceTakes noted noted' held held' reading piece.More = Fed noted noted' held held'
PieceTakes noted noted' held held' reading piece.Nothing = (noted' ≡ noted) × (held' ≡ held)
PieceTakes noted noted' held held' reading (piece.Ended endings.Closed) = (noted' ≡ noted) × (held ≡ []) × IsAtEnd reading.left
PieceTakes noted noted' held held' reading (piece.Ended endings.Cut) = (noted' ≡ noted) × (held ≢ []) × IsAtEnd reading.left
PieceTakes noted noted' held held' reading (piece.Ended (endings.Read error)) = noted' ≡ noted
PieceTakes noted noted' held held' reading (piece.Ended endings.Memory) = Unit {0}
PieceTakes noted noted' held held' reading (piece.Ended _) = ⊥

abbrev pub PieceBy : {T : Type 0} → Piece → Noting T → Noting T → Type 0
PieceBy piece.More old new = Unfailing old new
PieceBy piece.Nothing old new = HasFailed old new
PieceBy (piece.Ended (endings.Read error)) old new = HasFailed old new
PieceBy (piece.Ended _) old new = Unfailing old new
