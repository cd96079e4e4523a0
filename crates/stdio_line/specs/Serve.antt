-- What a line reads and writes.
use Rattle.std.specs.Prelude.{◌≡◌, ◌≢◌, ◌⊎◌, ℕ, ◌≤◌, ◌+◌, ◌-◌, ◌^◌, min, List, [], ◌∷◌, ◌++◌, length, Result, Ok, Err}
use Rattle.std.specs.List.{flat_map, AllByRecursion}
use Rattle.std.specs.Io.KnownBytes.{IsAtEnd}
use Rattle.door.specs.Ends.{GaveBytes, Reading, TookBytes, Writing}
use Rattle.ck_calls.specs.declared.reply.Reply.{Reply}
use Rattle.wire.specs.Messages.{frame, most}
use Rattle.wire.specs.Replies.{HasReplyFrame}
use Rattle.wire.specs.Stream.{IsPartial, IsTooLong}
use Rattle.stdio_line.specs.declared.fault.LineFault.{LineFault}
use Rattle.stdio_line.specs.declared.fault.LineFault.TheVariants as faults
use Rattle.line.specs.Turns.{Message, messages, reply_frame}
use Rattle.watched.specs.Noting.{Noting, Unfailing, Settles, HasFailed}

-- ---- what is written

-- the frames of the replies, in order
pub record AreFrames (written : List ℕ) (said : List Reply) : Type 0 where
  pub bytes : written ≡ flat_map reply_frame said
  pub each : AllByRecursion HasReplyFrame said

-- all but the last reply, and a part of that one's frame
pub record IsCutOff (written : List ℕ) (said : List Reply) : Type 0 where
  pub front : List Reply
  pub last : Reply
  pub all : said ≡ front ++ last ∷ []
  pub before : List ℕ
  pub frames : AreFrames before front
  pub framed : HasReplyFrame last
  pub part : List ℕ
  pub lacking : List ℕ
  pub cut : reply_frame last ≡ part ++ lacking
  pub bytes : written ≡ before ++ part

-- all but the last reply
pub record LacksLast (written : List ℕ) (said : List Reply) : Type 0 where
  pub front : List Reply
  pub last : Reply
  pub all : said ≡ front ++ last ∷ []
  pub frames : AreFrames written front
  pub framed : HasReplyFrame last

-- How much of the replies was written: all, but the last in part where the writer failed, and perhaps all but the last where an
-- allocation failed. Each reply has a frame, written or not.
abbrev pub IsWritten : {U : Type 0} → Result U LineFault → List ℕ → List Reply → Type 0
IsWritten (Ok done) written said = AreFrames written said
IsWritten (Err faults.Read) written said = AreFrames written said
IsWritten (Err faults.Write) written said = IsCutOff written said
IsWritten (Err faults.TooLong) written said = AreFrames written said
IsWritten (Err faults.Cut) written said = AreFrames written said
IsWritten (Err faults.Memory) written said = AreFrames written said ⊎ LacksLast written said

-- ---- why a line ended

-- how many replies were counted; at its greatest value the count stays
abbrev pub counted_calls : ℕ → ℕ → ℕ
counted_calls old more = min (old + more) (2 ^ 64 - 1)

-- by what was left of the stream, and what the reader has left
abbrev pub EndsBy : Result ℕ LineFault → List (List ℕ) → List ℕ → Reading → Type 0
EndsBy (Ok n) payloads rest reading = (rest ≡ []) × IsAtEnd reading.left × (n ≡ counted_calls 0 (length payloads))
EndsBy (Err faults.Read) payloads rest reading = IsPartial rest
EndsBy (Err faults.Write) payloads rest reading = Unit {0}
EndsBy (Err faults.TooLong) payloads rest reading = IsTooLong rest
EndsBy (Err faults.Cut) payloads rest reading = (rest ≢ []) × IsPartial rest × IsAtEnd reading.left
EndsBy (Err faults.Memory) payloads rest reading = Unit {0}

-- by what the reader counted: `Read` comes where it failed, and no failure is passed over
abbrev pub ReadsBy : {T U : Type 0} → Noting T → Noting T → Result U LineFault → Type 0
ReadsBy old new (Ok done) = Unfailing old new
ReadsBy old new (Err faults.Read) = HasFailed old new
ReadsBy old new (Err faults.Write) = Unfailing old new
ReadsBy old new (Err faults.TooLong) = Unfailing old new
ReadsBy old new (Err faults.Cut) = Unfailing old new
ReadsBy old new (Err faults.Memory) = Unfailing old new

-- By what the writer counted: `Write` comes where it failed, and no failure is passed over. Else all that was written was flushed,
-- where all was before.
abbrev pub WritesBy : {T U : Type 0} → Noting T → Noting T → Result U LineFault → Type 0
WritesBy old new (Ok done) = Settles old new
WritesBy old new (Err faults.Read) = Settles old new
WritesBy old new (Err faults.Write) = HasFailed old new
WritesBy old new (Err faults.TooLong) = Settles old new
WritesBy old new (Err faults.Cut) = Settles old new
WritesBy old new (Err faults.Memory) = Settles old new

-- What was read is the frames of payloads and a rest. What was written is the frames of the replies to these payloads, in order,
-- as far as it came; `leads` says that these are the replies.
pub record Serves (leads : List Message → List Reply → Type 0) (read_old read_new : Reading) (write_old write_new : Writing)
    (r : Result ℕ LineFault) : Type 0 where
  pub payloads : List (List ℕ)
  pub rest : List ℕ
  pub said : List Reply
  pub written : List ℕ
  pub each : AllByRecursion (λ p. length p ≤ most) payloads
  pub read : GaveBytes read_old read_new (flat_map frame payloads ++ rest)
  pub wrote : TookBytes write_old write_new written
  pub front : IsWritten r written said
  pub led : leads (messages payloads) said
  pub ends : EndsBy r payloads rest read_new
