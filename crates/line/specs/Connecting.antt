-- What becomes of a connection.
use Rattle.std.specs.Prelude.{◌≡◌, ◌≢◌, ◌⊎◌, ℕ, ◌+◌, ◌≤◌, List, [], ◌∷◌, ◌++◌, length, Option, Some, None, Err}
use Rattle.std.specs.List.{flat_map, AllByRecursion}
use Rattle.std.specs.Io.KnownBytes.{IsAtEnd}
use Rattle.door.specs.Ends.{Reading, Writing}
use Rattle.ck_calls.specs.declared.reply.Reply.{Reply}
use Rattle.wire.specs.declared.fault.WireFault.{WireFault}
use Rattle.wire.specs.Messages.{frame, most, call_in}
use Rattle.wire.specs.Replies.{HasReplyFrame, IsWithinLimits, Fits-reply}
use Rattle.wire.specs.Stream.{IsPartial, IsTooLong}
use Rattle.line.specs.declared.ending.Ending.{Ending}
use Rattle.line.specs.declared.ending.Ending.TheVariants as endings
use Rattle.ck_calls.specs.declared.app_call.AppCall.{AppCall}
use Rattle.line.specs.declared.next.Next.{Next}
use Rattle.line.specs.declared.next.Next.TheVariants as next
use Rattle.watched.specs.Noting.{Noting, Unfailing, Settles, HasFailed}
use Rattle.line.specs.Turns.{refusal_in, reply_frame}
use Rattle.line.specs.Asking.{IsCall, Lets, Gave, Took}
use Rattle.line.specs.State.{Connected, output}

-- ---- between two calls

abbrev pub refusal_frame : List ℕ → List ℕ
refusal_frame payload = reply_frame (refusal_in (call_in payload))

-- a payload that is no call
abbrev pub IsNoCall : List ℕ → Type 0
IsNoCall payload = (length payload ≤ most) × ((fault : WireFault) × (call_in payload ≡ Err fault))

-- More was read, and the whole payloads of what is held were no calls and were refused.
pub record Advances (old new : Connected) : Type 0 where
  pub payloads : List (List ℕ)
  pub more : List ℕ
  pub each : AllByRecursion IsNoCall payloads
  pub read : new.read ≡ old.read ++ more
  pub split : old.held ++ more ≡ flat_map frame payloads ++ new.held
  pub out : output new ≡ output old ++ flat_map refusal_frame payloads
  pub words : new.words ≡ old.words
  pub answered : new.answered ≡ old.answered + length payloads

-- Then the next payload was a call, with the next of the words. All that was to be written is written.
pub record Gives (old new : Connected) (given : AppCall) : Type 0 where
  pub mid : Connected
  pub refused : Advances old mid
  pub call : Lets (λ p. IsCall p mid.words new.words given) mid.held new.held
  pub same : new ≡ record {
    held = new.held;
    words = new.words;
    read = mid.read;
    written = mid.written;
    pending = [];
    answered = mid.answered;
    ended = None;
  }
  pub all : mid.pending ≡ []

-- What is to be written is of the last refusal, or something was to be written before and no payload was refused.
abbrev pub Tail : List ℕ → List (List ℕ) → List ℕ → Type 0
Tail before payloads pending = ((before ≢ []) × (payloads ≡ []))
    ⊎ ((front : List (List ℕ)) × (last : List ℕ) × (part : List ℕ) × (payloads ≡ front ++ last ∷ [])
    × (refusal_frame last ≡ part ++ pending))

-- Nothing came, or the writer takes no more now.
pub record Waits (old new : Connected) : Type 0 where
  pub refused : Advances old new
  pub going : new.ended ≡ None
  pub partial : new.pending ≡ [] → IsPartial new.held
  pub tail : new.pending ≢ [] → Tail old.pending refused.payloads new.pending

-- Why it ended, by what was to be written before, which payloads were refused, and what is held. The last two are what was read
-- after that, and what is to be written.
abbrev pub Why : Ending → List ℕ → List (List ℕ) → List ℕ → List ℕ → List ℕ → Type 0
Why endings.Closed before payloads held more pending = (held ≡ []) × (more ≡ []) × (pending ≡ [])
Why endings.Cut before payloads held more pending = (held ≢ []) × IsPartial held × (more ≡ []) × (pending ≡ [])
Why endings.TooLong before payloads held more pending = IsTooLong held × (more ≡ []) × (pending ≡ [])
Why (endings.Read error) before payloads held more pending = IsPartial held × (more ≡ []) × (pending ≡ [])
Why (endings.Write error) before payloads held more pending = (more ≡ []) × Tail before payloads pending
Why endings.Memory before payloads held more pending = pending ≡ []

-- Then it ended. Perhaps more was read.
pub record Halts (old new : Connected) (ending : Ending) : Type 0 where
  pub mid : Connected
  pub refused : Advances old mid
  pub more : List ℕ
  pub same : new ≡ record {
    held = new.held;
    words = mid.words;
    read = mid.read ++ more;
    written = mid.written;
    pending = mid.pending;
    answered = mid.answered;
    ended = Some ending;
  }
  pub why : Why ending old.pending refused.payloads mid.held more mid.pending

-- what comes next, or nothing for a caller
abbrev pub Does : Connected → Connected → Option Next → Type 0
Does old new (Some (next.Call given)) = Gives old new given
Does old new (Some next.Nothing) = Waits old new
Does old new (Some (next.Ended ending)) = Halts old new ending
Does old new None = Advances old new × (new.ended ≡ None) × (new.pending ≡ [])

-- ---- its reader and its writer

-- the reader has no more, where the connection ended so
abbrev pub AtEnd : Option Next → Reading → Type 0
AtEnd (Some (next.Ended endings.Closed)) reading = IsAtEnd reading.left
AtEnd (Some (next.Ended endings.Cut)) reading = IsAtEnd reading.left
AtEnd _ reading = Unit {0}

-- By what the reader counted. A read failed where the connection ended so, and where nothing came though nothing is to be written:
-- then a read would block. No failure is passed over.
abbrev pub ReadsTo : {T : Type 0} → Option Next → List ℕ → Noting T → Noting T → Type 0
ReadsTo (Some (next.Ended (endings.Read error))) pending old new = HasFailed old new
ReadsTo (Some next.Nothing) [] old new = HasFailed old new
ReadsTo _ pending old new = Unfailing old new

-- By what the writer counted. A write or a flush failed where the connection ended so, and a write where something is to be written
-- still: then it would block. Else none failed, and all that was written was flushed.
abbrev pub WritesTo : {T : Type 0} → Option Next → List ℕ → Noting T → Noting T → Type 0
WritesTo (Some (next.Ended (endings.Write error))) pending old new = HasFailed old new
WritesTo (Some next.Nothing) (byte ∷ pending) old new = HasFailed old new
WritesTo _ pending old new = Settles old new

-- What came next of a connection over a reader and a writer: what was noted is what these gave and took.
pub record Comes {R W : Type 0} (reading : R → Reading) (writing : W → Writing) (r r' : Noting R) (w w' : Noting W)
    (old new : Connected) (next : Option Next) : Type 0 where
  pub does : Does old new next
  pub gave : Gave (reading r.inner) (reading r'.inner) old.read new.read
  pub took : Took (writing w.inner) (writing w'.inner) old.written new.written
  pub at_end : AtEnd next (reading r'.inner)
  pub reads : ReadsTo next new.pending r r'
  pub writes : WritesTo next new.pending w w'

-- the writer plays no part in it
abbrev pub IsHeard : Option Next → Type 0
IsHeard (Some (next.Ended (endings.Write error))) = ⊥
IsHeard _ = Unit {0}

-- One read, or none, and nothing was written.
pub record Hears {R : Type 0} (reading : R → Reading) (r r' : Noting R) (old new : Connected) (next : Option Next) : Type 0 where
  pub does : Does old new next
  pub gave : Gave (reading r.inner) (reading r'.inner) old.read new.read
  pub at_end : AtEnd next (reading r'.inner)
  pub reads : ReadsTo next new.pending r r'
  pub written : new.written ≡ old.written
  pub pending : new.pending ≡ []
  pub heard : IsHeard next

-- what comes before a payload: an end, or a wait until the writer takes more
abbrev pub standing : Option Ending → List ℕ → Option Next
standing (Some ending) pending = Some (next.Ended ending)
standing None [] = None
standing None (byte ∷ pending) = Some next.Nothing

-- ---- a reply

-- the reply comes out, after all that came before
pub record ReplyComes (old new : Connected) (reply : Reply) : Type 0 where
  pub out : output new ≡ output old ++ reply_frame reply
  pub framed : HasReplyFrame reply
  pub answered : new.answered ≡ old.answered + 1

-- it doesn't
pub record Omits (old new : Connected) : Type 0 where
  pub written : new.written ≡ old.written
  pub pending : new.pending ≡ old.pending
  pub answered : new.answered ≡ old.answered

-- by whether the connection ended
abbrev pub SendsBy : Option Ending → Connected → Connected → Reply → Type 0
SendsBy None old new reply = ReplyComes old new reply
SendsBy (Some (endings.Write error)) old new reply = ReplyComes old new reply
SendsBy (Some endings.Memory) old new reply = Omits old new
SendsBy (Some _) old new reply = ⊥

-- A reply was taken, and nothing was read.
pub record Tells (old new : Connected) (reply : Reply) : Type 0 where
  pub sends : SendsBy new.ended old new reply
  pub same : new ≡ record {
    held = old.held;
    words = old.words;
    read = old.read;
    written = new.written;
    pending = new.pending;
    answered = new.answered;
    ended = new.ended;
  }

-- by what the writer counted
abbrev pub SendsTo : {T : Type 0} → Option Ending → List ℕ → Noting T → Noting T → Type 0
SendsTo (Some (endings.Write error)) pending old new = HasFailed old new
SendsTo None (byte ∷ pending) old new = HasFailed old new
SendsTo _ pending old new = Settles old new

-- A connection over a writer took a reply.
pub record Sends {W : Type 0} (writing : W → Writing) (w w' : Noting W) (old new : Connected) (reply : Reply) : Type 0 where
  pub tells : Tells old new reply
  pub took : Took (writing w.inner) (writing w'.inner) old.written new.written
  pub writes : SendsTo new.ended new.pending w w'
  -- a reply within the limits has an encoding
  pub fits : IsWithinLimits reply → Fits-reply reply

-- by whether the connection ended
abbrev pub FlushesBy : Option Ending → Type 0
FlushesBy None = Unit {0}
FlushesBy (Some (endings.Write error)) = Unit {0}
FlushesBy (Some _) = ⊥

-- Of what is to be written some was.
pub record Moves (old new : Connected) : Type 0 where
  pub out : output new ≡ output old
  pub by : FlushesBy new.ended
  pub idle : old.pending ≡ [] → (new.ended ≡ None) × (new.pending ≡ [])
  pub same : new ≡ record {
    held = old.held;
    words = old.words;
    read = old.read;
    written = new.written;
    pending = new.pending;
    answered = old.answered;
    ended = new.ended;
  }

-- A connection wrote to its writer of what is to be written.
pub record Flushes {W : Type 0} (writing : W → Writing) (w w' : Noting W) (old new : Connected) : Type 0 where
  pub moves : Moves old new
  pub took : Took (writing w.inner) (writing w'.inner) old.written new.written
  pub writes : SendsTo new.ended new.pending w w'
