-- A whole connection, from its first byte.
use Rattle.std.specs.Prelude.{◌≡◌, ℕ, ◌≤◌, List, [], ◌∷◌, ◌++◌, length, Option, Some, None}
use Rattle.std.specs.List.{flat_map, AllByRecursion}
use Rattle.rand_chacha.specs.ChaCha.{ChaCha}
use Rattle.ck_calls.specs.declared.reply.Reply.{Reply}
use Rattle.wire.specs.Messages.{frame, most}
use Rattle.line.specs.declared.ending.Ending.{Ending}
use Rattle.line.specs.declared.ending.Ending.TheVariants as endings
use Rattle.ck_calls.specs.declared.app_call.AppCall.{AppCall}
use Rattle.line.specs.Turns.{Ask, messages, asks, words_after, answers_with, reply_frame}
use Rattle.line.specs.State.{Connected, output}
use Rattle.line.specs.Connecting.{Advances, Gives, Halts, Tells}

-- What was read is the frames of payloads and what is held. The calls that were given are those of these payloads in order, with
-- the words from the first on, and each was answered once. What was written and what is to be are the frames of the answers to
-- the payloads, in order.
pub record Account (first : ChaCha) (c : Connected) (asked : List Ask) (told : List Reply) : Type 0 where
  pub payloads : List (List ℕ)
  pub each : AllByRecursion (λ p. length p ≤ most) payloads
  pub read : c.read ≡ flat_map frame payloads ++ c.held
  pub asked_are : asked ≡ asks first (messages payloads)
  pub words : c.words ≡ words_after first (messages payloads)
  pub one_each : length told ≡ length asked
  pub written : output c ≡ flat_map reply_frame (answers_with (messages payloads) told)

abbrev pub ask_of : AppCall → Ask
ask_of given = (given.call, given.random.items)

-- A call is owed its reply: it is the last of those that were given, and the answers before it are accounted for.
pub record Owes (first : ChaCha) (c : Connected) (asked : List Ask) (told : List Reply) : Type 0 where
  pub before : Connected
  pub given : AppCall
  pub asked_before : List Ask
  pub account : Account first before asked_before told
  pub gives : Gives before c given
  pub asked_is : asked ≡ asked_before ++ ask_of given ∷ []

-- nothing is lacking of what a connection was to write that ended so: its reader ended, or failed, or a frame was too long
abbrev pub IsWholeEnding : Option Ending → Type 0
IsWholeEnding (Some endings.Closed) = Unit {0}
IsWholeEnding (Some endings.Cut) = Unit {0}
IsWholeEnding (Some endings.TooLong) = Unit {0}
IsWholeEnding (Some (endings.Read error)) = Unit {0}
IsWholeEnding _ = ⊥

-- What was written is a beginning of the frames of the answers to the payloads that were read, in order. Their calls are those that
-- were given, with the words from the first on, and these are the replies to them. Where the connection ended by its reader, or by a frame
-- that is too long, all was written, and each call was answered once.
pub record Lived (first : ChaCha) (c : Connected) (asked : List Ask) (told : List Reply) : Type 0 where
  pub payloads : List (List ℕ)
  pub rest : List ℕ
  pub lacking : List ℕ
  pub each : AllByRecursion (λ p. length p ≤ most) payloads
  pub read : c.read ≡ flat_map frame payloads ++ rest
  pub asked_are : asked ≡ asks first (messages payloads)
  pub written : flat_map reply_frame (answers_with (messages payloads) told) ≡ c.written ++ lacking
  pub whole : IsWholeEnding c.ended → (lacking ≡ []) × (length told ≡ length asked)

-- a connection of which nothing was read yet has an account of nothing
abbrev pub BeginLaw : Type 0
BeginLaw = (c : Connected) → c.read ≡ [] → output c ≡ [] → c.held ≡ [] → Account c.words c [] []

-- a call that came is one more, and is owed its reply
abbrev pub CallLaw : Type 0
CallLaw = (first : ChaCha) (a b : Connected) (given : AppCall) (asked : List Ask) (told : List Reply)
    → Account first a asked told → Gives a b given → Owes first b (asked ++ ask_of given ∷ []) told

-- and then it was answered
abbrev pub TurnLaw : Type 0
TurnLaw = (first : ChaCha) (b c : Connected) (reply : Reply) (asked : List Ask) (told : List Reply)
    → Owes first b asked told → Tells b c reply → c.ended ≡ None → Account first c asked (told ++ reply ∷ [])

-- where nothing came, none is more
abbrev pub NothingLaw : Type 0
NothingLaw = (first : ChaCha) (a b : Connected) (asked : List Ask) (told : List Reply) → Account first a asked told → Advances a b
    → Account first b asked told

-- so did a connection live that ended while it read
abbrev pub EndLaw : Type 0
EndLaw = (first : ChaCha) (a b : Connected) (ending : Ending) (asked : List Ask) (told : List Reply) → Account first a asked told
    → Halts a b ending → Lived first b asked told

-- one that ended while it wrote a reply
abbrev pub CutLaw : Type 0
CutLaw = (first : ChaCha) (b c : Connected) (reply : Reply) (ending : Ending) (asked : List Ask) (told : List Reply)
    → Owes first b asked told → Tells b c reply → c.ended ≡ Some ending → Lived first c asked (told ++ reply ∷ [])

-- one that is given up between two calls
abbrev pub StopLaw : Type 0
StopLaw = (first : ChaCha) (c : Connected) (asked : List Ask) (told : List Reply) → Account first c asked told → c.ended ≡ None
    → Lived first c asked told

-- and one that is given up while a call is owed its reply
abbrev pub LeaveLaw : Type 0
LeaveLaw = (first : ChaCha) (c : Connected) (asked : List Ask) (told : List Reply) → Owes first c asked told → Lived first c asked told
