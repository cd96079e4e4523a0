-- What is due to a connection: the bytes that its writer is to have taken, by what its reader gave.
use Rattle.std.specs.Prelude.{◌≡◌, ℕ, ◌≤◌, List, [], ◌∷◌, ◌++◌, length}
use Rattle.std.specs.List.{flat_map, AllByRecursion}
use Rattle.rand_chacha.specs.ChaCha.{ChaCha}
use Rattle.ck_calls.specs.declared.reply.Reply.{Reply}
use Rattle.wire.specs.Messages.{frame, most}
use Rattle.line.specs.Connecting.{IsNoCall, refusal_frame}
use Rattle.line.specs.State.{Connected, output}
use Rattle.line.specs.Turns.{Ask, messages, asks, answers_with, reply_frame}
use Rattle.line.specs.Whole.{Account, Owes}

-- What was read begins with the frames of these payloads. The calls among them, in order and with the words from the first on, are
-- those that were asked, and each has one reply. What comes out is the frames of these replies, in order, with the answers to
-- what is no call at their places.
pub record Due (first : ChaCha) (read : List ℕ) (asked : List Ask) (told : List Reply) (out : List ℕ) : Type 0 where
  pub payloads : List (List ℕ)
  pub rest : List ℕ
  pub each : AllByRecursion (λ p. length p ≤ most) payloads
  pub read_is : read ≡ flat_map frame payloads ++ rest
  pub asked_are : asked ≡ asks first (messages payloads)
  pub one_each : length told ≡ length asked
  pub out_is : out ≡ flat_map reply_frame (answers_with (messages payloads) told)

-- so are the refusals of what is no call, after all that came out before
abbrev pub RefuseLaw : Type 0
RefuseLaw = (first : ChaCha) (c : Connected) (asked : List Ask) (told : List Reply) (payloads : List (List ℕ)) (more held : List ℕ)
    → Account first c asked told
    → AllByRecursion IsNoCall payloads → c.held ++ more ≡ flat_map frame payloads ++ held
    → Due first (c.read ++ more) asked told (output c ++ flat_map refusal_frame payloads)

-- and the reply to the call that is owed one
abbrev pub AnswerLaw : Type 0
AnswerLaw = (first : ChaCha) (c : Connected) (reply : Reply) (asked : List Ask) (told : List Reply)
    → Owes first c asked told → Due first c.read asked (told ++ reply ∷ []) (output c ++ reply_frame reply)
