-- What the definition of a pending call answers, by what its work gives.
use Rattle.std.proofs.Common.{◌≡◌, ℕ, Bool, true, false, cond, List, Option, Some, None, refl}
use Rattle.std.specs.Str.{bytes_eq}
use Rattle.ck_types.specs.declared.entry.Entry.{Entry}
use Rattle.ck_types.specs.declared.rv.Rv.TheVariants.{Ok, EncryptedDataInvalid, PinIncorrect, SignatureInvalid, WrappedKeyInvalid}
use Rattle.ck_types.specs.declared.user_type.UserType.{UserType}
use Rattle.ck_types.specs.declared.user_type.UserType.TheVariants.{So, User}
use Rattle.ck_calls.specs.declared.reply.Output.TheVariants.{Data}
use Rattle.ck_calls.specs.declared.reply.Reply.TheVariants.{Code, Output}
use Rattle.macs.specs.Authentication.{longer}
use Rattle.macs.specs.Tags.{tag_of}
use Rattle.pin_record.specs.Verifiers.{accepts, verifier_for, new_rounds}
use Rattle.mech.specs.declared.outcome.Outcome.{Outcome}
use Rattle.mech.specs.declared.outcome.Outcome.TheVariants as out
use Rattle.mech.specs.declared.work.Work.{Work}
use Rattle.mech.specs.declared.work.Work.TheVariants.{Cipher, Take, Sign, Verify, Wrap, Unwrap, CheckPin, MakePin, ChangePin, InitToken, ResetToken}
use Rattle.mech.specs.Works.{outcome_of, rest_of, key_of}
use Rattle.mech.specs.Wrappings.{value_wrapped_in}
use Rattle.streams.specs.declared.part.Part.TheVariants.{Update, Last}
use Rattle.streams.specs.Outputs.{last_output}
use Rattle.ops.specs.declared.place.MacPlace.TheVariants as place
use Rattle.ops.specs.Operations.{operation_of, mac_of}
use Rattle.model_views.specs.TaskResults.{Unwrapped}
use Rattle.model_worlds.specs.WorkResults.{told_of}
use Rattle.model_views.specs.Views.{View, Question}
use Rattle.model_views.specs.Answering.{Answer, answered, becomes, refuses, replies, with_operation, with_mac}
use Rattle.model_answers.specs.Answers.{answer_outcome}
use Rattle.model_answers.specs.CipherInit.{place_for}
use Rattle.model_answers.specs.UnwrapKey.{unwrapped_result}
use Rattle.model_session_answers.specs.Login.{right_pin}
use Rattle.model_session_answers.specs.InitPin.{pin_made}
use Rattle.model_session_answers.specs.SetPin.{pin_changed}
use Rattle.model_session_answers.specs.InitToken.{inited, reset}
use Rattle.model_worlds.specs.Worlds.{value_of, reveal_by_outcome, reveals_checks, reveals_login, reveals_sessions, reveals_reset}
use Rattle.serve_base.specs.Shown.{task_of}

-- what the work gives is the task's value
pub work-value : (w : Work) → told_of (outcome_of w) ≡ value_of (task_of w)
work-value (Cipher stream part input) = refl
work-value _ = refl

-- ---- the answers

module _ (v : View) (objects : List (List Entry)) (f : UserType → ℕ) (others_have_sessions : Bool) where
  -- by the outcome alone, at the session of the pending call
  abbrev pub ends_by : ℕ → Outcome → Answer
  ends_by s (out.Piece output stream) =
      becomes (Output (Data output)) (with_operation (answered v) s (place_for stream.direction) (Some (operation_of stream)))
  ends_by s (out.Rest direction output) = becomes (Output (Data output)) (with_operation (answered v) s (place_for direction) None)
  ends_by s (out.BadPadding direction) = becomes (Code EncryptedDataInvalid) (with_operation (answered v) s (place_for direction) None)
  ends_by s (out.Taken p mac) = becomes (Code Ok) (with_mac (answered v) s p (Some (mac_of mac)))
  ends_by s (out.Signature signature) = becomes (Output (Data signature)) (with_mac (answered v) s place.Sign None)
  ends_by s out.RightSignature = becomes (Code Ok) (with_mac (answered v) s place.Verify None)
  ends_by s out.WrongSignature = becomes (Code SignatureInvalid) (with_mac (answered v) s place.Verify None)
  ends_by s (out.Wrapped bytes) = replies (answered v) (Output (Data bytes))
  ends_by s (out.Unwrapped object) = unwrapped_result (answered v) s (Unwrapped object)
  ends_by s out.BadWrapping = refuses (answered v) WrappedKeyInvalid
  ends_by s out.WrongPin = refuses (answered v) PinIncorrect
  ends_by s (out.RightPin who) = right_pin (answered v) who (reveals_login objects who (f who))
  ends_by s (out.PinMade made) = pin_made (answered v) made (reveals_checks (f User))
  ends_by s (out.PinChanged who made) = pin_changed (answered v) who made (reveals_checks (f who))
  ends_by s (out.TokenMade label made) = inited (answered v) label made (reveals_sessions others_have_sessions)
  ends_by s (out.TokenReset label) = reset (answered v) label (reveals_reset (f So) others_have_sessions)

  module _ (q : Question) where
    abbrev pub answer_by : Work → Outcome → Answer
    answer_by w x = answer_outcome v q (task_of w) (told_of x) (reveal_by_outcome (task_of w) (told_of x) objects f others_have_sessions)

    pub answer-ends : (w : Work) → answer_by w (outcome_of w) ≡ ends_by q.session (outcome_of w)
    answer-ends (Cipher stream Update input) = refl
    answer-ends (Cipher stream Last input) = step (last_output stream input) where
      step : (o : Option (List ℕ)) → answer_by (Cipher stream Last input) (rest_of stream.direction o)
          ≡ ends_by q.session (rest_of stream.direction o)
      step None = refl
      step (Some output) = refl
    answer-ends (Take p mac input) = refl
    answer-ends (Sign mac input) = refl
    answer-ends (Verify mac input signature) = step (bytes_eq signature (tag_of (longer mac input))) where
      step : (b : Bool) → answer_by (Verify mac input signature) (cond b out.RightSignature out.WrongSignature)
          ≡ ends_by q.session (cond b out.RightSignature out.WrongSignature)
      step true = refl
      step false = refl
    answer-ends (Wrap key value) = refl
    answer-ends (Unwrap key wrapped state template random) = step (value_wrapped_in key wrapped) where
      step : (o : Option (List ℕ)) → answer_by (Unwrap key wrapped state template random) (key_of template random o)
          ≡ ends_by q.session (key_of template random o)
      step None = refl
      step (Some value) = refl
    answer-ends (CheckPin who verifier pin) = step (accepts verifier pin) where
      step : (b : Bool) → answer_by (CheckPin who verifier pin) (cond b (out.RightPin who) out.WrongPin)
          ≡ ends_by q.session (cond b (out.RightPin who) out.WrongPin)
      step true = refl
      step false = refl
    answer-ends (MakePin pin salt) = refl
    answer-ends (ChangePin who verifier pin new_pin salt) = step (accepts verifier pin) where
      step : (b : Bool) → answer_by (ChangePin who verifier pin new_pin salt)
          (cond b (out.PinChanged who (verifier_for new_pin salt new_rounds)) out.WrongPin)
          ≡ ends_by q.session (cond b (out.PinChanged who (verifier_for new_pin salt new_rounds)) out.WrongPin)
      step true = refl
      step false = refl
    answer-ends (InitToken label pin salt) = refl
    answer-ends (ResetToken label verifier pin) = step (accepts verifier pin) where
      step : (b : Bool) → answer_by (ResetToken label verifier pin) (cond b (out.TokenReset label) out.WrongPin)
          ≡ ends_by q.session (cond b (out.TokenReset label) out.WrongPin)
      step true = refl
      step false = refl
