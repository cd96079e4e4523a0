-- The operation of a session that encrypts or decrypts, as it is seen.
use Rattle.std.proofs.Common.{◌≡◌, ℕ, Option, Some, None, refl, ◌∙◌, ap}
use Rattle.std.specs.Option.{option_map}
use Rattle.ck_types.specs.declared.rv.Rv.TheVariants.{Ok}
use Rattle.ck_calls.specs.declared.reply.Reply.TheVariants.{Code}
use Rattle.precede.specs.Condition.{code_of}
use Rattle.sessions.specs.declared.Session.{Session}
use Rattle.ops.specs.declared.place.Place.{Place}
use Rattle.ops.specs.declared.place.Place.TheVariants as places
use Rattle.ops.specs.Operations.{Operation, Operations, mask_operation, operation_in, placed, placed_in}
use Rattle.model_views.specs.Views.{mask_operations, mask_sessions}
use Rattle.model_views.specs.Answering.{with_operation}
use Rattle.model_answers.specs.CipherInit.{cipher_ends}
use Rattle.model_views.proofs.Masks.{operation-twice, mac-twice, busy-mask}
use Rattle.model_views.proofs.Checks.{Condition, View, mask, mask_session, shown, session_of, tokens-twice, own-twice, question-twice, record-twice, mask-twice, session-mask, blind-becomes}

placed-mask : (ops : Operations) (place : Place) (o p : Option Operation)
    → option_map mask_operation o ≡ option_map mask_operation p
    → mask_operations (placed (mask_operations ops) place o) ≡ mask_operations (placed ops place p)
placed-mask ops places.Encrypt o p same = rw (same, operation-twice ops.decrypt, mac-twice ops.sign, mac-twice ops.verify) refl
placed-mask ops places.Decrypt o p same = rw (same, operation-twice ops.encrypt, mac-twice ops.sign, mac-twice ops.verify) refl

module _ (v : View) (session : ℕ) (place : Place) (o p : Option Operation)
    (same : option_map mask_operation o ≡ option_map mask_operation p) where
  with-masked : (s : Option (Session Operations))
      → mask (record (mask v) { sessions = placed_in (mask_sessions v.sessions) session (option_map mask_session s) place o })
      ≡ mask (record v { sessions = placed_in v.sessions session s place p })
  with-masked None = mask-twice v
  with-masked (Some s) =
      rw (
        tokens-twice v.tokens,
        own-twice v.own,
        question-twice v.question,
        record-twice v.token_record,
        busy-mask session (placed (mask_operations s.work) place o) (placed s.work place p)
            (placed-mask s.work place o p same) v.sessions.sessions,
      ) refl

  pub with_operation-mask : mask (with_operation (mask v) session place o) ≡ mask (with_operation v session place p)
  with_operation-mask = ap (λ x. mask (record (mask v) { sessions = placed_in (mask_sessions v.sessions) session x place o }))
      (session-mask v session) ∙ with-masked (session_of v session)

pub operation-mask : (v : View) (s : ℕ) (place : Place)
    → operation_in (session_of (mask v) s) place ≡ option_map mask_operation (operation_in (session_of v s) place)
operation-mask v s place = ap (λ x. operation_in x place) (session-mask v s) ∙ of (session_of v s) place where
  of : (x : Option (Session Operations)) (place : Place)
      → operation_in (option_map mask_session x) place ≡ option_map mask_operation (operation_in x place)
  of None place = refl
  of (Some x) places.Encrypt = refl
  of (Some x) places.Decrypt = refl

pub blind-ends : (v : View) (s : ℕ) (place : Place) (row : Condition) → shown (cipher_ends (mask v) s place row) ≡ shown (cipher_ends v s place row)
blind-ends v s place row = blind-becomes (Code (code_of Ok row)) (with_operation (mask v) s place None)
    (with_operation v s place None) (with_operation-mask v s place None None refl)
