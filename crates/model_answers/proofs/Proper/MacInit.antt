-- The operation of a session that signs or verifies, as it is seen.
use Rattle.std.proofs.Common.{◌≡◌, ℕ, Option, Some, None, refl, ◌∙◌, ap}
use Rattle.std.specs.Option.{option_map}
use Rattle.ck_types.specs.declared.rv.Rv.TheVariants.{Ok}
use Rattle.ck_calls.specs.declared.reply.Reply.TheVariants.{Code}
use Rattle.precede.specs.Condition.{code_of}
use Rattle.sessions.specs.declared.Session.{Session}
use Rattle.ops.specs.declared.place.MacPlace.{MacPlace}
use Rattle.ops.specs.declared.place.MacPlace.TheVariants.{Sign, Verify}
use Rattle.ops.specs.Operations.{MacOperation, Operations, mask_mac, mac_in, mac_placed, mac_placed_in}
use Rattle.model_views.specs.Views.{mask_operations, mask_sessions}
use Rattle.model_views.specs.Answering.{with_mac}
use Rattle.model_answers.specs.MacInit.{mac_ends}
use Rattle.model_views.proofs.Masks.{operation-twice, mac-twice, busy-mask}
use Rattle.model_views.proofs.Checks.{Condition, View, mask, mask_session, shown, session_of, tokens-twice, own-twice, question-twice, record-twice, mask-twice, session-mask, blind-becomes}

placed-mask : (ops : Operations) (place : MacPlace) (o p : Option MacOperation) → option_map mask_mac o ≡ option_map mask_mac p
    → mask_operations (mac_placed (mask_operations ops) place o) ≡ mask_operations (mac_placed ops place p)
placed-mask ops Sign o p same = rw (same, operation-twice ops.encrypt, operation-twice ops.decrypt, mac-twice ops.verify) refl
placed-mask ops Verify o p same = rw (same, operation-twice ops.encrypt, operation-twice ops.decrypt, mac-twice ops.sign) refl

module _ (v : View) (session : ℕ) (place : MacPlace) (o p : Option MacOperation)
    (same : option_map mask_mac o ≡ option_map mask_mac p) where
  with-masked : (s : Option (Session Operations))
      → mask (record (mask v) { sessions = mac_placed_in (mask_sessions v.sessions) session (option_map mask_session s) place o })
      ≡ mask (record v { sessions = mac_placed_in v.sessions session s place p })
  with-masked None = mask-twice v
  with-masked (Some s) =
      rw (
        tokens-twice v.tokens,
        own-twice v.own,
        question-twice v.question,
        record-twice v.token_record,
        busy-mask session (mac_placed (mask_operations s.work) place o) (mac_placed s.work place p)
            (placed-mask s.work place o p same) v.sessions.sessions,
      ) refl

  pub with_mac-mask : mask (with_mac (mask v) session place o) ≡ mask (with_mac v session place p)
  with_mac-mask = ap (λ x. mask (record (mask v) { sessions = mac_placed_in (mask_sessions v.sessions) session x place o }))
      (session-mask v session) ∙ with-masked (session_of v session)

pub mac-mask : (v : View) (s : ℕ) (place : MacPlace)
    → mac_in (session_of (mask v) s) place ≡ option_map mask_mac (mac_in (session_of v s) place)
mac-mask v s place = ap (λ x. mac_in x place) (session-mask v s) ∙ of (session_of v s) place where
  of : (x : Option (Session Operations)) (place : MacPlace)
      → mac_in (option_map mask_session x) place ≡ option_map mask_mac (mac_in x place)
  of None place = refl
  of (Some x) Sign = refl
  of (Some x) Verify = refl

pub blind-mac_ends : (v : View) (s : ℕ) (place : MacPlace) (row : Condition)
    → shown (mac_ends (mask v) s place row) ≡ shown (mac_ends v s place row)
blind-mac_ends v s place row =
    blind-becomes (Code (code_of Ok row)) (with_mac (mask v) s place None) (with_mac v s place None)
    (with_mac-mask v s place None None refl)
