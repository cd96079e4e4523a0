-- The calls that sign and verify.
use Rattle.std.specs.Option.{option_map, unwrap_or}
use Rattle.std.proofs.Common.{◌≡◌, ℕ, true, List, [], Option, Some, None, refl, ◌∙◌, ap}
use Rattle.ck_calls.specs.declared.function.Function.{Function}
use Rattle.ck_calls.specs.declared.reply.Output.TheVariants as output
use Rattle.ck_calls.specs.declared.reply.Reply.TheVariants as replied
use Rattle.ck_types.specs.declared.rv.Rv.TheVariants.{Ok, FunctionFailed}
use Rattle.precede.specs.declared.condition.Condition.TheVariants.{NoSession, DataTaken, SignatureLength, NoBuffer, SmallBuffer}
use Rattle.ops.specs.declared.place.MacPlace.{MacPlace}
use Rattle.ops.specs.declared.place.MacPlace.TheVariants as place
use Rattle.ops.specs.Operations.{MacOperation, mask_mac, mac_further, mac_in}
use Rattle.model_views.specs.TaskResults.{TaskResult, Output, Taken, Right, Wrong}
use Rattle.model_views.specs.Views.{Takes, Signs, Verifies}
use Rattle.model_views.specs.Changes.{Stays}
use Rattle.model_views.specs.Refusals.{resource_error}
use Rattle.model_views.specs.Answering.{asks, answered, refuses_by, with_mac}
use Rattle.model_views.proofs.Blind.{blind-asks}
use Rattle.model_answers.specs.MacInit.{mac_ends}
use Rattle.model_answers.specs.Mac.{mac_update_function, mac_or, signature_length, mac_row, sign_row, verify_row, sign_says, verify_says, signs, verifies, takes, sign_function, verify_function, sign, verify, mac_update, mac_taken, signed_reply, signed, verified_reply, verified}
use Rattle.model_session_answers.proofs.Over.{IsOver}
use Rattle.model_answers.proofs.Proper.MacInit.{with_mac-mask, mac-mask, blind-mac_ends}
use Rattle.model_views.proofs.Checks.{Condition, View, mask, shown, replies, session_of, IsProper, IsFair, blind-reply, blind-becomes, fair, blind-row, fair-row, blind-checked_by, fair-checked_by, row-session}

module _ (v : View) (s : ℕ) where
  mac-row : (o : Option MacOperation) (row : Condition) → mac_row (mask v) s (option_map mask_mac o) row ≡ mac_row v s o row
  mac-row None NoSession = row-session v s
  mac-row (Some o) NoSession = row-session v s
  mac-row None _ = refl
  mac-row (Some o) _ = refl

  length-mask : (o : Option MacOperation) → signature_length (option_map mask_mac o) ≡ signature_length o
  length-mask None = refl
  length-mask (Some o) = refl

  sign-row : (o : Option MacOperation) (buffer_len : Option ℕ) (row : Condition)
      → sign_row (mask v) s (option_map mask_mac o) buffer_len row ≡ sign_row v s o buffer_len row
  sign-row o buffer_len NoBuffer = refl
  sign-row o buffer_len SmallBuffer = rw (length-mask o) refl
  sign-row o buffer_len row = mac-row o row

  verify-row : (o : Option MacOperation) (signature : List ℕ) (row : Condition)
      → verify_row (mask v) s (option_map mask_mac o) signature row ≡ verify_row v s o signature row
  verify-row o signature SignatureLength = rw (length-mask o) refl
  verify-row o signature row = mac-row o row

  blind-sign_says : (n : ℕ) (row : Condition) → shown (sign_says (mask v) s n row) ≡ shown (sign_says v s n row)
  blind-sign_says n DataTaken = blind-mac_ends v s place.Sign DataTaken
  blind-sign_says n NoBuffer = blind-reply v (replied.Output (output.Length n))
  blind-sign_says n SmallBuffer = blind-reply v (replied.BufferTooSmall n)
  blind-sign_says n row = blind-row v row

  blind-verify_says : (row : Condition) → shown (verify_says (mask v) s row) ≡ shown (verify_says v s row)
  blind-verify_says DataTaken = blind-mac_ends v s place.Verify DataTaken
  blind-verify_says SignatureLength = blind-mac_ends v s place.Verify SignatureLength
  blind-verify_says row = blind-row v row

  -- pending calls are revealed without the values of their keys
  blind-signs : (f : Function) (o : Option MacOperation) (input : List ℕ) (buffer_len : Option ℕ)
      → shown (signs f (mask v) s (option_map mask_mac o) input buffer_len) ≡ shown (signs f v s o input buffer_len)
  blind-signs f o input buffer_len =
      rw (length-mask o) (blind-checked_by f (sign_row (mask v) s (option_map mask_mac o) buffer_len) (sign_row v s o buffer_len)
      (sign_says (mask v) s (signature_length o)) (sign_says v s (signature_length o))
      (asks (mask v) f s (Signs (mac_or (option_map mask_mac o)) input)) (asks v f s (Signs (mac_or o) input))
      (sign-row o buffer_len) (blind-sign_says (signature_length o)) (asked o)) where
        asked : (o : Option MacOperation)
            → shown (asks (mask v) f s (Signs (mac_or (option_map mask_mac o)) input)) ≡ shown (asks v f s (Signs (mac_or o) input))
        asked None = blind-asks v f s (Signs (mac_or None) input) (Signs (mac_or None) input) refl
        asked (Some o) = blind-asks v f s (Signs (mask_mac o) input) (Signs o input) refl

  blind-verifies : (f : Function) (o : Option MacOperation) (input signature : List ℕ)
      → shown (verifies f (mask v) s (option_map mask_mac o) input signature) ≡ shown (verifies f v s o input signature)
  blind-verifies f o input signature =
      blind-checked_by f (verify_row (mask v) s (option_map mask_mac o) signature) (verify_row v s o signature)
      (verify_says (mask v) s) (verify_says v s) (asks (mask v) f s (Verifies (mac_or (option_map mask_mac o)) input signature))
      (asks v f s (Verifies (mac_or o) input signature))
      (verify-row o signature) blind-verify_says (asked o) where
        asked : (o : Option MacOperation)
            → shown (asks (mask v) f s (Verifies (mac_or (option_map mask_mac o)) input signature))
            ≡ shown (asks v f s (Verifies (mac_or o) input signature))
        asked None = blind-asks v f s (Verifies (mac_or None) input signature) (Verifies (mac_or None) input signature) refl
        asked (Some o) = blind-asks v f s (Verifies (mask_mac o) input signature) (Verifies o input signature) refl

  blind-takes : (p : MacPlace) (o : Option MacOperation) (input : List ℕ)
      → shown (takes p (mask v) s (option_map mask_mac o) input) ≡ shown (takes p v s o input)
  blind-takes p o input =
      let f = mac_update_function p in
      blind-checked_by f (mac_row (mask v) s (option_map mask_mac o)) (mac_row v s o) (refuses_by (mask v)) (refuses_by v)
      (asks (mask v) f s (Takes p (mac_or (option_map mask_mac o)) input)) (asks v f s (Takes p (mac_or o) input))
      (mac-row o) (blind-row v) (asked o) where
        asked : (o : Option MacOperation)
            → shown (asks (mask v) (mac_update_function p) s (Takes p (mac_or (option_map mask_mac o)) input))
            ≡ shown (asks v (mac_update_function p) s (Takes p (mac_or o) input))
        asked None = blind-asks v (mac_update_function p) s (Takes p (mac_or None) input) (Takes p (mac_or None) input) refl
        asked (Some o) = blind-asks v (mac_update_function p) s (Takes p (mask_mac o) input) (Takes p o input) refl

  fair-sign_says : (n : ℕ) (row : Condition) → IsFair true v (sign_says v s n row)
  fair-sign_says n DataTaken = fair v {a = mac_ends v s place.Sign DataTaken} refl refl refl refl refl
  fair-sign_says n NoBuffer = fair v {a = replies v (replied.Output (output.Length n))} refl refl refl refl refl
  fair-sign_says n SmallBuffer = fair v {a = replies v (replied.BufferTooSmall n)} refl refl refl refl refl
  fair-sign_says n row = fair-row v row

  fair-verify_says : (row : Condition) → IsFair true v (verify_says v s row)
  fair-verify_says DataTaken = fair v {a = mac_ends v s place.Verify DataTaken} refl refl refl refl refl
  fair-verify_says SignatureLength = fair v {a = mac_ends v s place.Verify SignatureLength} refl refl refl refl refl
  fair-verify_says row = fair-row v row

proper-signs : (f : Function) (s : ℕ) (input : List ℕ) (buffer_len : Option ℕ)
    → IsProper (λ v r. signs f v s (mac_in (session_of v s) place.Sign) input buffer_len) true
proper-signs f s input buffer_len = record {
  blind = λ v r. ap (λ o. shown (signs f (mask v) s o input buffer_len)) (mac-mask v s place.Sign)
      ∙ blind-signs v s f (mac_in (session_of v s) place.Sign) input buffer_len;
  fair = λ v r.
      let o = mac_in (session_of v s) place.Sign in
      let a = asks v f s (Signs (mac_or o) input) in
      fair-checked_by f v (sign_row v s o buffer_len) (sign_says v s (signature_length o)) a
      (fair-sign_says v s (signature_length o)) (fair v {a = a} refl refl refl refl refl);
}

proper-verifies : (f : Function) (s : ℕ) (input signature : List ℕ)
    → IsProper (λ v r. verifies f v s (mac_in (session_of v s) place.Verify) input signature) true
proper-verifies f s input signature = record {
  blind = λ v r. ap (λ o. shown (verifies f (mask v) s o input signature)) (mac-mask v s place.Verify)
      ∙ blind-verifies v s f (mac_in (session_of v s) place.Verify) input signature;
  fair = λ v r.
      let o = mac_in (session_of v s) place.Verify in
      let a = asks v f s (Verifies (mac_or o) input signature) in
      fair-checked_by f v (verify_row v s o signature) (verify_says v s) a (fair-verify_says v s) (fair v {a = a} refl refl refl refl refl);
}

pub proper-sign : (s : ℕ) (all : Option (List ℕ)) (buffer_len : Option ℕ) → IsProper (λ v r. sign v s all buffer_len) true
proper-sign s all buffer_len = proper-signs (sign_function all) s (unwrap_or all []) buffer_len

pub proper-verify : (s : ℕ) (all : Option (List ℕ)) (signature : List ℕ) → IsProper (λ v r. verify v s all signature) true
proper-verify s all signature = proper-verifies (verify_function all) s (unwrap_or all []) signature

pub proper-mac_update : (p : MacPlace) (s : ℕ) (input : List ℕ) → IsProper (λ v r. mac_update p v s input) true
proper-mac_update p s input = record {
  blind = λ v r. ap (λ o. shown (takes p (mask v) s o input)) (mac-mask v s p) ∙ blind-takes v s p (mac_in (session_of v s) p) input;
  fair = λ v r.
      let o = mac_in (session_of v s) p in
      let a = asks v (mac_update_function p) s (Takes p (mac_or o) input) in
      fair-checked_by (mac_update_function p) v (mac_row v s o) (refuses_by v) a (fair-row v) (fair v {a = a} refl refl refl refl refl);
}

-- ---- the results

pub blind-taken : (v : View) (s : ℕ) (p : MacPlace) (o : MacOperation) (input : List ℕ) (outcome : TaskResult)
    → shown (mac_taken (mask v) s p (mask_mac o) input outcome) ≡ shown (mac_taken v s p o input outcome)
blind-taken v s p o input Taken =
    let x = Some (mac_further (mask_mac o) input) in
    let y = Some (mac_further o input) in
    blind-becomes (replied.Code Ok) (with_mac (answered (mask v)) s p x) (with_mac (answered v) s p y)
    (with_mac-mask (answered v) s p x y refl)
blind-taken v s p o input _ =
    blind-becomes (replied.Code FunctionFailed) (with_mac (answered (mask v)) s p None) (with_mac (answered v) s p None)
    (with_mac-mask (answered v) s p None None refl)

pub blind-signed : (v : View) (s : ℕ) (outcome : TaskResult) → shown (signed (mask v) s outcome) ≡ shown (signed v s outcome)
blind-signed v s outcome = blind-becomes (signed_reply outcome) (with_mac (answered (mask v)) s place.Sign None)
    (with_mac (answered v) s place.Sign None) (with_mac-mask (answered v) s place.Sign None None refl)

pub blind-verified : (v : View) (s : ℕ) (outcome : TaskResult) → shown (verified (mask v) s outcome) ≡ shown (verified v s outcome)
blind-verified v s outcome = blind-becomes (verified_reply outcome) (with_mac (answered (mask v)) s place.Verify None)
    (with_mac (answered v) s place.Verify None) (with_mac-mask (answered v) s place.Verify None None refl)

pub over-taken : (v : View) (s : ℕ) (p : MacPlace) (o : MacOperation) (input : List ℕ) (outcome : TaskResult)
    → IsOver v (mac_taken v s p o input outcome)
over-taken v s p o input Taken = record { plain = refl; unasking = refl; over = refl; shows = refl }
over-taken v s p o input _ = record { plain = refl; unasking = refl; over = refl; shows = refl }

plain-signed : (outcome : TaskResult) → resource_error (signed_reply outcome) ≡ None
plain-signed (Output bytes) = refl
plain-signed _ = refl

pub over-signed : (v : View) (s : ℕ) (outcome : TaskResult) → IsOver v (signed v s outcome)
over-signed v s outcome = record { plain = plain-signed outcome; unasking = refl; over = refl; shows = refl }

plain-verified : (outcome : TaskResult) → resource_error (verified_reply outcome) ≡ None
plain-verified Right = refl
plain-verified Wrong = refl
plain-verified _ = refl

pub over-verified : (v : View) (s : ℕ) (outcome : TaskResult) → IsOver v (verified v s outcome)
over-verified v s outcome = record { plain = plain-verified outcome; unasking = refl; over = refl; shows = refl }

pub still-taken : (v : View) (s : ℕ) (p : MacPlace) (o : MacOperation) (input : List ℕ) (outcome : TaskResult)
    → (mac_taken v s p o input outcome).change ≡ Stays
still-taken v s p o input Taken = refl
still-taken v s p o input _ = refl
