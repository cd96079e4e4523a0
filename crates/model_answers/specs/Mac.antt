-- C_Sign, C_SignUpdate, C_SignFinal and C_Verify, C_VerifyUpdate, C_VerifyFinal (PKCS #11 v3.1, 5.2, 5.13 and 5.15): a
-- pending call, and its result.
use Rattle.std.specs.Prelude.{ℕ, Bool, false, ◌==◌, not, nat_lt, List, [], length, Option, Some, None, is_none}
use Rattle.std.specs.Option.{unwrap_or}
use Rattle.ck_types.specs.declared.rv.Rv.TheVariants.{FunctionFailed, SignatureInvalid}
use Rattle.ck_calls.specs.declared.function.Function.{Function}
use Rattle.ck_calls.specs.declared.function.Function.TheVariants as functions
use Rattle.ck_calls.specs.declared.reply.Output.TheVariants as output
use Rattle.ck_calls.specs.declared.reply.Reply.TheVariants as replied
use Rattle.macs.specs.declared.mechanism.Mechanism.TheVariants.{AesCmac}
use Rattle.macs.specs.Tags.{tag_length}
use Rattle.precede.specs.declared.condition.Condition.TheVariants.{NoSession, NoOperation, DataTaken, SignatureLength, NoBuffer, SmallBuffer}
use Rattle.ops.specs.declared.place.MacPlace.{MacPlace}
use Rattle.ops.specs.declared.place.MacPlace.TheVariants as place
use Rattle.ops.specs.Operations.{MacOperation, mac_started, mac_further, mac_in}
use Rattle.model_views.specs.Answering.{with_mac}
use Rattle.model_views.specs.TaskResults.{TaskResult, Output, Taken, Right, Wrong}
use Rattle.model_views.specs.Views.{Takes, Signs, Verifies}
use Rattle.model_views.specs.Calls.{Reply, Ok, Condition, View, Answer, replies, refuses_by, becomes, asks, answered, session_of, checked, checked_by}
use Rattle.model_answers.specs.MacInit.{mac_ends}

abbrev pub mac_update_function : MacPlace → Function
mac_update_function place.Sign = functions.SignUpdate
mac_update_function place.Verify = functions.VerifyUpdate

-- a call that ends the operation, with all of its data, or with none where its data came before
abbrev pub sign_function : Option (List ℕ) → Function
sign_function (Some input) = functions.Sign
sign_function None = functions.SignFinal

abbrev pub verify_function : Option (List ℕ) → Function
verify_function (Some input) = functions.Verify
verify_function None = functions.VerifyFinal

-- ---- the conditions

-- the operation that is in progress
abbrev pub mac_or : Option MacOperation → MacOperation
mac_or o = unwrap_or o (mac_started AesCmac None)

abbrev pub mac_has_taken : MacOperation → Bool
mac_has_taken o = not (length o.taken == 0)

-- how many bytes its signature has
abbrev pub signature_length : Option MacOperation → ℕ
signature_length o = tag_length (mac_or o).mechanism

abbrev pub mac_row : View → ℕ → Option MacOperation → Condition → Bool
mac_row v s o NoSession = is_none (session_of v s)
mac_row v s o NoOperation = is_none o
mac_row v s o DataTaken = mac_has_taken (mac_or o)
mac_row v s o _ = false

abbrev pub sign_row : View → ℕ → Option MacOperation → Option ℕ → Condition → Bool
sign_row v s o buffer_len NoBuffer = is_none buffer_len
sign_row v s o buffer_len SmallBuffer = nat_lt (unwrap_or buffer_len 0) (signature_length o)
sign_row v s o buffer_len row = mac_row v s o row

abbrev pub verify_row : View → ℕ → Option MacOperation → List ℕ → Condition → Bool
verify_row v s o signature SignatureLength = not (length signature == signature_length o)
verify_row v s o signature row = mac_row v s o row

-- an operation that has taken data ends; where the output buffer is too short, the signature's length is returned
abbrev pub sign_says : View → ℕ → ℕ → Condition → Answer
sign_says v s length DataTaken = mac_ends v s place.Sign DataTaken
sign_says v s length NoBuffer = replies v (replied.Output (output.Length length))
sign_says v s length SmallBuffer = replies v (replied.BufferTooSmall length)
sign_says v s length row = refuses_by v row

-- so it does where the signature has not its length
abbrev pub verify_says : View → ℕ → Condition → Answer
verify_says v s DataTaken = mac_ends v s place.Verify DataTaken
verify_says v s SignatureLength = mac_ends v s place.Verify SignatureLength
verify_says v s row = refuses_by v row

-- ---- the pending calls

abbrev pub signs : Function → View → ℕ → Option MacOperation → List ℕ → Option ℕ → Answer
signs function v s o input buffer_len =
    checked_by function (sign_row v s o buffer_len) (sign_says v s (signature_length o)) (asks v function s (Signs (mac_or o) input))

abbrev pub verifies : Function → View → ℕ → Option MacOperation → List ℕ → List ℕ → Answer
verifies function v s o input signature =
    checked_by function (verify_row v s o signature) (verify_says v s) (asks v function s (Verifies (mac_or o) input signature))

abbrev pub takes : MacPlace → View → ℕ → Option MacOperation → List ℕ → Answer
takes p v s o input = checked (mac_update_function p) (mac_row v s o) v (asks v (mac_update_function p) s (Takes p (mac_or o) input))

-- the last data, and a part
abbrev pub sign : View → ℕ → Option (List ℕ) → Option ℕ → Answer
sign v s all buffer_len = signs (sign_function all) v s (mac_in (session_of v s) place.Sign) (unwrap_or all []) buffer_len

abbrev pub verify : View → ℕ → Option (List ℕ) → List ℕ → Answer
verify v s all signature = verifies (verify_function all) v s (mac_in (session_of v s) place.Verify) (unwrap_or all []) signature

abbrev pub mac_update : MacPlace → View → ℕ → List ℕ → Answer
mac_update p v s input = takes p v s (mac_in (session_of v s) p) input

-- ---- the results

-- a part leaves the operation that has taken it, and the last data none
abbrev pub mac_taken : View → ℕ → MacPlace → MacOperation → List ℕ → TaskResult → Answer
mac_taken v s p o input Taken = becomes (replied.Code Ok) (with_mac (answered v) s p (Some (mac_further o input)))
mac_taken v s p o input _ = becomes (replied.Code FunctionFailed) (with_mac (answered v) s p None)

abbrev pub signed_reply : TaskResult → Reply
signed_reply (Output bytes) = replied.Output (output.Data bytes)
signed_reply _ = replied.Code FunctionFailed

abbrev pub signed : View → ℕ → TaskResult → Answer
signed v s outcome = becomes (signed_reply outcome) (with_mac (answered v) s place.Sign None)

abbrev pub verified_reply : TaskResult → Reply
verified_reply Right = replied.Code Ok
verified_reply Wrong = replied.Code SignatureInvalid
verified_reply _ = replied.Code FunctionFailed

abbrev pub verified : View → ℕ → TaskResult → Answer
verified v s outcome = becomes (verified_reply outcome) (with_mac (answered v) s place.Verify None)
