-- What an answer that refuses leaves: the view as it was, but for an operation that it ends (PKCS #11 v3.1, 5.2), and all that
-- others see. The result of a pending call ends it, and may change tries.
use Rattle.std.specs.Prelude.{◌≡◌, ◌⊎◌, ℕ, true, None}
use Rattle.ck_calls.specs.declared.call.Call.{Call}
use Rattle.ck_calls.specs.declared.call.Call.TheVariants as call
use Rattle.ops.specs.declared.place.Place.TheVariants as place
use Rattle.ops.specs.declared.place.MacPlace.TheVariants as mac_place
use Rattle.pin_record.specs.Records.{TokenRecord}
use Rattle.model_views.specs.Views.{View, Question, Task, Ciphers, Takes, Signs, Verifies}
use Rattle.model_views.specs.Changes.{Stays, Records}
use Rattle.model_views.specs.Answering.{Answer, answered, with_operation, with_mac}
use Rattle.model_views.specs.Refusals.{is_refused}
use Rattle.model_answers.specs.CipherInit.{place_for}

-- ---- calls

-- the operation of a call ends, where a refusal of the call may end one: 5.8 and 5.10, 5.13 and 5.15
abbrev pub ended_by : Call → View → View
ended_by (call.Encrypt session input buffer_len) v = with_operation v session place.Encrypt None
ended_by (call.EncryptUpdate session input buffer_len) v = with_operation v session place.Encrypt None
ended_by (call.EncryptFinal session buffer_len) v = with_operation v session place.Encrypt None
ended_by (call.Decrypt session input buffer_len) v = with_operation v session place.Decrypt None
ended_by (call.DecryptUpdate session input buffer_len) v = with_operation v session place.Decrypt None
ended_by (call.DecryptFinal session buffer_len) v = with_operation v session place.Decrypt None
ended_by (call.Sign session input buffer_len) v = with_mac v session mac_place.Sign None
ended_by (call.SignFinal session buffer_len) v = with_mac v session mac_place.Sign None
ended_by (call.Verify session input signature) v = with_mac v session mac_place.Verify None
ended_by (call.VerifyFinal session signature) v = with_mac v session mac_place.Verify None
ended_by _ v = v

-- a view, and what a refused call may leave of it
abbrev pub StandsAfter : Call → View → View → Type 0
StandsAfter c v new = (new ≡ v) ⊎ (new ≡ ended_by c v)

-- an answer to a call leaves so much where it refuses, and others see nothing of it
abbrev pub RefusesAlone : Call → View → Answer → Type 0
RefusesAlone c v a = is_refused a.says ≡ true → StandsAfter c v a.view × (a.change ≡ Stays)

-- ---- results

-- the operation of a task ends
abbrev pub ended_with : ℕ → Task → View → View
ended_with session (Ciphers part o input) v = with_operation v session (place_for o.direction) None
ended_with session (Takes p o input) v = with_mac v session p None
ended_with session (Signs o input) v = with_mac v session mac_place.Sign None
ended_with session (Verifies o input signature) v = with_mac v session mac_place.Verify None
ended_with session _ v = v

-- other tries
abbrev pub retried : TokenRecord → ℕ → ℕ → TokenRecord
retried r so user = record r { so = record r.so { tries = so }; user = record r.user { tries = user } }

-- an answer to a result whose call is pending no more, whose operation ended, and after which the tries are these
pub record LeavesTries (v : View) (q : Question) (a : Answer) : Type 0 where
  pub so : ℕ
  pub user : ℕ
  pub view : a.view ≡ ended_with q.session q.task (record (answered v) { token_record = retried v.token_record so user })
  -- others see no more than the tries
  pub change : (a.change ≡ Stays) ⊎ (a.change ≡ Records (retried v.token_record so user))

abbrev pub FailsAlone : View → Question → Answer → Type 0
FailsAlone v q a = is_refused a.says ≡ true → LeavesTries v q a
