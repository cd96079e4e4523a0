-- C_OpenSession.
use Rattle.std.proofs.Common.{◌≡◌, ℕ, Bool, true, map, refl, ap}
use Rattle.std.specs.Prelude.{nat_le}
use Rattle.ck_calls.specs.declared.function.Function.TheVariants.{OpenSession}
use Rattle.precede.specs.declared.condition.Condition.TheVariants.{SessionLimit}
use Rattle.sessions.specs.declared.Session.{Session}
use Rattle.lists.proofs.ListLemmas.{map-push, length-map}
use Rattle.model_session_answers.specs.OpenSession.{is_read_write, open_row, opened, open_session}
use Rattle.model_views.proofs.Checks.{Condition, Operations, no_operations, View, mask, mask_session, shown, tokens-twice, own-twice, sessions-twice, question-twice, record-twice, IsProper, fair, proper-checked}

row-mask : (slot flags : ℕ) (v : View) (row : Condition) → open_row (mask v) slot flags row ≡ open_row v slot flags row
row-mask slot flags v SessionLimit = ap (nat_le 64) (length-map mask_session v.sessions.sessions)
row-mask slot flags v _ = refl

blind-opened : (v : View) (read_write : Bool) → shown (opened (mask v) read_write) ≡ shown (opened v read_write)
blind-opened v read_write =
    let new : Session Operations = record { handle = v.sessions.next_number; read_write = read_write; work = no_operations } in
    rw (
      tokens-twice v.tokens,
      own-twice v.own,
      question-twice v.question,
      record-twice v.token_record,
      map-push mask_session (map mask_session v.sessions.sessions) new,
      sessions-twice v.sessions.sessions,
      map-push mask_session v.sessions.sessions new,
    ) refl

pub proper-open_session : (slot flags : ℕ) → IsProper (λ v r. open_session v slot flags) true
proper-open_session slot flags =
    proper-checked OpenSession (λ v. open_row v slot flags) (λ v. opened v (is_read_write flags)) (row-mask slot flags)
    (λ v. blind-opened v (is_read_write flags)) (λ v. fair v {a = opened v (is_read_write flags)} refl refl refl refl refl)
