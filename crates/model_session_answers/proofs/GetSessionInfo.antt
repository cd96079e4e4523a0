-- C_GetSessionInfo.
use Rattle.std.proofs.Common.{◌≡◌, ℕ, true, refl}
use Rattle.ck_calls.specs.declared.function.Function.TheVariants.{GetSessionInfo}
use Rattle.ck_calls.specs.declared.reply.Reply.TheVariants.{SessionInfo}
use Rattle.precede.specs.declared.condition.Condition.TheVariants.{NoSession}
use Rattle.model_views.specs.Checked.{writes, state_in}
use Rattle.model_session_answers.specs.GetSessionInfo.{info_row, told_session_info, get_session_info}
use Rattle.model_views.proofs.Checks.{Condition, View, mask, shown, session_of, IsProper, blind-reply, fair, proper-checked, row-session, row-writes, state-mask}

row-mask : (s : ℕ) (v : View) (row : Condition) → info_row (mask v) s row ≡ info_row v s row
row-mask s v NoSession = row-session v s
row-mask s v _ = refl

blind-info : (s : ℕ) (v : View) → shown (told_session_info (mask v) s) ≡ shown (told_session_info v s)
blind-info s v = rw (state-mask v s, row-writes v s)
    (blind-reply v (SessionInfo (record { slot = 0; state = state_in v s; read_write = writes (session_of v s) })))

pub proper-get_session_info : (s : ℕ) → IsProper (λ v r. get_session_info v s) true
proper-get_session_info s =
    proper-checked GetSessionInfo (λ v. info_row v s) (λ v. told_session_info v s) (row-mask s) (blind-info s)
    (λ v. fair v {a = told_session_info v s} refl refl refl refl refl)
