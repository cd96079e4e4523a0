-- C_GetSessionInfo (PKCS #11 v3.1, 5.6).
use Rattle.std.specs.Prelude.{ℕ, Bool, false, is_none}
use Rattle.ck_calls.specs.declared.function.Function.TheVariants.{GetSessionInfo}
use Rattle.ck_calls.specs.declared.reply.Reply.TheVariants.{SessionInfo}
use Rattle.precede.specs.declared.condition.Condition.TheVariants.{NoSession}
use Rattle.model_views.specs.Calls.{Condition, View, Answer, replies, session_of, checked, writes, state_in}

abbrev pub info_row : View → ℕ → Condition → Bool
info_row v s NoSession = is_none (session_of v s)
info_row v s _ = false

abbrev pub told_session_info : View → ℕ → Answer
told_session_info v s = replies v (SessionInfo (record { slot = 0; state = state_in v s; read_write = writes (session_of v s) }))

abbrev pub get_session_info : View → ℕ → Answer
get_session_info v s = checked GetSessionInfo (info_row v s) v (told_session_info v s)
