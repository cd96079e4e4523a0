-- C_GetTokenInfo (PKCS #11 v3.1, 5.5).
use Rattle.std.specs.Prelude.{ℕ, length}
use Rattle.std.specs.List.{count_by}
use Rattle.ck_calls.specs.declared.function.Function.TheVariants.{GetTokenInfo}
use Rattle.ck_calls.specs.declared.reply.Reply.{Reply}
use Rattle.ck_calls.specs.declared.reply.Reply.TheVariants.{TokenInfo}
use Rattle.pin_record.specs.Flags.{token_flags}
use Rattle.pin_record.specs.Records.{record_view}
use Rattle.model_views.specs.Calls.{View, Answer, replies, checked}
use Rattle.model_session_answers.specs.OpenSession.{slot_row}

-- of sessions the application's own alone are counted
abbrev pub told_token_info : View → Reply
told_token_info v =
    TokenInfo (record {
      label = v.token_record.label;
      flags = token_flags (record_view v.token_record);
      session_count = length v.sessions.sessions;
      rw_session_count = count_by (λ s. s.read_write) v.sessions.sessions;
    })

abbrev pub get_token_info : View → ℕ → Answer
get_token_info v slot = checked GetTokenInfo (slot_row slot) v (replies v (told_token_info v))
