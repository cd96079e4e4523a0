-- C_CloseSession and C_CloseAllSessions (PKCS #11 v3.1, 5.6).
use Rattle.std.specs.Prelude.{ℕ, Bool, false, ◌==◌, not, [], filter, is_none, None}
use Rattle.ck_calls.specs.declared.function.Function.TheVariants.{CloseSession, CloseAllSessions}
use Rattle.precede.specs.declared.condition.Condition.TheVariants.{NoSession}
use Rattle.sessions.specs.Sessions.{without_session}
use Rattle.model_views.specs.Calls.{Ok, Code, Condition, View, seen_by, Answer, becomes, session_of, checked}
use Rattle.model_session_answers.specs.OpenSession.{slot_row}

-- The session's objects are destroyed with it. With the last session the login ends, and private objects are seen
-- no more.
abbrev pub closed : View → ℕ → View
closed v s =
    let sessions = without_session v.sessions s in
    record v { tokens = seen_by sessions.login v.tokens; own = filter (λ e. not (e.session == s)) v.own; sessions = sessions }

abbrev pub close_row : View → ℕ → Condition → Bool
close_row v s NoSession = is_none (session_of v s)
close_row v s _ = false

abbrev pub close_session : View → ℕ → Answer
close_session v s = checked CloseSession (close_row v s) v (becomes (Code Ok) (closed v s))

abbrev pub all_closed : View → View
all_closed v = record v { tokens = seen_by None v.tokens; own = []; sessions = record v.sessions { sessions = []; login = None } }

abbrev pub close_all_sessions : View → ℕ → Answer
close_all_sessions v slot = checked CloseAllSessions (slot_row slot) v (becomes (Code Ok) (all_closed v))
