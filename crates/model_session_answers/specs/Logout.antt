-- C_Logout (PKCS #11 v3.1, 5.6).
use Rattle.std.specs.Prelude.{ℕ, Bool, false, not, filter, is_none, None}
use Rattle.ck_types.specs.declared.attr_type.AttrType.TheVariants as attr
use Rattle.ck_calls.specs.declared.function.Function.TheVariants.{Logout}
use Rattle.precede.specs.declared.condition.Condition.TheVariants.{NoSession, NobodyLoggedIn}
use Rattle.sessions.specs.Sessions.{table_logged_out as nobody_in}
use Rattle.model_views.specs.Calls.{Ok, Code, flag, Condition, View, seen_by, Answer, becomes, session_of, checked, no_operations}

-- Private objects are seen no more, and the application's own are destroyed; all its operations end.
abbrev pub logged_out : View → View
logged_out v = record v {
  tokens = seen_by None v.tokens;
  own = filter (λ e. not (flag e.object attr.Private)) v.own;
  sessions = nobody_in no_operations v.sessions;
}

abbrev pub logout_row : View → ℕ → Condition → Bool
logout_row v s NoSession = is_none (session_of v s)
logout_row v s NobodyLoggedIn = is_none v.sessions.login
logout_row v s _ = false

abbrev pub logout : View → ℕ → Answer
logout v s = checked Logout (logout_row v s) v (becomes (Code Ok) (logged_out v))
