-- C_Login (PKCS #11 v3.1, 5.6): a check of a PIN, and its end.
use Rattle.std.specs.Prelude.{ℕ, Bool, false, ◌&&◌, ◌==◌, not, nat_lt, List, [], ◌∷◌, length, is_some, is_none, if◌then◌else◌, Option, Some, None}
use Rattle.std.specs.Option.{unwrap_or}
use Rattle.ck_types.specs.declared.rv.Rv.TheVariants.{FunctionFailed, PinIncorrect}
use Rattle.ck_types.specs.declared.user_type.UserType.TheVariants.{So, User}
use Rattle.ck_types.specs.Numbers.{user_type_number}
use Rattle.ck_calls.specs.declared.function.Function.TheVariants.{Login}
use Rattle.precede.specs.declared.condition.Condition.TheVariants.{NoSession, UnknownUserType, SameUserLoggedIn, OtherUserLoggedIn, ReadOnlySessionOpen, PinNotSet, PinLocked}
use Rattle.pin_record.specs.Charges.{is_same_user}
use Rattle.pin_record.specs.Records.{is_locked, with_tries}
use Rattle.sessions.specs.Sessions.{has_read_only}
use Rattle.model_views.specs.TaskResults.{TaskResult, Right, Wrong}
use Rattle.model_views.specs.Views.{ChecksPin, sees, without_handle}
use Rattle.model_views.specs.Answering.{Reveal, asks_checked}
use Rattle.model_views.specs.Calls.{Ok, Code, Entry, UserType, Condition, View, TokenObject, Answer, refuses, session_of, checked}
use Rattle.model_session_answers.specs.Pins.{is_set, verifier_or, others, is_charged, stores}

-- ---- the check begins

-- the user of a CK_USER_TYPE
abbrev pub user_of : ℕ → Option UserType
user_of n = if n == user_type_number So then Some So else if n == user_type_number User then Some User else None

-- this one is logged in
abbrev pub is_in : UserType → Option UserType → Bool
is_in who None = false
is_in who (Some other) = is_same_user who other

-- the SO may not log in beside a read-only session
abbrev pub keeps_out : UserType → Bool → Bool
keeps_out So read_only = read_only
keeps_out User read_only = false

abbrev pub login_row : View → ℕ → Option UserType → UserType → Condition → Bool
login_row v s user who NoSession = is_none (session_of v s)
login_row v s user who UnknownUserType = is_none user
login_row v s user who SameUserLoggedIn = is_in who v.sessions.login
login_row v s user who OtherUserLoggedIn = is_some v.sessions.login && not (is_in who v.sessions.login)
login_row v s user who ReadOnlySessionOpen = keeps_out who (has_read_only v.sessions.sessions)
login_row v s user who PinNotSet = not (is_set v.token_record who)
login_row v s user who PinLocked = is_locked v.token_record who
login_row v s user who _ = false

abbrev pub logs_in : View → ℕ → Option UserType → UserType → List ℕ → Answer
logs_in v s user who pin = checked Login (login_row v s user who) v
    (asks_checked v Login s (ChecksPin who (verifier_or v.token_record who) pin) who)

abbrev pub login : View → ℕ → ℕ → List ℕ → Answer
login v s number pin = logs_in v s (user_of number) (unwrap_or (user_of number) User) pin

-- ---- and ends

-- the user sees all token objects, those that were seen before under their handles
abbrev pub merged : List (List Entry) → List TokenObject → List TokenObject
merged [] ts = []
merged (o ∷ os) [] = without_handle o ∷ merged os []
merged (o ∷ os) (t ∷ ts) = if sees None o then t ∷ merged os ts else without_handle o ∷ merged os (t ∷ ts)

abbrev pub tokens_for : UserType → List (List Entry) → List TokenObject → List TokenObject
tokens_for So objects ts = ts
tokens_for User objects ts = merged objects ts

-- nobody is logged in, there is a session, and none that keeps the SO out
abbrev pub may_log_in : View → UserType → Bool
may_log_in v who = is_none v.sessions.login &&
    (nat_lt 0 (length v.sessions.sessions) && not (keeps_out who (has_read_only v.sessions.sessions)))

abbrev pub logged_in : View → UserType → Reveal → View
logged_in v who r = record v {
  tokens = tokens_for who (unwrap_or r.objects []) v.tokens;
  sessions = record v.sessions { login = Some who };
}

abbrev pub right_pin : View → UserType → Reveal → Answer
right_pin v who r =
    let new = with_tries v.token_record who (others r) in
    if is_charged v.token_record who (others r) then
    (if may_log_in v who then stores (Code Ok) new (logged_in v who r) else stores
    (Code FunctionFailed) new v) else refuses v FunctionFailed

abbrev pub login_result : View → UserType → TaskResult → Reveal → Answer
login_result v who Right r = right_pin v who r
login_result v who Wrong r = refuses v PinIncorrect
login_result v who _ r = refuses v FunctionFailed
