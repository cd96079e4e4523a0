-- C_CloseSession and C_CloseAllSessions.
use Rattle.std.proofs.Common.{◌≡◌, ℕ, true, not, List, map, None, refl}
use Rattle.std.specs.Prelude.{filter, ◌==◌}
use Rattle.ck_types.specs.declared.rv.Rv.TheVariants.{Ok}
use Rattle.ck_calls.specs.declared.function.Function.TheVariants.{CloseSession, CloseAllSessions}
use Rattle.ck_calls.specs.declared.reply.Reply.TheVariants.{Code}
use Rattle.precede.specs.declared.condition.Condition.TheVariants.{NoSession}
use Rattle.sessions.specs.declared.Session.{Session}
use Rattle.sessions.specs.Sessions.{login_among}
use Rattle.lists.proofs.ListLemmas.{filter-map}
use Rattle.model_views.specs.Views.{SessionObject, seen_by}
use Rattle.model_session_answers.specs.OpenSession.{slot_row}
use Rattle.model_session_answers.specs.CloseSession.{close_row, closed, close_session, all_closed, close_all_sessions}
use Rattle.model_views.proofs.Masks.{seen-tokens, login-among}
use Rattle.model_views.proofs.Checks.{Condition, Operations, View, mask, mask_session, mask_session_object, becomes, tokens-twice, own-twice, sessions-twice, question-twice, record-twice, IsProper, blind-becomes, fair, proper-checked, row-session}

row-mask : (s : ℕ) (v : View) (row : Condition) → close_row (mask v) s row ≡ close_row v s row
row-mask s v NoSession = row-session v s
row-mask s v _ = refl

others-mask : (s : ℕ) (ss : List (Session Operations))
    → filter (λ x. not (x.handle == s)) (map mask_session ss) ≡ map mask_session (filter (λ x. not (x.handle == s)) ss)
others-mask s ss = filter-map (λ (x : Session Operations). not (x.handle == s)) mask_session ss

closed-mask : (v : View) (s : ℕ) → mask (closed (mask v) s) ≡ mask (closed v s)
closed-mask v s =
    let others = filter (λ x. not (x.handle == s)) v.sessions.sessions in
    rw (
      others-mask s v.sessions.sessions,
      login-among others v.sessions.login,
      sessions-twice others,
      seen-tokens (login_among others v.sessions.login) v.tokens,
      tokens-twice (seen_by (login_among others v.sessions.login) v.tokens),
      filter-map (λ (e : SessionObject). not (e.session == s)) mask_session_object v.own,
      own-twice (filter (λ e. not (e.session == s)) v.own),
      question-twice v.question,
      record-twice v.token_record,
    ) refl

pub proper-close_session : (s : ℕ) → IsProper (λ v r. close_session v s) true
proper-close_session s =
    proper-checked CloseSession (λ v. close_row v s) (λ v. becomes (Code Ok) (closed v s)) (row-mask s)
    (λ v. blind-becomes (Code Ok) (closed (mask v) s) (closed v s) (closed-mask v s))
    (λ v. fair v {a = becomes (Code Ok) (closed v s)} refl refl refl refl refl)

all_closed-mask : (v : View) → mask (all_closed (mask v)) ≡ mask (all_closed v)
all_closed-mask v = rw (
  seen-tokens None v.tokens,
  tokens-twice (seen_by None v.tokens),
  question-twice v.question,
  record-twice v.token_record,
) refl

pub proper-close_all_sessions : (slot : ℕ) → IsProper (λ v r. close_all_sessions v slot) true
proper-close_all_sessions slot =
    proper-checked CloseAllSessions (λ v. slot_row slot) (λ v. becomes (Code Ok) (all_closed v)) (λ v row. refl)
    (λ v. blind-becomes (Code Ok) (all_closed (mask v)) (all_closed v) (all_closed-mask v))
    (λ v. fair v {a = becomes (Code Ok) (all_closed v)} refl refl refl refl refl)
