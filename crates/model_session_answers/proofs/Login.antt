-- C_Login: the check, and its end.
use Rattle.std.proofs.Common.{◌≡◌, ℕ, Bool, true, false, cond, not, List, [], ◌∷◌, map, Option, Some, None, refl, ◌∙◌, ap}
use Rattle.std.specs.Prelude.{nat_lt, ◌||◌}
use Rattle.std.specs.Option.{option_map, unwrap_or}
use Rattle.std.proofs.lemmas.Bool.{not-false}
use Rattle.ck_types.specs.declared.entry.Entry.{Entry}
use Rattle.ck_types.specs.declared.rv.Rv.TheVariants.{Ok, FunctionFailed, PinIncorrect}
use Rattle.ck_types.specs.declared.user_type.UserType.{UserType}
use Rattle.ck_types.specs.declared.user_type.UserType.TheVariants.{So, User}
use Rattle.ck_calls.specs.declared.function.Function.TheVariants.{Login}
use Rattle.ck_calls.specs.declared.reply.Reply.TheVariants.{Code}
use Rattle.attrs.specs.Masking.{mask as mask_object}
use Rattle.attrs.specs.MaskingLaws.{mask-mask}
use Rattle.guard.specs.AccessLaws.{is_visible-mask}
use Rattle.precede.specs.declared.condition.Condition.TheVariants.{NoSession, ReadOnlySessionOpen, PinNotSet, PinLocked}
use Rattle.pin_record.specs.Records.{tries_limit, tries_of, with_tries}
use Rattle.sessions.specs.declared.Session.{Session}
use Rattle.sessions.specs.Sessions.{has_read_only, state_of}
use Rattle.lists.proofs.ListLemmas.{length-map}
use Rattle.model_views.specs.TaskResults.{TaskResult, Right, Wrong}
use Rattle.model_views.specs.Views.{TokenObject, ChecksPin, mask_session, mask_token_object, sees, without_handle}
use Rattle.model_views.specs.Answering.{Reveal, mask_reveal, mask_objects, answered, asks_checked}
use Rattle.model_views.proofs.Masks.{with_tries-masked, tokens-twice, record-twice}
use Rattle.model_views.proofs.Blind.{blind-if, blind-asks_checked, fair-asks_checked}
use Rattle.model_views.proofs.Checks.{Condition, Operations, View, mask, shown, own-twice, sessions-twice, question-twice, mask-twice, IsProper, blind-refusal, proper-given, has-session, row-session}
use Rattle.model_session_answers.specs.Pins.{verifier_or, others, is_charged}
use Rattle.model_session_answers.specs.Login.{user_of, keeps_out, login_row, logs_in, login, merged, tokens_for, may_log_in, logged_in, right_pin, login_result}
use Rattle.model_session_answers.proofs.Over.{IsOver, over-if, over-refused, over-stores, blind-stores}
use Rattle.model_session_answers.proofs.Pins.{row-set, row-locked, charged-mask}

-- ---- the check begins

pub read-only-mask : (ss : List (Session Operations)) → has_read_only (map mask_session ss) ≡ has_read_only ss
read-only-mask [] = refl
read-only-mask (s ∷ ss) = ap (λ b. not s.read_write || b) (read-only-mask ss)

module _ (s : ℕ) (user : Option UserType) (who : UserType) where
  row-mask : (v : View) (r : Reveal) (row : Condition) → login_row (mask v) s user who row ≡ login_row v s user who row
  row-mask v r NoSession = row-session v s
  row-mask v r ReadOnlySessionOpen = ap (keeps_out who) (read-only-mask v.sessions.sessions)
  row-mask v r PinNotSet = ap not (row-set v.token_record who)
  row-mask v r PinLocked = row-locked v.token_record who
  row-mask v r _ = refl

  proper-logs_in : (pin : List ℕ) → IsProper (λ v r. logs_in v s user who pin) false
  proper-logs_in pin =
      proper-given Login (λ v r. login_row v s user who)
      (λ v. asks_checked v Login s (ChecksPin who (verifier_or v.token_record who) pin) who) row-mask
      (λ v. blind-asks_checked v Login s (ChecksPin who (verifier_or (mask v).token_record who) pin)
      (ChecksPin who (verifier_or v.token_record who) pin) who refl)
      (λ v r none. fair-asks_checked v Login s (ChecksPin who (verifier_or v.token_record who) pin) who refl
      (not-false _ none.1.1.1.1.1.1.0) (not-false (nat_lt (tries_of v.token_record who) tries_limit) none.1.1.1.1.1.1.1.0) refl
      (λ k. has-session v s none.1.0))

pub proper-login : (s number : ℕ) (pin : List ℕ) → IsProper (λ v r. login v s number pin) false
proper-login s number pin = proper-logs_in s (user_of number) (unwrap_or (user_of number) User) pin

-- ---- and ends

merged-mask : (os : List (List Entry)) (ts : List TokenObject)
    → map mask_token_object (merged (mask_objects os) (map mask_token_object ts)) ≡ map mask_token_object (merged os ts)
merged-mask [] ts = refl
merged-mask (o ∷ os) [] =
    let f : List Entry → TokenObject = λ x. record { object = x; handle = None } in
    ap (λ xs. f (mask_object (mask_object o)) ∷ xs) (merged-mask os []) ∙ ap (λ x. f x ∷ map mask_token_object (merged os [])) (mask-mask o)
merged-mask (o ∷ os) (t ∷ ts) =
    ap (λ b. map mask_token_object
    (cond b (mask_token_object t ∷ merged (mask_objects os) (map mask_token_object ts))
    (without_handle (mask_object o) ∷ merged (mask_objects os) (map mask_token_object (t ∷ ts)))))
    (is_visible-mask (state_of None true) o)
    ∙ step (sees None o) (merged-mask os ts) (merged-mask os (t ∷ ts)) where
      step : (b : Bool) → map mask_token_object (merged (mask_objects os) (map mask_token_object ts))
          ≡ map mask_token_object (merged os ts)
          → map mask_token_object (merged (mask_objects os) (map mask_token_object (t ∷ ts))) ≡ map mask_token_object (merged os (t ∷ ts))
          → map mask_token_object (cond b (mask_token_object t ∷ merged (mask_objects os) (map mask_token_object ts))
          (without_handle (mask_object o) ∷ merged (mask_objects os) (map mask_token_object (t ∷ ts))))
          ≡ map mask_token_object (cond b (t ∷ merged os ts) (without_handle o ∷ merged os (t ∷ ts)))
      step true h k = let f : List Entry → TokenObject = λ x. record { object = x; handle = t.handle } in
          ap (λ xs. f (mask_object (mask_object t.object)) ∷ xs) h
          ∙ ap (λ x. f x ∷ map mask_token_object (merged os ts)) (mask-mask t.object)
      step false h k = let f : List Entry → TokenObject = λ x. record { object = x; handle = None } in
          ap (λ xs. f (mask_object (mask_object o)) ∷ xs) k ∙ ap (λ x. f x ∷ map mask_token_object (merged os (t ∷ ts))) (mask-mask o)

tokens-mask : (who : UserType) (os : List (List Entry)) (ts : List TokenObject)
    → map mask_token_object (tokens_for who (mask_objects os) (map mask_token_object ts)) ≡ map mask_token_object (tokens_for who os ts)
tokens-mask So os ts = tokens-twice ts
tokens-mask User os ts = merged-mask os ts

revealed-mask : (o : Option (List (List Entry))) → unwrap_or (option_map mask_objects o) [] ≡ mask_objects (unwrap_or o [])
revealed-mask None = refl
revealed-mask (Some os) = refl

logged_in-mask : (v : View) (who : UserType) (r : Reveal) → mask (logged_in (mask v) who (mask_reveal r)) ≡ mask (logged_in v who r)
logged_in-mask v who r =
    rw (
      revealed-mask r.objects,
      tokens-mask who (unwrap_or r.objects []) v.tokens,
      own-twice v.own,
      sessions-twice v.sessions.sessions,
      question-twice v.question,
      record-twice v.token_record,
    ) refl

may-mask : (v : View) (who : UserType) → may_log_in (mask v) who ≡ may_log_in v who
may-mask v who = rw (length-map mask_session v.sessions.sessions, read-only-mask v.sessions.sessions) refl

blind-right : (v : View) (who : UserType) (r : Reveal) → shown (right_pin (mask v) who (mask_reveal r)) ≡ shown (right_pin v who r)
blind-right v who r =
    let n = others r in
    let old = with_tries (mask v).token_record who n in
    let new = with_tries v.token_record who n in
    blind-if (is_charged (mask v).token_record who n) (is_charged v.token_record who n) _ _ _ _ (charged-mask v.token_record who n)
    (blind-if (may_log_in (mask v) who) (may_log_in v who) _ _ _ _ (may-mask v who)
    (blind-stores (Code Ok) old new (logged_in (mask v) who (mask_reveal r)) (logged_in v who r)
    (with_tries-masked v.token_record who n) (logged_in-mask v who r))
    (blind-stores (Code FunctionFailed) old new (mask v) v (with_tries-masked v.token_record who n) (mask-twice v)))
    (blind-refusal v FunctionFailed)

pub blind-login : (v : View) (who : UserType) (outcome : TaskResult) (r : Reveal)
    → shown (login_result (mask v) who outcome (mask_reveal r)) ≡ shown (login_result v who outcome r)
blind-login v who Right r = blind-right v who r
blind-login v who Wrong r = blind-refusal v PinIncorrect
blind-login v who _ r = blind-refusal v FunctionFailed

pub over-login : (v : View) (who : UserType) (outcome : TaskResult) (r : Reveal) → IsOver v (login_result (answered v) who outcome r)
over-login v who Right r =
    let n = others r in
    let new = with_tries v.token_record who n in
    over-if v (is_charged v.token_record who n)
    (over-if v (may_log_in (answered v) who) (over-stores v (logged_in (answered v) who r) (Code Ok) new refl refl)
    (over-stores v (answered v) (Code FunctionFailed) new refl refl))
    (over-refused v FunctionFailed refl)
over-login v who Wrong r = over-refused v PinIncorrect refl
over-login v who _ r = over-refused v FunctionFailed refl
