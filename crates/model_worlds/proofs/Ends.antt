-- What a result makes of the record and the checks in progress is what its events of PINs make of them.
use Rattle.std.proofs.Common.{◌≡◌, ◌≢◌, ℕ, Bool, true, false, cond, List, [], ◌∷◌, length, Option, Some, None, inl, inr, refl, sym, ◌∙◌, ap, arith}
use Rattle.std.specs.Prelude.{◌==◌, ◌||◌, ◌&&◌, not}
use Rattle.std.specs.List.{list_any}
use Rattle.std.proofs.lemmas.Bool.{cases_eq, eq-eqb, ne_eqb, eqb-true, cond-true, lt-ltb}
use Rattle.ck_types.specs.declared.rv.Rv.TheVariants.{Ok, FunctionFailed, SessionExists}
use Rattle.ck_calls.specs.declared.reply.Reply.TheVariants.{Code}
use Rattle.ck_types.specs.declared.user_type.UserType.{UserType}
use Rattle.ck_types.specs.declared.user_type.UserType.TheVariants.{So, User}
use Rattle.pin_record.specs.Verifiers.{PinVerifier, verifier_for, new_rounds}
use Rattle.pin_record.specs.Records.{TokenRecord, is_initialized, initialized_record, tries_of, with_pin, with_tries}
use Rattle.pin_record.specs.Charges.{Charges, EndsRight, SetsPin, Initializes, charged_checks as checks_in, with_checks, with_stored, is_under_way, without, has_no_user_check, happens as pin_happens, after as pin_after}
use Rattle.pin_record.proofs.Counting.{fewer, without-none}
use Rattle.model_views.specs.TaskResults.{TaskResult, Right, Wrong, Made}
use Rattle.model_views.specs.Views.{Task, Ciphers, Takes, Signs, Verifies, WrapsKey, UnwrapsKey, ChecksPin, MakesPin, ChangesPin, InitsToken, ResetsToken, Question, View}
use Rattle.model_views.specs.Changes.{Change, Records, recorded}
use Rattle.model_views.specs.Answering.{Reveal, answered, pin_checked_by, has_session, refuses}
use Rattle.model_session_answers.specs.Pins.{verifier_or, others, is_charged, stores, resets}
use Rattle.model_session_answers.specs.Login.{may_log_in, logged_in, right_pin, login_result}
use Rattle.model_session_answers.specs.InitPin.{may_set_pin, init_pin_result}
use Rattle.model_session_answers.specs.SetPin.{set_pin_result}
use Rattle.model_session_answers.specs.InitToken.{is_in_use, may_init, init_token_result, reset_token_result}
use Rattle.model_answers.specs.Answers.{answer_outcome, is_pin_task}
use Rattle.model_answers.proofs.Proper.{record-outcome}
use Rattle.model_worlds.specs.Worlds.{World, is_in_session, others_in_session, checking, others_checking, checks_of, without_checks, reveal_to_outcome, reveals_login}
use Rattle.model_worlds.specs.Tries.{charges_of, ends, events_of_outcome, pending_check, checks_by, IsSoundWorld}
use Rattle.model_worlds.proofs.UnderWay.{checking-over, under_way-is, checking-stays}

abbrev pub charges : TokenRecord → List ℕ → List ℕ → Charges
charges r so user = record { stored = r; so_checks = so; user_checks = user }

pub alike : {r r' : TokenRecord} {so so' user user' : List ℕ} → r ≡ r' → so ≡ so' → user ≡ user' → charges r so user ≡ charges r' so' user'
alike p q z = λ i. charges (p i) (q i) (z i)

-- the charges once the application's check is over
abbrev pub ended : World → ℕ → TokenRecord → Charges
ended w app r = charges r (checking So (without_checks app w.checks)) (checking User (without_checks app w.checks))

-- ---- a check ends wrong or abandoned, or none ends
pub charges-ended : (w : World) (app : ℕ) (o : Option UserType) → checks_by app w.checks ≡ checks_of app o
    → ended w app w.token_record ≡ pin_after (charges_of w) (ends app o false)
charges-ended w app None is =
    alike refl (checking-stays So app w.checks (under_way-is So app w.checks None is))
    (checking-stays User app w.checks (under_way-is User app w.checks None is))
charges-ended w app (Some So) is =
    alike refl (checking-over So app w.checks) (checking-stays User app w.checks (under_way-is User app w.checks (Some So) is))
charges-ended w app (Some User) is =
    alike refl (checking-stays So app w.checks (under_way-is So app w.checks (Some User) is)) (checking-over User app w.checks)

-- ---- nobody checks the user's PIN

none-of : (ns : List ℕ) → ((b : ℕ) → is_under_way ns b ≡ false) → ns ≡ []
none-of [] none = refl
none-of (n ∷ ns) none = let k : true ≡ false = ap (λ b. b || list_any (λ m. m == n) ns) (sym (eq-eqb n n refl)) ∙ none n in cc

any-other : (b app : ℕ) (xs : List ℕ) → b ≢ app → list_any (λ n. n == b) xs ≡ true → list_any (λ n. not (n == app)) xs ≡ true
any-other b app [] differ is = let k : false ≡ true = is in cc
any-other b app (x ∷ xs) differ is = elim (cases_eq x b) [
  | inl e ↦ rw (ne_eqb x app (λ k. differ (sym e ∙ k))) refl
  | inr d ↦ rw (any-other b app xs differ (rw (ne_eqb x b d) at is)) (or-true (not (x == app)))
] where
  or-true : (t : Bool) → (t || true) ≡ true
  or-true true = refl
  or-true false = refl

or-left : (a b : Bool) → (a || b) ≡ false → a ≡ false
or-left true b h = h
or-left false b h = refl

or-right : (a b : Bool) → (a || b) ≡ false → b ≡ false
or-right true b h = let k : true ≡ false = h in cc
or-right false b h = h

and-first : (a b : Bool) → (a && b) ≡ true → a ≡ true
and-first true b h = refl
and-first false b h = h

and-second : (a b : Bool) → (a && b) ≡ true → b ≡ true
and-second true b h = h
and-second false b h = let k : false ≡ true = h in cc

-- the application's own pending call checks none of it
abbrev OtherThanUser : Option UserType → Type 0
OtherThanUser o = o ≡ Some User → ⊥

own-none : (app : ℕ) (o : Option UserType) → OtherThanUser o → is_under_way (checking User (checks_of app o)) app ≡ false
own-none app None other = refl
own-none app (Some So) other = refl
own-none app (Some User) other = absurd (other refl)

module _ (s : UserType → ℕ) (w : World) (sound : IsSoundWorld s w) (app : ℕ) where
  no-user : (o : Option UserType) → OtherThanUser o → checks_by app w.checks ≡ checks_of app o → others_in_session w app ≡ false
      → (b : ℕ) → is_under_way (checking User w.checks) b ≡ false
  no-user o other own alone b = elim (cases_eq b app) [
    | inl is ↦ rw is (under_way-is User app w.checks o own ∙ own-none app o other)
    | inr differ ↦ under_way-is User b w.checks (pending_check (w.views b).question) (sound.checks b)
        ∙ step b differ alone (sound.seated b) (pending_check (w.views b).question) refl
  ] where
    step : (b : ℕ) → b ≢ app → others_in_session w app ≡ false
        → (pending_check (w.views b).question ≡ Some User → (has_session (w.views b) ≡ true) × (is_in_session w b ≡ true))
        → (p : Option UserType) → pending_check (w.views b).question ≡ p → is_under_way (checking User (checks_of b p)) b ≡ false
    step b differ alone seated None e = refl
    step b differ alone seated (Some So) e = refl
    step b differ alone seated (Some User) e = let k : true ≡ false = sym (any-other b app w.in_session differ (seated e).1) ∙ alone in cc

  user-free : (o : Option UserType) → OtherThanUser o → checks_by app w.checks ≡ checks_of app o → others_in_session w app ≡ false
      → checking User w.checks ≡ []
  user-free o other own alone = none-of (checking User w.checks) (no-user o other own alone)

  -- ---- a check ends right

  checks-own : (who : UserType) → checks_by app w.checks ≡ checks_of app (Some who) → is_under_way (checks_in (charges_of w) who) app ≡ true
  checks-own So own = under_way-is So app w.checks (Some So) own ∙ ap (λ b. b || false) (eq-eqb app app refl)
  checks-own User own = under_way-is User app w.checks (Some User) own ∙ ap (λ b. b || false) (eq-eqb app app refl)

  charged : (who : UserType) → checks_by app w.checks ≡ checks_of app (Some who)
      → is_charged w.token_record who (others_checking w.checks app who) ≡ true
  charged So own = lt-ltb _ _ (fewer So (s So) (charges_of w) app (sound.tries So) (checks-own So own))
  charged User own = lt-ltb _ _ (fewer User (s User) (charges_of w) app (sound.tries User) (checks-own User own))

  ended-right : (who : UserType) → checks_by app w.checks ≡ checks_of app (Some who)
      → ended w app (with_tries w.token_record who (others_checking w.checks app who)) ≡ pin_happens (charges_of w) (EndsRight who app)
  ended-right So own =
      let c = charges_of w in
      let rest = without c.so_checks app in
      alike refl (checking-over So app w.checks) (checking-stays User app w.checks (under_way-is User app w.checks (Some So) own))
      ∙ sym (cond-true (is_under_way c.so_checks app) (with_stored (with_checks c So rest) (with_tries c.stored So (length rest))) c
      (checks-own So own))
  ended-right User own =
      let c = charges_of w in
      let rest = without c.user_checks app in
      alike refl (checking-stays So app w.checks (under_way-is So app w.checks (Some User) own)) (checking-over User app w.checks)
      ∙ sym (cond-true (is_under_way c.user_checks app)
      (with_stored (with_checks c User rest) (with_tries c.stored User (length rest))) c (checks-own User own))

  -- ---- and where none of its own is in progress

  none-ended : (r : TokenRecord) → checks_by app w.checks ≡ checks_of app None
      → ended w app r ≡ charges r (checking So w.checks) (checking User w.checks)
  none-ended r own = alike refl (checking-stays So app w.checks (under_way-is So app w.checks None own))
      (checking-stays User app w.checks (under_way-is User app w.checks None own))

  -- ---- each task: what becomes of the record, by the record that the application sees

  abbrev Becomes : TokenRecord → Task → TaskResult → Change → Type 0
  Becomes old t x change = ended w app (recorded change old) ≡ pin_after (charges_of w) (events_of_outcome w app t x)

  becomes-login : (who : UserType) (verifier : PinVerifier) (pin : List ℕ) (x : TaskResult)
      → checks_by app w.checks ≡ checks_of app (Some who)
      → Becomes w.token_record (ChecksPin who verifier pin) x
      (login_result (answered (w.views app)) who x (reveal_to_outcome w app (ChecksPin who verifier pin) x)).change
  becomes-login who verifier pin Right own =
      let v = w.views app in
      let n = others_checking w.checks app who in
      let seen : others (reveals_login w.objects who (others_checking w.checks app who)) ≡ n = told who in
      let set : is_charged v.token_record who (others (reveals_login w.objects who (others_checking w.checks app who))) ≡ true =
      ap (λ r. is_charged r who (others (reveals_login w.objects who (others_checking w.checks app who)))) (sound.records app)
      ∙ ap (is_charged w.token_record who) seen ∙ charged who own in
      ap (λ c. ended w app (recorded c w.token_record)) (changes v who (reveals_login w.objects who (others_checking w.checks app who)) set)
      ∙ ap (λ r. ended w app (with_tries r who (others (reveals_login w.objects who (others_checking w.checks app who)))))
      (sound.records app)
      ∙ ap (λ m. ended w app (with_tries w.token_record who m)) seen
      ∙ ended-right who own where
        told : (who : UserType) → others (reveals_login w.objects who (others_checking w.checks app who)) ≡ others_checking w.checks app who
        told So = refl
        told User = refl

        changes : (v : View) (who : UserType) (r : Reveal) → is_charged v.token_record who (others r) ≡ true
            → (right_pin (answered v) who r).change ≡ Records (with_tries v.token_record who (others r))
        changes v who r set = rw set (step (may_log_in (answered v) who)) where
          step : (b : Bool) → (cond b (stores (Code Ok) (with_tries v.token_record who (others r)) (logged_in (answered v) who r))
              (stores (Code FunctionFailed) (with_tries v.token_record who (others r)) (answered v))).change
              ≡ Records (with_tries v.token_record who (others r))
          step true = refl
          step false = refl
  becomes-login who verifier pin Wrong own = charges-ended w app (Some who) own
  becomes-login who verifier pin _ own = charges-ended w app (Some who) own

  becomes-made : (pin salt : List ℕ) (x : TaskResult) → checks_by app w.checks ≡ checks_of app None
      → Becomes w.token_record (MakesPin pin salt) x
      (init_pin_result (answered (w.views app)) pin salt x (reveal_to_outcome w app (MakesPin pin salt) x)).change
  becomes-made pin salt Made own = step (may_set_pin (w.views app) r) refl where
    r : Reveal
    r = reveal_to_outcome w app (MakesPin pin salt) Made

    made : PinVerifier
    made = verifier_for pin salt new_rounds

    n : ℕ
    n = others_checking w.checks app User

    step : (b : Bool) → may_set_pin (w.views app) r ≡ b
        → ended w app (recorded (cond b
        (stores (Code Ok) (with_pin (w.views app).token_record User made n) (answered (w.views app)))
        (refuses (answered (w.views app)) FunctionFailed)).change w.token_record)
        ≡ pin_after (charges_of w) (cond b (SetsPin User made ∷ []) [])
    step false e = none-ended w.token_record own
    step true e =
        let c = charges_of w in
        let init : is_initialized w.token_record ≡ true =
        ap is_initialized (sym (sound.records app)) ∙ and-first (is_initialized (w.views app).token_record) _ e in
        let rest : length (without c.user_checks app) ≡ length c.user_checks =
        ap length (without-none c.user_checks app (under_way-is User app w.checks None own)) in
        none-ended (with_pin (w.views app).token_record User made n) own
        ∙ ap (λ x. charges (with_pin x User made n) c.so_checks c.user_checks) (sound.records app)
        ∙ ap (λ m. charges (with_pin w.token_record User made m) c.so_checks c.user_checks) rest
        ∙ sym (cond-true (is_initialized c.stored) (with_stored c (with_pin c.stored User made (length c.user_checks))) c init)
  becomes-made pin salt _ own = none-ended w.token_record own

  -- a new PIN after the right end of a check
  set-right : (who : UserType) (made : PinVerifier) (b : Bool) → is_initialized w.token_record ≡ b
      → (let n = others_checking w.checks app who in
      ended w app (cond b (with_pin w.token_record who made n) (with_tries w.token_record who n))
      ≡ pin_happens (ended w app (with_tries w.token_record who n)) (SetsPin who made))
  set-right So made true e =
      let n = others_checking w.checks app So in
      let c = ended w app (with_tries w.token_record So n) in
      ap (λ m. ended w app (with_pin w.token_record So made m)) (sym (ap length (checking-over So app w.checks)))
      ∙ sym (cond-true (is_initialized c.stored) (with_stored c (with_pin c.stored So made (length c.so_checks))) c e)
  set-right User made true e =
      let n = others_checking w.checks app User in
      let c = ended w app (with_tries w.token_record User n) in
      ap (λ m. ended w app (with_pin w.token_record User made m)) (sym (ap length (checking-over User app w.checks)))
      ∙ sym (cond-true (is_initialized c.stored) (with_stored c (with_pin c.stored User made (length c.user_checks))) c e)
  set-right So made false e =
      let c = ended w app (with_tries w.token_record So (others_checking w.checks app So)) in
      ap (λ b. cond b (with_stored c (with_pin c.stored So made (length c.so_checks))) c) (sym e)
  set-right User made false e =
      let c = ended w app (with_tries w.token_record User (others_checking w.checks app User)) in
      ap (λ b. cond b (with_stored c (with_pin c.stored User made (length c.user_checks))) c) (sym e)

  becomes-changed : (who : UserType) (verifier : PinVerifier) (pin new_pin salt : List ℕ) (x : TaskResult)
      → checks_by app w.checks ≡ checks_of app (Some who)
      → Becomes w.token_record (ChangesPin who verifier pin new_pin salt) x
      (set_pin_result (answered (w.views app)) who new_pin salt x
      (reveal_to_outcome w app (ChangesPin who verifier pin new_pin salt) x)).change
  becomes-changed who verifier pin new_pin salt Right own =
      let v = w.views app in
      let n = others_checking w.checks app who in
      let made = verifier_for new_pin salt new_rounds in
      let set : is_charged v.token_record who n ≡ true = ap (λ r. is_charged r who n) (sound.records app) ∙ charged who own in
      ap (λ c. ended w app (recorded c w.token_record)) (changes v made set (is_initialized v.token_record))
      ∙ ap (λ x. ended w app (cond (is_initialized x) (with_pin x who made n) (with_tries x who n))) (sound.records app)
      ∙ set-right who made (is_initialized w.token_record) refl
      ∙ ap (λ c. pin_happens c (SetsPin who made)) (ended-right who own) where
        changes : (v : View) (made : PinVerifier) → is_charged v.token_record who (others_checking w.checks app who) ≡ true → (b : Bool)
            → (cond (is_charged v.token_record who (others_checking w.checks app who))
            (cond b (stores (Code Ok) (with_pin v.token_record who made (others_checking w.checks app who)) (answered v))
            (stores (Code FunctionFailed) (with_tries v.token_record who (others_checking w.checks app who)) (answered v)))
            (refuses (answered v) FunctionFailed)).change
            ≡ Records (cond b (with_pin v.token_record who made (others_checking w.checks app who))
            (with_tries v.token_record who (others_checking w.checks app who)))
        changes v made set true = rw set refl
        changes v made set false = rw set refl
  becomes-changed who verifier pin new_pin salt Wrong own = charges-ended w app (Some who) own
  becomes-changed who verifier pin new_pin salt _ own = charges-ended w app (Some who) own

  -- the token is initialised where nobody has a session
  alone : (b : Bool) → is_in_use (w.views app)
      (record { objects = None; under_way = None; others_have_sessions = Some (others_in_session w app) }) ≡ b → b ≡ false
      → others_in_session w app ≡ false
  alone b e f = or-right (has_session (w.views app)) (others_in_session w app) (e ∙ f)

  initializes : (c : Charges) (label : List ℕ) (made : PinVerifier) → c.user_checks ≡ []
      → pin_happens c (Initializes label made) ≡ charges (initialized_record label made (length c.so_checks)) c.so_checks c.user_checks
  initializes c label made none =
      let free : has_no_user_check c ≡ true = ap (λ ns. length ns == 0) none in
      cond-true (has_no_user_check c) (with_stored c (initialized_record label made (length c.so_checks))) c free

  becomes-inited : (label pin salt : List ℕ) (x : TaskResult) → checks_by app w.checks ≡ checks_of app None
      → Becomes w.token_record (InitsToken label pin salt) x
      (init_token_result (answered (w.views app)) label pin salt x (reveal_to_outcome w app (InitsToken label pin salt) x)).change
  becomes-inited label pin salt Made own = step (may_init (w.views app)) refl (is_in_use (w.views app) r) refl where
    r : Reveal
    r = reveal_to_outcome w app (InitsToken label pin salt) Made

    made : PinVerifier
    made = verifier_for pin salt new_rounds

    v : View
    v = w.views app

    step : (a : Bool) → may_init (w.views app) ≡ a → (b : Bool) → is_in_use (w.views app) r ≡ b
        → ended w app (recorded (cond a
        (cond b (refuses (answered v) SessionExists) (resets (initialized_record label made 0) (answered v)))
        (refuses (answered v) FunctionFailed)).change w.token_record)
        ≡ pin_after (charges_of w) (cond a (cond b [] (Initializes label made ∷ [])) [])
    step false p b q = none-ended w.token_record own
    step true p true q = none-ended w.token_record own
    step true p false q =
        let c = charges_of w in
        let sum = (sound.tries So).sum in
        let unset : tries_of w.token_record So ≡ 0 =
        ap (λ x. tries_of x So) (sym (sound.records app))
        ∙ eqb-true (tries_of v.token_record So) 0 (and-second (not (is_initialized v.token_record)) _ p) in
        let none : length c.so_checks ≡ 0 = omega (arith, sum, unset) in
        none-ended (initialized_record label made 0) own
        ∙ ap (λ n. charges (initialized_record label made n) c.so_checks c.user_checks) (sym none)
        ∙ sym (initializes c label made (user-free None (λ k. let z : None ≡ Some User = k in cc) own (alone false q refl)))
  becomes-inited label pin salt _ own = none-ended w.token_record own

  becomes-reset : (label : List ℕ) (verifier : PinVerifier) (pin : List ℕ) (x : TaskResult)
      → checks_by app w.checks ≡ checks_of app (Some So)
      → Becomes w.token_record (ResetsToken label verifier pin) x
      (reset_token_result (answered (w.views app)) label x (reveal_to_outcome w app (ResetsToken label verifier pin) x)).change
  becomes-reset label verifier pin Right own =
      step (is_charged (w.views app).token_record So (others_checking w.checks app So))
      (ap (λ r. is_charged r So (others_checking w.checks app So)) (sound.records app) ∙ charged So own)
      (is_in_use (w.views app) r) refl where
        r : Reveal
        r = reveal_to_outcome w app (ResetsToken label verifier pin) Right

        v : View
        v = w.views app

        n : ℕ
        n = others_checking w.checks app So

        step : (a : Bool) → a ≡ true → (b : Bool) → is_in_use (w.views app) r ≡ b
            → ended w app (recorded (cond a
            (cond b (stores (Code SessionExists) (with_tries v.token_record So n) (answered v))
            (resets (initialized_record label (verifier_or v.token_record So) n) (answered v)))
            (refuses (answered v) FunctionFailed)).change w.token_record)
            ≡ pin_after (pin_happens (charges_of w) (EndsRight So app)) (cond b [] (Initializes label (verifier_or v.token_record So) ∷ []))
        step false k b q = let z : false ≡ true = k in cc
        step true k true q = ap (λ x. ended w app (with_tries x So n)) (sound.records app) ∙ ended-right So own
        step true k false q =
            let c = ended w app (with_tries w.token_record So n) in
            let made = verifier_or v.token_record So in
            let free : c.user_checks ≡ [] =
            checking-stays User app w.checks (under_way-is User app w.checks (Some So) own)
            ∙ user-free (Some So) (λ z. let y : Some So ≡ Some User = z in cc) own (alone false q refl) in
            ap (λ m. ended w app (initialized_record label made m)) (sym (ap length (checking-over So app w.checks)))
            ∙ sym (initializes c label made free)
            ∙ ap (λ x. pin_happens x (Initializes label made)) (ended-right So own)
  becomes-reset label verifier pin Wrong own = charges-ended w app (Some So) own
  becomes-reset label verifier pin _ own = charges-ended w app (Some So) own

  -- a result of no PIN leaves the record
  becomes-same : (q : Question) (t : Task) (x : TaskResult) → is_pin_task t ≡ false → checks_by app w.checks ≡ checks_of app None
      → ended w app (recorded (answer_outcome (w.views app) q t x (reveal_to_outcome w app t x)).change w.token_record) ≡ charges_of w
  becomes-same q t x plain own =
      ap (ended w app) (record-outcome (w.views app) q t x (reveal_to_outcome w app t x) w.token_record plain)
      ∙ none-ended w.token_record own

  pub charges-outcome : (q : Question) (t : Task) (x : TaskResult) → checks_by app w.checks ≡ checks_of app (pin_checked_by t)
      → Becomes w.token_record t x (answer_outcome (w.views app) q t x (reveal_to_outcome w app t x)).change
  charges-outcome q (Ciphers part o input) x own = becomes-same q (Ciphers part o input) x refl own
  charges-outcome q (Takes p o input) x own = becomes-same q (Takes p o input) x refl own
  charges-outcome q (Signs o input) x own = becomes-same q (Signs o input) x refl own
  charges-outcome q (Verifies o input signature) x own = becomes-same q (Verifies o input signature) x refl own
  charges-outcome q (WrapsKey key value) x own = becomes-same q (WrapsKey key value) x refl own
  charges-outcome q (UnwrapsKey key wrapped state template random) x own =
      becomes-same q (UnwrapsKey key wrapped state template random) x refl own
  charges-outcome q (ChecksPin who verifier pin) x own = becomes-login who verifier pin x own
  charges-outcome q (MakesPin pin salt) x own = becomes-made pin salt x own
  charges-outcome q (ChangesPin who verifier pin new_pin salt) x own = becomes-changed who verifier pin new_pin salt x own
  charges-outcome q (InitsToken label pin salt) x own = becomes-inited label pin salt x own
  charges-outcome q (ResetsToken label verifier pin) x own = becomes-reset label verifier pin x own
