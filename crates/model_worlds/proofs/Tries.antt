-- Over a run the record and the checks in progress are what the events of PINs make of them, and each world is sound.
use Rattle.std.proofs.Common.{◌≡◌, ◌≢◌, ℕ, ◌≤◌, Bool, true, false, cond, List, [], ◌∷◌, ◌++◌, Option, Some, None, inl, inr, is_some, refl, sym, ◌∙◌, ap, subst}
use Rattle.std.specs.Prelude.{nat_lt, length, filter, not, ◌==◌, ◌||◌}
use Rattle.std.specs.List.{list_any}
use Rattle.std.proofs.lemmas.Bool.{cases_eq, eq-eqb, eqb-true, ne_eqb, cond-true}
use Rattle.lists.proofs.ListLemmas.{any-less}
use Rattle.ck_types.specs.declared.entry.Entry.{Entry}
use Rattle.ck_types.specs.declared.user_type.UserType.{UserType}
use Rattle.ck_types.specs.declared.user_type.UserType.TheVariants.{So, User}
use Rattle.ck_calls.specs.declared.call.Call.{Call as CallType}
use Rattle.lists.specs.Indexes.{seen_index}
use Rattle.lists.proofs.IndexLemmas.{append_nil}
use Rattle.pin_record.specs.Records.{TokenRecord, charged, tries_limit, tries_of, verifier_of}
use Rattle.pin_record.specs.Charges.{Charges, Event as PinEvent, Begins, charges_opened, with_checks, with_stored, charged_checks as checks_in, is_under_way, may_begin, spent_after, spent, IsCharged, happens as pin_happens, after as pin_after}
use Rattle.pin_record.proofs.Counting.{goes_on, ten, starts}
use Rattle.model_worlds.specs.declared.event.Event.TheVariants.{Call, Finish, Gone}
use Rattle.model_views.specs.Views.{Question, View, sees, left}
use Rattle.model_views.specs.Changes.{Change, Stays, Insert, Replace, Remove, Records, Resets, recorded, seen, in_list, as_seen, replaced_at, removed_at}
use Rattle.model_views.specs.Answering.{Said, Replies, Asks, Answer, answered, has_session, pin_checked_by, pin_checked_in}
use Rattle.model_worlds.specs.Worlds.{World, list_change, change_for, checks_of, without_checks, stepped, unchecked, with_view, value_of, reveal_to_call, reveal_to_task, answer_at, result_at, Move, Goes, Refuses, finished, finish_refused, happens, after, seated, is_in_session, checking}
use Rattle.model_worlds.specs.Tries.{charges_of, pending_check, begins, ends, events_of_outcome, events_of_result, events_of, events_in, checks_by, IsSoundWorld, spent_in}
use Rattle.model_views.proofs.Blind.{Leaves, Charged}
use Rattle.model_answers.proofs.Proper.{fair-answer, none-asked, busy-answer, over-result, unasking-result, record-result, result-is}
use Rattle.model_answers.specs.Answers.{answer_outcome}
use Rattle.model_worlds.proofs.Ends.{charges, alike, charges-ended, charges-outcome}
use Rattle.model_worlds.proofs.UnderWay.{by-own, by-other, checking-begun, over-own, over-other, under_way-is}

-- ---- a change and the record

recorded-in_list : (s : List Entry → Bool) (os : List (List Entry)) (change : Change) (r : TokenRecord)
    → recorded (in_list s os change) r ≡ recorded change r
recorded-in_list s os Stays r = refl
recorded-in_list s os _ r = refl

seen-record : (s : List Entry → Bool) (os : List (List Entry)) (change : Change) (v : View)
    → (seen (as_seen s os change) v).token_record ≡ recorded change v.token_record
seen-record s os Stays v = refl
seen-record s os (Insert o) v = step (s o) where
  step : (b : Bool) → (seen (cond b (Insert o) Stays) v).token_record ≡ v.token_record
  step true = refl
  step false = refl
seen-record s os (Replace index o) v = step (seen_index s os index) where
  step : (p : Option ℕ) → (seen (replaced_at o p) v).token_record ≡ v.token_record
  step None = refl
  step (Some p) = refl
seen-record s os (Remove index) v = step (seen_index s os index) where
  step : (p : Option ℕ) → (seen (removed_at p) v).token_record ≡ v.token_record
  step None = refl
  step (Some p) = refl
seen-record s os (Records new) v = refl
seen-record s os (Resets new) v = refl

pub seen-question : (change : Change) (v : View) → (seen change v).question ≡ v.question
seen-question Stays v = refl
seen-question _ v = refl

seen-sessions : (change : Change) (v : View) → (seen change v).sessions ≡ v.sessions
seen-sessions Stays v = refl
seen-sessions _ v = refl

-- ---- charges

begun : (c : Charges) (who : UserType) (app : ℕ) → is_some (verifier_of c.stored who) ≡ true
    → nat_lt (tries_of c.stored who) tries_limit ≡ true → is_under_way (checks_in c who) app ≡ false
    → with_stored (with_checks c who (checks_in c who ++ app ∷ [])) (charged c.stored who) ≡ pin_happens c (Begins who app)
begun c who app set few none =
    let may : may_begin c who app ≡ true = rw (set, few, none) refl in
    sym (cond-true (may_begin c who app) (with_stored (with_checks c who (checks_in c who ++ app ∷ [])) (charged c.stored who)) c may)

-- a check begins with its charge
charges-begun : (w : World) (app : ℕ) (o : Option UserType) (new : TokenRecord) → Charged o w.token_record new
    → ((who : UserType) → o ≡ Some who → is_under_way (checking who w.checks) app ≡ false)
    → charges new (checking So (w.checks ++ checks_of app o)) (checking User (w.checks ++ checks_of app o))
    ≡ pin_after (charges_of w) (begins app o)
charges-begun w app None new is free = alike is (ap (checking So) (append_nil w.checks)) (ap (checking User) (append_nil w.checks))
charges-begun w app (Some So) new is free =
    alike is.2 (checking-begun So So app w.checks) (checking-begun User So app w.checks ∙ append_nil (checking User w.checks))
    ∙ begun (charges_of w) So app is.0 is.1 (free So refl)
charges-begun w app (Some User) new is free =
    alike is.2 (checking-begun So User app w.checks ∙ append_nil (checking So w.checks)) (checking-begun User User app w.checks)
    ∙ begun (charges_of w) User app is.0 is.1 (free User refl)

-- ---- pending calls

-- a pending call checks where none did before
asks-check : (app : ℕ) (old new : Option Question) (x : Said) → Leaves old x new → ((q : Question) → x ≡ Asks q → old ≡ None)
    → checks_of app (pending_check old) ++ checks_of app (pin_checked_in x) ≡ checks_of app (pending_check new)
asks-check app old new (Replies reply) leaves none = append_nil (checks_of app (pending_check old))
    ∙ ap (λ o. checks_of app (pending_check o)) (sym leaves)
asks-check app old new (Asks q) leaves none =
    ap (λ o. checks_of app (pending_check o) ++ checks_of app (pin_checked_by q.task)) (none q refl)
    ∙ ap (λ o. checks_of app (pending_check o)) (sym leaves)

-- ---- who has a session

any-kept : (b app : ℕ) (xs : List ℕ) → b ≢ app → list_any (λ n. n == b) (filter (λ n. not (n == app)) xs) ≡ list_any (λ n. n == b) xs
any-kept b app xs differ = any-less (λ n. n == b) (λ n. not (n == app)) xs
    (λ n is. ap not (ne_eqb n app (λ e. differ (sym (eqb-true n b is) ∙ e))))

in-other : (app b : ℕ) (u : View) (xs : List ℕ) → b ≢ app → list_any (λ n. n == b) (seated app u xs) ≡ list_any (λ n. n == b) xs
in-other app b u xs differ = step (has_session u) where
  step : (t : Bool) → list_any (λ n. n == b) (cond t (app ∷ filter (λ n. not (n == app)) xs) (filter (λ n. not (n == app)) xs))
      ≡ list_any (λ n. n == b) xs
  step true = ap (λ t. t || list_any (λ n. n == b) (filter (λ n. not (n == app)) xs)) (ne_eqb app b (λ e. differ (sym e)))
      ∙ any-kept b app xs differ
  step false = any-kept b app xs differ

in-own : (app b : ℕ) (u : View) (xs : List ℕ) → b ≡ app → has_session u ≡ true → list_any (λ n. n == b) (seated app u xs) ≡ true
in-own app b u xs is has = rw (has, eq-eqb app b (sym is)) refl

-- ---- a call

module _ (s : UserType → ℕ) (w : World) (sound : IsSoundWorld s w) where
  -- the record that an application's answer leaves
  record-left : (app : ℕ) (a : Answer) → a.view.token_record ≡ recorded a.change (w.views app).token_record
      → a.view.token_record ≡ recorded (list_change w app a) w.token_record
  record-left app a shows = shows ∙ ap (recorded a.change) (sound.records app)
      ∙ sym (recorded-in_list (sees (w.views app).sessions.login) w.objects a.change w.token_record)

  -- one whose call becomes pending has no check in progress
  asked-free : (app : ℕ) (call : CallType) (random : List ℕ) (who : UserType) (x : Said) → (answer_at w app call random).says ≡ x
      → pin_checked_in x ≡ Some who → is_under_way (checking who w.checks) app ≡ false
  asked-free app call random who (Replies reply) says is = let k : None ≡ Some who = is in cc
  asked-free app call random who (Asks q) says is =
      under_way-is who app w.checks None
      (sound.checks app ∙ ap (λ o. checks_of app (pending_check o))
      (none-asked (w.views app) call random (reveal_to_call w app call) q says))

  charges-called : (app : ℕ) (call : CallType) (random : List ℕ)
      → charges_of (stepped w app (answer_at w app call random))
      ≡ pin_after (charges_of w) (begins app (pin_checked_in (answer_at w app call random).says))
  charges-called app call random =
      let a = answer_at w app call random in
      let f = fair-answer (w.views app) call random (reveal_to_call w app call) in
      let o = pin_checked_in a.says in
      charges-begun w app o (recorded (list_change w app a) w.token_record)
      (subst (λ r. Charged o w.token_record r) (record-left app a f.shows)
      (subst (λ r. Charged o r a.view.token_record) (sound.records app) f.charges))
      (λ who is. asked-free app call random who a.says refl is)

  -- ---- a result

  charges-finish : (app : ℕ) (q : Question) → (w.views app).question ≡ Some q
      → charges_of (unchecked (stepped w app (result_at w app q)) app)
      ≡ pin_after (charges_of w) (events_of_outcome w app q.task (value_of q.task))
  charges-finish app q asked =
      let a = result_at w app q in
      let r = reveal_to_task w app q.task in
      let x = answer_outcome (w.views app) q q.task (value_of q.task) r in
      let own : checks_by app w.checks ≡ checks_of app (pin_checked_by q.task) =
      sound.checks app ∙ ap (λ o. checks_of app (pending_check o)) asked in
      let same : w.checks ++ checks_of app (pin_checked_in a.says) ≡ w.checks =
      ap (λ o. w.checks ++ checks_of app o) (unasking-result (w.views app) (value_of q.task) r) ∙ append_nil w.checks in
      alike (recorded-in_list (sees (w.views app).sessions.login) w.objects a.change w.token_record
      ∙ ap (λ (y : Answer). recorded y.change w.token_record) (result-is (w.views app) q (value_of q.task) r asked))
      (ap (λ cs. checking So (without_checks app cs)) same) (ap (λ cs. checking User (without_checks app cs)) same)
      ∙ charges-outcome s w sound app q q.task (value_of q.task) own

  charges-finished : (app : ℕ) (q : Option Question) → (w.views app).question ≡ q
      → charges_of (finished w app q) ≡ pin_after (charges_of w) (events_of_result w app q)
  charges-finished app None asked = refl
  charges-finished app (Some q) asked = charges-finish app q asked

  charges-refused : (app : ℕ) (q : Option Question) → checks_by app w.checks ≡ checks_of app (pending_check q)
      → charges_of (finish_refused w app q) ≡ pin_after (charges_of w) (ends app (pending_check q) false)
  charges-refused app None is = refl
  charges-refused app (Some q) is = charges-ended w app (pin_checked_by q.task) is

  -- ---- each move (transition)

  pub charges-happen : (m : Move) → charges_of (happens w m) ≡ pin_after (charges_of w) (events_of w m)
  charges-happen (Goes (Call app call random)) = charges-called app call random.items
  charges-happen (Goes (Finish app)) = charges-finished app (w.views app).question refl
  charges-happen (Goes (Gone app)) = charges-ended w app (pending_check (w.views app).question) (sound.checks app)
  charges-happen (Refuses (Call app call random) fault) = refl
  charges-happen (Refuses (Finish app) fault) = charges-refused app (w.views app).question (sound.checks app)
  charges-happen (Refuses (Gone app) fault) = charges-ended w app (pending_check (w.views app).question) (sound.checks app)

  -- each application sees the record
  records-stepped : (app : ℕ) (a : Answer) → a.view.token_record ≡ recorded a.change (w.views app).token_record → (b : ℕ)
      → ((stepped w app a).views b).token_record ≡ (stepped w app a).token_record
  records-stepped app a shows b = elim (cases_eq b app) [
    | inl is ↦ rw (eq-eqb b app is) (record-left app a shows)
    | inr differ ↦ rw (ne_eqb b app differ)
        (seen-record (sees (w.views b).sessions.login) w.objects (list_change w app a) (w.views b)
        ∙ ap (recorded (list_change w app a)) (sound.records b))
  ]

  records-put : (app : ℕ) (v : View) → v.token_record ≡ (w.views app).token_record → (b : ℕ)
      → ((with_view w app v).views b).token_record ≡ w.token_record
  records-put app v same b = elim (cases_eq b app) [
    | inl is ↦ rw (eq-eqb b app is) (same ∙ sound.records app)
    | inr differ ↦ rw (ne_eqb b app differ) (sound.records b)
  ]

  shows-result : (app : ℕ) (q : Question)
      → (result_at w app q).view.token_record ≡ recorded (result_at w app q).change (w.views app).token_record
  shows-result app q = record-result (w.views app) (value_of q.task) (reveal_to_task w app q.task)

  records-finished : (app : ℕ) (q : Option Question) (b : ℕ) → ((finished w app q).views b).token_record ≡ (finished w app q).token_record
  records-finished app None b = sound.records b
  records-finished app (Some q) b = records-stepped app (result_at w app q) (shows-result app q) b

  records-refused : (app : ℕ) (q : Option Question) (b : ℕ)
      → ((finish_refused w app q).views b).token_record ≡ (finish_refused w app q).token_record
  records-refused app None b = sound.records b
  records-refused app (Some q) b = records-put app (answered (w.views app)) refl b

  records-happen : (m : Move) (b : ℕ) → ((happens w m).views b).token_record ≡ (happens w m).token_record
  records-happen (Goes (Call app call random)) b =
      records-stepped app (answer_at w app call random.items)
      (fair-answer (w.views app) call random.items (reveal_to_call w app call)).shows b
  records-happen (Goes (Finish app)) b = records-finished app (w.views app).question b
  records-happen (Goes (Gone app)) b = records-put app (left (w.views app)) refl b
  records-happen (Refuses (Call app call random) fault) b = sound.records b
  records-happen (Refuses (Finish app) fault) b = records-refused app (w.views app).question b
  records-happen (Refuses (Gone app) fault) b = records-put app (left (w.views app)) refl b

  -- each application checks what its pending call checks
  checks-called : (app : ℕ) (call : CallType) (random : List ℕ) (b : ℕ)
      → checks_by b (stepped w app (answer_at w app call random)).checks
      ≡ checks_of b (pending_check ((stepped w app (answer_at w app call random)).views b).question)
  checks-called app call random b =
      let a = answer_at w app call random in
      let reveal = reveal_to_call w app call in
      elim (cases_eq b app) [
        | inl is ↦ rw (eq-eqb b app is) (rw is (
            by-own app w.checks (pin_checked_in a.says) ∙ ap (λ cs. cs ++ checks_of app (pin_checked_in a.says)) (sound.checks app)
            ∙ asks-check app (w.views app).question a.view.question a.says (fair-answer (w.views app) call random reveal).asks
            (λ q says. none-asked (w.views app) call random reveal q says)))
        | inr differ ↦ rw (ne_eqb b app differ) (
            by-other app b w.checks (pin_checked_in a.says) differ ∙ sound.checks b
            ∙ ap (λ o. checks_of b (pending_check o)) (sym (seen-question (change_for b w app a) (w.views b))))
      ]

  checks-over : (app : ℕ) (v : View) → v.question ≡ None → (b : ℕ)
      → checks_by b (without_checks app w.checks) ≡ checks_of b (pending_check ((with_view w app v).views b).question)
  checks-over app v none b = elim (cases_eq b app) [
    | inl is ↦ rw (eq-eqb b app is, none) (rw is (over-own app w.checks))
    | inr differ ↦ rw (ne_eqb b app differ) (over-other app b w.checks differ ∙ sound.checks b)
  ]

  checks-finished : (app : ℕ) (q : Option Question) (b : ℕ)
      → checks_by b (finished w app q).checks ≡ checks_of b (pending_check ((finished w app q).views b).question)
  checks-finished app None b = sound.checks b
  checks-finished app (Some q) b =
      let a = result_at w app q in
      let cs = w.checks ++ checks_of app (pin_checked_in a.says) in
      elim (cases_eq b app) [
        | inl is ↦ rw (eq-eqb b app is, over-result (w.views app) (value_of q.task) (reveal_to_task w app q.task)) (rw is (over-own app cs))
        | inr differ ↦ rw (ne_eqb b app differ) (
            over-other app b cs differ ∙ by-other app b w.checks (pin_checked_in a.says) differ ∙ sound.checks b
            ∙ ap (λ o. checks_of b (pending_check o)) (sym (seen-question (change_for b w app a) (w.views b))))
      ]

  checks-refused : (app : ℕ) (q : Option Question) (b : ℕ)
      → checks_by b (finish_refused w app q).checks ≡ checks_of b (pending_check ((finish_refused w app q).views b).question)
  checks-refused app None b = sound.checks b
  checks-refused app (Some q) b = checks-over app (answered (w.views app)) refl b

  checks-happen : (m : Move) (b : ℕ) → checks_by b (happens w m).checks ≡ checks_of b (pending_check ((happens w m).views b).question)
  checks-happen (Goes (Call app call random)) b = checks-called app call random.items b
  checks-happen (Goes (Finish app)) b = checks-finished app (w.views app).question b
  checks-happen (Goes (Gone app)) b = checks-over app (left (w.views app)) refl b
  checks-happen (Refuses (Call app call random) fault) b = sound.checks b
  checks-happen (Refuses (Finish app) fault) b = checks-refused app (w.views app).question b
  checks-happen (Refuses (Gone app) fault) b = checks-over app (left (w.views app)) refl b

  -- who checks the user's PIN has a session
  seated-stepped : (app : ℕ) (a : Answer) → (pending_check a.view.question ≡ Some User → has_session a.view ≡ true) → (b : ℕ)
      → pending_check ((stepped w app a).views b).question ≡ Some User → (has_session ((stepped w app a).views b) ≡ true)
      × (is_in_session (stepped w app a) b ≡ true)
  seated-stepped app a own b = elim (cases_eq b app) [
    | inl is ↦ rw (eq-eqb b app is) (λ checks. (own checks, in-own app b a.view w.in_session is (own checks)))
    | inr differ ↦ rw (ne_eqb b app differ) (λ checks.
        let change = change_for b w app a in
        let old = sound.seated b (ap pending_check (sym (seen-question change (w.views b))) ∙ checks) in (
          ap (λ t. nat_lt 0 (length t.sessions)) (seen-sessions change (w.views b))
              ∙ old.0,
          in-other app b a.view w.in_session differ ∙ old.1,
        ))
  ]

  seated-put : (app : ℕ) (v : View) → v.question ≡ None → (b : ℕ) → pending_check ((with_view w app v).views b).question ≡ Some User
      → (has_session ((with_view w app v).views b) ≡ true) × (is_in_session (with_view w app v) b ≡ true)
  seated-put app v none b = elim (cases_eq b app) [
    | inl is ↦ rw (eq-eqb b app is) (λ checks. let k : None ≡ Some User = ap pending_check (sym none) ∙ checks in cc)
    | inr differ ↦ rw (ne_eqb b app differ)
        (λ checks. let old = sound.seated b checks in (old.0, in-other app b v w.in_session differ ∙ old.1))
  ]

  called-seat : (app : ℕ) (call : CallType) (random : List ℕ)
      → pending_check (answer_at w app call random).view.question ≡ Some User → has_session (answer_at w app call random).view ≡ true
  called-seat app call random checks =
      let v = w.views app in
      let reveal = reveal_to_call w app call in
      let a = answer_at w app call random in
      let f = fair-answer v call random reveal in
      step v a (busy-answer v call random reveal) f.seats (λ is. (sound.seated app is).0) a.says refl f.asks checks where
        step : (v : View) (a : Answer) → ((q : Question) → v.question ≡ Some q → a.view ≡ v)
            → (pin_checked_in a.says ≡ Some User → has_session a.view ≡ true)
            → (pending_check v.question ≡ Some User → has_session v ≡ true) → (x : Said) → a.says ≡ x
            → Leaves v.question x a.view.question → pending_check a.view.question ≡ Some User → has_session a.view ≡ true
        step v a busy seats old (Asks q) says leaves checks = seats (ap pin_checked_in says ∙ ap pending_check (sym leaves) ∙ checks)
        step v a busy seats old (Replies reply) says leaves checks = pending v.question refl (ap pending_check (sym leaves) ∙ checks) where
          pending : (o : Option Question) → v.question ≡ o → pending_check v.question ≡ Some User → has_session a.view ≡ true
          pending None e c = let k : None ≡ Some User = ap pending_check (sym e) ∙ c in cc
          pending (Some q) e c = ap has_session (busy q e) ∙ old c

  seated-finished : (app : ℕ) (q : Option Question) (b : ℕ) → pending_check ((finished w app q).views b).question ≡ Some User
      → (has_session ((finished w app q).views b) ≡ true) × (is_in_session (finished w app q) b ≡ true)
  seated-finished app None b = sound.seated b
  seated-finished app (Some q) b =
      seated-stepped app (result_at w app q)
      (λ is. let k : None ≡ Some User =
      ap pending_check (sym (over-result (w.views app) (value_of q.task) (reveal_to_task w app q.task))) ∙ is in cc) b

  seated-refused : (app : ℕ) (q : Option Question) (b : ℕ) → pending_check ((finish_refused w app q).views b).question ≡ Some User
      → (has_session ((finish_refused w app q).views b) ≡ true) × (is_in_session (finish_refused w app q) b ≡ true)
  seated-refused app None b = sound.seated b
  seated-refused app (Some q) b = seated-put app (answered (w.views app)) refl b

  seated-happen : (m : Move) (b : ℕ) → pending_check ((happens w m).views b).question ≡ Some User
      → (has_session ((happens w m).views b) ≡ true) × (is_in_session (happens w m) b ≡ true)
  seated-happen (Goes (Call app call random)) b =
      seated-stepped app (answer_at w app call random.items) (called-seat app call random.items) b
  seated-happen (Goes (Finish app)) b = seated-finished app (w.views app).question b
  seated-happen (Goes (Gone app)) b = seated-put app (left (w.views app)) refl b
  seated-happen (Refuses (Call app call random) fault) b = sound.seated b
  seated-happen (Refuses (Finish app) fault) b = seated-refused app (w.views app).question b
  seated-happen (Refuses (Gone app) fault) b = seated-put app (left (w.views app)) refl b

  pub sound-happen : (m : Move) → IsSoundWorld (λ who. spent who (s who) (charges_of w) (events_of w m)) (happens w m)
  sound-happen m = record {
    checks = checks-happen m;
    seated = seated-happen m;
    records = records-happen m;
    tries = λ who.
        let n = spent who (s who) (charges_of w) (events_of w m) in
        subst (IsCharged who n) (sym (charges-happen m)) (goes_on who (s who) (charges_of w) (events_of w m) (sound.tries who));
  }

-- ---- a run

after-append : (c : Charges) (es fs : List PinEvent) → pin_after c (es ++ fs) ≡ pin_after (pin_after c es) fs
after-append c [] fs = refl
after-append c (e ∷ es) fs = after-append (pin_happens c e) es fs

spent-append : (who : UserType) (n : ℕ) (c : Charges) (es fs : List PinEvent)
    → spent who n c (es ++ fs) ≡ spent who (spent who n c es) (pin_after c es) fs
spent-append who n c [] fs = refl
spent-append who n c (e ∷ es) fs = spent-append who (spent_after who n c e) (pin_happens c e) es fs

pub charges-run : (s : UserType → ℕ) (w : World) (ms : List Move) → IsSoundWorld s w
    → charges_of (after w ms) ≡ pin_after (charges_of w) (events_in w ms)
charges-run s w [] sound = refl
charges-run s w (m ∷ ms) sound =
    charges-run (λ who. spent who (s who) (charges_of w) (events_of w m)) (happens w m) ms (sound-happen s w sound m)
    ∙ ap (λ c. pin_after c (events_in (happens w m) ms)) (charges-happen s w sound m)
    ∙ sym (after-append (charges_of w) (events_of w m) (events_in (happens w m) ms))

pub sound-run : (s : UserType → ℕ) (w : World) (ms : List Move) → IsSoundWorld s w → IsSoundWorld (spent_in s w ms) (after w ms)
sound-run s w [] sound = sound
sound-run s w (m ∷ ms) sound =
    let next : UserType → ℕ = λ who. spent who (s who) (charges_of w) (events_of w m) in
    let rest = sound-run next (happens w m) ms (sound-happen s w sound m) in
    record {
      checks = rest.checks;
      seated = rest.seated;
      records = rest.records;
      tries = λ who.
          let e : spent who (next who) (charges_of (happens w m)) (events_in (happens w m) ms) ≡ spent_in s w (m ∷ ms) who =
          ap (λ c. spent who (next who) c (events_in (happens w m) ms)) (charges-happen s w sound m)
          ∙ sym (spent-append who (s who) (charges_of w) (events_of w m) (events_in (happens w m) ms)) in
          subst (λ n. IsCharged who n (charges_of (after (happens w m) ms))) e (rest.tries who);
    }

pub ten-run : (who : UserType) (s : UserType → ℕ) (w : World) (ms : List Move) → IsSoundWorld s w → spent_in s w ms who ≤ tries_limit
ten-run who s w ms sound = ten who (s who) (charges_of w) (events_in w ms) (sound.tries who)

pub sound-start : (w : World) → w.checks ≡ [] → ((app : ℕ) → (w.views app).question ≡ None)
    → ((app : ℕ) → (w.views app).token_record ≡ w.token_record) → ((who : UserType) → tries_of w.token_record who ≤ tries_limit)
    → IsSoundWorld (tries_of w.token_record) w
sound-start w none idle same few =
    let r = w.token_record in
    let is : charges_opened r ≡ charges_of w = alike refl (ap (checking So) (sym none)) (ap (checking User) (sym none)) in
    record {
      checks = λ app. ap (checks_by app) none ∙ ap (λ o. checks_of app (pending_check o)) (sym (idle app));
      seated = λ app is. let k : None ≡ Some User = ap pending_check (sym (idle app)) ∙ is in cc;
      records = same;
      tries = λ who. subst (IsCharged who (tries_of r who)) is (starts who r (few who));
    }
