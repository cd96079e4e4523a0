-- What a crash leaves of the tries of a PIN.
use Rattle.std.proofs.Common.{◌≡◌, ℕ, ◌+◌, ◌≤◌, Bool, true, false, cond, not, List, [], ◌∷◌, ◌++◌, length, Option, Some, None, inl, inr, refl, sym, ◌∙◌, ap, subst, arith}
use Rattle.std.specs.Prelude.{◌==◌, ◌&&◌}
use Rattle.std.specs.List.{AllByRecursion}
use Rattle.std.proofs.lemmas.Bool.{cases_Bool}
use Rattle.std.specs.Global.{Vec}
use Rattle.ck_types.specs.declared.user_type.UserType.{UserType}
use Rattle.ck_types.specs.declared.user_type.UserType.TheVariants.{So, User}
use Rattle.ck_calls.specs.declared.call.Call.{Call as CallType}
use Rattle.keep.specs.Contents.{Contents}
use Rattle.lists.proofs.IndexLemmas.{append_nil}
use Rattle.pin_record.specs.Records.{TokenRecord, charged, is_initialized, tries_limit, tries_of}
use Rattle.pin_record.specs.Charges.{Charges, Event as PinEvent, Begins, EndsRight, EndsOtherwise, SetsPin, Initializes, Restarts, charged_checks as checks_in, with_checks, with_stored, is_same_user, is_under_way, without, may_begin, has_no_user_check, spent_after, spent, happens as pin_happens, after as pin_after}
use Rattle.model_views.specs.TaskResults.{TaskResult, Right, Made}
use Rattle.model_views.specs.Views.{View, Task, Ciphers, Takes, Signs, Verifies, WrapsKey, UnwrapsKey, ChecksPin, MakesPin, ChangesPin, InitsToken, ResetsToken, Question}
use Rattle.model_views.specs.Changes.{Change, Stays, recorded}
use Rattle.model_views.specs.Answering.{Reveal, pin_checked_by, pin_checked_in}
use Rattle.model_session_answers.specs.InitPin.{may_set_pin}
use Rattle.model_session_answers.specs.InitToken.{is_in_use, may_init}
use Rattle.model_answers.proofs.Proper.{unasking-result}
use Rattle.model_worlds.specs.declared.event.Event.{Event}
use Rattle.model_worlds.specs.declared.event.Event.TheVariants.{Call, Finish, Gone}
use Rattle.model_worlds.specs.Worlds.{World, Move, Goes, Refuses, checking, checks_of, without_checks, value_of, reveal_to_task, answer_at, finished, finish_refused, goes, refused, happens, after}
use Rattle.model_worlds.specs.Tries.{charges_of, pending_check, begins, ends, is_right, sets_new, sets_changed, inits, resets, sets, events_of_result, events_of, IsSoundWorld}
use Rattle.model_worlds.proofs.Tries.{charges-happen, sound-happen, sound-start}
use Rattle.model_runs.specs.Applications.{opening}
use Rattle.model_runs.specs.Lives.{AreLives, BeginsWith, Leaves, Life, failed_after, failed_in, failed_over, in_progress}
use Rattle.model_runs.specs.Runs.{Lasting, LeftAfter, LeftBy, change_of, lasting_of}

-- ---- numbers in a list

without-less : (ns : List ℕ) (n : ℕ) → length (without ns n) ≤ length ns
without-less [] n = omega arith
without-less (m ∷ ns) n = step m ns n (m == n) (without-less ns n) where
  step : (m : ℕ) (ns : List ℕ) (n : ℕ) (b : Bool) → length (without ns n) ≤ length ns
      → length (cond (not b) (m ∷ without ns n) (without ns n)) ≤ length (m ∷ ns)
  step m ns n true h = omega (arith, h)
  step m ns n false h = omega (arith, h)

without-fewer : (ns : List ℕ) (n : ℕ) → is_under_way ns n ≡ true → length (without ns n) + 1 ≤ length ns
without-fewer [] n is = let k : false ≡ true = is in cc
without-fewer (m ∷ ns) n is = elim (cases_Bool (m == n)) [
  | inl e ↦ rw e (let h = without-less ns n in omega (arith, h))
  | inr e ↦ rw e (let h = without-fewer ns n (rw e at is) in omega (arith, h))
]

-- ---- one event of PINs: what has failed, and with it what is in progress

abbrev progress : Charges → UserType → ℕ
progress c who = length (checks_in c who)

-- it begins no check
abbrev is_begin : PinEvent → Bool
is_begin (Begins who number) = true
is_begin (EndsRight who number) = false
is_begin (EndsOtherwise who number) = false
is_begin (SetsPin who verifier) = false
is_begin (Initializes label so) = false
is_begin Restarts = false

-- a choice of two charges with the same checks of a PIN
same-checks : (who : UserType) (c d : Charges) (b : Bool) → checks_in d who ≡ checks_in c who → checks_in (cond b d c) who ≡ checks_in c who
same-checks who c d true same = same
same-checks who c d false same = refl

still : (n : ℕ) (who : UserType) (c d : Charges) → checks_in d who ≡ checks_in c who → n + progress d who ≤ n + progress c who
still n who c d same = let e = ap length same in omega (arith, e)

cleared : (n : ℕ) (b : Bool) (who : UserType) (c d : Charges) → checks_in d who ≡ checks_in c who
    → cond b 0 n + progress d who ≤ n + progress c who
cleared n true who c d same = let e = ap length same in omega (arith, e)
cleared n false who c d same = let e = ap length same in omega (arith, e)

ended-right : (n : ℕ) (who : UserType) (c d : Charges) (number : ℕ) (b : Bool) → checks_in d who ≡ without (checks_in c who) number
    → cond b 0 n + progress (cond b d c) who ≤ n + progress c who
ended-right n who c d number true is = let e = ap length is in let h = without-less (checks_in c who) number in omega (arith, e, h)
ended-right n who c d number false is = omega arith

ended-otherwise : (n : ℕ) (ns : List ℕ) (number : ℕ) (b : Bool) → is_under_way ns number ≡ b
    → cond b (n + 1) n + length (without ns number) ≤ n + length ns
ended-otherwise n ns number true is = let h = without-fewer ns number is in omega (arith, h)
ended-otherwise n ns number false is = let h = without-less ns number in omega (arith, h)

one-ends : (who : UserType) (n : ℕ) (c : Charges) (e : PinEvent) → is_begin e ≡ false
    → spent_after who n c e + progress (pin_happens c e) who ≤ n + progress c who
one-ends who n c (Begins other number) is = let k : true ≡ false = is in cc
one-ends So n c (EndsRight So number) is = ended-right n So c _ number (is_under_way c.so_checks number) refl
one-ends So n c (EndsRight User number) is =
    still n So c (pin_happens c (EndsRight User number)) (same-checks So c _ (is_under_way c.user_checks number) refl)
one-ends User n c (EndsRight So number) is =
    still n User c (pin_happens c (EndsRight So number)) (same-checks User c _ (is_under_way c.so_checks number) refl)
one-ends User n c (EndsRight User number) is = ended-right n User c _ number (is_under_way c.user_checks number) refl
one-ends So n c (EndsOtherwise So number) is = ended-otherwise n c.so_checks number (is_under_way c.so_checks number) refl
one-ends So n c (EndsOtherwise User number) is = omega arith
one-ends User n c (EndsOtherwise So number) is = omega arith
one-ends User n c (EndsOtherwise User number) is = ended-otherwise n c.user_checks number (is_under_way c.user_checks number) refl
one-ends So n c (SetsPin So verifier) is =
    cleared n (is_initialized c.stored) So c (pin_happens c (SetsPin So verifier)) (same-checks So c _ (is_initialized c.stored) refl)
one-ends So n c (SetsPin User verifier) is =
    still n So c (pin_happens c (SetsPin User verifier)) (same-checks So c _ (is_initialized c.stored) refl)
one-ends User n c (SetsPin So verifier) is =
    still n User c (pin_happens c (SetsPin So verifier)) (same-checks User c _ (is_initialized c.stored) refl)
one-ends User n c (SetsPin User verifier) is =
    cleared n (is_initialized c.stored) User c (pin_happens c (SetsPin User verifier)) (same-checks User c _ (is_initialized c.stored) refl)
one-ends So n c (Initializes label so) is =
    cleared n (has_no_user_check c) So c (pin_happens c (Initializes label so)) (same-checks So c _ (has_no_user_check c) refl)
one-ends User n c (Initializes label so) is =
    cleared n (has_no_user_check c) User c (pin_happens c (Initializes label so)) (same-checks User c _ (has_no_user_check c) refl)
one-ends So n c Restarts is = omega arith
one-ends User n c Restarts is = omega arith

abbrev NoneBegin : List PinEvent → Type 0
NoneBegin es = AllByRecursion (λ e. is_begin e ≡ false) es

all-end : (who : UserType) (n : ℕ) (c : Charges) (es : List PinEvent) → NoneBegin es
    → spent who n c es + progress (pin_after c es) who ≤ n + progress c who
all-end who n c [] none = omega arith
all-end who n c (e ∷ es) none =
    let h = one-ends who n c e none.0 in
    let k = all-end who (spent_after who n c e) (pin_happens c e) es none.1 in
    omega (arith, h, k)

push-more : (ns : List ℕ) (number : ℕ) → length ns ≤ length (ns ++ number ∷ [])
push-more [] number = omega arith
push-more (m ∷ ns) number = let h = push-more ns number in omega (arith, h)

-- a check that begins is one more
one-begins : (who other : UserType) (c : Charges) (number : ℕ) → progress c who ≤ progress (pin_happens c (Begins other number)) who
one-begins who other c number = step who other (may_begin c other number) where
  step : (who other : UserType) (b : Bool)
      → progress c who ≤ progress (cond b
      (with_stored (with_checks c other (checks_in c other ++ number ∷ [])) (charged c.stored other)) c) who
  step who other false = omega arith
  step So So true = push-more c.so_checks number
  step So User true = omega arith
  step User So true = omega arith
  step User User true = push-more c.user_checks number

-- what failed is counted from what had failed before
one-from : (who : UserType) (m n : ℕ) (c : Charges) (e : PinEvent) → m ≤ n → spent_after who m c e ≤ spent_after who n c e
one-from who m n c (Begins other number) le = le
one-from who m n c (EndsRight other number) le = step (is_same_user who other && is_under_way (checks_in c other) number) where
  step : (b : Bool) → cond b 0 m ≤ cond b 0 n
  step true = omega arith
  step false = le
one-from who m n c (EndsOtherwise other number) le = step (is_same_user who other && is_under_way (checks_in c other) number) where
  step : (b : Bool) → cond b (m + 1) m ≤ cond b (n + 1) n
  step true = omega (arith, le)
  step false = le
one-from who m n c (SetsPin other verifier) le = step (is_same_user who other && is_initialized c.stored) where
  step : (b : Bool) → cond b 0 m ≤ cond b 0 n
  step true = omega arith
  step false = le
one-from who m n c (Initializes label so) le = step (has_no_user_check c) where
  step : (b : Bool) → cond b 0 m ≤ cond b 0 n
  step true = omega arith
  step false = le
one-from who m n c Restarts le = omega (arith, le)

all-from : (who : UserType) (m n : ℕ) (c : Charges) (es : List PinEvent) → m ≤ n → spent who m c es ≤ spent who n c es
all-from who m n c [] le = le
all-from who m n c (e ∷ es) le = all-from who (spent_after who m c e) (spent_after who n c e) (pin_happens c e) es (one-from who m n c e le)

-- ---- the events of PINs of a result, and of a disconnect, begin no check

none-append : (xs ys : List PinEvent) → NoneBegin xs → NoneBegin ys → NoneBegin (xs ++ ys)
none-append [] ys p q = q
none-append (x ∷ xs) ys p q = (p.0, none-append xs ys p.1 q)

none-ends : (app : ℕ) (o : Option UserType) (b : Bool) → NoneBegin (ends app o b)
none-ends app None b = tt
none-ends app (Some who) true = (refl, tt)
none-ends app (Some who) false = (refl, tt)

none-if : (b : Bool) (es : List PinEvent) → NoneBegin es → NoneBegin (cond b es [])
none-if true es p = p
none-if false es p = tt

none-unless : (b : Bool) (es : List PinEvent) → NoneBegin es → NoneBegin (cond b [] es)
none-unless true es p = tt
none-unless false es p = p

none-new : (v : View) (r : Reveal) (pin salt : List ℕ) (outcome : TaskResult) → NoneBegin (sets_new v r pin salt outcome)
none-new v r pin salt Made = none-if (may_set_pin v r) _ (refl, tt)
none-new v r pin salt _ = tt

none-changed : (who : UserType) (pin salt : List ℕ) (outcome : TaskResult) → NoneBegin (sets_changed who pin salt outcome)
none-changed who pin salt Right = (refl, tt)
none-changed who pin salt _ = tt

none-inits : (v : View) (r : Reveal) (label pin salt : List ℕ) (outcome : TaskResult) → NoneBegin (inits v r label pin salt outcome)
none-inits v r label pin salt Made = none-if (may_init v) _ (none-unless (is_in_use v r) _ (refl, tt))
none-inits v r label pin salt _ = tt

none-resets : (v : View) (r : Reveal) (label : List ℕ) (outcome : TaskResult) → NoneBegin (resets v r label outcome)
none-resets v r label Right = none-unless (is_in_use v r) _ (refl, tt)
none-resets v r label _ = tt

none-sets : (v : View) (r : Reveal) (t : Task) (outcome : TaskResult) → NoneBegin (sets v r t outcome)
none-sets v r (Ciphers part operation input) outcome = tt
none-sets v r (Takes place operation input) outcome = tt
none-sets v r (Signs operation input) outcome = tt
none-sets v r (Verifies operation input signature) outcome = tt
none-sets v r (WrapsKey key value) outcome = tt
none-sets v r (UnwrapsKey key wrapped state template random) outcome = tt
none-sets v r (ChecksPin who verifier pin) outcome = tt
none-sets v r (MakesPin pin salt) outcome = none-new v r pin salt outcome
none-sets v r (ChangesPin who verifier pin new_pin salt) outcome = none-changed who new_pin salt outcome
none-sets v r (InitsToken label pin salt) outcome = none-inits v r label pin salt outcome
none-sets v r (ResetsToken label verifier pin) outcome = none-resets v r label outcome

none-result : (w : World) (app : ℕ) (q : Option Question) → NoneBegin (events_of_result w app q)
none-result w app None = tt
none-result w app (Some q) = none-append _ _ (none-ends app (pin_checked_by q.task) (is_right (value_of q.task)))
    (none-sets (w.views app) (reveal_to_task w app q.task) q.task (value_of q.task))

-- ---- one move (transition)

-- So many checks of a PIN failed, and with those in progress they are at most the tries in the world, and in whatever a crash may
-- leave; and all these are ten at most.
record IsKept (who : UserType) (s : UserType → ℕ) (n : ℕ) (w : World) (prior : Option Lasting → Type 0) : Type 0 where
  pub sound : IsSoundWorld s w
  pub here : n + in_progress who w ≤ tries_of w.token_record who
  pub left : (l : Lasting) → prior (Some l) → n + in_progress who w ≤ tries_of l.token_record who
  pub few : (l : Lasting) → prior (Some l) → tries_of l.token_record who ≤ tries_limit

progress-is : (who : UserType) (w : World) → progress (charges_of w) who ≡ in_progress who w
progress-is So w = refl
progress-is User w = refl

record-is : (who : UserType) (l : Lasting) (w : World) → Some l ≡ Some (lasting_of w)
    → tries_of l.token_record who ≡ tries_of w.token_record who
record-is who l w is = let same : l ≡ lasting_of w = cc in ap (λ (x : Lasting). tries_of x.token_record who) same

module _ (who : UserType) (s : UserType → ℕ) (n : ℕ) (w : World) (prior : Option Lasting → Type 0) (kept : IsKept who s n w prior) where
  -- the world after the event, if it isn't refused
  sum-goes : (event : Event) → failed_after who n w (Goes event) + in_progress who (goes w event) ≤ tries_of (goes w event).token_record who
  sum-goes event =
      let c = charges_of w in
      let es = events_of w (Goes event) in
      let before = (kept.sound.tries who).sum in
      let p = progress-is who w in
      let q = progress-is who (goes w event) in
      let h = kept.here in
      let from : n ≤ s who = omega (arith, before, p, h) in
      let more = all-from who n (s who) c es from in
      let after = (((sound-happen s w kept.sound (Goes event))).tries who).sum in
      omega (arith, more, after, q)

  few-goes : (event : Event) → tries_of (goes w event).token_record who ≤ tries_limit
  few-goes event = ((sound-happen s w kept.sound (Goes event)).tries who).most

  -- an event that begins no check
  sum-ends : (event : Event) → NoneBegin (events_of w (Goes event))
      → failed_after who n w (Goes event) + in_progress who (goes w event) ≤ n + in_progress who w
  sum-ends event none =
      let h = all-end who n (charges_of w) (events_of w (Goes event)) none in
      let e = ap (λ c. progress c who) (charges-happen s w kept.sound (Goes event)) in
      let p = progress-is who w in
      let q = progress-is who (goes w event) in
      omega (arith, h, e, p, q)

  -- a call begins one check, with its charge, or none
  call-failed : (app : ℕ) (o : Option UserType) → spent who n (charges_of w) (begins app o) ≡ n
  call-failed app None = refl
  call-failed app (Some other) = refl

  call-spent : (app : ℕ) (o : Option UserType) → spent who (s who) (charges_of w) (begins app o) ≡ s who
  call-spent app None = refl
  call-spent app (Some other) = refl

  begins-more : (app : ℕ) (o : Option UserType) → progress (charges_of w) who ≤ progress (pin_after (charges_of w) (begins app o)) who
  begins-more app None = omega arith
  begins-more app (Some other) = one-begins who other (charges_of w) app

  call-more : (app : ℕ) (call : CallType) (random : Vec ℕ) → in_progress who w ≤ in_progress who (goes w (Call app call random))
  call-more app call random =
      let o = pin_checked_in (answer_at w app call random.items).says in
      let h = begins-more app o in
      let e = ap (λ c. progress c who) (charges-happen s w kept.sound (Goes (Call app call random))) in
      let p = progress-is who w in
      let q = progress-is who (goes w (Call app call random)) in
      omega (arith, h, e, p, q)

  call-still : (app : ℕ) (call : CallType) (random : Vec ℕ) → change_of w (Call app call random) ≡ Stays
      → in_progress who (goes w (Call app call random)) ≡ in_progress who w
  call-still app call random stays =
      let o = pin_checked_in (answer_at w app call random.items).says in
      let new = goes w (Call app call random) in
      let same : tries_of new.token_record who ≡ tries_of w.token_record who =
      ap (λ (x : Change). tries_of (recorded x w.token_record) who) stays in
      let before = (kept.sound.tries who).sum in
      let later = ((sound-happen s w kept.sound (Goes (Call app call random))).tries who).sum in
      let spend = call-spent app o in
      let p = progress-is who w in
      let q = progress-is who new in
      omega (arith, same, before, later, spend, p, q)

  -- a result ends the check of its application, refused or not
  refused-same : (app : ℕ) (q : Option Question) → in_progress who (finish_refused w app q) ≡ in_progress who (finished w app q)
  refused-same app None = refl
  refused-same app (Some q) =
      let none = unasking-result (w.views app) (value_of q.task) (reveal_to_task w app q.task) in
      ap (λ cs. length (checking who (without_checks app cs))) (sym (ap (λ o. w.checks ++ checks_of app o) none ∙ append_nil w.checks))

  refused-record : (app : ℕ) (q : Option Question) → tries_of (finish_refused w app q).token_record who ≡ tries_of w.token_record who
  refused-record app None = refl
  refused-record app (Some q) = refl

  refused-ends : (app : ℕ) → failed_after who n w (Goes (Finish app)) + in_progress who (refused w (Finish app)) ≤ n + in_progress who w
  refused-ends app =
      let h = sum-ends (Finish app) (none-result w app (w.views app).question) in
      let e = refused-same app (w.views app).question in
      omega (arith, h, e)

  gone-ends : (app : ℕ) → failed_after who n w (Goes (Gone app)) + in_progress who (goes w (Gone app)) ≤ n + in_progress who w
  gone-ends app = sum-ends (Gone app) (none-ends app (pending_check (w.views app).question) false)

  next-here : (m : Move) → failed_after who n w m + in_progress who (happens w m) ≤ tries_of (happens w m).token_record who
  next-here (Goes event) = sum-goes event
  next-here (Refuses (Call app call random) fault) = let e =
      call-failed app (pin_checked_in (answer_at w app call random.items).says) in let h = kept.here in omega (arith, e, h)
  next-here (Refuses (Finish app) fault) = let h = refused-ends app in let e = refused-record app (w.views app).question in
      let k = kept.here in omega (arith, h, e, k)
  next-here (Refuses (Gone app) fault) = sum-goes (Gone app)

  next-left : (m : Move) (l : Lasting) → LeftBy prior w m (Some l)
      → failed_after who n w m + in_progress who (happens w m) ≤ tries_of l.token_record who
  next-left (Goes (Call app call random)) l (inl old) =
      let e = call-failed app (pin_checked_in (answer_at w app call random.items).says) in
      let p = call-still app call random old.1 in
      let k = kept.left l old.0 in
      omega (arith, e, p, k)
  next-left (Goes (Finish app)) l (inl old) = let h = sum-ends (Finish app) (none-result w app (w.views app).question) in
      let k = kept.left l old.0 in omega (arith, h, k)
  next-left (Goes (Gone app)) l (inl old) = let h = gone-ends app in let k = kept.left l old.0 in omega (arith, h, k)
  next-left (Goes event) l (inr new) = let e = record-is who l (goes w event) new in let h = sum-goes event in omega (arith, e, h)
  next-left (Refuses (Call app call random) fault) l (inl old) =
      let e = call-failed app (pin_checked_in (answer_at w app call random.items).says) in let k = kept.left l old in omega (arith, e, k)
  next-left (Refuses (Finish app) fault) l (inl old) = let h = refused-ends app in let k = kept.left l old in omega (arith, h, k)
  next-left (Refuses (Gone app) fault) l (inl old) = let h = gone-ends app in let k = kept.left l old in omega (arith, h, k)
  next-left (Refuses (Call app call random) fault) l (inr new) =
      let e = record-is who l (goes w (Call app call random)) new in let h = sum-goes (Call app call random) in let k =
      call-more app call random in omega (arith, e, h, k)
  next-left (Refuses (Finish app) fault) l (inr new) =
      let e = record-is who l (goes w (Finish app)) new in let h = sum-goes (Finish app) in let k =
      refused-same app (w.views app).question in omega (arith, e, h, k)
  next-left (Refuses (Gone app) fault) l (inr new) = let e = record-is who l (goes w (Gone app)) new in
      let h = sum-goes (Gone app) in omega (arith, e, h)

  next-few : (m : Move) (l : Lasting) → LeftBy prior w m (Some l) → tries_of l.token_record who ≤ tries_limit
  next-few (Goes event) l (inl old) = kept.few l old.0
  next-few (Goes event) l (inr new) = let e = record-is who l (goes w event) new in let h = few-goes event in omega (arith, e, h)
  next-few (Refuses event fault) l (inl old) = kept.few l old
  next-few (Refuses event fault) l (inr new) = let e = record-is who l (goes w event) new in let h = few-goes event in omega (arith, e, h)

  next-kept : (m : Move) → IsKept who (λ other. spent other (s other) (charges_of w) (events_of w m)) (failed_after who n w m)
      (happens w m) (LeftBy prior w m)
  next-kept m = record { sound = sound-happen s w kept.sound m; here = next-here m; left = next-left m; few = next-few m }

-- ---- runs and lives

record IsKeptBy (who : UserType) (n : ℕ) (w : World) (prior : Option Lasting → Type 0) : Type 0 where
  pub left : (l : Lasting) → prior (Some l) → n + in_progress who w ≤ tries_of l.token_record who
  pub few : (l : Lasting) → prior (Some l) → tries_of l.token_record who ≤ tries_limit

run-kept : (who : UserType) (s : UserType → ℕ) (n : ℕ) (w : World) (prior : Option Lasting → Type 0) (ms : List Move)
    → IsKept who s n w prior → IsKeptBy who (failed_in who n w ms) (after w ms) (LeftAfter prior w ms)
run-kept who s n w prior [] kept = record { left = kept.left; few = kept.few }
run-kept who s n w prior (m ∷ ms) kept =
    run-kept who (λ other. spent other (s other) (charges_of w) (events_of w m)) (failed_after who n w m) (happens w m)
    (LeftBy prior w m) ms (next-kept who s n w prior kept m)

begun : (who : UserType) (s : UserType → ℕ) (n : ℕ) (w : World) (prior : Option Lasting → Type 0) → IsSoundWorld s w → n ≤ s who
    → ((l : Lasting) → prior (Some l) → l.token_record ≡ w.token_record) → IsKept who s n w prior
begun who s n w prior sound le same =
    let sum = (sound.tries who).sum in
    let few = (sound.tries who).most in
    let p = progress-is who w in
    let here : n + in_progress who w ≤ tries_of w.token_record who = omega (arith, sum, le, p) in
    record {
      sound = sound;
      here = here;
      left = λ l may. let e = ap (λ r. tries_of r who) (same l may) in omega (arith, here, e);
      few = λ l may. let e = ap (λ r. tries_of r who) (same l may) in omega (arith, few, e);
    }

-- what was left is the world's
abbrev LeftNow : World → Option Lasting → Type 0
LeftNow w l = l ≡ Some (lasting_of w)

record-left : (w : World) (l : Lasting) → LeftNow w (Some l) → l.token_record ≡ w.token_record
record-left w l is = let e : l ≡ lasting_of w = cc in ap (λ (x : Lasting). x.token_record) e

pub tries-kept : (who : UserType) (s : UserType → ℕ) (n : ℕ) (w : World) (ms : List Move) (left : Lasting) → IsSoundWorld s w → n ≤ s who
    → Leaves w ms left → failed_in who n w ms + in_progress who (after w ms) ≤ tries_of left.token_record who
tries-kept who s n w ms left sound le may =
    (run-kept who s n w (LeftNow w) ms (begun who s n w (LeftNow w) sound le (record-left w))).left left may

pub tries-few : (who : UserType) (s : UserType → ℕ) (w : World) (ms : List Move) (left : Lasting) → IsSoundWorld s w → Leaves w ms left
    → tries_of left.token_record who ≤ tries_limit
tries-few who s w ms left sound may =
    (run-kept who s 0 w (LeftNow w) ms (begun who s 0 w (LeftNow w) sound (omega arith) (record-left w))).few left may

pub life-begins : (c : Contents) → BeginsWith c.token_record (opening c)
life-begins c = record { token_record = refl; checks = refl; idle = λ app. refl; records = λ app. refl }

pub ten-over : (who : UserType) (n : ℕ) (r : TokenRecord) (lives : List Life)
    → ((other : UserType) → tries_of r other ≤ tries_limit) → n ≤ tries_of r who → AreLives r lives → failed_over who n lives ≤ tries_limit
ten-over who n r [] few le are = let h = few who in omega (arith, h, le)
ten-over who n r (life ∷ more) few le are =
    let b = are.0 in
    let left = are.1.0 in
    let few_here : (other : UserType) → tries_of life.world.token_record other ≤ tries_limit =
    λ other. subst (λ x. tries_of x other ≤ tries_limit) (sym b.token_record) (few other) in
    let sound = sound-start life.world b.checks b.idle b.records few_here in
    let from : n ≤ tries_of life.world.token_record who = subst (λ x. n ≤ tries_of x who) (sym b.token_record) le in
    ten-over who (failed_in who n life.world life.moves + in_progress who (after life.world life.moves)) left.token_record more
    (λ other. tries-few other (tries_of life.world.token_record) life.world life.moves left sound are.1.1)
    (tries-kept who (tries_of life.world.token_record) n life.world life.moves left sound from are.1.1)
    are.1.2
