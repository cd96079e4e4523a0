-- Laws of runs.
use Rattle.std.proofs.Common.{◌≡◌, ◌≢◌, ℕ, zero, suc, Bool, true, false, cond, not, List, [], ◌∷◌, ◌++◌, Option, Some, None, refl, sym, ◌∙◌, ap, inl, inr, subst}
use Rattle.std.specs.Prelude.{◌||◌, ◌&&◌, ◌⊎◌}
use Rattle.std.proofs.lemmas.Bool.{eq-eqb, ne_eqb}
use Rattle.std.specs.Option.{option_map}
use Rattle.ck_types.specs.declared.entry.Entry.{Entry}
use Rattle.ck_types.specs.declared.user_type.UserType.{UserType}
use Rattle.ck_calls.specs.declared.function.Function.{Function}
use Rattle.ck_calls.specs.Functions.{function_of}
use Rattle.guard.specs.Access.{is_public, is_user_in}
use Rattle.model_worlds.specs.declared.event.Event.{Event}
use Rattle.model_worlds.specs.declared.event.Event.TheVariants.{Call, Finish, Gone}
use Rattle.model_views.specs.declared.fault.Fault.{Fault}
use Rattle.lists.specs.Indexes.{seen_index}
use Rattle.model_views.specs.Views.{sees, Question, Task, Ciphers, UnwrapsKey, WrapsKey, Verifies, Signs, Takes, View, mask}
use Rattle.model_views.specs.Changes.{Change, Stays, Insert, Replace, Remove, Records, Resets, is_still, as_seen, replaced_at, removed_at}
use Rattle.model_views.specs.Answering.{Answer}
use Rattle.ck_calls.specs.declared.call.Call.{Call as CallType}
use Rattle.ck_calls.specs.declared.function.Function.TheVariants as functions
use Rattle.model_answers.specs.Answers.{answer, answer_result, is_pin_function, is_pin_task, is_key_task, may_change_objects, is_still_function}
use Rattle.model_worlds.specs.Worlds.{World, is_init_token, answer_at, result_at, value_of, reveal_to_call, reveal_to_task, Move, Goes, Refuses, event_of, list_change, refused, happens, after, finished, finish_tells, finish_refusal, finish_refused, told, reply_to, replies}
use Rattle.model_worlds.specs.Traces.{trace, replies_told, view_told, replies_to, app_of, private_at, is_private, is_quiet_call, is_pin_event, IsQuiet, IsQuietMove, AllQuiet, own_moves, is_quiet_result, is_pin_question, is_private_result}
use Rattle.model_answers.proofs.Proper.{still-answer, still-result}
use Rattle.model_worlds.proofs.Told.{told-trace, seen-trace, replies_to-append, told-other}

pub agreeing-replies : (app : ℕ) (v w : World) (ms ns : List Move) → mask (v.views app) ≡ mask (w.views app)
    → trace app v ms ≡ trace app w ns → replies_to app (replies v ms) ≡ replies_to app (replies w ns)
agreeing-replies app v w ms ns views traces = told-trace app v ms ∙ ap (λ u. replies_told u (trace app v ms)) views
    ∙ ap (replies_told (mask (w.views app))) traces ∙ sym (told-trace app w ns)

pub agreeing-views : (app : ℕ) (v w : World) (ms ns : List Move) → mask (v.views app) ≡ mask (w.views app)
    → trace app v ms ≡ trace app w ns → mask ((after v ms).views app) ≡ mask ((after w ns).views app)
agreeing-views app v w ms ns views traces = seen-trace app v ms ∙ ap (λ u. view_told u (trace app v ms)) views
    ∙ ap (view_told (mask (w.views app))) traces ∙ sym (seen-trace app w ns)

-- ---- quiet events

still-change : (change : Change) → is_still change ≡ true → change ≡ Stays
still-change Stays is = refl
still-change (Insert o) is = absurd cc
still-change (Replace index o) is = absurd cc
still-change (Remove index) is = absurd cc
still-change (Records r) is = absurd cc
still-change (Resets r) is = absurd cc

quiet-still : (function : Function) (a : Answer) → (is_still_function function ≡ true → a.change ≡ Stays)
    → is_quiet_call function a ≡ true → a.change ≡ Stays
quiet-still function a still quiet = step (is_pin_function function) (may_change_objects function) still quiet where
  step : (pin may : Bool) → ((not pin && not may) ≡ true → a.change ≡ Stays) → (not pin && (not may || is_still a.change)) ≡ true
      → a.change ≡ Stays
  step true may still quiet = absurd cc
  step false true still quiet = still-change a.change quiet
  step false false still quiet = still refl

-- a quiet result
quiet-result : (w : World) (other : ℕ) (q : Question) → (w.views other).question ≡ Some q → is_quiet_result w other (Some q) ≡ true
    → (result_at w other q).change ≡ Stays
quiet-result w other q asked quiet = step (is_pin_task q.task) refl (is_key_task q.task) refl quiet where
  step : (pin : Bool) → is_pin_task q.task ≡ pin → (key : Bool) → is_key_task q.task ≡ key
      → (not pin && (not key || is_still (result_at w other q).change)) ≡ true → (result_at w other q).change ≡ Stays
  step true p key k quiet = absurd cc
  step false p true k quiet = still-change (result_at w other q).change quiet
  step false p false k quiet = still-result (w.views other) q (value_of q.task) (reveal_to_task w other q.task) asked p k

-- a change of a private object is no change to one whose user isn't logged in
unseen-index : (login : Option UserType) (os : List (List Entry)) (index : ℕ) → is_user_in login ≡ false
    → private_at os index ≡ true → seen_index (sees login) os index ≡ None
unseen-index login [] index out is = refl
unseen-index login (o ∷ os) zero out is = rw out (step (is_public o) is) where
  step : (b : Bool) → not b ≡ true → cond {A = Option ℕ} (b || false) (Some 0) None ≡ None
  step true k = absurd cc
  step false k = refl
unseen-index login (o ∷ os) (suc index) out is = rw (unseen-index login os index out is) (step (sees login o)) where
  step : (b : Bool) → cond {A = Option ℕ} b (option_map suc None) None ≡ None
  step true = refl
  step false = refl

unseen : (login : Option UserType) (os : List (List Entry)) (change : Change) → is_user_in login ≡ false
    → is_private os change ≡ true → as_seen (sees login) os change ≡ Stays
unseen login os Stays out is = refl
unseen login os (Insert o) out is = rw out (step (is_public o) is) where
  step : (b : Bool) → not b ≡ true → cond {A = Change} (b || false) (Insert o) Stays ≡ Stays
  step true k = absurd cc
  step false k = refl
unseen login os (Replace index o) out is = ap (replaced_at o) (unseen-index login os index out is)
unseen login os (Remove index) out is = ap removed_at (unseen-index login os index out is)
unseen login os (Records r) out is = absurd cc
unseen login os (Resets r) out is = absurd cc

and-right : (b c : Bool) → (b && c) ≡ true → c ≡ true
and-right true c is = is
and-right false c is = absurd cc

and-left : (b c : Bool) → (b && c) ≡ true → b ≡ true
and-left true c is = refl
and-left false c is = absurd cc

not-true : (b : Bool) → not b ≡ true → b ≡ false
not-true true h = absurd cc
not-true false h = refl

quiet-refused : (app other : ℕ) (w : World) (q : Option Question) → app ≢ other → (finish_refused w other q).views app ≡ w.views app
quiet-refused app other w None differ = refl
quiet-refused app other w (Some q) differ = rw (ne_eqb app other differ) refl

-- what is refused to another application
refused-views : (app : ℕ) (w : World) (event : Event) → app_of event ≢ app → (refused w event).views app ≡ w.views app
refused-views app w (Call other call random) ne = refl
refused-views app w (Finish other) ne = quiet-refused app other w (w.views other).question (λ e. ne (sym e))
refused-views app w (Gone other) ne = rw (ne_eqb app other (λ e. ne (sym e))) refl

quiet-finish : (app other : ℕ) (w : World) (q : Option Question) → (w.views other).question ≡ q → (is_quiet_result w other q ≡ true)
    ⊎ (is_user_in (w.views app).sessions.login ≡ false) × (is_private_result w other q ≡ true) → app ≢ other
    → (finished w other q).views app ≡ w.views app
quiet-finish app other w None asked h differ = refl
quiet-finish app other w (Some q) asked h differ = elim h [
  | inl quiet ↦ rw (ne_eqb app other differ, quiet-result w other q asked quiet) refl
  | inr hidden ↦ rw (
    ne_eqb app other differ,
    unseen (w.views app).sessions.login w.objects (list_change w other (result_at w other q)) hidden.0
        (and-right (not (is_pin_task q.task)) _ hidden.1),
  ) refl
]

pub quiet-views : (app : ℕ) (w : World) (m : Move) → IsQuiet app w (event_of m) → (happens w m).views app ≡ w.views app
quiet-views app w (Goes (Call other call random)) q =
    let a = answer_at w other call random.items in
    elim q.quiet [
      | inl quiet ↦ rw (
        ne_eqb app other (λ e. q.other (sym e)),
        quiet-still (function_of call) a (still-answer (w.views other) call random.items (reveal_to_call w other call)) quiet,
      ) refl
      | inr hidden ↦ rw (
        ne_eqb app other (λ e. q.other (sym e)),
        unseen (w.views app).sessions.login w.objects (list_change w other a) hidden.0
            (and-right (not (is_pin_function (function_of call))) _ hidden.1),
      ) refl
    ]
quiet-views app w (Goes (Finish other)) q = quiet-finish app other w (w.views other).question refl q.quiet (λ e. q.other (sym e))
quiet-views app w (Goes (Gone other)) q = rw (ne_eqb app other (λ e. q.other (sym e))) refl
quiet-views app w (Refuses event fault) q = refused-views app w event q.other

move-other : (app : ℕ) (w : World) (m : Move) → IsQuietMove app w m → app_of (event_of m) ≢ app
move-other app w (Goes event) q = q.other
move-other app w (Refuses event fault) (inl q) = q.other
move-other app w (Refuses event fault) (inr q) = q.0

move-views : (app : ℕ) (w : World) (m : Move) → IsQuietMove app w m → (happens w m).views app ≡ w.views app
move-views app w (Goes event) q = quiet-views app w (Goes event) q
move-views app w (Refuses event fault) q = refused-views app w event (move-other app w (Refuses event fault) q)

-- nothing is returned to the application at an event of another
other-finish : (app other : ℕ) (w : World) (q : Option Question) → app ≢ other → replies_to app (finish_tells w other q) ≡ []
other-finish app other w None differ = refl
other-finish app other w (Some q) differ = told-other app other (result_at w other q).says differ

other-refusal : (app other : ℕ) (fault : Fault) (q : Option Question) → app ≢ other → replies_to app (finish_refusal other fault q) ≡ []
other-refusal app other fault None differ = refl
other-refusal app other fault (Some q) differ = rw (ne_eqb app other differ) refl

other-replies : (app : ℕ) (w : World) (m : Move) → app_of (event_of m) ≢ app → replies_to app (reply_to w m) ≡ []
other-replies app w (Goes (Call other call random)) ne = told-other app other (answer_at w other call random.items).says (λ e. ne (sym e))
other-replies app w (Goes (Finish other)) ne = other-finish app other w (w.views other).question (λ e. ne (sym e))
other-replies app w (Goes (Gone other)) ne = refl
other-replies app w (Refuses (Call other call random) fault) ne = rw (ne_eqb app other (λ e. ne (sym e))) refl
other-replies app w (Refuses (Finish other) fault) ne = other-refusal app other fault (w.views other).question (λ e. ne (sym e))
other-replies app w (Refuses (Gone other) fault) ne = refl

-- ---- an own event that belongs to no call of a PIN depends on the own view alone

-- what such a call, and its result, reveals is the same in every world
none-inited : (f : Function) → is_pin_function f ≡ false → is_init_token f ≡ false
none-inited functions.InitToken plain = let k : true ≡ false = plain in cc
none-inited _ plain = refl

same-call-reveal : (v w : World) (app : ℕ) (c : CallType) → is_pin_function (function_of c) ≡ false
    → reveal_to_call v app c ≡ reveal_to_call w app c
same-call-reveal v w app c plain = rw (none-inited (function_of c) plain) refl

same-answer : (app : ℕ) (v w : World) (c : CallType) (random : List ℕ) → is_pin_function (function_of c) ≡ false
    → v.views app ≡ w.views app → answer_at v app c random ≡ answer_at w app c random
same-answer app v w c random plain same = ap (λ u. answer u c random (reveal_to_call v app c)) same
    ∙ ap (answer (w.views app) c random) (same-call-reveal v w app c plain)

same-reveal : (v w : World) (app : ℕ) (t : Task) → is_pin_task t ≡ false → reveal_to_task v app t ≡ reveal_to_task w app t
same-reveal v w app (Ciphers part operation input) plain = refl
same-reveal v w app (Takes place operation input) plain = refl
same-reveal v w app (Signs operation input) plain = refl
same-reveal v w app (Verifies operation input signature) plain = refl
same-reveal v w app (WrapsKey key value) plain = refl
same-reveal v w app (UnwrapsKey key wrapped state template random) plain = refl
same-reveal v w app _ plain = let k : true ≡ false = plain in cc

same-result : (app : ℕ) (v w : World) (q : Question) → is_pin_task q.task ≡ false → v.views app ≡ w.views app
    → result_at v app q ≡ result_at w app q
same-result app v w q plain same =
    ap (λ u. answer_result u (value_of q.task) (reveal_to_task v app q.task)) same
    ∙ ap (λ r. answer_result (w.views app) (value_of q.task) r) (same-reveal v w app q.task plain)

own-finish_tells : (app : ℕ) (v w : World) (q : Option Question) → is_pin_question q ≡ false → v.views app ≡ w.views app
    → finish_tells v app q ≡ finish_tells w app q
own-finish_tells app v w None plain same = refl
own-finish_tells app v w (Some q) plain same = ap (λ (a : Answer). told app a.says) (same-result app v w q plain same)

own-reply : (app : ℕ) (v w : World) (m : Move) → app_of (event_of m) ≡ app → is_pin_event v (event_of m) ≡ false
    → v.views app ≡ w.views app → reply_to v m ≡ reply_to w m
own-reply app v w (Goes (Call other call random)) is plain same =
    rw is (ap (λ (a : Answer). told app a.says) (same-answer app v w call random.items plain same))
own-reply app v w (Goes (Finish other)) is plain same =
    rw is (own-finish_tells app v w (v.views app).question (subst (λ n. is_pin_question (v.views n).question ≡ false) is plain) same
    ∙ ap (λ (u : View). finish_tells w app u.question) same)
own-reply app v w (Goes (Gone other)) is plain same = refl
own-reply app v w (Refuses (Call other call random) fault) is plain same = refl
own-reply app v w (Refuses (Finish other) fault) is plain same = rw is (ap (λ (u : View). finish_refusal app fault u.question) same)
own-reply app v w (Refuses (Gone other) fault) is plain same = refl

own-finish : (app : ℕ) (v w : World) (q : Option Question) → is_pin_question q ≡ false → v.views app ≡ w.views app
    → (finished v app q).views app ≡ (finished w app q).views app
own-finish app v w None plain same = same
own-finish app v w (Some q) plain same = rw (eq-eqb app app refl) (ap (λ (a : Answer). a.view) (same-result app v w q plain same))

own-refused : (app : ℕ) (v w : World) (q : Option Question) → v.views app ≡ w.views app
    → (finish_refused v app q).views app ≡ (finish_refused w app q).views app
own-refused app v w None same = same
own-refused app v w (Some q) same = rw (eq-eqb app app refl) (rw same refl)

own-views : (app : ℕ) (v w : World) (m : Move) → app_of (event_of m) ≡ app → is_pin_event v (event_of m) ≡ false
    → v.views app ≡ w.views app → (happens v m).views app ≡ (happens w m).views app
own-views app v w (Goes (Call other call random)) is plain same =
    rw (eq-eqb app other (sym is)) (rw is (ap (λ (a : Answer). a.view) (same-answer app v w call random.items plain same)))
own-views app v w (Goes (Finish other)) is plain same =
    rw is (own-finish app v w (v.views app).question (subst (λ n. is_pin_question (v.views n).question ≡ false) is plain) same
    ∙ ap (λ (u : View). (finished w app u.question).views app) same)
own-views app v w (Goes (Gone other)) is plain same = rw (eq-eqb app other (sym is)) (rw is (rw same refl))
own-views app v w (Refuses (Call other call random) fault) is plain same = same
own-views app v w (Refuses (Finish other) fault) is plain same =
    rw is (own-refused app v w (v.views app).question same ∙ ap (λ (u : View). (finish_refused w app u.question).views app) same)
own-views app v w (Refuses (Gone other) fault) is plain same = rw (eq-eqb app other (sym is)) (rw is (rw same refl))

alone-replies : (app : ℕ) (v w : World) (ms : List Move) → v.views app ≡ w.views app → AllQuiet app v ms
    → replies_to app (replies v ms) ≡ replies_to app (replies w (own_moves app ms))
alone-replies app v w [] same quiet = refl
alone-replies app v w (m ∷ ms) same quiet = elim quiet.0 [
  | inl is ↦ rw (eq-eqb app (app_of (event_of m)) (sym is.0)) (replies_to-append app (reply_to v m) (replies (happens v m) ms)
      ∙ ap (λ rs. replies_to app rs ++ replies_to app (replies (happens v m) ms)) (own-reply app v w m is.0 is.1 same)
      ∙ ap (λ rs. replies_to app (reply_to w m) ++ rs)
      (alone-replies app (happens v m) (happens w m) ms (own-views app v w m is.0 is.1 same) quiet.1)
      ∙ sym (replies_to-append app (reply_to w m) (replies (happens w m) (own_moves app ms))))
  | inr q ↦ rw (ne_eqb app (app_of (event_of m)) (λ e. move-other app v m q (sym e)))
      (replies_to-append app (reply_to v m) (replies (happens v m) ms)
      ∙ ap (λ rs. rs ++ replies_to app (replies (happens v m) ms)) (other-replies app v m (move-other app v m q))
      ∙ alone-replies app (happens v m) w ms (move-views app v m q ∙ same) quiet.1)
]

alone-views : (app : ℕ) (v w : World) (ms : List Move) → v.views app ≡ w.views app → AllQuiet app v ms
    → (after v ms).views app ≡ (after w (own_moves app ms)).views app
alone-views app v w [] same quiet = same
alone-views app v w (m ∷ ms) same quiet = elim quiet.0 [
  | inl is ↦ rw (eq-eqb app (app_of (event_of m)) (sym is.0))
      (alone-views app (happens v m) (happens w m) ms (own-views app v w m is.0 is.1 same) quiet.1)
  | inr q ↦ rw (ne_eqb app (app_of (event_of m)) (λ e. move-other app v m q (sym e)))
      (alone-views app (happens v m) w ms (move-views app v m q ∙ same) quiet.1)
]

pub quiet-replies : (app : ℕ) (w : World) (ms : List Move) → AllQuiet app w ms
    → replies_to app (replies w ms) ≡ replies_to app (replies w (own_moves app ms))
quiet-replies app w ms quiet = alone-replies app w w ms refl quiet

pub quiet-run-views : (app : ℕ) (w : World) (ms : List Move) → AllQuiet app w ms
    → (after w ms).views app ≡ (after w (own_moves app ms)).views app
quiet-run-views app w ms quiet = alone-views app w w ms refl quiet
