-- What seats may put.
use Rattle.std.proofs.Common.{◌≡◌, ℕ, ◌%◌, Bool, true, false, cond, nat_eq, List, [], ◌∷◌, ◌++◌, refl, ap, sym, ◌∙◌, subst, arith, append_assoc, append-nil, Option}
use Rattle.std.proofs.lemmas.Bool.Decides.{nat_tests}
use Rattle.std.proofs.Math.Logic.{∥∥₁_elim}
use Rattle.std.specs.Coded.{Coded, Coded-set, coded_option, coded_ℕ, coded×}
use native.Mathlib.Nat.{ℕ_set}
use Rattle.mech.specs.declared.job.Job.{Job}
use Rattle.mech.specs.contracts.job.Job.{the_row as job_row}
use Rattle.ck_calls.specs.declared.app_call.AppCall.{AppCall}
use Rattle.hall_log.specs.declared.event.Event.{Event}
use Rattle.hall_log.specs.declared.event.Event.TheVariants.{Call, Finish, Gone}
use Rattle.hall_log.specs.Lists.{of, last}
use Rattle.hall_log.specs.Histories.{AllMay, AllMayFrom, AllOwn, Exchange, History, event_app}
use Rattle.hall_log.specs.Putting.{Follows, IsProper, IsThere, MayPut}
use Rattle.hall_log.proofs.Lists.{of-append}

may_more_from : (may : ℕ → List Exchange → Event → Type 0) (past xs : History) (x : ℕ × Exchange) → AllMayFrom may past xs
    → Prim.∥◌∥₁ (may x.0 (of x.0 (past ++ xs)) x.1.0) → AllMayFrom may past (xs ++ x ∷ [])
may_more_from may past [] x all one = (subst (λ (h : History). Prim.∥◌∥₁ (may x.0 (of x.0 h) x.1.0)) (append-nil past) one, tt)
may_more_from may past (y ∷ xs) x all one = (
  all.0,
  may_more_from may (past ++ y ∷ []) xs x all.1
      (subst (λ (h : History). Prim.∥◌∥₁ (may x.0 (of x.0 h) x.1.0)) (sym (append_assoc past (y ∷ []) xs)) one),
)

pub may_more : (may : ℕ → List Exchange → Event → Type 0) (xs : History) (x : ℕ × Exchange) → AllMay may xs
    → Prim.∥◌∥₁ (may x.0 (of x.0 xs) x.1.0) → AllMay may (xs ++ x ∷ [])
may_more may xs x all one = may_more_from may [] xs x all one

own_from : (may : ℕ → List Exchange → Event → Type 0) (past xs : History)
    → ((s : ℕ) (before : List Exchange) (c : Event) → may s before c → event_app c % 4 ≡ s) → AllMayFrom may past xs → AllOwn xs
own_from may past [] own all = tt
own_from may past (x ∷ xs) own all = (∥∥₁_elim all.0 (ℕ_set _ _) (own x.0 (of x.0 past) x.1.0), own_from may (past ++ x ∷ []) xs own all.1)

-- where a seat may put calls of its own applications alone, each is one
pub all_own : (may : ℕ → List Exchange → Event → Type 0) (xs : History)
    → ((s : ℕ) (before : List Exchange) (c : Event) → may s before c → event_app c % 4 ≡ s) → AllMay may xs → AllOwn xs
all_own may xs own all = own_from may [] xs own all

-- ---- by seats

cons_head : {A : Type 0} (x y : A) (xs ys : List A) → x ∷ xs ≡ y ∷ ys → x ≡ y
cons_head x y xs ys e = cc e

may_here : (may : ℕ → List Exchange → Event → Type 0) (past : History) (s t : ℕ) (y x : Exchange) → t ≡ s → y ≡ x
    → Prim.∥◌∥₁ (may t (of t past) y.0) → Prim.∥◌∥₁ (may s (of s past ++ []) x.0)
may_here may past s t y x st yx has =
    let one : Prim.∥◌∥₁ (may s (of s past) x.0) =
    subst (λ n. Prim.∥◌∥₁ (may n (of n past) x.0)) st (subst (λ (e : Exchange). Prim.∥◌∥₁ (may t (of t past) e.0)) yx has) in
    subst (λ (l : List Exchange). Prim.∥◌∥₁ (may s l x.0)) (sym (append-nil (of s past))) one

may_step : (may : ℕ → List Exchange → Event → Type 0) (past ys : History) (s t : ℕ) (y : Exchange) → Prim.∥◌∥₁ (may t (of t past) y.0)
    → ((before : List Exchange) (x : Exchange) (after : List Exchange) → of s ys ≡ before ++ x ∷ after
    → Prim.∥◌∥₁ (may s (of s (past ++ (t, y) ∷ []) ++ before) x.0))
    → (b : Bool) → nat_eq t s ≡ b → (before : List Exchange) (x : Exchange) (after : List Exchange)
    → cond b (y ∷ of s ys) (of s ys) ≡ before ++ x ∷ after → Prim.∥◌∥₁ (may s (of s past ++ before) x.0)
may_step may past ys s t y has rest true is [] x after e =
    let same : t ≡ s = grind (arith, nat_tests) in
    may_here may past s t y x same (cons_head y x (of s ys) after e) has
may_step may past ys s t y has rest true is (b ∷ before) x after e =
    let head : y ≡ b = cons_head y b (of s ys) (before ++ x ∷ after) e in
    let tail : of s ys ≡ before ++ x ∷ after = cc e in
    let more : of s (past ++ (t, y) ∷ []) ≡ of s past ++ y ∷ [] = of-append s past ((t, y) ∷ []) ∙ (rw is refl) in
    let here : of s (past ++ (t, y) ∷ []) ++ before ≡ of s past ++ b ∷ before =
    ap (λ l. l ++ before) more ∙ (append_assoc (of s past) (y ∷ []) before ∙ ap (λ z. of s past ++ z ∷ before) head) in
    subst (λ (l : List Exchange). Prim.∥◌∥₁ (may s l x.0)) here (rest before x after tail)
may_step may past ys s t y has rest false is before x after e =
    let none : of s (past ++ (t, y) ∷ []) ≡ of s past = of-append s past ((t, y) ∷ []) ∙ (rw (is, append-nil (of s past)) refl) in
    subst (λ (l : List Exchange). Prim.∥◌∥₁ (may s (l ++ before) x.0)) none (rest before x after e)

may_at_from : (may : ℕ → List Exchange → Event → Type 0) (past xs : History) (s : ℕ) → AllMayFrom may past xs
    → (before : List Exchange) (x : Exchange) (after : List Exchange) → of s xs ≡ before ++ x ∷ after
    → Prim.∥◌∥₁ (may s (of s past ++ before) x.0)
may_at_from may past [] s all [] x after e = absurd cc
may_at_from may past [] s all (b ∷ before) x after e = absurd cc
may_at_from may past (y ∷ ys) s all before x after e =
    may_step may past ys s y.0 y.1 all.0 (may_at_from may (past ++ y ∷ []) ys s all.1) (nat_eq y.0 s) refl before x after e

-- each exchange of a seat was one that it might put after those before it
pub may_at : (may : ℕ → List Exchange → Event → Type 0) (h : History) (s : ℕ) → AllMay may h
    → (before : List Exchange) (x : Exchange) (after : List Exchange) → of s h ≡ before ++ x ∷ after → Prim.∥◌∥₁ (may s before x.0)
may_at may h s all before x after e = may_at_from may [] h s all before x after e

-- ---- proper exchanges

job_code : Coded (Option (ℕ × Job))
job_code = coded_option (coded× coded_ℕ job_row.coded)

follows_from : {A : Type 0} (before : Option Exchange) (e : Event) → Prim.∥◌∥₁ A → (A → Follows before e) → Follows before e
follows_from before (Call c) has f = ∥∥₁_elim has (Coded-set job_code _ _) f
follows_from before (Finish app done) has f = ∥∥₁_elim has (Coded-set job_code _ _) f
follows_from before (Gone app) has f = ∥∥₁_elim has (Coded-set job_code _ _) f

no_two : (x y : ⊥) → x ≡ y
no_two x y = absurd x

there_from : {A : Type 0} (app : ℕ) (xs : List Exchange) → Prim.∥◌∥₁ A → (A → IsThere app xs) → IsThere app xs
there_from app [] has f = tt
there_from app (x ∷ xs) has f = ((λ is. ∥∥₁_elim has no_two (λ a. (f a).0 is)), there_from app xs has (λ a. (f a).1))

-- what was one that it might put is proper
pub proper_from : (was_read : List Exchange → AppCall → Type 0) (s : ℕ) (before : List Exchange) (e : Event)
    → Prim.∥◌∥₁ (MayPut was_read s before e)
    → Follows (last before) e × (event_app e % 4 ≡ s) × IsThere (event_app e) before
proper_from was_read s before e may = (
  follows_from (last before) e may (λ m. m.follows),
  ∥∥₁_elim may (ℕ_set _ _) (λ m. m.own),
  there_from (event_app e) before may (λ m. m.there),
)

-- where each seat put what it might, its exchanges are proper
pub proper_all : (was_read : List Exchange → AppCall → Type 0) (h : History) (s : ℕ) → AllMay (MayPut was_read) h → IsProper s (of s h)
proper_all was_read h s all before x after is = proper_from was_read s before x.0 (may_at (MayPut was_read) h s all before x after is)
