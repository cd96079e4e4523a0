-- Logs that grow.
use Rattle.std.proofs.Common.{◌≡◌, ℕ, true, false, Bool, nat_eq, List, [], ◌∷◌, ◌++◌, length, refl, ap, sym, ◌∙◌, arith}
use Rattle.std.specs.Prelude.{cond}
use mathlib.Core.List.{IsPrefix}
use Rattle.hall_log.specs.declared.entry.Entry.{Entry}
use Rattle.hall_log.specs.declared.entry.Entry.TheVariants.{Put, Served}
use Rattle.hall_log.specs.Lists.{of}
use Rattle.hall_log.specs.Histories.{Exchange, events}
use Rattle.hall_log.specs.Log.{puts, served}
use Rattle.hall_log.proofs.Lists.{of-append}

cond_cons : {A : Type 0} (b : Bool) (x : A) (xs ys : List A) → cond b (x ∷ (xs ++ ys)) (xs ++ ys) ≡ cond b (x ∷ xs) xs ++ ys
cond_cons true x xs ys = refl
cond_cons false x xs ys = refl

pub events-append : (xs ys : List Exchange) → events (xs ++ ys) ≡ events xs ++ events ys
events-append [] ys = refl
events-append (x ∷ xs) ys = ap (λ w. x.0 ∷ w) (events-append xs ys)

pub puts-append : (s : ℕ) (xs ys : List Entry) → puts s (xs ++ ys) ≡ puts s xs ++ puts s ys
puts-append s [] ys = refl
puts-append s (Put t c ∷ xs) ys = rw (puts-append s xs ys) (cond_cons (nat_eq t s) c (puts s xs) (puts s ys))
puts-append s (Served t c a ∷ xs) ys = puts-append s xs ys

pub served-append : (xs ys : List Entry) → served (xs ++ ys) ≡ served xs ++ served ys
served-append [] ys = refl
served-append (Put t c ∷ xs) ys = served-append xs ys
served-append (Served t c a ∷ xs) ys = ap (λ w. (t, (c, a)) ∷ w) (served-append xs ys)

pub events_length : (xs : List Exchange) → length (events xs) ≡ length xs
events_length [] = refl
events_length (x ∷ xs) = omega (arith, events_length xs)

-- ---- of a beginning

pub puts_prefix : (s : ℕ) (xs ys : List Entry) → IsPrefix xs ys → IsPrefix (puts s xs) (puts s ys)
puts_prefix s xs ys p = (puts s p.0, sym (puts-append s xs p.0) ∙ ap (puts s) p.1)

pub served_prefix : (xs ys : List Entry) → IsPrefix xs ys → IsPrefix (served xs) (served ys)
served_prefix xs ys p = (served p.0, sym (served-append xs p.0) ∙ ap served p.1)

pub of_prefix : {A : Type 0} (s : ℕ) (xs ys : List (ℕ × A)) → IsPrefix xs ys → IsPrefix (of s xs) (of s ys)
of_prefix s xs ys p = (of s p.0, sym (of-append s xs p.0) ∙ ap (of s) p.1)

pub events_prefix : (xs ys : List Exchange) → IsPrefix xs ys → IsPrefix (events xs) (events ys)
events_prefix xs ys p = (events p.0, sym (events-append xs p.0) ∙ ap events p.1)
