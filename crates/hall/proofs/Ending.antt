-- From what each seat knows, when all have ended, to one history.
use Rattle.std.proofs.Common.{◌≡◌, ℕ, zero, suc, ◌≤◌, List, [], ◌∷◌, refl, ap, subst, arith, Option, None}
use Rattle.model_worlds.specs.Worlds.{World}
use Rattle.token.specs.States.{Lasting}
use Rattle.hall_log.specs.Lists.{last, of}
use Rattle.ck_calls.specs.declared.app_call.AppCall.{AppCall}
use Rattle.hall_log.specs.Histories.{Exchange, History}
use Rattle.hall_log.specs.Putting.{IsProper, pending}
use Rattle.hall.specs.Terms.{MachineTerms}
use Rattle.hall.specs.Beginning.{EndsAfter}
use Rattle.hall.specs.Given.{IsSoFar}
use Rattle.hall.specs.Held.{WereHeld}
use Rattle.hall.proofs.Giving.{proper_so}
use Rattle.hall.proofs.MoreHistory.{history_is}

-- what holds of four seats, and of each that has no events, holds of all
four_seats : (P : ℕ → Type 0) → P 0 → P 1 → P 2 → P 3 → ((s : ℕ) → 4 ≤ s → P s) → (s : ℕ) → P s
four_seats P a b c d others zero = a
four_seats P a b c d others (suc zero) = b
four_seats P a b c d others (suc (suc zero)) = c
four_seats P a b c d others (suc (suc (suc zero))) = d
four_seats P a b c d others (suc (suc (suc (suc s)))) = others (suc (suc (suc (suc s)))) (omega arith)

-- beyond the four seats is none, since an application is of its number's remainder
none_beyond : (s : ℕ) (xs : List Exchange) → 4 ≤ s → IsProper s xs → xs ≡ []
none_beyond s [] beyond proper = refl
none_beyond s (x ∷ xs) beyond proper = let own = (proper [] x xs refl).1 in absurd (omega (arith, own, beyond))

-- the exchanges of a seat by its number
pub of_seat : (stands : List Exchange → Type 0) (h : History) (n s : ℕ) → n ≡ s → EndsAfter stands (of n h) → EndsAfter stands (of s h)
of_seat stands h n s is ends = subst (λ (k : ℕ). EndsAfter stands (of k h)) is ends

pub held : {S T : Type 0} (stands : S → List Exchange → Type 0) (served : History → Type 0) (terms : MachineTerms T)
    (was_read : List Exchange → AppCall → Type 0)
    (seats : S × S × S × S) (before after : T) (h : History) → IsSoFar terms was_read before after h → served h
    → EndsAfter (stands seats.0) (of 0 h) → EndsAfter (stands seats.1) (of 1 h) → EndsAfter (stands seats.2) (of 2 h)
    → EndsAfter (stands seats.3) (of 3 h)
    → WereHeld stands served terms seats before after
held stands served terms was_read seats before after h so told e0 e1 e2 e3 =
    let proper = proper_so was_read h so.1 in
    let only : (s : ℕ) → 4 ≤ s → of s h ≡ [] = λ s beyond. none_beyond s (of s h) beyond (proper s) in
    let settled = four_seats (λ s. pending (last (of s h)) ≡ None) e0.0 e1.0 e2.0 e3.0
    (λ s beyond. ap (λ l. pending (last l)) (only s beyond)) in
    record {
      history = h;
      told = told;
      interleaves = record { only = only; proper = proper; settled = settled };
      part0 = e0.1;
      part1 = e1.1;
      part2 = e2.1;
      part3 = e3.1;
      counts = so.0.counts;
      runs = λ sure w sh idle. history_is _ _ _ w h settled (so.0.runs sure w sh idle proper);
      spends = so.0.spends proper;
    }
