-- Numbers in order are the only order of their list.
use Rattle.std.proofs.Common.{◌≡◌, inl, inr, ℕ, suc, ◌+◌, ◌<◌, ◌≤◌, List, [], ◌∷◌, length, get_or, true, false, cond, nat_lt, refl, sym, ap, ◌∙◌, arith}
use Rattle.std.specs.Prelude.{⊤}
use Rattle.std.specs.List.{sum_by}
use Rattle.std.specs.List.Sorted.{IsPermutation}
use Rattle.std.proofs.lemmas.Bool.{cases_lt}
use Rattle.std.proofs.lemmas.Bool.Decides.{nat_tests}
use Rattle.std.proofs.lemmas.List.Sums.{sum_by-cons}
use Rattle.std.proofs.lemmas.List.Sorted.{sum_by-IsPermutation}

-- no number is below the one before it, nor the first below `low`
abbrev pub AreFrom : ℕ → List ℕ → Type 0
AreFrom low [] = ⊤
AreFrom low (n ∷ ns) = (low ≤ n) × AreFrom n ns

pub from_lower : (low more : ℕ) (ns : List ℕ) → low ≤ more → AreFrom more ns → AreFrom low ns
from_lower low more [] le is = tt
from_lower low more (n ∷ ns) le is = (let h = is.0 in omega arith, is.1)

-- the same, of neighbours by their places
pub from_places : (low : ℕ) (ns : List ℕ) → ((k : ℕ) → k < length ns → get_or (low ∷ ns) k 0 ≤ get_or ns k 0) → AreFrom low ns
from_places low [] each = tt
from_places low (n ∷ ns) each = (each 0 (omega arith), from_places n ns (λ k below. each (suc k) (omega arith)))

-- one where a number is below a bound
below : ℕ → ℕ → ℕ
below bound n = cond (nat_lt n bound) 1 0

none_below : (bound : ℕ) (ns : List ℕ) → AreFrom bound ns → sum_by (below bound) ns ≡ 0
unfolding below
none_below bound [] is = refl
none_below bound (n ∷ ns) is =
    let high : nat_lt n bound ≡ false = let h = is.0 in grind (arith, nat_tests) in
    let rest = none_below bound ns (from_lower bound n ns is.0 is.1) in
    let sum : sum_by (below bound) (n ∷ ns) ≡ 0 + sum_by (below bound) ns = sum_by-cons (below bound) n ns ∙ rw high refl in
    omega arith

first_below : (bound n : ℕ) (ns : List ℕ) → n < bound → 0 < sum_by (below bound) (n ∷ ns)
unfolding below
first_below bound n ns less =
    let low : nat_lt n bound ≡ true = grind (arith, nat_tests) in
    let sum : sum_by (below bound) (n ∷ ns) ≡ 1 + sum_by (below bound) ns = sum_by-cons (below bound) n ns ∙ rw low refl in
    omega arith

-- two lists in order, of the same numbers
same_numbers : (low other : ℕ) (ms ns : List ℕ) → AreFrom low ms → AreFrom other ns → ((f : ℕ → ℕ) → sum_by f ms ≡ sum_by f ns) → ms ≡ ns
same_numbers low other [] [] up risen same = refl
same_numbers low other [] (n ∷ ns) up risen same =
    let one = same (λ _. 1) in let sum = sum_by-cons (λ _. 1) n ns in absurd (omega arith)
same_numbers low other (m ∷ ms) [] up risen same =
    let one = same (λ _. 1) in let sum = sum_by-cons (λ _. 1) m ms in absurd (omega arith)
same_numbers low other (m ∷ ms) (n ∷ ns) up risen same =
    let first : m ≡ n = elim (cases_lt m n) [
      | inl less ↦
          let here = first_below n m ms less in
          let none = none_below n (n ∷ ns) (omega arith, risen.1) in
          let both = same (below n) in
          absurd (omega arith)
      | inr le ↦ elim (cases_lt n m) [
        | inl less ↦
            let here = first_below m n ns less in
            let none = none_below m (m ∷ ms) (omega arith, up.1) in
            let both = same (below m) in
            absurd (omega arith)
        | inr ge ↦ omega arith
      ]
    ] in
    let rest : ms ≡ ns = same_numbers m n ms ns up.1 risen.1 (λ f.
    let both = sym (sum_by-cons f m ms) ∙ same f ∙ sum_by-cons f n ns in
    let image : f m ≡ f n = ap f first in
    omega arith) in
    cc

-- a list in order, and an order of it that is one
pub one_order : (low other : ℕ) (ms ns : List ℕ) → AreFrom low ms → AreFrom other ns → IsPermutation ms ns → ns ≡ ms
one_order low other ms ns up risen same = sym (same_numbers low other ms ns up risen (λ f. sym (sum_by-IsPermutation f ms ns same)))
