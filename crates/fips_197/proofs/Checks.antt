-- A test that computes at each number below a bound, and what follows at one of them.
use Rattle.std.proofs.Common.{◌≡◌, ℕ, ◌<◌, ◌==◌, nat_lt, true, eqb-true, ltb-true}
use Rattle.std.proofs.lemmas.Bool.{agree_below, agree_below_at}

-- f and g are equal at each number below n
pub same_below : (f g : ℕ → ℕ) (n k : ℕ) → agree_below (λ j. f j == g j) (λ _. true) n ≡ true → k < n → f k ≡ g k
same_below f g n k h lt = eqb-true (f k) (g k) (agree_below_at (λ j. f j == g j) (λ _. true) n k h lt)

-- f is below m at each number below n
pub bounded_below : (f : ℕ → ℕ) (m n k : ℕ) → agree_below (λ j. nat_lt (f j) m) (λ _. true) n ≡ true → k < n → f k < m
bounded_below f m n k h lt = ltb-true (f k) m (agree_below_at (λ j. nat_lt (f j) m) (λ _. true) n k h lt)
