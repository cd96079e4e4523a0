-- Whether another application has a session, by the desks and in the world.
use Rattle.std.proofs.Common.{◌≡◌, ℕ, Bool, true, false, cond, not, List, [], ◌∷◌, refl, sym, ◌∙◌, ap, inl, inr, arith}
use Rattle.std.specs.Prelude.{◌==◌, ◌||◌, ◌&&◌, ◌+◌, length, filter, map}
use Rattle.ck_types.specs.declared.user_type.UserType.{UserType}
use Rattle.pin_record.specs.Charges.{is_same_user, without}
use Rattle.model_worlds.specs.declared.check.Check.{Check}
use Rattle.model_worlds.specs.Worlds.{checking, others_checking}
use Rattle.std.specs.List.{list_any, count_by, fold}
use Rattle.std.specs.Map.{keys_of}
use Rattle.std.proofs.lemmas.Bool.{cases_Bool, cases_eq, eq-eqb, ne_eqb}
use Rattle.keep.proofs.Rows.{same_key}
use Rattle.desk.specs.Desks.{DeskState}
use Rattle.model_runs.specs.Applications.{has_session_at, are_others_in_session}

-- what an element passes that is there
any-of : (t : ℕ → Bool) (xs : List ℕ) → list_any t xs ≡ true → (n : ℕ) × (t n ≡ true) × (list_any (λ m. m == n) xs ≡ true)
any-of t [] is = let k : false ≡ true = is in cc
any-of t (x ∷ xs) is = elim (cases_Bool (t x)) [
  | inl passes ↦ (x, passes, ap (λ b. b || list_any (λ m. m == x) xs) (eq-eqb x x refl))
  | inr fails ↦ let rest = any-of t xs (rw fails at is) in (rest.0, rest.1, or-true (x == rest.0) (list_any (λ m. m == rest.0) xs) rest.2)
] where
  or-true : (a b : Bool) → b ≡ true → (a || b) ≡ true
  or-true true b h = refl
  or-true false b h = h

any-there : (t : ℕ → Bool) (n : ℕ) (xs : List ℕ) → t n ≡ true → list_any (λ m. m == n) xs ≡ true → list_any t xs ≡ true
any-there t n [] passes is = let k : false ≡ true = is in cc
any-there t n (x ∷ xs) passes is = elim (cases_eq x n) [
  | inl e ↦ rw (ap t e ∙ passes) refl
  | inr d ↦ rw (any-there t n xs passes (rw (ne_eqb x n d) at is)) (or-end (t x))
] where
  or-end : (a : Bool) → (a || true) ≡ true
  or-end true = refl
  or-end false = refl

both : (p q : Bool) → (p ≡ true → q ≡ true) → (q ≡ true → p ≡ true) → p ≡ q
both true q f g = sym (f refl)
both false true f g = g refl
both false false f g = refl

split : (a b : Bool) → (a && b) ≡ true → (a ≡ true) × (b ≡ true)
split true b h = (refl, h)
split false b h = let k : false ≡ true = h in cc

-- who has a session has a desk
key-there : (ds : List (ℕ × DeskState)) (n : ℕ) → has_session_at ds n ≡ true → list_any (λ b. b == n) (keys_of ds) ≡ true
key-there [] n has = let k : false ≡ true = has in cc
key-there (e ∷ es) n has = elim (cases_eq e.0 n) [
  | inl is ↦ rw (eq-eqb e.0 n is) refl
  | inr d ↦ rw (ne_eqb e.0 n d) (key-there es n (rw (same_key n e.0, ne_eqb e.0 n d) at has))
]

-- in the world, whose sessions are those of the desks
pub seated-is : (ds : List (ℕ × DeskState)) (xs : List ℕ) (app : ℕ) → ((b : ℕ) → list_any (λ n. n == b) xs ≡ has_session_at ds b)
    → list_any (λ n. not (n == app)) xs ≡ are_others_in_session ds app
seated-is ds xs app same = both (list_any (λ n. not (n == app)) xs) (are_others_in_session ds app) there back where
  there : list_any (λ n. not (n == app)) xs ≡ true → are_others_in_session ds app ≡ true
  there is =
      let found = any-of (λ n. not (n == app)) xs is in
      let has : has_session_at ds found.0 ≡ true = sym (same found.0) ∙ found.2 in
      any-there (λ b. not (b == app) && has_session_at ds b) found.0 (keys_of ds) (rw (found.1, has) refl) (key-there ds found.0 has)

  back : are_others_in_session ds app ≡ true → list_any (λ n. not (n == app)) xs ≡ true
  back is =
      let found = any-of (λ b. not (b == app) && has_session_at ds b) (keys_of ds) is in
      let both-is = split (not (found.0 == app)) (has_session_at ds found.0) found.1 in
      any-there (λ n. not (n == app)) found.0 xs both-is.0 (same found.0 ∙ both-is.1)

-- the checks of others, counted
abbrev is_others : ℕ → UserType → Check → Bool
is_others app who c = is_same_user who c.user && not (c.app == app)

counted-from : {A : Type 0} (p : A → Bool) (n : ℕ) (xs : List A) → fold (λ a x. a + cond (p x) 1 0) n xs ≡ n + length (filter p xs)
counted-from p n [] = omega arith
counted-from p n (x ∷ xs) = step (p x) (counted-from p (n + cond (p x) 1 0) xs) where
  step : (b : Bool) → fold (λ a x. a + cond (p x) 1 0) (n + cond (p x) 1 0) xs ≡ (n + cond (p x) 1 0) + length (filter p xs)
      → fold (λ a x. a + cond (p x) 1 0) (n + cond (p x) 1 0) xs ≡ n + length (cond (p x) (x ∷ filter p xs) (filter p xs))
  step b h = h ∙ last (p x) where
    last : (b : Bool) → (n + cond b 1 0) + length (filter p xs) ≡ n + length (cond b (x ∷ filter p xs) (filter p xs))
    last true = omega arith
    last false = omega arith

others-filtered : (cs : List Check) (app : ℕ) (who : UserType) → length (filter (is_others app who) cs) ≡ others_checking cs app who
others-filtered [] app who = refl
others-filtered (c ∷ cs) app who = step (is_same_user who c.user) (not (c.app == app)) refl (others-filtered cs app who) where
  step : (s b : Bool) → not (c.app == app) ≡ b → length (filter (is_others app who) cs) ≡ others_checking cs app who
      → length (cond (s && b) (c ∷ filter (is_others app who) cs) (filter (is_others app who) cs))
      ≡ length (without (map (λ x. x.app) (cond s (c ∷ filter (λ x. is_same_user who x.user) cs) (filter (λ x. is_same_user who x.user) cs))) app)
  step false b e h = h
  step true true e h = (let k : length (c ∷ filter (is_others app who) cs) ≡ length (c.app ∷ without (checking who cs) app) =
      omega (arith, h) in k) ∙ ap (λ t. length (cond t (c.app ∷ without (checking who cs) app) (without (checking who cs) app))) (sym e)
  step true false e h = h ∙ ap (λ t. length (cond t (c.app ∷ without (checking who cs) app) (without (checking who cs) app))) (sym e)

pub others-counted : (cs : List Check) (app : ℕ) (who : UserType) → count_by (is_others app who) cs ≡ others_checking cs app who
others-counted cs app who = let h = counted-from (is_others app who) 0 cs in let k = others-filtered cs app who in omega (arith, h, k)
