-- A log that is plainly broken.
use Rattle.std.proofs.Common.{◌≡◌, ◌≢◌, ◌⊎◌, inl, inr, ℕ, ◌+◌, ◌<◌, ◌≤◌, Bool, true, false, if◌then◌else◌, min, List, sym, ap, ◌∙◌, subst, arith}
use Rattle.std.proofs.lemmas.Bool.{cases_lt}
use Rattle.sqlite_wal.specs.Recovery.{Passes, header}
use Rattle.sql_log.specs.Damage.{HasTwoCommits, IsFollowed, IsPlainlyBroken, end_behind, frame_count, is_shut}

-- how far frames are looked at behind a shut gate, and behind an open one
module _ (size : ℕ) (log : List ℕ) (bad : ℕ) (shut : Bool) (is : shut ≡ is_shut size log bad) where
  end_by : (b : Bool) → shut ≡ b → end_behind size log bad ≡ (if b then min (frame_count size log) (bad + 2000) else frame_count size log)
  end_by b same = ap (λ (x : Bool). if x then min (frame_count size log) (bad + 2000) else frame_count size log) (sym is ∙ same)

  pub end_shut : shut ≡ true → end_behind size log bad ≡ min (frame_count size log) (bad + 2000)
  end_shut same = end_by true same

  pub end_open : shut ≡ false → end_behind size log bad ≡ frame_count size log
  end_open same = end_by false same

-- a frame that fails, with none before it that does
module _ (size : ℕ) (log : List ℕ) (bad : ℕ) (earlier : (i : ℕ) → i < bad → Passes size log i) (fails : ¬ Passes size log bad) where
  pub same_bad : (it : IsPlainlyBroken size log) → it.bad ≡ bad
  same_bad it = elim (cases_lt it.bad bad) [
    | inl less ↦ absurd (it.fails (earlier it.bad less))
    | inr more ↦ elim (cases_lt bad it.bad) [
      | inl less ↦ absurd (fails (it.earlier bad less))
      | inr less ↦ omega (arith, more, less)
    ]
  ]

  pub behind_bad : (it : IsPlainlyBroken size log) → IsFollowed size log (bad + 1) (end_behind size log bad)
      ⊎ IsFollowed size log (bad + 2) (end_behind size log bad)
  behind_bad it = subst (λ (b : ℕ). IsFollowed size log (b + 1) (end_behind size log b)
      ⊎ IsFollowed size log (b + 2) (end_behind size log b)) (same_bad it) it.behind

  -- not at once, so after one more frame
  pub after_one_more : (end one two : ℕ) → end_behind size log bad ≡ end → one ≤ 2 → one ≢ 2 → two ≤ 2 →
      (one ≤ 1 → (it : HasTwoCommits (header log) size log (bad + 1)) → it.two < end → ⊥) →
      (two ≤ 1 → (it : HasTwoCommits (header log) size log (bad + 2)) → it.two < end → ⊥) →
      IsPlainlyBroken size log → two ≡ 2
  after_one_more end one two is most other most_two none none_two it = elim (behind_bad it) [
    | inl at_once ↦ absurd (none (omega (arith, most, other)) at_once.0 (let low = at_once.1 in omega (arith, low, is)))
    | inr later ↦ elim (cases_lt two 2) [
      | inl few ↦ absurd (none_two (omega (arith, few)) later.0 (let low = later.1 in omega (arith, low, is)))
      | inr many ↦ omega (arith, many, most_two)
    ]
  ]
