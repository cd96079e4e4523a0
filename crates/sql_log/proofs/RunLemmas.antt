-- A run of frames as it is counted.
use Rattle.std.proofs.Common.{◌≡◌, ◌⊎◌, inl, inr, ℕ, ◌+◌, ◌<◌, ◌≤◌, List, sym, subst, arith}
use Rattle.std.proofs.Math.Nat.{eq-or-lt_of_le}
use Rattle.std.proofs.lemmas.Bool.{cases_lt}
use Rattle.sql_log.specs.Damage.{CommitsAt, HasCommit, HasTwoCommits, IsFrameRun, PassesUnder}

pub record Before (size : ℕ) (log : List ℕ) (from at : ℕ) : Type 0 where
  pub one : ℕ
  pub after : from ≤ one
  pub before : one < at
  pub commits : CommitsAt size log one

-- each frame from one on and before another passes, and so many of them commit
pub record Counted (head : List ℕ) (size : ℕ) (log : List ℕ) (from at count : ℕ) : Type 0 where
  pub run : (i : ℕ) → from ≤ i → i < at → PassesUnder head size log i
  pub few : count ≤ 1
  pub one : 1 ≤ count → Before size log from at
  pub none : count ≡ 0 → (i : ℕ) → from ≤ i → i < at → ¬ CommitsAt size log i
  pub alone : (i j : ℕ) → from ≤ i → i < j → j < at → CommitsAt size log i → CommitsAt size log j → ⊥

module _ (head : List ℕ) (size : ℕ) (log : List ℕ) (from at : ℕ) where
  pub none_yet : Counted head size log from from 0
  none_yet = record {
    run = λ i low high. absurd (omega (arith, low, high));
    few = omega arith;
    one = λ some. absurd (omega (arith, some));
    none = λ zero i low high. absurd (omega (arith, low, high));
    alone = λ i j low less high. absurd (omega (arith, low, less, high));
  }

  pub commit_of : (count : ℕ) → Counted head size log from at count → 1 ≤ count → HasCommit head size log from
  commit_of count it some =
      let b = it.one some in
      record { one = b.one; after = b.after; run = λ i low high. it.run i low (omega (arith, high, b.before)); commits = b.commits }

  pub not_two : (count : ℕ) → Counted head size log from at count → 2 ≤ count → HasTwoCommits head size log from
  not_two count it some = absurd (omega (arith, some, it.few))

  -- the frame at the end passes
  module _ (count : ℕ) (it : Counted head size log from at count) (passes : PassesUnder head size log at) where
    run_on : (i : ℕ) → from ≤ i → i ≤ at → PassesUnder head size log i
    run_on i low high = elim (eq-or-lt_of_le high) [
      | inl same ↦ subst (λ (j : ℕ). PassesUnder head size log j)
          (sym same) passes
      | inr less ↦ it.run i low less
    ]

    last_or_before : (i : ℕ) → i < at + 1 → (i ≡ at) ⊎ (i < at)
    last_or_before i high = eq-or-lt_of_le {n = i} {m = at} (omega (arith, high))

    pub still : (now : ℕ) → now ≡ count → ¬ CommitsAt size log at → Counted head size log from (at + 1) now
    still now same quiet = subst (λ (n : ℕ). Counted head size log from (at + 1) n) (sym same) (record {
      run = λ i low high. run_on i low (omega (arith, high));
      few = it.few;
      one = λ some. let b = it.one some in record { one = b.one; after = b.after; before = omega (arith, b.before); commits = b.commits };
      none = λ zero i low high commits. elim
          (last_or_before i high) [
            | inl is ↦ quiet
                (subst (λ (k : ℕ). CommitsAt size log k) is commits)
            | inr less ↦ it.none zero i low less commits
          ];
      alone = λ i j low less high first second. elim
          (last_or_before j high) [
            | inl is ↦ quiet
                (subst (λ (k : ℕ). CommitsAt size log k) is second)
            | inr before ↦ it.alone i j low less before first second
          ];
    })

    pub first : from ≤ at → count ≡ 0 → CommitsAt size log at → Counted head size log from (at + 1) 1
    first low zero commits = record {
      run = λ i low high. run_on i low (omega (arith, high));
      few = omega arith;
      one = λ some. record { one = at; after = low; before = omega arith; commits = commits };
      none = λ is. absurd (omega (arith, is));
      alone = λ i j low less high first second. elim
          (last_or_before j high) [
            | inl is ↦ it.none zero i low
                (omega (arith, less, is)) first
            | inr before ↦ it.alone i j low less before first second
          ];
    }

    pub second : 1 ≤ count → CommitsAt size log at → HasTwoCommits head size log from
    second some commits = let b = it.one some in
        record { one = b.one; two = at; after = b.after; later = b.before; run = run_on; first = b.commits; second = commits }

    pub one_of_two : 1 ≤ count → HasCommit head size log from
    one_of_two some = commit_of count it some

  -- the count stops at a frame that does not pass, or at the end
  module _ (end count : ℕ) (it : Counted head size log from at count) (reached : from ≤ at)
      (stops : (¬ PassesUnder head size log at) ⊎ (end ≤ at)) where
    stopped : (last : ℕ) → last < end → IsFrameRun head size log from last → last < at
    stopped last low run = elim stops [
      | inl fails ↦ elim (cases_lt last at) [ inl less ↦ less | inr behind ↦ absurd (fails (run at reached behind)) ]
      | inr is ↦ omega (arith, low, is)
    ]

    pub none_before : count ≡ 0 → (found : HasCommit head size log from) → found.one < end → ⊥
    none_before zero found low = it.none zero found.one found.after (stopped found.one low found.run) found.commits

    pub one_before : (found : HasTwoCommits head size log from) → found.two < end → ⊥
    one_before found low = it.alone found.one found.two found.after found.later (stopped found.two low found.run) found.first found.second
