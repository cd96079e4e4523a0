use Rattle.std.proofs.Common.{◌<◌, ◌≤◌, ◌+◌, ℕ, inl, inr, arith, rules}
use Rattle.std.proofs.lemmas.Bool.{cases_lt, lt-ltb}
use Rattle.sql_log.proofs.FrameLemmas.{commit_inside}
use Rattle.sql_log.proofs.damage.has_commit.Goals as goal

pub returns-else-commits_in_run-gt0-clause-found : goal.returns-else-commits_in_run-gt0-clause-found
returns-else-commits_in_run-gt0-clause-found c = λ many it. elim it [
  | inl early ↦
      let low = commit_inside c.args.head.now c.args.log.now 0 early in
      absurd (c.commits_in_run.ensures.none (let none = c.if-commits_in_run-gt0.false in omega (arith, none)) early
      (omega (arith, many, low)))
  | inr later ↦
      let low = commit_inside c.args.head.now c.args.log.now 1 later in
      lt-ltb 0 _ (elim (cases_lt 0 c.commits_in_run-else-commits_in_run-gt0.result) [
        | inl some ↦ some
        | inr none ↦ absurd (c.commits_in_run-else-commits_in_run-gt0.ensures.none (omega (arith, none)) later (omega (arith, many, low)))
      ])
]
