use Rattle.std.proofs.Common.{◌≡◌, ◌≤◌, ◌-◌, ◌/◌, length, arith, List, ℕ, inl, inr, IsTrue, sym, subst, false}
use Rattle.sql_log.specs.Damage.{HasEarlyCommit, frame_count}
use Rattle.sql_log.proofs.damage.is_beheaded.Goals as goal

pub returns-else-has_commit-clause-found : goal.returns-else-has_commit-clause-found
returns-else-has_commit-clause-found c = λ few it.
    let few' : frame_count 4096 c.args.log.now ≤ (length c.args.log.now - 32) / 4120 = omega arith in elim it [
      | inl little ↦
          let is : IsTrue c.has_commit.result =
          c.has_commit.ensures.found few'
          (subst (λ (h : List ℕ). HasEarlyCommit h c.args.log.now) (sym c.header_with-little.ensures) little) in
          absurd (let not = c.if-has_commit.false in cc)
      | inr big ↦ c.has_commit-else-has_commit.ensures.found few'
          (subst (λ (h : List ℕ). HasEarlyCommit h c.args.log.now) (sym c.header_with-big.ensures) big)
    ]
