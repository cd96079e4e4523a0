use Rattle.std.proofs.Common.{◌+◌, sym, ◌≡◌, ◌≤◌, inl, inr, arith, rules, subst, ◌∙◌, eqb-true, eq-eqb, ◌<◌}
use Rattle.sql_log.specs.Damage.{HasTwoCommits, end_behind}
use Rattle.sql_log.proofs.BrokenLemmas.{after_one_more, end_open, end_shut}
use Rattle.sql_log.proofs.FrameLemmas.{head_is, inside}
use Rattle.sql_log.proofs.damage.is_broken.Goals.{then-is_shut, else-is_shut}
use Rattle.sql_log.proofs.damage.is_broken.Goals as goal

pub is_shut-requires-clause-within : goal.is_shut-requires-clause-within
is_shut-requires-clause-within c = inside c.args.log.now c.args.size c.in-Some.bad c.requires.head c.in-Some.ensures.bad.0

pub returns-then-commits_in_run-eq2-clause-sound : goal.returns-then-commits_in_run-eq2-clause-sound
returns-then-commits_in_run-eq2-clause-sound c = λ is. record {
  bad = c.in-Some.bad;
  fails = c.in-Some.ensures.bad.1;
  behind = inl (subst (λ h. HasTwoCommits h c.args.size c.args.log.now (c.in-Some.bad + 1)) (head_is c.args.log.now)
      (c.commits_in_run.ensures.two (let two = eqb-true _ _ is in omega (arith, two))));
}

pub returns-else-commits_in_run-eq2-clause-sound : goal.returns-else-commits_in_run-eq2-clause-sound
returns-else-commits_in_run-eq2-clause-sound c = λ is. record {
  bad = c.in-Some.bad;
  fails = c.in-Some.ensures.bad.1;
  behind = inr (subst (λ h. HasTwoCommits h c.args.size c.args.log.now (c.in-Some.bad + 2)) (head_is c.args.log.now)
      (c.commits_in_run-else-commits_in_run-eq2.ensures.two (let two = eqb-true _ _ is in omega (arith, two))));
}

pub returns-else-commits_in_run-eq2-clause-found : goal.returns-else-commits_in_run-eq2-clause-found
returns-else-commits_in_run-eq2-clause-found c = λ it.
    let bad = c.in-Some.bad in
    let end : end_behind c.args.size c.args.log.now bad ≡ c.if-is_shut.end = elim c.if-is_shut.branch [
      | then-is_shut w ↦ end_shut c.args.size c.args.log.now bad c.is_shut.result c.is_shut.ensures w.if-is_shut.true
          ∙ sym w.min-end.ensures ∙ sym w.end-is
      | else-is_shut w ↦ end_open c.args.size c.args.log.now bad c.is_shut.result c.is_shut.ensures w.if-is_shut.false ∙ sym w.end-is
    ] in
    eq-eqb _ _ (after_one_more c.args.size c.args.log.now bad c.in-Some.ensures.earlier c.in-Some.ensures.bad.1 c.if-is_shut.end
    c.commits_in_run.result c.commits_in_run-else-commits_in_run-eq2.result end
    c.commits_in_run.ensures.most (search rules) c.commits_in_run-else-commits_in_run-eq2.ensures.most
    (subst (λ h. (n : c.commits_in_run.result ≤ 1) → (x : HasTwoCommits h c.args.size c.args.log.now (bad + 1))
    → x.two < c.if-is_shut.end → ⊥) (head_is c.args.log.now) c.commits_in_run.ensures.few)
    (subst (λ h. (n : c.commits_in_run-else-commits_in_run-eq2.result ≤ 1)
    → (x : HasTwoCommits h c.args.size c.args.log.now (bad + 2)) → x.two < c.if-is_shut.end → ⊥)
    (head_is c.args.log.now) c.commits_in_run-else-commits_in_run-eq2.ensures.few)
    it)
