use Rattle.std.proofs.Common.{arith, rules, sym, ap, ◌∙◌, ◌++◌, append_assoc}
use Rattle.sqlite_exec.proofs.CheckLemmas as lemma
use Rattle.sql_vacuum.proofs.copying.rows_of.Goals as goal

pub rows-init : goal.rows-init
rows-init g c = (
  search rules,
  search rules,
  search rules,
  λ clean. rw (
    c.new-rows.ensures.items,
    (c.in_ok-seek.ensures.ok (omega (arith, c.seek.ensures.quiet.clean))),
    c.new-row.ensures,
    lemma.from_no_key,
  ),
)

pub rows-preserved : goal.rows-preserved
rows-preserved g c = (
  search rules,
  search rules,
  search rules,
  λ clean. let step = lemma.stepped _ _ 0 c.next.new.row
      (rw c.if-not-branch.false at (c.in_ok-next.ensures.ok
      (omega (arith, c.next.ensures.quiet.clean, c.rows.invariant.2.clean)))) in
      rw (c.in_ok-push.ensures.items, c.in_ok-copy.ensures, append_assoc)
      (ap (λ l. c.rows.rows.items ++ l) (sym step)
      ∙ c.rows.invariant.3 (omega (arith, c.next.ensures.quiet.clean, c.rows.invariant.2.clean))),
)
