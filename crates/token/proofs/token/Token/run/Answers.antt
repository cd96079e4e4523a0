use Rattle.std.proofs.Common.{arith, refl, ◌≡◌, ◌∙◌}
use Rattle.std.proofs.lemmas.List.{length-reverse, reverse-reverse}
use Rattle.model_worlds.specs.Events.{HasRandom}
use Rattle.lists.proofs.Turning.{All-reverse}
use Rattle.model_runs.proofs.Accounts.{accounts-none}
use Rattle.model_runs.proofs.Runs.{nothing_yet, one_more}
use Rattle.token.proofs.token.Token.run.Goals as goal
use Rattle.token.proofs.token.Token.run.Goals.{else-events-test, then-events-test+in-Err}

pub events-init : goal.events-init
events-init g c = (
  omega arith,
  λ sure w s. rw (c.new-replies.ensures.items, c.reverse.ensures.items, reverse-reverse c.args.events.items)
      (nothing_yet _ _ w c.args.events.items c.args.out.items s (c.requires.jobs w s)),
  rw c.reverse.ensures.items (All-reverse HasRandom c.args.events.items c.requires.random),
  rw c.new-replies.ensures.items (accounts-none _ _ (omega arith)),
  λ has. rw (c.new-replies.ensures.items, c.reverse.ensures.items, length-reverse c.args.events.items) (refl, has),
)

pub events-preserved : goal.events-preserved
events-preserved g c = (
  omega (arith, c.events.invariant.0, c.in-Ok.ensures.doubt),
  λ sure w s.
      let before : g.K.Keep.terms.doubt c.events.self.store.keep ≡ 0 = omega (arith, c.in-Ok.ensures.doubt, sure) in
      one_more _ _ _ _ _ _ w c.args.events.items _ _ c.events.replies.items _ c.events.out.items _ sure
      (c.events.invariant.1 before w s) c.in-Ok.ensures.ok,
  c.in-Ok.ensures.random,
  c.in-Ok.ensures.accounts _ c.events.invariant.3,
  λ has.
      let before = c.events.invariant.4 has in
      let now = c.in-Ok.ensures.ids before.1 in
      (now.0 ∙ before.0, now.1),
)

-- what stops the run changes nothing
pub returns-clause-run : goal.returns-clause-run
returns-clause-run g c = λ sure w s. elim c.events-test.branch [
  | else-events-test b ↦ rw (c.reverse-2.ensures.items, b.replies-is, b.events-is, b.out-is, b.self-is)
      (c.events.invariant.1 (rw b.self-is at sure) w s)
  | then-events-test+in-Err b ↦ rw (
    c.reverse-2.ensures.items,
    b.replies-is,
    b.events-is,
    b.out-is,
    b.self-is,
    b.in-Err.ensures.err.0,
    b.in-Err.ensures.err.1,
    b.in-Err.ensures.err.2,
    b.in-Err.ensures.err.3,
  ) (c.events.invariant.1 (rw (b.self-is, b.in-Err.ensures.err.3) at sure) w s)
]

pub returns-clause-accounts : goal.returns-clause-accounts
returns-clause-accounts g c = elim c.events-test.branch [
  | else-events-test b ↦ rw (b.replies-is, b.self-is) c.events.invariant.3
  | then-events-test+in-Err b ↦ rw (b.replies-is, b.self-is, b.in-Err.ensures.err.2, b.in-Err.ensures.err.3) c.events.invariant.3
]

pub returns-clause-ids : goal.returns-clause-ids
returns-clause-ids g c = λ has. elim c.events-test.branch [
  | else-events-test b ↦ rw (
    c.reverse-2.ensures.items,
    length-reverse c.events-test.events.items,
    b.replies-is,
    b.events-is,
    b.out-is,
    b.self-is,
  ) (c.events.invariant.4 has)
  | then-events-test+in-Err b ↦ rw (
    c.reverse-2.ensures.items,
    b.replies-is,
    length-reverse c.events-test.events.items,
    b.events-is,
    b.out-is,
    b.self-is,
    b.in-Err.ensures.err.0,
    b.in-Err.ensures.err.1,
    b.in-Err.ensures.err.2,
    b.in-Err.ensures.err.3,
  )
      (c.events.invariant.4 has)
]
