use Rattle.std.proofs.Common.{refl, map}
use Rattle.model_worlds.specs.Worlds.{after, event_of}
use Rattle.test_allocations.proofs.Waiting.{random-left}
use Rattle.test_allocations.proofs.talk.run.Goals as goal

pub returns-clause-random : goal.returns-clause-random
returns-clause-random c =
    let is = c.run.ensures.run refl c.requires.jobs.0 c.requires.jobs.1 in
    random-left (map event_of is.moves) c.run.result.left.items c.args.events.items is.took c.requires.random

pub returns-clause-jobs : goal.returns-clause-jobs
returns-clause-jobs c =
    let is = c.run.ensures.run refl c.requires.jobs.0 c.requires.jobs.1 in
    (after c.requires.jobs.0 is.moves, is.shows, is.jobs)
