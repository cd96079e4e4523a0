use Rattle.std.proofs.lemmas.List.Elements.{All-push}
use Rattle.model_worlds.specs.Events.{HasRandom}
use Rattle.test_scripts.proofs.runs.with_random.Goals as goal

pub loop-event-preserved : goal.loop-event-preserved
loop-event-preserved c = rw (c.push.ensures.items, c.in_ok-push.was)
    (All-push HasRandom c.loop-event.ready.items c.in_ok-given_random.field-0 c.loop-event.invariant c.in_ok-given_random.ensures)
