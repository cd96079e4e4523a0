use Rattle.std.proofs.lemmas.List.Elements.{All-push}
use Rattle.model_worlds.specs.Events.{HasRandom}
use Rattle.bench.proofs.events.events_of.Goals as goal

pub loop-number-preserved : goal.loop-number-preserved
loop-number-preserved c = rw (c.push.ensures.items, c.in_ok-push.was)
    (All-push HasRandom c.loop-number.events.items c.event.result c.loop-number.invariant c.event.ensures)
