use Rattle.std.proofs.lemmas.List.Elements.{All-push}
use Rattle.model_worlds.specs.Events.{HasRandom}
use Rattle.test_allocations.proofs.events.events_of.Goals as goal

pub rows-preserved : goal.rows-preserved
rows-preserved c = rw (c.push.ensures.items, c.in_ok-push.was)
    (All-push HasRandom c.rows.events.items c.in_ok-event_of.field-0 c.rows.invariant c.in_ok-event_of.ensures)
