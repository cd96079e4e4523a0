use Rattle.std.specs.Bool.{IsTrue, IsFalse}
use Rattle.std.proofs.Common.{subst}
use Rattle.line_places.proofs.Arriving.{free-some, taken-none}
use Rattle.line_places.proofs.places.Places.is_free.Goals as goal

pub returns-clause-free : goal.returns-clause-free
returns-clause-free g c h = free-some c.args.self.now.number c.args.self.now.places.items c.args.place c.next_app.result
    c.next_app.ensures.next (subst IsTrue c.is_some.ensures h)

pub returns-clause-taken : goal.returns-clause-taken
returns-clause-taken g c h = taken-none c.next_app.result _ c.next_app.ensures.none (subst IsFalse c.is_some.ensures h)
