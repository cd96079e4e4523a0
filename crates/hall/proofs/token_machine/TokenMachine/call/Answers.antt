use Rattle.std.proofs.Common.{arith, subst}
use Rattle.model_worlds.specs.Worlds.{World}
use Rattle.serve_base.specs.Shown.{said_of}
use Rattle.model_views.specs.Refusals.{resource_error_in}
use Rattle.token.specs.States.{Shows, ShowsAfter, MayLeave}
use Rattle.hall.proofs.PendingJobs.{called_is, left_is}
use Rattle.hall.proofs.Sparing.{not_blamed}
use Rattle.hall.proofs.token_machine.TokenMachine.call.Goals as goal

pub returns-clause-takes : goal.returns-clause-takes
returns-clause-takes g c = λ sure w shows.
    let a = c.args.call in record {
      tells = (rw c.deref.ensures.value at (c.call.ensures.says sure w shows), c.call.ensures.asker);
      shows = subst (λ (v : World). Shows g.K.Keep.terms c.call.new.self v)
          (called_is w a.app a.call a.random (resource_error_in (said_of c.call.result)))
          (rw c.deref.ensures.value at (c.call.ensures.world sure w shows));
      leaves = λ l may. left_is (MayLeave g.K.Keep.terms c.args.self.now) w a.app a.call a.random
          (resource_error_in (said_of c.call.result)) l (rw c.deref.ensures.value at (c.call.ensures.leaves sure w shows l may));
    }

pub returns-clause-spends : goal.returns-clause-spends
returns-clause-spends g c = λ w count has.
    let a = c.args.call in
    let s = has.shows in
    let room = has.ids in
    let steady = c.call.ensures.counts.steady has.steady in
    let honest = g.met.K.Keep.sure _ steady in
    let next = subst (λ (v : World). ShowsAfter g.K.Keep.terms s.contents 1 c.call.new.self v)
    (called_is w a.app a.call a.random (resource_error_in (said_of c.call.result)))
    (rw c.deref.ensures.value at (c.call.ensures.ids honest w s)) in
    let one = next.1 in (
      not_blamed a.app c.call.result (λ is. let lacks = (c.call.ensures.steady has.steady is w s).1 in omega (arith, lacks, room)),
      record { steady = steady; shows = next.0; ids = omega (arith, one, room) },
    )
