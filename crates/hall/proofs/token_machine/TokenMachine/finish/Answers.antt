use Rattle.std.proofs.Common.{arith, subst}
use Rattle.model_views.specs.Views.{View}
use Rattle.model_runs.specs.Applications.{IsOther}
use Rattle.token.proofs.States.{blames-none}
use Rattle.hall.proofs.token_machine.TokenMachine.finish.Goals as goal

pub returns-clause-takes : goal.returns-clause-takes
returns-clause-takes g c = λ sure w shows opened. record {
  tells = (opened, c.finish.ensures.told sure w shows opened);
  shows = c.finish.ensures.world sure w shows opened;
  leaves = λ l may. c.finish.ensures.leaves sure w shows opened l may;
}

pub returns-clause-spends : goal.returns-clause-spends
returns-clause-spends g c = λ w opened count has.
    let s = has.shows in
    let room = has.ids in
    let steady = c.finish.ensures.counts.steady has.steady in
    let honest = g.met.K.Keep.sure _ steady in
    let next = c.finish.ensures.ids honest w s opened in
    let one = next.1 in (
      blames-none c.finish.result (λ is. let lacks = (c.finish.ensures.steady has.steady is w s).1 in omega (arith, lacks, room)),
      record { steady = steady; shows = next.0; ids = omega (arith, one, room) },
    )

pub returns-clause-other : goal.returns-clause-other
returns-clause-other g c = λ w s is.
    c.finish.ensures.other (subst (λ (v : View). IsOther v.question c.args.app c.args.done.job.value) (s.depicts.views c.args.app) is)
