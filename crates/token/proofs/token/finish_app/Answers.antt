use Rattle.std.proofs.Common.{◌≡◌, rules, refl, subst}
use Rattle.desk.specs.Desks.{empty_desk}
use Rattle.model_runs.specs.Applications.{Finishes, desk_at}
use Rattle.token.proofs.Endings.{finishes-none}
use Rattle.token.proofs.token.finish_app.Goals as goal

pub returns-in-Some-clause-finishes : goal.returns-in-Some-clause-finishes
returns-in-Some-clause-finishes g c =
    let old : desk_at c.args.desks.now.entries c.args.app ≡ c.in-Some.desk.now = search rules in
    let new : desk_at (c.get_mut.follows.lender c.finish_at.new.desk).entries c.args.app ≡ c.finish_at.new.desk = search rules in
    rw (old, new) (subst (λ reveal. Finishes g.K.Keep.terms c.args.done.job.value reveal c.args.store.now c.finish_at.new.store
    c.in-Some.desk.now c.finish_at.result c.finish_at.new.desk) c.others_for-others.ensures c.finish_at.ensures)

pub returns-in-None-clause-finishes : goal.returns-in-None-clause-finishes
returns-in-None-clause-finishes g c =
    let old : desk_at c.args.desks.now.entries c.args.app ≡ empty_desk = search rules in
    let new : desk_at c.get_mut.follows.lender-at-none.entries c.args.app ≡ empty_desk = search rules in
    rw (old, new) (finishes-none g.K.Keep.terms c.args.done.job.value _ c.args.store.now empty_desk refl)
