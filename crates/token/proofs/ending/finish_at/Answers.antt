use Rattle.std.proofs.Common.{refl, sym, ◌∙◌}
use Rattle.model_runs.specs.Applications.{reveal_by_job}
use Rattle.token.specs.Endings.{under_way_of}
use Rattle.token.proofs.Endings.{finishes-by, finishes-none}
use Rattle.token.proofs.ending.finish_at.Goals as goal

pub returns-in-None : goal.returns-in-None
returns-in-None g c =
    finishes-none g.K.Keep.terms c.args.done.job.value
    (reveal_by_job c.args.done.job.value
    (under_way_of c.args.others.now) c.args.others.now.others_have_sessions) c.args.store.now c.args.desk.now
    (sym c.question.ensures ∙ rw c.in-None.is refl)

pub returns-in-Ok : goal.returns-in-Ok
returns-in-Ok g c =
    finishes-by g.K.Keep.terms c.args.done.job.value c.args.others.now c.args.store.now c.serve_outcome.new.store c.args.desk.now
    c.session-session.result c.in-Some.question.now c.in-Ok.outcome c.end_question.new.self c.serve_outcome.new.desk
    c.serve_outcome.result c.settle_reply.result
    (sym c.question.ensures ∙ rw c.in-Some.is refl) c.session-session.ensures c.in-Ok.ensures.value c.end_question.ensures
    c.settle_reply.ensures c.in-Ok.ensures.room g.met.K.Keep.sure c.serve_outcome.ensures
