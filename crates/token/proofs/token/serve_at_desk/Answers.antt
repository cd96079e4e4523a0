use Rattle.std.proofs.Common.{rules}
use Rattle.std.specs.Prelude.{IfOk}
use Rattle.desk.specs.Desks.{SameDesk}
use Rattle.model_answers.specs.Answers.{answer}
use Rattle.model_worlds.specs.Worlds.{reveal_by_call}
use Rattle.model_runs.specs.Applications.{desk_at}
use Rattle.token.proofs.Refused.{served-failed, served-from, stands-from}
use Rattle.token.proofs.token.serve_at_desk.Goals as goal

pub returns-clause-refused : goal.returns-clause-refused
returns-clause-refused g c =
    let same : SameDesk (desk_at c.args.desks.now.entries c.args.app) c.in-Some.desk.now = search rules in
    let refused = stands-from (λ v. answer v c.args.call c.args.random.now (reveal_by_call c.args.call c.args.others_have_sessions))
    (desk_at c.args.desks.now.entries c.args.app) c.in-Some.desk.now c.serve.new.desk c.serve.result same
    c.serve.ensures.served.refused in
    search (rules, refused)

pub returns-clause-serves : goal.returns-clause-serves
returns-clause-serves g c =
    let same : SameDesk (desk_at c.args.desks.now.entries c.args.app) c.in-Some.desk.now = search rules in
    let served = served-from g.K.Keep.terms
    (λ v. answer v c.args.call c.args.random.now
    (reveal_by_call c.args.call c.args.others_have_sessions)) c.args.store.now c.serve.new.store
    (desk_at c.args.desks.now.entries c.args.app) c.in-Some.desk.now c.serve.new.desk c.serve.result same
    c.serve.ensures.served.serves in
    search (rules, served)

pub returns-in_err-add_desk-clause-serves : goal.returns-in_err-add_desk-clause-serves
returns-in_err-add_desk-clause-serves g c =
    let failed : IfOk c.from_residual.result (λ out. ⊥) = search rules in
    served-failed g.K.Keep.terms (λ v. answer v c.args.call c.args.random.now
    (reveal_by_call c.args.call c.args.others_have_sessions)) c.args.store.now (desk_at c.args.desks.now.entries c.args.app)
    (desk_at c.add_desk.new.desks.entries c.args.app) c.from_residual.result failed (c.add_desk.ensures.same c.args.app)
