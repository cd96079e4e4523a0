use Rattle.model_answers.specs.Answers.{answer}
use Rattle.model_worlds.specs.Worlds.{reveal_by_call}
use Rattle.token.proofs.Memory.{idle-answer, served-empty}
use Rattle.token.proofs.token.serve_unseated.Goals as goal

pub returns-clause-served : goal.returns-clause-served
returns-clause-served g c =
    let reveal = reveal_by_call c.args.call c.args.others_have_sessions in
    served-empty g.K.Keep.terms (λ v. answer v c.args.call c.args.random.now reveal)
    (λ k. idle-answer k c.args.call c.args.random.now reveal c.requires.small) c.args.store.now c.serve.new.store
    c.new-desk.result c.serve.new.desk c.serve.result c.new-desk.ensures c.serve.ensures.served
