use Rattle.std.proofs.lemmas.Result.{IfOk-weaker}
use Rattle.streams.proofs.OutputLaw.{update_is}
use Rattle.streams.proofs.stream.Stream.update.Goals as goal

pub returns-clause-value : goal.returns-clause-value
returns-clause-value c =
    IfOk-weaker c.further-result.result _ _
    (λ out after. update_is c.args.self.now _ c.args.piece.now out.items after c.is_right.ensures.value)
    c.further-result.ensures.state
