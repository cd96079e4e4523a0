use Rattle.std.proofs.Common.{◌∙◌, ◌++◌, ap}
use Rattle.streams.specs.Streamed.{after_piece}
use Rattle.streams.proofs.OutputLaw.{last_is}
use Rattle.streams.proofs.stream.Stream.last.Goals as goal

pub returns-clause-value : goal.returns-clause-value
returns-clause-value c =
    let out = c.in_ok-out.out.items in
    let after = c.in_ok-out.ensures.state ∙ ap (λ s. after_piece s c.args.input.now out) c.copied-stream.ensures in
    let all = c.in_ok-extend_from_slice.ensures.items ∙ ap (λ r. out ++ r) c.deref.ensures.value in
    last_is c.args.self.now _ c.args.input.now out after _ _ all c.in_ok-rest.ensures.value
