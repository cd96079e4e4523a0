use Rattle.std.proofs.Common.{◌∙◌}
use Rattle.model_answers.proofs.Sizes.{stored-size}
use Rattle.serve_objects.proofs.get_object_size.size_of.Goals as goal

pub returns-clause-told : goal.returns-clause-told
returns-clause-told c = c.size.ensures ∙ stored-size c.args.object.now c.entries-entries.ensures.object
