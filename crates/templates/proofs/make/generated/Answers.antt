use Rattle.std.proofs.Common.{◌∙◌, []}
use Rattle.templates.specs.declared.making.Making.TheVariants as making
use Rattle.templates.proofs.NoFault.{faultless}
use Rattle.templates.proofs.NewKey.{generated_is_object}
use Rattle.templates.proofs.make.generated.Goals as goal

pub make_key-requires-clause-object : goal.make_key-requires-clause-object
make_key-requires-clause-object c none =
    generated_is_object c.args.mechanism c.args.state c.as_slice-template.result.now c.args.random.now c.split_at-2.result.0.now
    (c.split_at-2.ensures.front_len ∙ c.len_asked_for.ensures)
    (faultless (making.Generate c.args.mechanism) c.args.state [] c.as_slice-template.result.now none)
