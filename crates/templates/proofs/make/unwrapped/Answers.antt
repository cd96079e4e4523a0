use Rattle.std.proofs.Common.{length, []}
use Rattle.templates.specs.declared.making.Making.TheVariants as making
use Rattle.templates.proofs.NoFault.{faultless}
use Rattle.templates.proofs.NewKey.{unwrapped_is_object}
use Rattle.templates.proofs.make.unwrapped.Goals as goal

pub make_key-requires-clause-object : goal.make_key-requires-clause-object
make_key-requires-clause-object c none =
    unwrapped_is_object c.args.state c.as_slice.result.now c.args.random.now c.args.value.now
    (faultless (making.Unwrap (length c.args.value.now)) c.args.state [] c.as_slice.result.now none)
