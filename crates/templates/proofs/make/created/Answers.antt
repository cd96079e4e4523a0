use Rattle.std.proofs.Common.{sym, []}
use Rattle.templates.specs.declared.making.Making.TheVariants as making
use Rattle.templates.proofs.NoFault.{faultless}
use Rattle.templates.proofs.NewKey.{created_has_class, created_is_object}
use Rattle.templates.proofs.make.created.Goals as goal

pub unreachable-requires : goal.unreachable-requires
unreachable-requires c =
    let ok = faultless making.Create c.args.state [] c.as_slice-template.result.now (sym c.in_default.ensures) in
    created_has_class c.args.state c.as_slice-template.result.now ok (sym c.in_default-class_in.ensures)

pub make-requires-clause-object : goal.make-requires-clause-object
make-requires-clause-object c =
    let ok = faultless making.Create c.args.state [] c.as_slice-template.result.now (sym c.in_default.ensures) in
    rw c.value_given.ensures (created_is_object c.args.state c.as_slice-template.result.now c.args.random.now
    c.in-Some-class_in.class ok (sym c.in-Some-class_in.ensures))
