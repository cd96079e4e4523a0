use Rattle.std.proofs.Common.{IfSome, subst, ◌≤◌, length}
use Rattle.ck_types.specs.declared.attr_type.AttrType.TheVariants as attr
use Rattle.ck_types.specs.Numbers.{attr_type_number}
use Rattle.serve_base.proofs.Lengths.{values-short}
use Rattle.serve_keys.proofs.wrap_key.value_of.Goals as goal

pub returns-clause-within : goal.returns-clause-within
returns-clause-within c = subst (λ o. IfSome o (λ bytes. length bytes ≤ 1024)) c.value.ensures
    (values-short c.args.key.now c.entries-entries.ensures.object (attr_type_number attr.Value))
