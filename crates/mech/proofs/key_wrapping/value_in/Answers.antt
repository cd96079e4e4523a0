use Rattle.std.proofs.Common.{Err, sym, ◌∙◌, ap, subst}
use Rattle.fips_197.specs.Bytes.{AreBytes}
use Rattle.mech.proofs.Wrappings.{some-value, no-value}
use Rattle.mech.proofs.key_wrapping.value_in.Goals as goal

pub returns-in-Ok-clause-value : goal.returns-in-Ok-clause-value
returns-in-Ok-clause-value c =
    let all : AreBytes c.in-Ok.value.items = subst AreBytes c.deref.ensures.value c.are_bytes.ensures in
    rw (c.from_vec.ensures) (sym
    (some-value c.args.key.now c.args.bytes.now c.in-Ok.value.items c.in-Ok.ensures.length c.requires.least c.requires.whole all
    c.in-Ok.ensures.value c.in-Ok.ensures.only))

pub returns-in-Err-BadCheck-clause-value : goal.returns-in-Err-BadCheck-clause-value
returns-in-Err-BadCheck-clause-value c =
    sym (no-value c.args.key.now c.args.bytes.now (c.unwrap.ensures.bad_check (c.in-Err-BadCheck.is ∙ ap Err c.in-Err-BadCheck.field-0-is)))
