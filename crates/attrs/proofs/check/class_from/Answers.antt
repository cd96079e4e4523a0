use Rattle.std.proofs.Common.{sym}
use Rattle.attrs.specs.ObjectLaws.{class_at-inverse, class_at-none}
use Rattle.attrs.proofs.check.class_from.Goals as goal

pub returns-in_err-number : goal.returns-in_err-number
returns-in_err-number c = rw (c.in_err-number.was, c.from_residual.ensures) (sym class_at-none)

pub returns : goal.returns
returns c = rw c.in_ok-number.was (sym (class_at-inverse c.in_ok-number.field-0 c.from_number.result c.from_number.ensures))
