use Rattle.std.proofs.Common.{Some, None}
use Rattle.ck_types.specs.Numbers.{rv_at, rv_number}
use Rattle.ck_types.specs.Numbered.{rv_at-inverse}
use Rattle.ck_types.specs.Format.{number64}
use Rattle.ck_types.proofs.Narrowed.{narrowed-some, narrowed-none}
use Rattle.ck_types.proofs.numbered.RvCodec.decode.Goals as goal

pub returns-in-Some : goal.returns-in-Some
returns-in-Some c =
    narrowed-some number64 rv_at rv_number c.args.bytes.now c.in_ok-number.number c.in_ok-number.rest.now c.in-Some.code
    c.in_ok-number.ensures
    (rv_at-inverse c.in_ok-number.number (Some c.in-Some.code) c.in-Some.ensures)

pub returns-in-None : goal.returns-in-None
returns-in-None c =
    narrowed-none number64 rv_at rv_number c.args.bytes.now c.in_ok-number.number c.in_ok-number.rest.now c.in_ok-number.ensures
    (rv_at-inverse c.in_ok-number.number None c.in-None.ensures)
