use Rattle.std.proofs.Common.{Some, None}
use Rattle.ck_types.specs.Numbers.{session_state_at, session_state_number}
use Rattle.ck_types.specs.Numbered.{session_state_at-inverse}
use Rattle.ck_types.specs.Format.{number64}
use Rattle.ck_types.proofs.Narrowed.{narrowed-some, narrowed-none}
use Rattle.ck_types.proofs.numbered.SessionStateCodec.decode.Goals as goal

pub returns-in-Some : goal.returns-in-Some
returns-in-Some c =
    narrowed-some number64 session_state_at session_state_number c.args.bytes.now c.in_ok-number.number c.in_ok-number.rest.now
    c.in-Some.state c.in_ok-number.ensures
    (session_state_at-inverse c.in_ok-number.number (Some c.in-Some.state) c.in-Some.ensures)

pub returns-in-None : goal.returns-in-None
returns-in-None c =
    narrowed-none number64 session_state_at session_state_number c.args.bytes.now c.in_ok-number.number c.in_ok-number.rest.now
    c.in_ok-number.ensures
    (session_state_at-inverse c.in_ok-number.number None c.in-None.ensures)
