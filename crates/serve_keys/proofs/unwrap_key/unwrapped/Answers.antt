use Rattle.std.proofs.Common.{rules}
use Rattle.serve_base.specs.Shown.{view_of}
use Rattle.serve_base.proofs.Refusals.{does-is}
use Rattle.serve_base.proofs.InSession.{in_session}
use Rattle.serve_keys.proofs.Reading.{unwrapped-is}
use Rattle.serve_keys.proofs.unwrap_key.unwrapped.Goals as goal

pub returns-then-next_handle-lt-NUMBER_LIMIT : goal.returns-then-next_handle-lt-NUMBER_LIMIT
returns-then-next_handle-lt-NUMBER_LIMIT g c = record {
  serves = λ sure k h fits.
      let d = c.args.desk.now in
      let s = in_session _ _ c.state.result _ c.state.ensures c.in-Some.is in
      does-is _ _ _ k _ _ d c.add_object.new.desk c.add_object.result
      (unwrapped-is (view_of k d) c.args.session s.0 s.1 c.args.object (rw c.next_handle.ensures at c.if-next_handle-lt-NUMBER_LIMIT.true))
      (rw s.2 (c.add_object.ensures.serves sure k h fits));
  counts = search rules;
  cause = search rules;
  plain = c.add_object.ensures.plain;
  stays = c.add_object.ensures.stays;
  refused = c.add_object.ensures.refused;
  short = search rules;
}
