use Rattle.std.proofs.Common.{refl, rules}
use Rattle.keep.specs.Contents.{with_object}
use Rattle.serve_base.proofs.Gaves.{gave-change}
use Rattle.serve_base.proofs.NewObjects.{gives-added}
use Rattle.serve_base.proofs.adding.add_token_object.Goals as goal

pub returns : goal.returns
returns g c = record {
  serves = λ sure k h fits.
      rw (c.give_handle.ensures.given, c.flag.ensures) (gave-change _ _ _ k _ _ _ _ (with_object c.args.object.now k)
      (c.in_ok-id.ensures.has sure k h) (c.in_ok-id.ensures.wrote.leaves k h)
      (gives-added k c.args.desk.now c.reserve_handles.new.self c.args.object.now c.in_ok-id.id c.give_handle.result h.sound fits
      c.requires.seen c.reserve_handles.ensures.same (c.in_ok-id.ensures.id sure k h)
      (rw (c.give_handle.ensures.given, c.flag.ensures) at c.give_handle.ensures.handle)));
  counts = c.insert.ensures.wrote.counts;
  cause = search rules;
  plain = refl;
  stays = tt;
  refused = λ is. absurd cc;
  short = λ _. tt;
}
