use Rattle.std.proofs.Common.{sym, ◌∙◌}
use Rattle.model_runs.specs.Applications.{desk_at}
use Rattle.model_runs.proofs.Called.{lacks-called, next-called, shows-called, says-called, leaves-called, blames-device, stays-called, short-called, for-called}
use Rattle.token.proofs.Memory.{never-memory}
use Rattle.token.proofs.Refused.{stands-called}
use Rattle.token.proofs.token.Token.call.Goals as goal

pub returns : goal.returns
returns g c = record {
  world = λ sure w s.
      let t = rw (← c.self.view_is) at s in
      rw (c.or_fault_code.ensures, c.serve_app.ensures.checks)
      (shows-called _ _ _ _ _ _ c.args.app c.args.call c.args.random.now w t c.serve_app.ensures.others c.serve_app.result
      (c.serve_app.ensures.serves sure t.contents t.has (t.fits c.args.app)));
  says = λ sure w s.
      let t = rw (← c.self.view_is) at s in
      rw c.or_fault_code.ensures (says-called _ _ _ _ _ _ c.args.app c.args.call c.args.random.now w t c.serve_app.ensures.others
      c.serve_app.result (c.serve_app.ensures.serves sure t.contents t.has (t.fits c.args.app)));
  asker = rw c.or_fault_code.ensures (for-called c.args.app c.serve_app.result c.serve_app.ensures.asker);
  leaves = λ sure w s.
      let t = rw (← c.self.view_is) at s in
      rw (c.or_fault_code.ensures, ← c.self.view_is)
      (leaves-called _ _ _ _ _ _ c.args.app c.args.call c.args.random.now w t c.serve_app.ensures.others c.serve_app.result
      (c.serve_app.ensures.serves sure t.contents t.has (t.fits c.args.app)));
  counts = rw (← c.self.view_is) c.serve_app.ensures.counts;
  cause = λ is. rw (← c.self.view_is)
      (c.serve_app.ensures.cause (blames-device c.serve_app.result c.serve_app.ensures.plain (sym c.or_fault_code.ensures ∙ is)));
  steady = rw (← c.self.view_is) (λ steady is w s.
      let blamed = blames-device c.serve_app.result c.serve_app.ensures.plain (sym c.or_fault_code.ensures ∙ is) in
      lacks-called g.K.Keep.terms _ c.serve_app.new.store _ c.serve_app.new.desks.entries _ c.args.app c.args.call
      c.args.random.now w s c.serve_app.ensures.others
      (c.serve_app.ensures.steady steady blamed s.contents s.has (s.fits c.args.app)));
  ids = λ sure.
      rw (c.or_fault_code.ensures, c.serve_app.ensures.checks, ← c.self.view_is)
      (λ w s. next-called _ _ _ _ _ _ c.args.app c.args.call c.args.random.now w s c.serve_app.ensures.others c.serve_app.result
      (c.serve_app.ensures.serves sure s.contents s.has (s.fits c.args.app)));
  others = rw (← c.self.view_is) c.serve_app.ensures.others;
  stays = λ some. rw (← c.self.view_is)
      (stays-called c.serve_app.result (desk_at c.self.inside.desks.entries c.args.app)
      (desk_at c.serve_app.new.desks.entries c.args.app) c.serve_app.ensures.plain c.serve_app.ensures.stays
      (rw c.or_fault_code.ensures at some));
  refused = rw (← c.self.view_is) (λ is k fits. stands-called c.args.call c.args.random.now _
      (desk_at c.self.inside.desks.entries c.args.app)
      (desk_at c.serve_app.new.desks.entries c.args.app) c.serve_app.result c.serve_app.ensures.stays c.serve_app.ensures.refused
      (rw c.or_fault_code.ensures at is) k fits);
  small = λ small. rw c.or_fault_code.ensures
      (never-memory c.serve_app.result c.serve_app.ensures.plain (c.serve_app.ensures.small small));
  short = λ few. rw c.or_fault_code.ensures (short-called c.serve_app.result (c.serve_app.ensures.short few));
}
