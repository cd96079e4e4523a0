use Rattle.std.proofs.Common.{Some, None, inl, refl, sym}
use Rattle.line.proofs.Advancing.{comes-flush, comes-after}
use Rattle.line.proofs.Permitting.{knows-then, on-comes, on-now}
use Rattle.line.proofs.connection.Connection.come.Goals as goal

pub returns-in-Some-clause-comes : goal.returns-in-Some-clause-comes
returns-in-Some-clause-comes g c =
    comes-flush g.R.Source.reading g.W.Taker.writing c.args.reader.now c.args.writer.now c.write_out.new.writer c.args.self.now
    c.write_out.new.self (Some c.in-Some.next) c.write_out.ensures c.in-Some.ensures

pub steps-init : goal.steps-init
steps-init g c = record {
  comes =
      comes-flush g.R.Source.reading g.W.Taker.writing c.args.reader.now c.args.writer.now c.write_out.new.writer c.args.self.now
      c.write_out.new.self None c.write_out.ensures c.in_default.ensures;
  given = inl refl;
}

pub returns-in-Some-step-clause-comes : goal.returns-in-Some-step-clause-comes
returns-in-Some-step-clause-comes g c =
    comes-after g.R.Source.reading g.W.Taker.writing c.args.reader.now c.steps.reader c.step.new.reader c.args.writer.now
    c.steps.writer c.step.new.writer c.args.self.now c.steps.self c.step.new.self
    (Some c.in-Some-step.next) c.steps.invariant.comes c.in-Some-step.ensures.comes

pub steps-preserved : goal.steps-preserved
steps-preserved g c = record {
  comes = comes-after g.R.Source.reading g.W.Taker.writing c.args.reader.now c.steps.reader c.step.new.reader c.args.writer.now
      c.steps.writer c.step.new.writer c.args.self.now c.steps.self c.step.new.self None c.steps.invariant.comes
      c.in_default-step.ensures.comes;
  given = knows-then g.R.Source.given (g.R.Source.reading c.args.reader.now.inner) (g.R.Source.reading c.steps.reader.inner)
      (g.R.Source.reading c.step.new.reader.inner) c.steps.invariant.given c.in_default-step.ensures.given
      (sym c.in_default-step.ensures.comes.gave.given.app);
}

pub returns-in-Some-step-clause-given : goal.returns-in-Some-step-clause-given
returns-in-Some-step-clause-given g c =
    knows-then g.R.Source.given (g.R.Source.reading c.args.reader.now.inner) (g.R.Source.reading c.steps.reader.inner)
    (g.R.Source.reading c.step.new.reader.inner) c.steps.invariant.given c.in-Some-step.ensures.given
    (sym c.in-Some-step.ensures.comes.gave.given.app)

pub write_out-requires : goal.write_out-requires
write_out-requires g c = record {
  going = c.requires.going;
  may = on-now (g.L.Licence.allows c.args.licence.now) g.R.Source.given (g.R.Source.reading c.args.reader.now.inner)
      (g.W.Taker.writing c.args.writer.now.inner) c.args.self.now c.requires.on;
}

pub step-requires-clause-on : goal.step-requires-clause-on
step-requires-clause-on g c =
    on-comes g.R.Source.reading g.W.Taker.writing g.R.Source.given
    (g.L.Licence.allows c.args.licence.now) c.args.reader.now c.steps.reader c.args.writer.now c.steps.writer c.args.self.now
    c.steps.self c.steps.invariant.comes c.steps.invariant.given c.requires.on
