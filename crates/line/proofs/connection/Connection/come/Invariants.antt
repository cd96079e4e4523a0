use Rattle.std.proofs.Common.{None}
use Rattle.line.specs.Connecting.{Comes}
use Rattle.line.specs.Permits.{Knows}
use Rattle.line.proofs.connection.Connection.come.Given as goal

abbrev pub invariant-steps : goal.invariant-steps
invariant-steps g l = record {
  comes : Comes g.R.Source.reading g.W.Taker.writing l.fn.reader l.reader l.fn.writer l.writer l.fn.self l.self None;
  given : Knows g.R.Source.given (g.R.Source.reading l.fn.reader.inner) (g.R.Source.reading l.reader.inner);
}
