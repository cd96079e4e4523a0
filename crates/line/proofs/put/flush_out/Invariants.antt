use Rattle.std.specs.Prelude.{[]}
use Rattle.door.specs.Ends.{TookBytes}
use Rattle.watched.proofs.Noting.{Made}
use Rattle.line.proofs.put.flush_out.Given as goal

abbrev pub invariant-flushes : goal.invariant-flushes
invariant-flushes g l = record {
  kept : TookBytes (g.W.Taker.writing l.fn.writer.inner) (g.W.Taker.writing l.writer.inner) [];
  made : Made l._turn l.fn.writer l.writer;
}
