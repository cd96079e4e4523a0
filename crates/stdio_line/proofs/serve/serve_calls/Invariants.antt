use Rattle.stdio_line.proofs.Serving.{Serving}
use Rattle.stdio_line.proofs.serve.serve_calls.Given as goal

abbrev pub invariant-calls : goal.invariant-calls
invariant-calls g l = Serving g.K.Keep.terms l.app l.fn.token l.fn.connection.words g.R.Source.reading g.W.Taker.writing l.fn.reader
    l.fn.writer l.token l.reader l.writer l.connection
