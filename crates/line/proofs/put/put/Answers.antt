use Rattle.line.proofs.Permitting.{may-rest}
use Rattle.line.proofs.put.put.Goals as goal

pub write-requires : goal.write-requires
write-requires g c = record {
  may =
      may-rest (g.L.Licence.allows c.args.licence.now) (g.W.Taker.writing c.args.writer.now.inner)
      (g.W.Taker.writing c.rest.writer.inner) c.args.bytes.now c.rest.rest.now c.args.written.now.bytes c.rest.written.bytes
      c.requires.may c.rest.invariant.front;
}
