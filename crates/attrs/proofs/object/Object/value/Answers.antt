use Rattle.std.proofs.Common.{sym}
use Rattle.attrs.specs.ObjectLaws.{IsObject-value}
use Rattle.attrs.proofs.object.Object.value.Goals as goal

pub unreachable-requires : goal.unreachable-requires
unreachable-requires c = IsObject-value c.args.self.now c.entries.ensures.object (rw c.entries.ensures.entries at (sym c.in-None.ensures))
