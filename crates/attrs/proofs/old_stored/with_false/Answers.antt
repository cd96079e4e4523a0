use Rattle.std.proofs.Common.{rules}
use Rattle.attrs.specs.OldStored.{false_of}
use Rattle.attrs.specs.OldStoredLaws.{insert-placed}
use Rattle.attrs.proofs.old_stored.with_false.Goals as goal

pub returns : goal.returns
returns c = let is = insert-placed (false_of c.args.attribute) c.args.entries.items in search rules
