-- What is found under a handle.
use Rattle.std.specs.Prelude.{List, Option, Some, None}
use Rattle.ck_types.specs.declared.entry.Entry.{Entry}
use Rattle.serve_base.specs.declared.finding.Found.{Found}

-- its object
abbrev pub object_in : Option Found → Option (List Entry)
object_in None = None
object_in (Some found) = Some found.object
