-- The fields of a message in parts.
use Rattle.std.specs.Prelude.{◌≡◌, ◌==◌, not, length}
use Rattle.macs.specs.Authentication.{Authentication}
use Rattle.macs.specs.States.{authentication}
use Rattle.macs.specs.declared.mac.Mac.TheInside.{Inside}

abbrev pub authentication_of : Inside → Authentication
authentication_of s = authentication s.state

-- it is kept whether a byte was taken
abbrev pub Holds : Inside → Type 0
Holds s = s.has_taken ≡ not (length (authentication s.state).taken == 0)
