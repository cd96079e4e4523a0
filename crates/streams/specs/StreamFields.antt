-- The fields of a stream.
use Rattle.std.specs.Prelude.{◌≡◌, ◌==◌, not, length}
use Rattle.streams.specs.States.{streamed, HoldsPaddingBack}
use Rattle.streams.specs.Streamed.{Streamed}
use Rattle.streams.specs.declared.stream.Stream.TheInside.{Inside}

abbrev pub streamed_of : Inside → Streamed
streamed_of s = streamed s.state

-- it is kept whether data was taken
pub record Holds (s : Inside) : Type 0 where
  pub held : HoldsPaddingBack s.state
  pub has_taken : s.has_taken ≡ not (length (streamed s.state).taken == 0)
