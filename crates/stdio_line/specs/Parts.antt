-- The parts of a line.
use Rattle.std.specs.Prelude.{◌≡◌, ℕ, List, [], ◌∷◌, Option, Some, None, Result, Ok, Err}
use Rattle.rand_chacha.specs.ChaCha.{ChaCha}
use Rattle.keep.specs.Keeping.{Terms}
use Rattle.token.specs.States.{TokenState}
use Rattle.line.specs.declared.ending.Ending.{Ending}
use Rattle.line.specs.declared.ending.Ending.TheVariants as endings
use Rattle.stdio_line.specs.declared.fault.LineFault.{LineFault}
use Rattle.stdio_line.specs.declared.fault.LineFault.TheVariants as faults
use Rattle.door.specs.Ends.{Reading, Writing}
use Rattle.watched.specs.Noting.{Noting}
use Rattle.line.specs.State.{Connected}
use Rattle.stdio_line.specs.Lines.{Leads}
use Rattle.stdio_line.specs.Serve.{Serves, ReadsBy, WritesBy}

-- a connection of which nothing was read yet
pub record IsFresh (c : Connected) : Type 0 where
  pub held : c.held ≡ []
  pub read : c.read ≡ []
  pub written : c.written ≡ []
  pub pending : c.pending ≡ []
  pub answered : c.answered ≡ 0
  pub going : c.ended ≡ None

-- how a line ends whose connection ends so
abbrev pub line_outcome : Ending → ℕ → Result ℕ LineFault
line_outcome endings.Closed count = Ok count
line_outcome endings.Cut count = Err faults.Cut
line_outcome endings.TooLong count = Err faults.TooLong
line_outcome (endings.Read error) count = Err faults.Read
line_outcome (endings.Write error) count = Err faults.Write
line_outcome endings.Memory count = Err faults.Memory

-- why it ends at a connection that took a reply, if it does
abbrev pub fault_at : Option Ending → List ℕ → Option LineFault
fault_at (Some (endings.Write error)) pending = Some faults.Write
fault_at (Some _) pending = Some faults.Memory
fault_at None [] = None
fault_at None (byte ∷ pending) = Some faults.Write

-- and where nothing came
abbrev pub block_at : List ℕ → LineFault
block_at [] = faults.Read
block_at (byte ∷ pending) = faults.Write

-- a line that ended
pub record Ends {R W K : Type 0} (terms : Terms K) (app : ℕ) (t t' : TokenState K) (k k' : ChaCha) (reading : R → Reading)
    (writing : W → Writing) (r r' : Noting R) (w w' : Noting W) (result : Result ℕ LineFault) : Type 0 where
  pub serves : Serves (Leads terms app t t' k k') (reading r.inner) (reading r'.inner) (writing w.inner) (writing w'.inner) result
  pub reads : ReadsBy r r' result
  pub writes : WritesBy w w' result
