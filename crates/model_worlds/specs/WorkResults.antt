-- What is returned of what work outputs.
use Rattle.mech.specs.declared.outcome.Outcome.TheVariants as work
use Rattle.mech.specs.declared.outcome.Outcome.{Outcome as WorkOutcome}
use Rattle.model_views.specs.TaskResults.{TaskResult, Output, BadPadding, Taken, Unwrapped, BadWrapping, Right, Wrong, Made}

-- of a part its output alone
abbrev pub told_of : WorkOutcome → TaskResult
told_of (work.Piece output stream) = Output output
told_of (work.Rest direction output) = Output output
told_of (work.BadPadding direction) = BadPadding
told_of (work.Taken place mac) = Taken
told_of (work.Signature signature) = Output signature
told_of work.RightSignature = Right
told_of work.WrongSignature = Wrong
told_of (work.Wrapped bytes) = Output bytes
told_of (work.Unwrapped object) = Unwrapped object
told_of work.BadWrapping = BadWrapping
told_of work.WrongPin = Wrong
told_of (work.RightPin who) = Right
told_of (work.PinMade verifier) = Made
told_of (work.PinChanged who verifier) = Right
told_of (work.TokenMade label verifier) = Made
told_of (work.TokenReset label) = Right
