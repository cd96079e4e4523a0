-- How many bytes the output of work has at most.
use Rattle.std.specs.Prelude.{ℕ, ◌+◌, ◌-◌, ◌≤◌, List, [], length}
use Rattle.ops.specs.Texts.{Direction, Mechanism, Part, Update, Last, length_so_far, whole_length}
use Rattle.mech.specs.declared.outcome.Outcome.{Outcome}
use Rattle.mech.specs.declared.outcome.Outcome.TheVariants.{Piece, Rest, Signature, Wrapped}
use Rattle.mech.specs.declared.work.Work.{Work}
use Rattle.mech.specs.declared.work.Work.TheVariants.{Cipher, Sign, Wrap}

-- what a cipher adds to its output for n bytes of data after t
abbrev pub most_added : Part → Mechanism → Direction → ℕ → ℕ → ℕ
most_added Update mechanism direction t n = length_so_far mechanism direction (t + n) - length_so_far mechanism direction t
most_added Last mechanism direction t n = whole_length mechanism direction (t + n) - length_so_far mechanism direction t

-- the bytes that are output
abbrev pub given_of : Outcome → List ℕ
given_of (Piece output stream) = output
given_of (Rest direction output) = output
given_of (Signature signature) = signature
given_of (Wrapped bytes) = bytes
given_of _ = []

-- how many they may be: what a cipher adds, 64 bytes of a signature, and of a wrapping 8 bytes more than of the value; of
-- other work nothing is said
abbrev pub most_of : Work → Outcome → ℕ
most_of (Cipher stream part input) o = most_added part stream.mechanism stream.direction (length stream.taken) (length input)
most_of (Sign mac input) o = 64
most_of (Wrap key value) o = length value + 8
most_of _ o = length (given_of o)

abbrev pub HasRoom : Work → Outcome → Type 0
HasRoom work o = length (given_of o) ≤ most_of work o
