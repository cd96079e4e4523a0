-- The log, its rule, and what steps tell.
use Rattle.std.specs.Prelude.{◌≡◌, ℕ, ◌+◌, true, cond, nat_eq, List, [], ◌∷◌, ◌++◌, length, Some, slice_get, Option}
use mathlib.Core.List.{IsPrefix}
use Rattle.logbook.specs.Pages.{Book, Cell, Named, Step, View}
use Rattle.serve_base.specs.declared.out.Out.{Out}
use Rattle.hall_log.specs.declared.event.Event.{Event}
use Rattle.hall_log.specs.declared.entry.Entry.{Entry}
use Rattle.hall_log.specs.declared.entry.Entry.TheVariants.{Put, Served}
use Rattle.hall_log.specs.Lists.{of}
use Rattle.hall_log.specs.Histories.{History, events, answered}

-- what seat s put, in order
abbrev pub puts : ℕ → List Entry → List Event
puts s [] = []
puts s (Put t c ∷ es) = cond (nat_eq t s) (c ∷ puts s es) (puts s es)
puts s (Served t c a ∷ es) = puts s es

-- what was served, in order
abbrev pub served : List Entry → History
served [] = []
served (Put t c ∷ es) = served es
served (Served t c a ∷ es) = (t, (c, a)) ∷ served es

-- of each seat was served what it put, in its order
abbrev pub Orderly : List Entry → Type 0
Orderly log = (s : ℕ) → IsPrefix (events (of s (served log))) (puts s log)

-- a word counts what each seat put, and one what was served
abbrev pub words_of : List Entry → List Cell
words_of log =
    (length (puts 0 log), true) ∷ (length (puts 1 log), true) ∷ (length (puts 2 log), true) ∷ (length (puts 3 log), true)
    ∷ (length (served log), true) ∷ []

pub record IsKept (cells : List Cell) (log : List Entry) : Type 0 where
  pub words : cells ≡ words_of log
  pub orderly : Orderly log

-- the word of this key
abbrev pub word_of : Book → ℕ → Named
word_of b k = record { tracked = true; key = k; book = b }

-- the event that an entry puts
abbrev pub put_by : Entry → List Event
put_by (Put t c) = c ∷ []
put_by (Served t c a) = []

-- the exchange that an entry serves
abbrev pub served_by : Entry → History
served_by (Put t c) = []
served_by (Served t c a) = (t, (c, a)) ∷ []

-- where the word was what was expected: of this seat, just this event was put since
abbrev pub PutSays : Step Entry → View Entry ℕ → ℕ → View Entry ℕ → Type 0
PutSays s v found w = found ≡ s.old → (puts s.key w.0 ≡ puts s.key v.0 ++ put_by s.ask) × Orderly w.0

-- where the word was what was expected: just this was served since
abbrev pub ServeSays : Step Entry → View Entry ℕ → ℕ → View Entry ℕ → Type 0
ServeSays s v found w = found ≡ s.old → (served w.0 ≡ served v.0 ++ served_by s.ask) × (length (served v.0) ≡ s.old) × Orderly w.0

-- Seat s put this event, and so many before it.
abbrev pub HasPut : List Entry → ℕ → Event → ℕ → Type 0
HasPut log s c number = slice_get (puts s log) number ≡ Some c

-- The last exchange of seat s was answered so, and it had so many before.
abbrev pub HasGot : List Entry → ℕ → Option Out → ℕ → Type 0
HasGot log s answer number = (length (of s (served log)) ≡ number + 1) × (slice_get (answered (of s (served log))) number ≡ Some answer)
