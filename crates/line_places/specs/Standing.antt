-- How a client stands: what its connection read and wrote, by the calls that it gave and the replies that it took.
use Rattle.std.specs.Prelude.{List, map, Bool, true, false, Option, Some, None}
use Rattle.rand_chacha.specs.ChaCha.{ChaCha}
use Rattle.ck_calls.specs.declared.reply.Reply.{Reply}
use Rattle.ck_calls.specs.declared.app_call.AppCall.{AppCall}
use Rattle.line.specs.declared.ending.Ending.{Ending}
use Rattle.line.specs.State.{Connected}
use Rattle.line.specs.Turns.{Ask}
use Rattle.line.specs.Whole.{Account, Lived, Owes}

-- a call with its random bytes
abbrev pub ask_in : AppCall → Ask
ask_in c = (c.call, c.random.items)

abbrev pub asks_in : List AppCall → List Ask
asks_in calls = map ask_in calls

-- where no call is owed a reply, by whether the connection ended
abbrev pub StandsBy : Option Ending → ChaCha → Connected → List AppCall → List Reply → Type 0
StandsBy None first c asked told = Account first c (asks_in asked) told
StandsBy (Some ending) first c asked told = Lived first c (asks_in asked) told

-- Its calls are those of what its reader gave, in order, with the application's words from the first on. Its writer took the frames
-- of the answers in order, or a beginning of that where the connection ended by a fault.
abbrev pub Stands : ChaCha → Connected → Bool → List AppCall → List Reply → Type 0
Stands first c true asked told = Owes first c (asks_in asked) told
Stands first c false asked told = StandsBy c.ended first c asked told
