-- What becomes of a client.
use Rattle.std.specs.Prelude.{◌≡◌, [], ◌∷◌, ◌++◌, true, false, Some, None}
use Rattle.ck_calls.specs.declared.reply.Reply.{Reply}
use Rattle.door.specs.Ends.{Reading, Writing}
use Rattle.serve_base.specs.Short.{IsShortCall}
use Rattle.line.specs.declared.ending.Ending.{Ending as EndingType}
use Rattle.line.specs.declared.next.Next.{Next}
use Rattle.line.specs.declared.next.Next.TheVariants.{Call, Nothing, Ended}
use Rattle.line.specs.Connecting.{Comes, Sends}
use Rattle.line_places.specs.declared.client.Client.{Client}

-- it is the same application's, with the same words
abbrev pub SameApp : {R W : Type 0} → Client R W → Client R W → Type 0
SameApp old new = (new.app ≡ old.app) × (new.first.value ≡ old.first.value)

-- what came of it
abbrev pub ClientGave : {R W : Type 0} → Client R W → Client R W → Next → Type 0
ClientGave old new (Call call) = (call.app ≡ old.app) × (old.is_owed ≡ false) × (new.is_owed ≡ true)
    × (new.asked.items ≡ old.asked.items ++ call ∷ []) × (new.told.items ≡ old.told.items)
ClientGave old new Nothing = (new.is_owed ≡ old.is_owed) × (new.asked.items ≡ old.asked.items) × (new.told.items ≡ old.told.items)
ClientGave old new (Ended ending) = (new.is_owed ≡ false) × (new.connection.ended ≡ Some ending) × (new.asked.items ≡ old.asked.items)
    × (new.told.items ≡ old.told.items)

-- a call that came has data that fits into a frame
abbrev pub IsShortNext : Next → Type 0
IsShortNext (Call call) = IsShortCall call.call
IsShortNext Nothing = Unit {0}
IsShortNext (Ended ending) = Unit {0}

-- it took a reply to its last call
abbrev pub ClientTakes : {R W : Type 0} → Client R W → Client R W → Reply → Type 0
ClientTakes old new reply = (new.is_owed ≡ false) × (new.asked.items ≡ old.asked.items) × (new.told.items ≡ old.told.items ++ reply ∷ [])

-- neither its connection nor its ends were touched
pub record ClientIsStill {R W : Type 0} (old new : Client R W) : Type 0 where
  pub connection : new.connection ≡ old.connection
  pub reader : new.reader ≡ old.reader
  pub writer : new.writer ≡ old.writer

-- Its connection went on over its own reader and its own writer. Nothing was done where it owes a reply, or its connection has ended.
pub record Went {R W : Type 0} (reading : R → Reading) (writing : W → Writing) (old new : Client R W) (next : Next) : Type 0 where
  pub goes : old.is_owed ≡ false → old.connection.ended ≡ None
      → Comes reading writing old.reader new.reader old.writer new.writer old.connection new.connection (Some next)
  pub over : (why : EndingType) → old.is_owed ≡ false → old.connection.ended ≡ Some why → ClientIsStill old new × (next ≡ Ended why)
  pub owes : old.is_owed ≡ true → ClientIsStill old new × (next ≡ Nothing)

-- The reply went to its own writer, where its connection had not ended.
pub record Sent {R W : Type 0} (writing : W → Writing) (old new : Client R W) (reply : Reply) : Type 0 where
  pub sends : old.connection.ended ≡ None → Sends writing old.writer new.writer old.connection new.connection reply
  pub over : (why : EndingType) → old.connection.ended ≡ Some why → ClientIsStill old new
  pub reader : new.reader ≡ old.reader
