-- The clients of a worker may cross to another thread: they own all that they have.
use Rattle.std.proofs.Crossing.{crosses}
use denote.RattleType.{RattleType}
use denote.Param.Send.{IsSend, sendable}
use denote.Struct.Field.{row_field}
use denote.Param.SendFields.{declared_send, variants_send, as_row_send}
use Rattle.std.specs.contracts.io.Error as Error
use Rattle.std.specs.contracts.option.Option as Option
use Rattle.lists.specs.contracts.ghost_bytes.GhostBytes as GhostBytes
use Rattle.lists.specs.contracts.ghost_list.GhostList as GhostList
use Rattle.wire.specs.contracts.stream.FrameReader as FrameReader
use Rattle.line.specs.contracts.words.Words as Words
use Rattle.line.specs.contracts.ending.Ending as Ending
use Rattle.watched.specs.contracts.watched.Watched as Watched
use Rattle.watched.specs.contracts.watched.Watched.TheInside as WatchedInside
use Rattle.line.specs.contracts.outbox.Outbox as Outbox
use Rattle.line.specs.contracts.outbox.Outbox.TheInside as OutboxInside
use Rattle.line.specs.contracts.connection.Connection as Connection
use Rattle.line.specs.contracts.connection.Connection.TheInside as ConnectionInside
use Rattle.line_places.specs.contracts.client.Client as Client
use Rattle.line_places.specs.contracts.place.Place as Place
use Rattle.line_places.specs.contracts.places.Places as Places

bytes_send : IsSend GhostBytes.the_row
bytes_send = search sendable

frames_send : IsSend FrameReader.the_row
frames_send = search (sendable, crosses) depth 30 fits 20000

words_send : IsSend Words.the_row
words_send = search (sendable, crosses) depth 30 fits 20000

watched_inside : (R : RattleType) → IsSend R → IsSend (WatchedInside.the_row R)
watched_inside R r = declared_send (WatchedInside.the_type R)
    (as_row_send (row_field R) r, (search sendable depth 8, (search sendable depth 8, (bytes_send, tt))))

watched_send : (R : RattleType) → IsSend R → IsSend (Watched.the_row R)
watched_send R r = search (watched_inside R r, sendable) depth 10

outbox_inside : IsSend OutboxInside.the_row
outbox_inside = declared_send OutboxInside.the_type
    (search (sendable, crosses) depth 30 fits 20000, (search sendable depth 8, (bytes_send, tt)))

outbox_send : IsSend Outbox.the_row
outbox_send = search (outbox_inside, sendable) depth 10

error_send : IsSend Error.the_row
error_send = search (sendable, crosses) depth 30 fits 20000

ending_send : IsSend Ending.the_row
ending_send = variants_send Ending.enum (tt, (tt, (tt, ((error_send, tt), ((error_send, tt), (tt, tt))))))

connection_inside : IsSend ConnectionInside.the_row
connection_inside = declared_send ConnectionInside.the_type (
  frames_send,
  (
    words_send,
    (
      outbox_send,
      (
        search sendable depth 8,
        (
          search sendable depth 8,
          (search sendable depth 8, (bytes_send, (search (ending_send, sendable, crosses) depth 30 fits 20000, tt))),
        ),
      ),
    ),
  ),
)

connection_send : IsSend Connection.the_row
connection_send = search (connection_inside, sendable) depth 10

list_send : (Y : RattleType) → IsSend (GhostList.the_row Y)
list_send Y = search sendable

pub client_send : (R W : RattleType) → IsSend R → IsSend W → IsSend (Client.the_row R W)
client_send R W r w = declared_send (Client.the_type R W) (
  watched_send R r,
  (
    watched_send W w,
    (connection_send, (search sendable depth 8, (search sendable depth 8, (search sendable depth 16, (list_send _, (list_send _, tt)))))),
  ),
)

option_send : (X : RattleType) → IsSend X → IsSend (Option.the_row X)
option_send X x = variants_send (Option.enum X) (tt, ((as_row_send (row_field X) x, tt), tt))

place_send : (R W : RattleType) → IsSend R → IsSend W → IsSend (Place.the_row R W)
place_send R W r w = declared_send (Place.the_type R W)
    (search sendable depth 8, (option_send (Client.the_row R W) (client_send R W r w), tt))

pub places_send : (R W : RattleType) → IsSend R → IsSend W → IsSend (Places.the_row R W)
places_send R W r w = declared_send (Places.the_type R W) (
  search sendable depth 20,
  (
    search sendable depth 8,
    (search (place_send R W r w, sendable, crosses) depth 20, (list_send _, (list_send _, (list_send _, tt)))),
  ),
)
