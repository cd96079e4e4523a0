-- Ends and doors may cross to another thread: the ends of a socket share it, where it may be shared.
use Rattle.std.proofs.Crossing.{crosses}
use denote.RattleType.{RattleType}
use denote.Param.Send.{IsSend, IsSync, sendable}
use denote.Param.SendFields.{declared_send}
use Rattle.std.specs.contracts.net.unix.UnixListener as UnixListener
use Rattle.lists.specs.contracts.ghost_bytes.GhostBytes as GhostBytes
use Rattle.lists.specs.contracts.ghost_list.GhostList as GhostList
use Rattle.door.specs.contracts.notes.Gave as Gave
use Rattle.door.specs.contracts.notes.Gave.TheInside as GaveInside
use Rattle.door.specs.contracts.notes.Took as Took
use Rattle.door.specs.contracts.notes.Took.TheInside as TookInside
use Rattle.door.specs.contracts.pair.Reader as Reader
use Rattle.door.specs.contracts.pair.Reader.TheInside as ReaderInside
use Rattle.door.specs.contracts.pair.Writer as Writer
use Rattle.door.specs.contracts.pair.Writer.TheInside as WriterInside
use Rattle.door.specs.contracts.listening.Door as Door
use Rattle.door.specs.contracts.listening.Door.TheInside as DoorInside

listener_send : IsSend UnixListener.the_row
listener_send = search sendable depth 16

bytes_send : IsSend GhostBytes.the_row
bytes_send = search sendable

list_send : (Y : RattleType) → IsSend (GhostList.the_row Y)
list_send Y = search sendable

gave_inside : IsSend GaveInside.the_row
gave_inside = declared_send GaveInside.the_type (search sendable depth 8, (bytes_send, tt))

gave_send : IsSend Gave.the_row
gave_send = search (gave_inside, sendable) depth 10

took_inside : IsSend TookInside.the_row
took_inside = declared_send TookInside.the_type (search sendable depth 8, (bytes_send, tt))

took_send : IsSend Took.the_row
took_send = search (took_inside, sendable) depth 10

module _ (S : RattleType) (send : IsSend S) (sync : IsSync S) where
  reader_inside : IsSend (ReaderInside.the_row S)
  reader_inside = declared_send (ReaderInside.the_type S) (search (send, sync, sendable, crosses) depth 30, (gave_send, tt))

  pub reader_send : IsSend (Reader.the_row S)
  reader_send = search (reader_inside, sendable) depth 10

  writer_inside : IsSend (WriterInside.the_row S)
  writer_inside = declared_send (WriterInside.the_type S) (search (send, sync, sendable, crosses) depth 30, (took_send, tt))

  pub writer_send : IsSend (Writer.the_row S)
  writer_send = search (writer_inside, sendable) depth 10

  door_inside : IsSend (DoorInside.the_row S)
  door_inside = declared_send (DoorInside.the_type S) (
    search (listener_send, sendable, crosses) depth 30,
    (search sendable depth 8, (list_send _, (search (sendable, crosses) depth 30, tt))),
  )

  pub door_send : IsSend (Door.the_row S)
  door_send = search (door_inside, sendable) depth 10
