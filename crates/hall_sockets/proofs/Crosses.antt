-- A seat may cross to another thread: it owns all that it has, and what it shares may be shared.
use Rattle.std.proofs.Crossing.{crosses}
use denote.RattleType.{RattleType}
use denote.Param.Send.{IsSend, IsSync, sendable}
use denote.Struct.Field.{row_field}
use denote.Param.SendFields.{declared_send, as_row_send}
use Rattle.door.specs.contracts.pair.Reader as Reader
use Rattle.door.specs.contracts.pair.Writer as Writer
use Rattle.door.proofs.Crosses.{door_send, reader_send, writer_send}
use Rattle.line_places.specs.contracts.places.Places as Places
use Rattle.line_places.proofs.Crosses.{places_send}
use Rattle.hall_sockets.specs.contracts.audit.Audited as Audited
use Rattle.hall_sockets.specs.contracts.loads.Loads as Loads
use Rattle.hall_sockets.specs.contracts.queue.Queue as Queue
use Rattle.hall_sockets.specs.contracts.sockets.Sockets as Sockets
use Rattle.hall_sockets.specs.contracts.seat.SocketSeat as SocketSeat

clients_send : (S : RattleType) → IsSend S → IsSync S → IsSend (Places.the_row (Reader.the_row S) (Writer.the_row S))
clients_send S send sync = places_send (Reader.the_row S) (Writer.the_row S) (reader_send S send sync) (writer_send S send sync)

loads_send : IsSend Loads.the_row
loads_send = search (sendable, crosses) depth 30

loads_sync : IsSync Loads.the_row
loads_sync = search (sendable, crosses) depth 30

sockets_send : IsSend Sockets.the_row
sockets_send = search (sendable, crosses) depth 30

sockets_sync : IsSync Sockets.the_row
sockets_sync = search (sendable, crosses) depth 30

audited_send : IsSend Audited.the_row
audited_send = search sendable depth 20

queue_send : IsSend Queue.the_row
queue_send = declared_send Queue.the_type (
  search (sendable, crosses) depth 30,
  (
    search (sendable, crosses) depth 30,
    (
      search (sendable, crosses) depth 30,
      (
        search (sendable, crosses) depth 30,
        (
          search (sendable, crosses) depth 30,
          (
            search (sendable, crosses) depth 30,
            (
              search (sendable, crosses) depth 30,
              (
                search (sendable, crosses) depth 30,
                (search (sendable, crosses) depth 30, tt),
              ),
            ),
          ),
        ),
      ),
    ),
  ),
)

pub seat_send : (S L C : RattleType) → IsSend S → IsSync S → IsSend L → IsSend C → IsSend (SocketSeat.the_row S L C)
seat_send S L C send sync l c = declared_send (SocketSeat.the_type S L C) (
  search sendable depth 8,
  (
    as_row_send (row_field C) c,
    (
      as_row_send (row_field L) l,
      (
        search (sendable, crosses) depth 30,
        (
          search (loads_send, loads_sync, sendable, crosses) depth 30,
          (
            search (sockets_send, sockets_sync, sendable, crosses) depth 30,
            (
              door_send S send sync,
              (
                search (sendable, crosses) depth 30 fits 20000,
                (
                  search (sendable, crosses) depth 30 fits 20000,
                  (
                    clients_send S send sync,
                    (
                      search sendable depth 8,
                      (
                        search sendable depth 8,
                        (
                          search sendable depth 20,
                          (
                            search sendable depth 20,
                            (
                              search sendable depth 20,
                              (
                                search sendable depth 20,
                                (
                                  queue_send,
                                  (
                                    search sendable depth 8,
                                    (
                                      search sendable depth 8,
                                      (
                                        search (audited_send, sendable, crosses) depth 30,
                                        (
                                          search sendable depth 8,
                                          (
                                            search (sendable, crosses) depth 30,
                                            (
                                              search sendable depth 8,
                                              (
                                                search (sendable, crosses) depth 30,
                                                (
                                                  search sendable depth 20,
                                                  (
                                                    search sendable depth 20,
                                                    (
                                                      search sendable depth 20,
                                                      (
                                                        search sendable depth 8,
                                                        (
                                                          search sendable depth 8,
                                                          (
                                                            search sendable depth 8,
                                                            (search sendable depth 8, tt),
                                                          ),
                                                        ),
                                                      ),
                                                    ),
                                                  ),
                                                ),
                                              ),
                                            ),
                                          ),
                                        ),
                                      ),
                                    ),
                                  ),
                                ),
                              ),
                            ),
                          ),
                        ),
                      ),
                    ),
                  ),
                ),
              ),
            ),
          ),
        ),
      ),
    ),
  ),
)
