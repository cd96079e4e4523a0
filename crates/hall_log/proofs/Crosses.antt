-- What a seat and the token pass of the log may cross to another thread: no memory holds the log.
use denote.RattleType.{RattleType}
use denote.Param.Send.{IsSend, sendable}
use denote.Param.SendFields.{declared_send}
use Rattle.hall_log.specs.contracts.event.Event as Event
use Rattle.std.specs.contracts.snapshot.Snapshot as Snapshot
use Rattle.logbook.proofs.tokens.Seen.TheSendSync.{the_send as seen_send}
use Rattle.logbook.proofs.word.Word.TheSendSync.{the_send as word_send}
use Rattle.hall_log.specs.contracts.reached.Reached as Reached
use Rattle.hall_log.specs.contracts.reached.Reached.TheInside as ReachedInside
use Rattle.hall_log.specs.contracts.reached.Told as Told
use Rattle.hall_log.specs.contracts.reached.Told.TheInside as ToldInside
use Rattle.hall_log.specs.contracts.putting.Putter as Putter
use Rattle.hall_log.specs.contracts.putting.Putter.TheInside as PutterInside
use Rattle.hall_log.specs.contracts.post.Post as Post
use Rattle.hall_log.specs.contracts.post.Receipt as Receipt

event_snapshot : IsSend (Snapshot.the_row Event.the_row)
event_snapshot = search sendable depth 20

module _ (J : RattleType) (n : _) where
  reached_inside : IsSend (ReachedInside.the_row J n)
  reached_inside = declared_send (ReachedInside.the_type J n) (search (seen_send, sendable) depth 20, (search sendable depth 20, tt))

  reached_send : IsSend (Reached.the_row J n)
  reached_send = search (reached_inside, sendable) depth 10

  told_inside : IsSend (ToldInside.the_row J n)
  told_inside = declared_send (ToldInside.the_type J n) (reached_send, tt)

  told_send : IsSend (Told.the_row J n)
  told_send = search (told_inside, sendable) depth 10

  pub post_send : IsSend (Post.the_row J n)
  post_send = declared_send (Post.the_type J n)
      (search sendable depth 8, (search sendable depth 8, (event_snapshot, (reached_send, (told_send, tt)))))

  pub receipt_send : IsSend (Receipt.the_row J n)
  receipt_send = declared_send (Receipt.the_type J n)
      (search sendable depth 8, (search sendable depth 8, (search sendable depth 20, (told_send, tt))))

  putter_inside : IsSend (PutterInside.the_row J n)
  putter_inside = declared_send (PutterInside.the_type J n)
      (search sendable depth 8, (search sendable depth 8, (search (word_send, sendable) depth 20, (reached_send, (told_send, tt)))))

  pub putter_send : IsSend (Putter.the_row J n)
  putter_send = search (putter_inside, sendable) depth 10
