-- The ends of a channel may cross to another thread, where its messages may.
use denote.RattleType.{RattleType}
use denote.Param.Send.{IsSend, IsSync, sendable}
use denote.Param.SendFields.{declared_send}
use Rattle.std.proofs.Crossing.{crosses}
use Rattle.std.specs.contracts.alloc.Global as Global
use Rattle.std.specs.contracts.impls.GlobalAllocator.TheImpl.{ghosts}
use Rattle.std.specs.contracts.option.Option as Option
use Rattle.atomic_table.specs.contracts.badge.Badge as Badge
use Rattle.atomic_table.specs.contracts.shared.Seat as Seat
use Rattle.atomic_table.proofs.badge.Badge.TheSendSync.{the_send as badge_send}
use Rattle.atomic_table.proofs.shared.Seat.TheSendSync.{the_send as seat_send}
use Rattle.atomic_table.proofs.shared.Shared.TheSendSync.{the_send as shared_send, the_sync as shared_sync}
use Rattle.atomic_table.proofs.send_lease.SendLease.TheSendSync.{the_send as lease_send, the_sync as lease_sync}
use Rattle.crossbeam_channel.specs.contracts.flavors.array.Doing as Doing
use Rattle.crossbeam_channel.specs.contracts.flavors.array.Key as Key
use Rattle.crossbeam_channel.specs.contracts.flavors.array.Lockers as Lockers
use Rattle.crossbeam_channel.specs.contracts.flavors.array.LockersTableRuleOptionKeyUnit.TheImpl as lockers
use Rattle.crossbeam_channel.specs.contracts.flavors.array.Rounds as Rounds
use Rattle.crossbeam_channel.specs.contracts.flavors.array.RoundsTableRuleBadgeKeyDoingBadgeKey.TheImpl as rounds
use Rattle.crossbeam_channel.specs.contracts.flavors.array.Rows as Rows
use Rattle.crossbeam_channel.specs.contracts.flavors.array.Whole as Whole
use Rattle.crossbeam_channel.specs.contracts.flavors.array.WholeSight.TheImpl as whole
use Rattle.crossbeam_channel.specs.contracts.flavors.array.ruled.Both as Both
use Rattle.crossbeam_channel.specs.contracts.flavors.array.ruled.Receiving as Receiving
use Rattle.crossbeam_channel.specs.contracts.flavors.array.ruled.Sending as Sending
use denote.Builtin.{unit}
use Rattle.crossbeam_channel.specs.contracts.protocol.Free as Free
use Rattle.crossbeam_channel.specs.contracts.protocol.FreeProtocolUnit.TheImpl as free
use Rattle.hall_channels.specs.contracts.ends.Sender as Sender
use Rattle.hall_channels.specs.contracts.ends.Sender.TheInside as SenderInside
use Rattle.hall_channels.specs.contracts.ends.Receiver as Receiver
use Rattle.hall_channels.specs.contracts.ends.Receiver.TheInside as ReceiverInside

rows_send : (S D Q M K L : RattleType) (p : _) (q : _) → IsSend S → IsSend M → IsSend (Rows.the_row S D Q M K L Global.the_row p q ghosts)
rows_send S D Q M K L p q s m = search (shared_send, lease_send, sendable, crosses) depth 30 fits 20000

rows_sync : (S D Q M K L : RattleType) (p : _) (q : _) → IsSend S → IsSend M → IsSync (Rows.the_row S D Q M K L Global.the_row p q ghosts)
rows_sync S D Q M K L p q s m = search (shared_sync, lease_sync, sendable, crosses) depth 30 fits 20000

both_send : (C : RattleType) → IsSend C → IsSend (Both.the_row C)
both_send C s = search (sendable, crosses) depth 20

both_sync : (C : RattleType) → IsSync C → IsSync (Both.the_row C)
both_sync C y = search (sendable, crosses) depth 20

sending_send : (C : RattleType) → IsSend (Both.the_row C) → IsSync (Both.the_row C) → IsSend (Sending.the_row C Global.the_row ghosts)
sending_send C s y = search (sendable, crosses) depth 20

receiving_send : (C : RattleType) → IsSend (Both.the_row C) → IsSync (Both.the_row C) → IsSend (Receiving.the_row C Global.the_row ghosts)
receiving_send C s y = search (sendable, crosses) depth 20

option_send : (T : RattleType) → IsSend T → IsSend (Option.the_row T)
option_send T s = search (sendable, crosses) depth 20

rows_of_send : (M V R : RattleType) (p : _) (q : _) → IsSend M
    → IsSend (Rows.the_row (Badge.the_row (Key.the_row M)) (Doing.the_row M V) (Rounds.the_row R) (Option.the_row M) (Key.the_row M)
    (Lockers.the_row Whole.the_row) Global.the_row p q ghosts)
rows_of_send M V R p q m = rows_send (Badge.the_row (Key.the_row M)) (Doing.the_row M V) (Rounds.the_row R) (Option.the_row M)
    (Key.the_row M) (Lockers.the_row Whole.the_row) p q (badge_send (Key.the_row M)) (option_send M m)

rows_of_sync : (M V R : RattleType) (p : _) (q : _) → IsSend M
    → IsSync (Rows.the_row (Badge.the_row (Key.the_row M)) (Doing.the_row M V) (Rounds.the_row R) (Option.the_row M) (Key.the_row M)
    (Lockers.the_row Whole.the_row) Global.the_row p q ghosts)
rows_of_sync M V R p q m = rows_sync (Badge.the_row (Key.the_row M)) (Doing.the_row M V) (Rounds.the_row R) (Option.the_row M)
    (Key.the_row M) (Lockers.the_row Whole.the_row) p q (badge_send (Key.the_row M)) (option_send M m)

sending_of : (M V R : RattleType) (p : _) (q : _) → IsSend M
    → IsSend (Sending.the_row (Rows.the_row (Badge.the_row (Key.the_row M)) (Doing.the_row M V) (Rounds.the_row R)
    (Option.the_row M) (Key.the_row M) (Lockers.the_row Whole.the_row) Global.the_row p q ghosts) Global.the_row ghosts)
sending_of M V R p q m = sending_send
    (Rows.the_row (Badge.the_row (Key.the_row M)) (Doing.the_row M V) (Rounds.the_row R) (Option.the_row M) (Key.the_row M)
    (Lockers.the_row Whole.the_row) Global.the_row p q ghosts)
    (both_send (Rows.the_row (Badge.the_row (Key.the_row M)) (Doing.the_row M V) (Rounds.the_row R) (Option.the_row M)
    (Key.the_row M) (Lockers.the_row Whole.the_row) Global.the_row p q ghosts) (rows_of_send M V R p q m))
    (both_sync (Rows.the_row (Badge.the_row (Key.the_row M)) (Doing.the_row M V) (Rounds.the_row R) (Option.the_row M)
    (Key.the_row M) (Lockers.the_row Whole.the_row) Global.the_row p q ghosts) (rows_of_sync M V R p q m))

receiving_of : (M V R : RattleType) (p : _) (q : _) → IsSend M
    → IsSend (Receiving.the_row (Rows.the_row (Badge.the_row (Key.the_row M)) (Doing.the_row M V) (Rounds.the_row R)
    (Option.the_row M) (Key.the_row M) (Lockers.the_row Whole.the_row) Global.the_row p q ghosts) Global.the_row ghosts)
receiving_of M V R p q m = receiving_send
    (Rows.the_row (Badge.the_row (Key.the_row M)) (Doing.the_row M V) (Rounds.the_row R) (Option.the_row M) (Key.the_row M)
    (Lockers.the_row Whole.the_row) Global.the_row p q ghosts)
    (both_send (Rows.the_row (Badge.the_row (Key.the_row M)) (Doing.the_row M V) (Rounds.the_row R) (Option.the_row M)
    (Key.the_row M) (Lockers.the_row Whole.the_row) Global.the_row p q ghosts) (rows_of_send M V R p q m))
    (both_sync (Rows.the_row (Badge.the_row (Key.the_row M)) (Doing.the_row M V) (Rounds.the_row R) (Option.the_row M)
    (Key.the_row M) (Lockers.the_row Whole.the_row) Global.the_row p q ghosts) (rows_of_sync M V R p q m))

abbrev pass_row : (M V : RattleType) → RattleType
pass_row M V = Seat.the_row (Badge.the_row (Key.the_row M)) (Doing.the_row M V)

pass_send : (M V : RattleType) → IsSend (pass_row M V)
pass_send M V = seat_send (Badge.the_row (Key.the_row M)) (Doing.the_row M V) (badge_send (Key.the_row M))

sender_inside : (M : RattleType) → IsSend M → IsSend (SenderInside.the_row M)
sender_inside M m = declared_send (SenderInside.the_type M) (
  sending_of M unit Free.the_row (rounds.ghosts M unit Free.the_row (free.ghosts M) rounds.no_dict)
      (lockers.ghosts M M Whole.the_row (whole.ghosts M) lockers.no_dict) m,
  (pass_send M unit, tt),
)

pub sender_send : (M : RattleType) → IsSend M → IsSend (Sender.the_row M)
sender_send M m = search (sender_inside M m, sendable) depth 10

receiver_inside : (M : RattleType) → IsSend M → IsSend (ReceiverInside.the_row M)
receiver_inside M m = declared_send (ReceiverInside.the_type M) (
  receiving_of M unit Free.the_row (rounds.ghosts M unit Free.the_row (free.ghosts M) rounds.no_dict)
      (lockers.ghosts M M Whole.the_row (whole.ghosts M) lockers.no_dict) m,
  (pass_send M unit, tt),
)

pub receiver_send : (M : RattleType) → IsSend M → IsSend (Receiver.the_row M)
receiver_send M m = search (receiver_inside M m, sendable) depth 10
