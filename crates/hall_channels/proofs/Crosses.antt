-- Messages may cross to another thread: they own all that they have.
use Rattle.std.proofs.Crossing.{crosses, Box-send}
use denote.Param.Send.{IsSend, sendable}
use denote.Param.SendFields.{declared_send, variants_send, as_row_send}
use Rattle.ck_calls.specs.contracts.fields.Mechanism as Mechanism
use Rattle.ck_calls.specs.contracts.fields.AttributeQuery as AttributeQuery
use Rattle.streams.specs.contracts.kept.Kept as Kept
use Rattle.streams.specs.contracts.ecb_encryption.EcbEncryption as EcbEncryption
use Rattle.streams.specs.contracts.ecb_decryption.EcbDecryption as EcbDecryption
use Rattle.streams.specs.contracts.cbc_encryption.CbcEncryption as CbcEncryption
use Rattle.streams.specs.contracts.cbc_decryption.CbcDecryption as CbcDecryption
use Rattle.streams.specs.contracts.ctr_stream.CtrStream as CtrStream
use Rattle.streams.specs.contracts.state.State as State
use Rattle.streams.specs.contracts.stream.Stream as Stream
use Rattle.macs.specs.contracts.cmac_stream.CmacStream as CmacStream
use Rattle.macs.specs.contracts.state.State as MacState
use Rattle.macs.specs.contracts.mac.Mac as Mac
use Rattle.macs.specs.contracts.mac.Mac.TheInside as MacInside
use Rattle.sha2.specs.contracts.Sha224 as Sha224
use Rattle.sha2.specs.contracts.Sha256 as Sha256
use Rattle.sha2.specs.contracts.Sha384 as Sha384
use Rattle.sha2.specs.contracts.Sha512 as Sha512
use Rattle.ck_types.specs.contracts.items.Items as Items
use Rattle.ck_types.specs.contracts.entry.Entry as Entry
use denote.RattleType.{RattleType}
use Rattle.ck_types.specs.contracts.label.Label as Label
use Rattle.attrs.specs.contracts.object.Object as Object
use Rattle.pin_record.specs.contracts.verifier.Verifier as Verifier
use Rattle.mech.specs.contracts.work.Work as Work
use Rattle.mech.specs.contracts.outcome.Outcome as Outcome
use Rattle.mech.specs.contracts.job.Job as Job
use Rattle.mech.specs.contracts.job_cell.JobCell as JobCell
use Rattle.mech.specs.contracts.done.Done as Done
use Rattle.ck_calls.specs.contracts.call.Call as Call
use Rattle.ck_calls.specs.contracts.reply.Reply as Reply
use Rattle.serve_base.specs.contracts.out.Out as Out
use Rattle.hall_log.specs.contracts.event.Event as Event
use Rattle.hall_channels.specs.contracts.messages.Message as Message
use Rattle.hall_log.proofs.Crosses.{post_send, putter_send, receipt_send}
use Rattle.hall_channels.specs.contracts.messages.Posted as Posted
use Rattle.hall_channels.specs.contracts.messages.Answered as Answered
use Rattle.hall_channels.specs.contracts.messages.Returned as Returned
use Rattle.hall_channels.specs.contracts.messages.Inward as Inward
use Rattle.hall_channels.specs.contracts.messages.Outward as Outward
use Rattle.hall_channels.specs.contracts.patience.Patience as Patience
use Rattle.hall_channels.specs.contracts.port.Port as Port
use denote.Struct.Field.{row_field}
use Rattle.std.specs.contracts.alloc.Global as Global
use Rattle.std.specs.contracts.boxed.Box as Box
use Rattle.std.specs.contracts.option.Option as Option
use Rattle.std.specs.contracts.impls.GlobalAllocator.TheImpl.{ghosts as global}
use Rattle.hall_channels.proofs.EndsCross.{receiver_send, sender_send}
use Rattle.lists.specs.contracts.ghost_bytes.GhostBytes as GhostBytes
use Rattle.streams.specs.contracts.stream.Stream.TheInside as Inside
use Rattle.aes_vector.specs.contracts.Key as Key
use Rattle.ck_calls.specs.contracts.app_call.AppCall as AppCall

kept_send : IsSend Kept.the_row
kept_send = search sendable depth 8

noted_send : IsSend GhostBytes.the_row
noted_send = search sendable

key_send : IsSend Key.the_row
key_send = search sendable depth 8

ecb_send : IsSend EcbEncryption.the_row
ecb_send = search (kept_send, noted_send, key_send, sendable) depth 16

ecbd_send : IsSend EcbDecryption.the_row
ecbd_send = search (kept_send, noted_send, key_send, sendable) depth 16

cbc_send : IsSend CbcEncryption.the_row
cbc_send = search (kept_send, noted_send, key_send, sendable) depth 16

cbcd_send : IsSend CbcDecryption.the_row
cbcd_send = search (kept_send, noted_send, key_send, sendable) depth 16

ctr_send : IsSend CtrStream.the_row
ctr_send = search (kept_send, noted_send, key_send, sendable) depth 16

state_send : IsSend State.the_row
state_send = search (ecb_send, ecbd_send, cbc_send, cbcd_send, ctr_send, sendable) depth 40

inside_send : IsSend Inside.the_row
inside_send = declared_send Inside.the_type (state_send, (search sendable depth 8, tt))

stream_send : IsSend Stream.the_row
stream_send = search (inside_send, sendable) depth 10

cmac_send : IsSend CmacStream.the_row
cmac_send = search (noted_send, key_send, sendable) depth 16

s224 : IsSend Sha224.the_row
s224 = search (sendable, crosses) depth 16

s256 : IsSend Sha256.the_row
s256 = search (sendable, crosses) depth 16

s384 : IsSend Sha384.the_row
s384 = search (sendable, crosses) depth 16

s512 : IsSend Sha512.the_row
s512 = search (sendable, crosses) depth 16

macstate_send : IsSend MacState.the_row
macstate_send = search (cmac_send, noted_send, s224, s256, s384, s512, sendable) depth 30

macinside_send : IsSend MacInside.the_row
macinside_send = declared_send MacInside.the_type (macstate_send, (search sendable depth 8, tt))

mac_send : IsSend Mac.the_row
mac_send = search (macinside_send, sendable) depth 10

items_send : (R : RattleType) → IsSend R → IsSend (Items.the_row R)
items_send R s = search (sendable, crosses) depth 30 fits 20000

object_send : IsSend Object.the_row
object_send = search (sendable, crosses) depth 40 fits 40000

verifier_send : IsSend Verifier.the_row
verifier_send = search (sendable, crosses) depth 30 fits 20000

label_send : IsSend Label.the_row
label_send = search (sendable, crosses) depth 30 fits 20000

work_send : IsSend Work.the_row
work_send = search (stream_send, mac_send, key_send, items_send, verifier_send, label_send, sendable) depth 60 fits 20000

outcome_send : IsSend Outcome.the_row
outcome_send = search (stream_send, mac_send, object_send, items_send, verifier_send, label_send, sendable) depth 60 fits 20000

cell_send : IsSend JobCell.the_row
cell_send = variants_send JobCell.enum ((work_send, tt), ((outcome_send, tt), (tt, tt)))

job_send : IsSend Job.the_row
job_send = declared_send Job.the_type (
  search sendable depth 20,
  (
    search sendable depth 20,
    (
      search sendable depth 60 fits 20000,
      (search sendable depth 20, (search (work_send, sendable, crosses) depth 20, (Box-send JobCell.the_row cell_send, tt))),
    ),
  ),
)

done_send : IsSend Done.the_row
done_send = declared_send Done.the_type (
  search sendable depth 20,
  (
    search sendable depth 20,
    (search sendable depth 60 fits 20000, (Box-send JobCell.the_row cell_send, (search (job_send, sendable, crosses) depth 20, tt))),
  ),
)

reply_send : IsSend Reply.the_row
reply_send = search (items_send, label_send, sendable, crosses) depth 200 fits 100000

out_send : IsSend Out.the_row
out_send = variants_send Out.enum ((reply_send, tt), ((job_send, tt), tt))

entry_send : IsSend Entry.the_row
entry_send = search (sendable, crosses) depth 30

mechanism_send : IsSend Mechanism.the_row
mechanism_send = declared_send Mechanism.the_type (search sendable depth 20, (search (items_send, sendable) depth 20, tt))

query_send : IsSend AttributeQuery.the_row
query_send = search (sendable, crosses) depth 30

call_send : IsSend Call.the_row
call_send = variants_send Call.enum (
  (search sendable depth 20, tt),
  (
    (search sendable depth 20, tt),
    (
      (search sendable depth 20, (search sendable depth 20, tt)),
      (
        (search sendable depth 20, (search (items_send, sendable) depth 20, (search (items_send, sendable) depth 20, tt))),
        (
          (search sendable depth 20, (search (items_send, sendable) depth 20, tt)),
          (
            (search sendable depth 20, (search (items_send, sendable) depth 20, (search (items_send, sendable) depth 20, tt))),
            (
              (search sendable depth 20, (search sendable depth 20, tt)),
              (
                (search sendable depth 20, tt),
                (
                  (search sendable depth 20, tt),
                  (
                    (search sendable depth 20, tt),
                    (
                      (search sendable depth 20, (search sendable depth 20, (search (items_send, sendable) depth 20, tt))),
                      (
                        (search sendable depth 20, tt),
                        (
                          (search sendable depth 20, (search (items_send, entry_send, sendable) depth 20, tt)),
                          (
                            (
                              search sendable depth 20,
                              (
                                search sendable depth 20,
                                (search (items_send, entry_send, sendable) depth 20, tt),
                              ),
                            ),
                            (
                              (search sendable depth 20, (search sendable depth 20, tt)),
                              (
                                (search sendable depth 20, (search sendable depth 20, tt)),
                                (
                                  (
                                    search sendable depth 20,
                                    (
                                      search sendable depth 20,
                                      (search (items_send, query_send, sendable) depth 20, tt),
                                    ),
                                  ),
                                  (
                                    (
                                      search sendable depth 20,
                                      (
                                        search sendable depth 20,
                                        (search (items_send, entry_send, sendable) depth 20, tt),
                                      ),
                                    ),
                                    (
                                      (search sendable depth 20, (search (items_send, entry_send, sendable) depth 20, tt)),
                                      (
                                        (search sendable depth 20, (search sendable depth 20, tt)),
                                        (
                                          (search sendable depth 20, tt),
                                          (
                                            (
                                              search sendable depth 20,
                                              (
                                                search (mechanism_send, sendable, crosses) depth 20,
                                                (search sendable depth 20, tt),
                                              ),
                                            ),
                                            (
                                              (
                                                search sendable depth 20,
                                                (
                                                  search (items_send, sendable) depth 20,
                                                  (search (sendable, crosses) depth 20, tt),
                                                ),
                                              ),
                                              (
                                                (
                                                  search sendable depth 20,
                                                  (
                                                    search (items_send, sendable) depth 20,
                                                    (search (sendable, crosses) depth 20, tt),
                                                  ),
                                                ),
                                                (
                                                  (search sendable depth 20, (search (sendable, crosses) depth 20, tt)),
                                                  (
                                                    (
                                                      search sendable depth 20,
                                                      (
                                                        search (mechanism_send, sendable, crosses) depth 20,
                                                        (search sendable depth 20, tt),
                                                      ),
                                                    ),
                                                    (
                                                      (
                                                        search sendable depth 20,
                                                        (
                                                          search (items_send, sendable) depth 20,
                                                          (search (sendable, crosses) depth 20, tt),
                                                        ),
                                                      ),
                                                      (
                                                        (
                                                          search sendable depth 20,
                                                          (
                                                            search (items_send, sendable) depth 20,
                                                            (search (sendable, crosses) depth 20, tt),
                                                          ),
                                                        ),
                                                        (
                                                          (search sendable depth 20, (search (sendable, crosses) depth 20, tt)),
                                                          (
                                                            (
                                                              search sendable depth 20,
                                                              (
                                                                search
                                                                    (mechanism_send, sendable, crosses) depth 20,
                                                                (search sendable depth 20, tt),
                                                              ),
                                                            ),
                                                            (
                                                              (
                                                                search sendable depth 20,
                                                                (
                                                                  search (items_send, sendable) depth 20,
                                                                  (search (sendable, crosses) depth 20, tt),
                                                                ),
                                                              ),
                                                              (
                                                                (search sendable depth 20, (search (items_send, sendable) depth 20, tt)),
                                                                (
                                                                  (search sendable depth 20, (search (sendable, crosses) depth 20, tt)),
                                                                  (
                                                                    (
                                                                      search sendable depth 20,
                                                                      (
                                                                        search
                                                                            (mechanism_send, sendable, crosses) depth 20,
                                                                        (search sendable depth 20, tt),
                                                                      ),
                                                                    ),
                                                                    (
                                                                      (
                                                                        search sendable depth 20,
                                                                        (
                                                                          search
                                                                              (items_send, sendable) depth 20,
                                                                          (search (items_send, sendable) depth 20, tt),
                                                                        ),
                                                                      ),
                                                                      (
                                                                        (
                                                                          search sendable depth 20,
                                                                          (
                                                                            search
                                                                                (items_send, sendable) depth 20,
                                                                            tt,
                                                                          ),
                                                                        ),
                                                                        (
                                                                          (
                                                                            search sendable depth 20,
                                                                            (
                                                                              search
                                                                                  (items_send, sendable) depth 20,
                                                                              tt,
                                                                            ),
                                                                          ),
                                                                          (
                                                                            (
                                                                              search sendable depth 20,
                                                                              (
                                                                                mechanism_send,
                                                                                (search (items_send, entry_send, sendable) depth 20, tt),
                                                                              ),
                                                                            ),
                                                                            (
                                                                              (
                                                                                search sendable depth 20,
                                                                                (
                                                                                  mechanism_send,
                                                                                  (
                                                                                    search sendable depth 20,
                                                                                    (
                                                                                      search sendable depth
                                                                                          20,
                                                                                      (search (sendable, crosses) depth 20, tt),
                                                                                    ),
                                                                                  ),
                                                                                ),
                                                                              ),
                                                                              (
                                                                                (
                                                                                  search sendable depth 20,
                                                                                  (
                                                                                    mechanism_send,
                                                                                    (
                                                                                      search sendable depth 20,
                                                                                      (
                                                                                        search
                                                                                            (items_send, sendable) depth 20,
                                                                                        (
                                                                                          search (
                                                                                            items_send,
                                                                                            entry_send,
                                                                                            sendable,
                                                                                          ) depth 20,
                                                                                          tt,
                                                                                        ),
                                                                                      ),
                                                                                    ),
                                                                                  ),
                                                                                ),
                                                                                (
                                                                                  (
                                                                                    search sendable depth 20,
                                                                                    (
                                                                                      search sendable depth
                                                                                          20,
                                                                                      tt,
                                                                                    ),
                                                                                  ),
                                                                                  tt,
                                                                                ),
                                                                              ),
                                                                            ),
                                                                          ),
                                                                        ),
                                                                      ),
                                                                    ),
                                                                  ),
                                                                ),
                                                              ),
                                                            ),
                                                          ),
                                                        ),
                                                      ),
                                                    ),
                                                  ),
                                                ),
                                              ),
                                            ),
                                          ),
                                        ),
                                      ),
                                    ),
                                  ),
                                ),
                              ),
                            ),
                          ),
                        ),
                      ),
                    ),
                  ),
                ),
              ),
            ),
          ),
        ),
      ),
    ),
  ),
)

appcall_send : IsSend AppCall.the_row
appcall_send = declared_send AppCall.the_type (search sendable depth 20, (call_send, (search (sendable, crosses) depth 20, tt)))

event_send : IsSend Event.the_row
event_send = variants_send Event.enum
    ((appcall_send, tt), ((search sendable depth 20, (done_send, tt)), ((search sendable depth 20, tt), tt)))

pub message_send : IsSend Message.the_row
message_send = declared_send Message.the_type (event_send, (out_send, tt))

-- ---- what carries the log's word

option_send : (X : RattleType) → IsSend X → IsSend (Option.the_row X)
option_send X x = variants_send (Option.enum X) (tt, ((as_row_send (row_field X) x, tt), tt))

patience_send : IsSend Patience.the_row
patience_send = declared_send Patience.the_type (
  search sendable depth 8,
  (
    search sendable depth 8,
    (
      search sendable depth 8,
      (search sendable depth 8, (search sendable depth 8, (search sendable depth 20, tt))),
    ),
  ),
)

module _ (J : RattleType) (n : _) where
  posted_send : IsSend (Posted.the_row J n)
  posted_send = declared_send (Posted.the_type J n) (Box-send Message.the_row message_send, (post_send J n, tt))

  answered_send : IsSend (Answered.the_row J n)
  answered_send = declared_send (Answered.the_type J n) (Box-send Message.the_row message_send, (receipt_send J n, tt))

  returned_send : IsSend (Returned.the_row J n)
  returned_send = declared_send (Returned.the_type J n) (Box-send Message.the_row message_send, (receipt_send J n, tt))

  inward_send : IsSend (Inward.the_row J n)
  inward_send = variants_send (Inward.enum J n) ((posted_send, tt), ((search sendable depth 20, (search sendable depth 20, tt)), tt))

  outward_send : IsSend (Outward.the_row J n)
  outward_send = variants_send (Outward.enum J n)
      ((Box-send Message.the_row message_send, tt), ((answered_send, tt), ((returned_send, tt), (tt, tt))))

  pub port_send : IsSend (Port.the_row J n)
  port_send = declared_send (Port.the_type J n) (
    option_send (Box.the_row Message.the_row Global.the_row global) (Box-send Message.the_row message_send),
    (
      putter_send J n,
      (
        sender_send (Inward.the_row J n) inward_send,
        (receiver_send (Outward.the_row J n) outward_send, (patience_send, tt)),
      ),
    ),
  )
