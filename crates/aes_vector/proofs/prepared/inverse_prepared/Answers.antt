use Rattle.std.proofs.Common.{◌∙◌, arith}
use Rattle.aes_vector.proofs.StoredRoundKeys.{IsBlock-part}
use Rattle.aes_vector.proofs.prepared.inverse_prepared.Goals as goal

pub returns : goal.returns
returns c =
    let w = c.args.schedule.now in
    let n = c.args.rounds in
    record {
      blocks = λ r le. IsBlock-part w r c.are_bytes.ensures (omega arith);
      first = c.store-2.ensures.others 0 (omega arith) (omega arith) ∙ c.middle.invariant.first;
      middle = λ i low lt. c.store-2.ensures.others i (omega arith) (omega arith) ∙ c.middle.invariant.so_far i (omega arith) low;
      last = c.store-2.ensures.here ∙ c.round_key-2.ensures;
    }
