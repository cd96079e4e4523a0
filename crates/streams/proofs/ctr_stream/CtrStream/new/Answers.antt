use Rattle.std.proofs.Common.{◌++◌, ◌≤◌, ◌*◌, ◌∙◌, ap, sym, arith, drop}
use Rattle.streams_model.specs.Flows.{blocks_done}
use Rattle.streams_model.proofs.CtrLaw.{begun_left, begun_number, begun_output}
use Rattle.streams.proofs.ctr_stream.CtrStream.new.Goals as goal

pub invariant_of-result : goal.invariant_of-result
invariant_of-result c =
    let le : c.args.bits ≤ 128 = omega (arith, c.number.ensures.value, c.number.ensures.range) in
    let first = c.push.ensures ∙ ap (λ b. b ++ c.args.start) c.new-first.ensures in
    record {
      number = begun_number c.args.start _ _ _ c.from_be_bytes-number.ensures first c.new-2.ensures;
      left = begun_left c.args.start _ _ c.args.bits _ _ le c.number.ensures.value c.from_be_bytes-number.ensures first c.new-2.ensures;
      bits = le;
      is_key = c.size-size.ensures.key;
      bytes = begun_output c.args.key _ _ c.args.bits c.new-2.ensures;
      kept = c.new.ensures ∙ ap (λ l. drop (16 * blocks_done 1 l) l) (sym c.new-2.ensures);
    }
