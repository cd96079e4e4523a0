use Rattle.std.proofs.Common.{◌≤◌, ◌+◌, ◌-◌, ◌/◌, ◌++◌, ◌∙◌, ap, sym, subst, refl, arith, length, ◌<◌}
use Rattle.std.proofs.lemmas.List.Elements.{All-append}
use Rattle.fips_197.specs.Bytes.{AreBytes}
use Rattle.streams_model.specs.Flows.{blocks_done}
use Rattle.streams_model.specs.Countings.{ctr_output}
use Rattle.streams_model.proofs.CtrLaw.{fits_further, number_further, left_further, output_further}
use Rattle.streams_model.proofs.Pieces.{kept_held}
use Rattle.streams.proofs.ctr_stream.CtrStream.update.Goals as goal

pub joined_counters-requires : goal.joined_counters-requires
joined_counters-requires c =
    let s = c.self.inside in
    let h = c.self.invariant in
    let within : (length s.kept + length c.args.piece.now - 1) / 16 ≤ s.left =
    omega (arith, c.if-blocks-self.false, c.saturating_sub-blocks.ensures, c.len-used.ensures.value) in
    fits_further s.start.bytes s.bits (blocks_done 1 s.taken.bytes) _ s.number s.left h.bits h.number (omega arith) h.left within

pub overflow_add-self : goal.overflow_add-self
overflow_add-self c =
    let s = c.self.inside in
    let h = c.self.invariant in
    record {
      fits = fits_further s.start.bytes s.bits (blocks_done 1 s.taken.bytes) _ s.number s.left h.bits h.number
          (omega arith) h.left (omega arith);
    }

pub invariant_of-self : goal.invariant_of-self
invariant_of-self c =
    let s = c.self.inside in
    let h = c.self.invariant in
    let r = c.in_ok-out.ensures in
    let within : c.saturating_sub-blocks.result / 16 ≤ s.left = omega arith in
    record {
      number = number_further s.key s.start.bytes s.taken.bytes c.args.piece.now s.kept _ s.bits s.number s.left _ _ _ h.bits
          h.number h.left h.kept c.len-used.ensures.value c.saturating_sub-blocks.ensures refl c.push.ensures within;
      left = left_further s.key s.start.bytes s.taken.bytes c.args.piece.now s.kept _ s.bits s.number s.left _ _ _ h.bits h.number
          h.left h.kept c.len-used.ensures.value c.saturating_sub-blocks.ensures refl c.push.ensures within;
      bits = h.bits;
      is_key = h.is_key;
      bytes = subst AreBytes
          (output_further s.key s.start.bytes s.taken.bytes c.args.piece.now s.kept _ s.bits s.number s.left _ _ _ h.bits h.number
          h.left h.kept c.len-used.ensures.value c.saturating_sub-blocks.ensures refl c.push.ensures within
          h.is_key c.in_ok-out.out.items _ _ r.value r.size c.rotate_left.ensures.items c.truncate.ensures.items)
          (All-append (λ b. b < 256) _ _ h.bytes (subst AreBytes c.deref.ensures.value c.are_bytes.ensures));
      kept = kept_held 1 s.taken.bytes c.args.piece.now s.kept _ _ _ _
          (omega arith) h.kept c.len-used.ensures.value c.saturating_sub-blocks.ensures refl c.push.ensures _ c.behind-self-inside.ensures;
    }

pub returns-clause-output : goal.returns-clause-output
returns-clause-output c =
    let s = c.self.inside in
    let h = c.self.invariant in
    let r = c.in_ok-out.ensures in
    let within : c.saturating_sub-blocks.result / 16 ≤ s.left = omega arith in
    ap (λ o. ctr_output o ++ c.truncate.new.self.items) (sym c.self.view_is)
    ∙ output_further s.key s.start.bytes s.taken.bytes c.args.piece.now s.kept _ s.bits s.number s.left _ _ _ h.bits h.number h.left
    h.kept c.len-used.ensures.value c.saturating_sub-blocks.ensures refl c.push.ensures within
    h.is_key c.in_ok-out.out.items _ _ r.value r.size c.rotate_left.ensures.items c.truncate.ensures.items
