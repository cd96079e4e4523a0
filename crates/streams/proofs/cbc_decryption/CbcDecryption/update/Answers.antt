use Rattle.std.proofs.Common.{refl, ap, ◌∙◌, ◌++◌}
use Rattle.streams_model.proofs.CbcBackLaw.{chain_further, cbc_further_back}
use Rattle.streams_model.proofs.Pieces.{kept_held}
use Rattle.streams.proofs.cbc_decryption.CbcDecryption.update.Goals as goal

pub invariant_of-self : goal.invariant_of-self
invariant_of-self c =
    let s = c.self.inside in
    let h = c.self.invariant in
    let r = c.in_ok-out.ensures in
    let len = c.len.ensures.value in
    let total = c.saturating_sub-blocks.ensures in
    let all = c.advance.ensures.given ∙ ap (λ x. s.passed.given.bytes ++ x) c.deref.ensures.value in
    record {
      held = h.held;
      given = cbc_further_back s.key s.iv.bytes s.passed.given.bytes s.passed.taken.bytes c.args.piece.now s.chain s.passed.kept
          c.in_ok-out.out.items _ _ s.held _ _ _ h.held h.given h.chain h.kept len total refl c.advance.ensures.taken all r.size
          r.back r.bytes;
      chain = chain_further s.key s.iv.bytes s.passed.given.bytes s.passed.taken.bytes c.args.piece.now s.chain s.passed.kept
          c.in_ok-out.out.items _ _ s.held _ _ _ h.held h.given h.chain h.kept len total refl c.advance.ensures.taken all _ r.chain;
      kept = kept_held s.held s.passed.taken.bytes c.args.piece.now s.passed.kept _ _ _ _ h.held h.kept len total refl
          c.advance.ensures.taken _ c.advance.ensures.kept;
    }
