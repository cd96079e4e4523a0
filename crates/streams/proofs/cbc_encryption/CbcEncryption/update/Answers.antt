use Rattle.std.proofs.Common.{refl, ap, ◌∙◌, ◌++◌}
use Rattle.streams_model.proofs.CbcLaw.{chain_after, cbc_further}
use Rattle.streams_model.proofs.Pieces.{kept_after}
use Rattle.streams.proofs.cbc_encryption.CbcEncryption.update.Goals as goal

pub invariant_of-self : goal.invariant_of-self
invariant_of-self c =
    let s = c.self.inside in
    let h = c.self.invariant in
    let r = c.in_ok-out.ensures in
    let len = c.len.ensures.value in
    let all = c.advance.ensures.given ∙ ap (λ x. s.passed.given.bytes ++ x) c.deref.ensures.value in
    record {
      given = cbc_further s.key s.iv.bytes s.passed.taken.bytes c.args.piece.now s.chain s.passed.kept _ _ c.len.result h.chain
          h.kept len refl c.advance.ensures.taken
          s.passed.given.bytes _ _ h.given r.size r.out all;
      chain = chain_after s.key s.iv.bytes s.passed.taken.bytes c.args.piece.now s.chain s.passed.kept _ _ c.len.result h.chain
          h.kept len refl c.advance.ensures.taken _ r.chain;
      kept = kept_after s.passed.taken.bytes c.args.piece.now s.passed.kept _ _ c.len.result h.kept len refl c.advance.ensures.taken
          _ c.advance.ensures.kept;
    }
