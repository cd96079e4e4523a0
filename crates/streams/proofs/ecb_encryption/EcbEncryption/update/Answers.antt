use Rattle.std.proofs.Common.{refl, ap, ◌∙◌, ◌++◌}
use Rattle.streams_model.proofs.EcbLaw.{ecb_further}
use Rattle.streams_model.proofs.Pieces.{kept_after}
use Rattle.streams.proofs.ecb_encryption.EcbEncryption.update.Goals as goal

pub invariant_of-self : goal.invariant_of-self
invariant_of-self c =
    let s = c.self.inside in
    let h = c.self.invariant in
    let r = c.in_ok-out.ensures in
    let all = c.advance.ensures.given ∙ ap (λ x. s.passed.given.bytes ++ x) c.deref.ensures.value in
    record {
      given = ecb_further s.key s.passed.given.bytes s.passed.taken.bytes c.args.piece.now s.passed.kept c.in_ok-out.out.items _ _ _
          c.len.result h.kept c.len.ensures.value refl
          c.advance.ensures.taken all r.size h.given r.value;
      kept = kept_after s.passed.taken.bytes c.args.piece.now s.passed.kept _ _ c.len.result h.kept c.len.ensures.value refl
          c.advance.ensures.taken _ c.advance.ensures.kept;
    }
