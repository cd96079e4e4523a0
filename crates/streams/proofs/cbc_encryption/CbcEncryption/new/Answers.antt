use Rattle.std.proofs.Common.{◌++◌, ◌∙◌, ap, sym}
use Rattle.streams_model.proofs.CbcLaw.{begun_chain, cbc_begun}
use Rattle.streams_model.proofs.Pieces.{begun_kept}
use Rattle.streams.proofs.cbc_encryption.CbcEncryption.new.Goals as goal

pub invariant_of-result : goal.invariant_of-result
invariant_of-result c =
    let start = sym (c.push.ensures ∙ ap (λ b. b ++ c.args.iv) c.new-start.ensures) in
    record {
      given = cbc_begun c.args.key c.args.iv _ _ _ start c.new.ensures.taken c.new.ensures.given;
      chain = begun_chain c.args.key c.args.iv _ _ _ start c.new.ensures.taken c.new.ensures.given;
      kept = begun_kept _ _ c.new.ensures.kept c.new.ensures.taken;
    }
