use Rattle.std.proofs.Common.{◌++◌, ◌∙◌, ap, sym, subst, arith}
use Rattle.fips_197.specs.Bytes.{IsBlock}
use Rattle.streams_model.proofs.CbcBackLaw.{cbc_begun_back, begun_chain_back}
use Rattle.streams_model.proofs.Pieces.{begun_held}
use Rattle.streams.proofs.cbc_decryption.CbcDecryption.new.Goals as goal

pub invariant_of-result : goal.invariant_of-result
invariant_of-result c =
    let iv : IsBlock c.args.iv = record { size = omega arith; bytes = c.are_bytes.ensures } in
    let start = sym (c.push.ensures ∙ ap (λ b. b ++ c.args.iv) c.new-start.ensures) in
    record {
      held = c.requires;
      given = cbc_begun_back c.args.key _ _ _ c.args.iv c.args.held start c.new.ensures.taken c.new.ensures.given
          c.size-size.ensures.key (subst IsBlock start iv);
      chain = begun_chain_back c.args.key _ _ _ c.args.iv c.args.held start c.new.ensures.taken c.new.ensures.given;
      kept = begun_held c.args.held _ _ c.new.ensures.kept c.new.ensures.taken;
    }
