use Rattle.std.proofs.Common.{◌∙◌, ◌++◌, ap, sym, arith, refl, length}
use Rattle.std.proofs.lemmas.List.{length-append}
use Rattle.fips_197.specs.Bytes.{xor_bytes}
use Rattle.fips_197.specs.Encrypt.{encrypted_block}
use Rattle.aes_modes.specs.Blocks.{first_blocks}
use Rattle.aes_modes.specs.Modes.{cbc_blocks, chained}
use Rattle.aes_modes.proofs.Chains.{chained-more, cbc_blocks-more}
use Rattle.streams.proofs.cbc_encryption.encrypted_blocks.Goals as goal

pub turns-init : goal.turns-init
unfolding first_blocks chained
turns-init c = record {
  size = ap length c.in_ok-out.ensures.items;
  out = c.in_ok-out.ensures.items;
  chain = refl;
}

pub turns-preserved : goal.turns-preserved
turns-preserved c =
    let key = c.args.key.now in
    let iv = c.args.start in
    let text = c.args.kept.now ++ c.args.piece.now in
    let out = c.turns.out.items in
    let last = c.turns.chain in
    let is = c.in_ok-extend_from_slice.ensures.items in
    let next = c.encipher-chain.ensures.value
    ∙ ap (encrypted_block key) (c.xor_blocks.ensures.value ∙ ap (λ b. xor_bytes b last) c.block_behind.ensures)
    ∙ chained-more key iv text last c.turns.i c.turns.invariant.chain in
    record {
      size = ap length is ∙ length-append out c.encipher-chain.result
          ∙ omega (arith, c.turns.invariant.size);
      out = is ∙ cbc_blocks-more key iv text out _ c.turns.i c.turns.invariant.out next;
      chain = next;
    }

pub returns-then-blocks-eq0-clause-out : goal.returns-then-blocks-eq0-clause-out
unfolding first_blocks chained
returns-then-blocks-eq0-clause-out c =
    c.in_ok-out.ensures.items
    ∙ ap (cbc_blocks c.args.key.now c.args.start (c.args.kept.now ++ c.args.piece.now)) (sym c.if-blocks-eq0.true)

pub returns-then-blocks-eq0-clause-chain : goal.returns-then-blocks-eq0-clause-chain
unfolding chained
returns-then-blocks-eq0-clause-chain c =
    ap (chained c.args.key.now c.args.start (c.args.kept.now ++ c.args.piece.now)) (sym c.if-blocks-eq0.true)
