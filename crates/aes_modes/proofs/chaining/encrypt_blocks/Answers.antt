use Rattle.std.proofs.Common.{◌∙◌, ◌≡◌, ◌/◌, ◌++◌, ap, sym, arith, refl, length}
use Rattle.std.proofs.lemmas.List.{append-nil, append_assoc, length-append}
use Rattle.fips_197.specs.Bytes.{xor_bytes}
use Rattle.fips_197.specs.Encrypt.{encrypted_block}
use Rattle.aes_modes.specs.Blocks.{first_blocks}
use Rattle.aes_modes.specs.Modes.{chained, cbc_blocks}
use Rattle.aes_modes.proofs.Chains.{chained-more, cbc_blocks-more}
use Rattle.aes_modes.proofs.chaining.encrypt_blocks.Goals as goal

pub turns-init : goal.turns-init
unfolding first_blocks chained
turns-init c = record {
  size = omega arith;
  out = sym (append-nil c.args.out.now.items);
  before = refl;
}

pub turns-preserved : goal.turns-preserved
turns-preserved c =
    let key = c.args.key.now in
    let iv = c.args.iv in
    let text = c.args.text.now in
    let start = c.args.out.now.items in
    let last = c.turns.before in
    let block = c.encipher-before.result in
    let is = c.in_ok-extend_from_slice.ensures.items in
    let next = c.encipher-before.ensures.value
    ∙ ap (encrypted_block key) (c.xor_blocks.ensures.value ∙ ap (λ b. xor_bytes b last) c.block_at.ensures)
    ∙ chained-more key iv text last c.turns.i c.turns.invariant.before in
    record {
      size = ap length is ∙ length-append c.turns.out.items block
          ∙ omega (arith, c.turns.invariant.size);
      out = is
          ∙ ap (λ o. o ++ block) c.turns.invariant.out
          ∙ append_assoc start (cbc_blocks key iv text c.turns.i) block
          ∙ ap (λ o. start ++ o) (cbc_blocks-more key iv text (cbc_blocks key iv text c.turns.i) block c.turns.i refl next);
      before = next;
    }

pub returns-clause-length : goal.returns-clause-length
returns-clause-length c =
    let end : c.turns.i ≡ length c.args.text.now / 16 = omega arith in
    omega (arith, c.turns.invariant.size)

pub returns-clause-blocks : goal.returns-clause-blocks
returns-clause-blocks c =
    let end : c.turns.i ≡ length c.args.text.now / 16 = omega arith in
    c.turns.invariant.out ∙ ap (λ n. c.args.out.now.items ++ cbc_blocks c.args.key.now c.args.iv c.args.text.now n) end

pub returns-clause-chained : goal.returns-clause-chained
returns-clause-chained c =
    let end : c.turns.i ≡ length c.args.text.now / 16 = omega arith in
    c.turns.invariant.before ∙ ap (chained c.args.key.now c.args.iv c.args.text.now) end
