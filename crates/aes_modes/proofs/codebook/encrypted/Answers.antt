use Rattle.std.proofs.Common.{◌∙◌, ◌/◌, ◌++◌, ap, length}
use Rattle.fips_197.specs.Encrypt.{encrypted_block}
use Rattle.fips_197.specs.Texts.{block_of}
use Rattle.aes_modes.specs.Blocks.{first_blocks}
use Rattle.aes_modes.specs.Modes.{ecb_block}
use Rattle.aes_modes.proofs.Only.{length-ecb_encrypted}
use Rattle.aes_modes.proofs.codebook.encrypted.Goals as goal

pub returns-clause-value : goal.returns-clause-value
unfolding ecb_block
returns-clause-value c =
    let text = c.args.text.now in
    c.in_ok-push_encrypted.ensures
    ∙ ap (λ l. l ++ first_blocks (λ i. encrypted_block c.args.key.now (block_of text i)) (length text / 16)) c.in_ok-out.ensures.items

pub returns-clause-length : goal.returns-clause-length
returns-clause-length c =
    ap length (returns-clause-value c) ∙ length-ecb_encrypted c.args.key.now c.is_key.ensures c.args.text.now c.are_bytes.ensures c.requires
