use Rattle.std.proofs.Common.{ℕ, ◌∙◌, ◌++◌, List, ap, subst, arith, length}
use Rattle.std.proofs.lemmas.List.{length-append}
use Rattle.fips_197.specs.Bytes.{AreBytes}
use Rattle.fips_197.specs.Encrypt.{encrypted_block}
use Rattle.fips_197.specs.Texts.{block_of}
use Rattle.fips_197.proofs.Blocks.{AreBytes-append}
use Rattle.aes_modes.specs.Blocks.{first_blocks}
use Rattle.aes_modes.specs.Modes.{ecb_block}
use Rattle.aes_modes.proofs.DecryptedTexts.{ecb_blocks-size}
use Rattle.streams.proofs.ecb_encryption.encrypted_blocks.Goals as goal

pub returns-clause-value : goal.returns-clause-value
unfolding ecb_block
returns-clause-value c =
    let key = c.args.key.now in
    let piece : List ℕ = c.args.piece.now in
    let n : ℕ = c.args.blocks in
    c.in_ok-push_encrypted.ensures
    ∙ (λ t. c.in_ok-out.ensures.items t ++ first_blocks (λ i. encrypted_block key (block_of (c.as_slice-front.ensures t ++ piece) i)) n)

pub returns-clause-size : goal.returns-clause-size
returns-clause-size c =
    let kept : List ℕ = c.args.kept.now in
    let piece : List ℕ = c.args.piece.now in
    let bytes : AreBytes (kept ++ piece) =
    AreBytes-append kept piece (subst AreBytes c.as_slice-front.ensures c.are_bytes.ensures) c.are_bytes-2.ensures in
    ap length (returns-clause-value c)
    ∙ ecb_blocks-size c.args.key.now c.size-size.ensures.key (kept ++ piece) bytes c.args.blocks
    (omega (arith, c.requires, length-append kept piece))
