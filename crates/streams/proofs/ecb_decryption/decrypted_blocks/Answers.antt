use Rattle.std.proofs.Common.{ℕ, ◌*◌, ◌≤◌, ◌++◌, List, subst, arith, length}
use Rattle.std.proofs.lemmas.List.{length-append}
use Rattle.fips_197.specs.Bytes.{AreBytes}
use Rattle.fips_197.proofs.Blocks.{AreBytes-append}
use Rattle.streams.proofs.Decrypted.{IsEcbPlain, ecb_plain}
use Rattle.streams.proofs.ecb_decryption.decrypted_blocks.Goals as goal

plain : (c : goal.After-are_bytes-3)
    → IsEcbPlain c.args.key.now (c.args.kept.now ++ c.args.piece.now) c.push_decrypted.new.out.items c.args.blocks
plain c =
    let kept : List ℕ = c.args.kept.now in
    let piece : List ℕ = c.args.piece.now in
    let bytes : AreBytes (kept ++ piece) =
    AreBytes-append kept piece (subst AreBytes c.as_slice-front.ensures c.are_bytes.ensures) c.are_bytes-2.ensures in
    let within : 16 * c.args.blocks ≤ length (kept ++ piece) = omega (arith, c.requires, length-append kept piece) in
    ecb_plain c.args.key.now (kept ++ piece) c.push_decrypted.new.out.items c.args.blocks c.size-size.ensures.key bytes within
    (rw (c.as_slice-front.ensures, c.in_ok-out.ensures.items) at c.in_ok-push_decrypted.ensures)

pub returns-clause-size : goal.returns-clause-size
returns-clause-size c = let h = plain c in h.size

pub returns-clause-back : goal.returns-clause-back
returns-clause-back c = let h = plain c in h.back
