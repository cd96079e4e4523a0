use Rattle.std.proofs.Common.{◌≡◌, ◌+◌, ◌-◌, ◌*◌, length, ap, ◌∙◌, arith}
use borrow.Rule.Slice.PartMut.{put_mid, mid_of}
use Rattle.fips_197.specs.Cipher.{round_key}
use Rattle.fips_197.specs.Texts.{block_of}
use Rattle.aes_vector.proofs.StoredRoundKeys.{stored_here, stored_others}
use Rattle.aes_slices.proofs.eight.store_bytes.Goals as goal

pub returns-clause-here : goal.returns-clause-here
unfolding block_of round_key
returns-clause-here c =
    let from = 16 * c.args.i in
    let k = from + 16 - from in
    let ks = c.args.text.now in
    let size : k ≡ 16 = omega arith in
    ap (λ l. block_of (put_mid from k ks l) c.args.i) c.copy_from_slice.ensures.after
    ∙ stored_here ks c.args.block c.args.i k size (omega arith) (omega arith)

pub returns-clause-others : goal.returns-clause-others
unfolding block_of round_key
returns-clause-others c = λ q ne.
    let from = 16 * c.args.i in
    let k = from + 16 - from in
    let ks = c.args.text.now in
    let size : k ≡ 16 = omega arith in
    ap (λ l. block_of (put_mid from k ks l) q) c.copy_from_slice.ensures.after
    ∙ stored_others ks c.args.block c.args.i k size (omega arith) (omega arith) q ne
