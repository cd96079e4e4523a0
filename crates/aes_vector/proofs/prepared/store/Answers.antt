use Rattle.std.proofs.Common.{◌≡◌, ◌+◌, ◌-◌, ◌*◌, length, ap, ◌∙◌, arith}
use borrow.Rule.Slice.PartMut.{put_mid, mid_of}
use Rattle.std.proofs.lemmas.List.{length-take-le, length-drop}
use Rattle.fips_197.specs.Cipher.{round_key}
use Rattle.aes_vector.proofs.StoredRoundKeys.{put_all, stored_here, stored_others}
use Rattle.aes_vector.proofs.prepared.store.Goals as goal

pub returns-clause-here : goal.returns-clause-here
returns-clause-here c =
    let from = 16 * c.args.r in
    let k = from + 16 - from in
    let ks = c.args.keys.now in
    let size : k ≡ 16 = omega arith in
    let part : length (mid_of from k ks) ≡ k = length-take-le k _ (omega (arith, length-drop from ks)) in
    let all = put_all (mid_of from k ks) c.args.key (c.fits-key.0 ∙ (omega (arith, part))) in
    ap (λ l. round_key (put_mid from k ks l) c.args.r) all ∙ stored_here ks c.args.key c.args.r k size c.fits-key.0 (omega arith)

pub returns-clause-others : goal.returns-clause-others
returns-clause-others c = λ q within ne.
    let from = 16 * c.args.r in
    let k = from + 16 - from in
    let ks = c.args.keys.now in
    let size : k ≡ 16 = omega arith in
    let part : length (mid_of from k ks) ≡ k = length-take-le k _ (omega (arith, length-drop from ks)) in
    let all = put_all (mid_of from k ks) c.args.key (c.fits-key.0 ∙ (omega (arith, part))) in
    ap (λ l. round_key (put_mid from k ks l) q) all ∙ stored_others ks c.args.key c.args.r k size c.fits-key.0 (omega arith) q ne
