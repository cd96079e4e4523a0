use Rattle.std.proofs.Common.{◌∙◌, ap, refl, set, get_or, arith, bit_xor, ◌≡◌, ◌<◌, length, suc, ◌+◌, ◌++◌, drop}
use Rattle.std.proofs.lemmas.List.{take_all}
use Rattle.hmac_sha2.specs.Hmac.{xor_strings}
use Rattle.hmac_sha2.proofs.XorBytes.{done, get_or-done, set-done}
use Rattle.hmac_sha2.proofs.xor.xor_into.Goals as goal

pub loop-i-init : goal.loop-i-init
unfolding xor_strings
loop-i-init c = refl

pub loop-i-preserved : goal.loop-i-preserved
loop-i-preserved c =
    let xs = c.args.sum.now in
    let ys = c.args.bytes.now in
    let i = c.loop-i.i in
    let lx : i < length xs = omega arith in
    let ly : i < length ys = omega arith in
    let next : suc i ≡ i + 1 = omega arith in
    ap (λ l. set l i (bit_xor (get_or l i 0) (get_or ys i 0))) c.loop-i.invariant
    ∙ ap (λ x. set (done xs ys i) i (bit_xor x (get_or ys i 0))) (get_or-done xs ys i lx ly)
    ∙ set-done xs ys i lx ly
    ∙ ap (done xs ys) next

pub returns : goal.returns
returns c =
    let end : c.loop-i.i ≡ length c.args.bytes.now = omega arith in
    c.loop-i.invariant
    ∙ ap (done c.args.sum.now c.args.bytes.now) end
    ∙ ap (λ l. xor_strings c.args.sum.now l ++ drop (length c.args.bytes.now) c.args.sum.now) (take_all _ c.args.bytes.now (omega arith))
