use Rattle.std.proofs.Common.{◌≡◌, ◌∙◌, ◌+◌, suc, ap, arith, bit_xor, get_or, set, subst, sym}
use Rattle.fips_197.specs.Bytes.{IsBlock}
use Rattle.fips_197.proofs.Blocks.{xored, xored-none, xored-more, xored-all, get_or-xored, IsBlock-xor_bytes}
use Rattle.aes_base.proofs.sums.xor_blocks.Goals as goal

pub loop-i-init : goal.loop-i-init
loop-i-init c = xored-none c.args.x c.args.y

pub loop-i-preserved : goal.loop-i-preserved
loop-i-preserved c =
    let x = c.args.x in
    let y = c.args.y in
    let i = c.loop-i.i in
    let next : suc i ≡ i + 1 = omega arith in
    ap (λ l. set l i (bit_xor (get_or l i 0) (get_or y i 0))) c.loop-i.invariant
    ∙ ap (λ b. set (xored x y i) i (bit_xor b (get_or y i 0))) (get_or-xored x y i (omega arith) (omega arith))
    ∙ xored-more x y i (omega arith) (omega arith)
    ∙ ap (xored x y) next

pub returns-clause-value : goal.returns-clause-value
returns-clause-value c = c.loop-i.invariant ∙ xored-all c.args.x c.args.y c.loop-i.i (omega arith) (omega arith) (omega arith)

pub returns-clause-blocks : goal.returns-clause-blocks
returns-clause-blocks c =
    let x : IsBlock c.args.x = record { size = omega arith; bytes = c.are_bytes.ensures } in
    let y : IsBlock c.args.y = record { size = omega arith; bytes = c.are_bytes-2.ensures } in
    let value = c.loop-i.invariant ∙ xored-all c.args.x c.args.y c.loop-i.i (omega arith) (omega arith) (omega arith) in
    (x, y, subst IsBlock (sym value) (IsBlock-xor_bytes c.args.x c.args.y x y))
