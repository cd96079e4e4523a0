use Rattle.std.proofs.Common.{◌≡◌, ℕ, ◌+◌, ◌-◌, ◌++◌, List, length, replicate, ap, ◌∙◌, arith}
use Rattle.std.proofs.lemmas.List.{take_at, length-append}
use Rattle.std.proofs.lemmas.Slice.{take-put_mid}
use Rattle.aes_modes.proofs.batches.after_block.Goals as goal

pub returns : goal.returns
returns c =
    let w : List ℕ = c.copy_from_slice.new.self in
    let v : List ℕ = c.copy_from_slice-2.new.self in
    let s : List ℕ = w ++ replicate 16 0 in
    let first : w ≡ c.args.block = c.copy_from_slice.ensures.after in
    let second : v ≡ c.args.bytes.now = c.copy_from_slice-2.ensures.after in
    let long : length w ≡ 16 = ap length first ∙ omega arith in
    take-put_mid 16 (16 + length c.args.bytes.now - 16) s v (16 + length c.args.bytes.now) (omega (arith, ap length second))
    (omega (arith, length-append w (replicate 16 0), long))
    ∙ (λ t. (take_at w (replicate 16 0) 16 long ∙ first) t ++ second t)
