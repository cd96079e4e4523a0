use Rattle.std.proofs.Common.{◌≡◌, ℕ, ◌++◌, List, length, replicate, ap, sym, ◌∙◌, arith}
use Rattle.std.proofs.lemmas.List.{take_at, take_all, length-append, length-take-le, length-drop}
use Rattle.std.proofs.lemmas.Slice.{take-put_mid}
use borrow.Rule.Slice.PartMut.{put_mid, same_len_mid, mid_of}
use Rattle.aes_slices.proofs.NumberBytes.{to_be_bytes-halves}
use Rattle.aes_slices.proofs.batch.block_of_number.Goals as goal

pub returns : goal.returns
returns c =
    let w : List ℕ = c.copy_from_slice.new.self in
    let v : List ℕ = c.copy_from_slice-2.new.self in
    let s : List ℕ = w ++ replicate 8 0 in
    let r : List ℕ = put_mid 8 8 s v in
    let first : w ≡ c.half_of.result = c.copy_from_slice.ensures.after in
    let second : v ≡ c.half_of-2.result = c.copy_from_slice-2.ensures.after in
    let long : length w ≡ 8 = ap length first ∙ omega arith in
    let rest : length v ≡ 8 = ap length second ∙ omega arith in
    let full : length s ≡ 16 = length-append w (replicate 8 0) ∙ omega (arith, long) in
    let part : length (mid_of 8 8 s) ≡ 8 = length-take-le 8 _ (omega (arith, length-drop 8 s, full)) in
    let size : length r ≡ 16 = same_len_mid 8 8 s v (omega (arith, part, rest)) ∙ full in
    sym (take_all 16 r (omega (arith, size)))
    ∙ take-put_mid 8 8 s v 16 (omega (arith, rest)) (omega (arith, full))
    ∙ (λ t. (take_at w (replicate 8 0) 8 long ∙ first ∙ c.half_of.ensures) t ++ (second ∙ c.half_of-2.ensures) t)
    ∙ to_be_bytes-halves c.args.number
