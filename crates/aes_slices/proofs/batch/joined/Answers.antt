use Rattle.std.proofs.Common.{◌≡◌, ℕ, ◌+◌, ◌-◌, List, ◌++◌, length, take, ap, sym, ◌∙◌, arith}
use Rattle.std.proofs.lemmas.Slice.{take-put_mid}
use borrow.Rule.Slice.PartMut.{put_mid, same_len_mid, mid_of}
use Rattle.std.proofs.lemmas.List.{length-append, length-take-le, length-drop}
use Rattle.aes_slices.proofs.FilledBatches.{filled_is, take-both}
use Rattle.aes_slices.proofs.batch.joined.Goals as goal

pub returns : goal.returns
returns c =
    let front : List ℕ = c.args.front.now in
    let piece : List ℕ = c.args.piece.now in
    let len : ℕ = c.min-len.result in
    let from : ℕ = length front in
    let k : ℕ = from + len - from in
    let batch : List ℕ = c.filled-batch.result in
    let w : List ℕ = c.copy_from_slice.new.self in
    let r : List ℕ = put_mid from k batch w in
    let is_len = c.min-len.ensures in
    let after : w ≡ take len piece = c.copy_from_slice.ensures.after in
    let full : length batch ≡ 128 = omega arith in
    let long : length w ≡ len = ap length after ∙ length-take-le len piece (omega (arith, is_len)) in
    let part : length (mid_of from k batch) ≡ k = length-take-le k _ (omega (arith, length-drop from batch, is_len, full, c.requires)) in
    let size : length r ≡ 128 = same_len_mid from k batch w (omega (arith, part, long)) ∙ full in
    let same : take (from + len) r ≡ take (from + len) (front ++ piece) =
    take-put_mid from k batch w (from + len) (omega (arith, long)) (omega (arith, full, is_len, c.requires))
    ∙ (λ t. c.filled-batch.ensures t ++ after t) ∙ sym (take-both front piece len) in
    ap (λ n. take n r) (sym (length-append front piece))
    ∙ filled_is (front ++ piece) r (from + len) (omega (arith, is_len, length-append front piece, c.requires)) size same
