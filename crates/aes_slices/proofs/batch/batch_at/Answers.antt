use Rattle.std.proofs.Common.{◌≡◌, ℕ, ◌+◌, ◌-◌, ◌*◌, List, length, take, drop, ap, sym, ◌∙◌, arith}
use Rattle.std.proofs.lemmas.List.{length-drop, length-take-le, take_all}
use Rattle.aes_slices.proofs.FilledBatches.{filled_is, drop-both}
use Rattle.aes_slices.proofs.batch.batch_at.Goals as goal

pub returns : goal.returns
returns c =
    let front : List ℕ = c.args.front.now in
    let piece : List ℕ = c.args.piece.now in
    let at : ℕ = 128 * c.args.n in
    let behind : ℕ = at - length front in
    let rest : List ℕ = take (length piece - behind) (drop behind piece) in
    let m : ℕ = c.min.result in
    let r : List ℕ = c.filled.result in
    let left = length-drop behind piece in
    let whole : rest ≡ drop behind piece = take_all (length piece - behind) (drop behind piece) (omega (arith, left)) in
    let size : length rest ≡ length front + length piece - at =
    ap length whole ∙ left ∙ omega (arith, c.if-at-front.false, c.requires.within) in
    let first : length (take m rest) ≡ m = length-take-le m rest (omega (arith, c.min.ensures)) in
    let same : take m r ≡ take m rest = ap (λ k. take k r) (sym first) ∙ c.filled.ensures in
    ap (λ k. take k r) (sym size)
    ∙ filled_is rest r m c.min.ensures (omega arith) same
    ∙ ap (take 128) (whole ∙ sym (drop-both front piece at c.if-at-front.false))
