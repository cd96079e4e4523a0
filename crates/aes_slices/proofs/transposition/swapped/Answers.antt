use Rattle.std.proofs.Common.{◌≡◌, length, ap, sym, ◌∙◌}
use Rattle.aes_planes.specs.Planes.{bits_at}
use Rattle.aes_slices.proofs.Swaps.{first_of, second_of, first_lanes, second_lanes, lanes_left, lanes_right, first-moved, first-kept, second-moved, second-kept}
use Rattle.aes_slices.proofs.transposition.swapped.Goals as goal

pub returns-clause-moved : goal.returns-clause-moved
returns-clause-moved c = λ k lt one.
    let a = c.args.a in
    let b = c.args.b in
    let mask = c.args.mask in
    let by = c.args.by in
    let same : length a ≡ length b = c.fits-a.0 ∙ sym c.fits-b.0 in (
      ap (bits_at _) (first_lanes mask by 16 a b c.fits-a.0 c.fits-b.0)
          ∙ lanes_right (first_of mask by) _ k a b same (λ x y. first-moved mask by k x y lt one),
      ap (bits_at k) (second_lanes mask by 16 a b c.fits-a.0 c.fits-b.0)
          ∙ lanes_left (second_of mask by) k _ a b same (λ x y. second-moved mask by k x y one),
    )

pub returns-clause-first : goal.returns-clause-first
returns-clause-first c = λ k lt none.
    let a = c.args.a in
    let b = c.args.b in
    let mask = c.args.mask in
    let by = c.args.by in
    ap (bits_at k) (first_lanes mask by 16 a b c.fits-a.0 c.fits-b.0)
    ∙ lanes_left (first_of mask by) k k a b (c.fits-a.0 ∙ sym c.fits-b.0) (λ x y. first-kept mask by k x y lt none)

pub returns-clause-second : goal.returns-clause-second
returns-clause-second c = λ k none.
    let a = c.args.a in
    let b = c.args.b in
    let mask = c.args.mask in
    let by = c.args.by in
    ap (bits_at k) (second_lanes mask by 16 a b c.fits-a.0 c.fits-b.0)
    ∙ lanes_right (second_of mask by) k k a b (c.fits-a.0 ∙ sym c.fits-b.0) (λ x y. second-kept mask by k x y none)
