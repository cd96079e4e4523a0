use Rattle.std.proofs.Common.{sym, ◌∙◌, ap, ◌≡◌, length}
use Rattle.hall_log.specs.Log.{puts}
use Rattle.hall_log.proofs.Steps.{put_moves}
use Rattle.hall_log.proofs.reached.Reached.put.Goals as goal

pub compare_exchange-found-requires : goal.compare_exchange-found-requires
compare_exchange-found-requires g c =
    let h = c.requires.word in
    let offer = c.plain-offer.ensures in
    let pen = c.no_pen-pen.ensures in
    let count : length (puts c.args.seat c.self.inside.seen.log) ≡ c.args.count = rw c.self.view_is c.requires.count in (
      ap (λ w. w.tracked) h,
      c.self.invariant ∙ sym (ap (λ w. w.book) h),
      pen.0 ∙ (c.self.invariant ∙ sym (ap (λ w. w.book) h)),
      offer.0,
      rw (ap (λ w. w.key) h, pen.1, offer.1, offer.3, c.of.ensures)
          (put_moves c.self.inside.seen.log c.args.seat c.args.event.now c.args.count c.requires.seat count),
    )
