use Rattle.std.proofs.Common.{sym, ◌∙◌, ap, ◌≡◌, length, List, [], ◌∷◌, ◌++◌}
use mathlib.Core.List.{IsPrefix}
use Rattle.hall_log.specs.declared.entry.Entry.{Entry}
use Rattle.hall_log.specs.Lists.{of}
use Rattle.hall_log.specs.Histories.{events}
use Rattle.hall_log.specs.Log.{puts, served}
use Rattle.hall_log.proofs.Steps.{serve_moves}
use Rattle.hall_log.proofs.reached.Reached.serve.Goals as goal

pub compare_exchange-found-requires : goal.compare_exchange-found-requires
compare_exchange-found-requires g c =
    let h = c.requires.word in
    let offer = c.plain-offer.ensures in
    let pen = c.no_pen-pen.ensures in
    let next : (u : List Entry) × IsPrefix u c.self.inside.seen.log × (length (served u) ≡ c.args.count)
    × IsPrefix (events (of c.args.seat (served u)) ++ c.args.event.value ∷ []) (puts c.args.seat c.self.inside.seen.log) =
    rw c.self.view_is c.requires.next in (
      ap (λ w. w.tracked) h,
      c.self.invariant ∙ sym (ap (λ w. w.book) h),
      pen.0 ∙ (c.self.invariant ∙ sym (ap (λ w. w.book) h)),
      offer.0,
      rw (ap (λ w. w.key) h, pen.1, offer.1, offer.3, c.of.ensures)
          (serve_moves next.0 c.self.inside.seen.log c.args.seat c.args.event.value c.args.answer.now c.args.count next.1 next.2 next.3),
    )
