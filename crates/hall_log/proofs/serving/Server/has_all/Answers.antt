use Rattle.std.proofs.Common.{◌≡◌, sym, ◌∙◌, ap, subst, length}
use mathlib.Core.List.{IsPrefix}
use Rattle.hall_log.specs.Lists.{of}
use Rattle.hall_log.specs.Histories.{events}
use Rattle.hall_log.specs.Log.{puts, served}
use Rattle.hall_log.specs.SeatLogs.{SeatLog, done_by}
use Rattle.hall_log.proofs.Beginnings.{prefix_same}
use Rattle.hall_log.proofs.Logs.{events_length, of_prefix, served_prefix}
use Rattle.hall_log.proofs.serving.Server.has_all.Goals as goal

pub returns : goal.returns
returns g c is =
    let p = c.putter.inside in
    let s = p.seat in
    let u = c.self.inside.told in
    let both = c.with-both.result in
    let pu : IsPrefix u both = subst (λ w. IsPrefix w both) c.reached-ours.ensures c.with-both.ensures.this in
    let pt : IsPrefix p.told both = subst (λ w. IsPrefix w both) c.reached-theirs.ensures c.with-both.ensures.that in
    let k = c.is_counted.ensures is in
    let idle : puts s p.mine ≡ events (of s (served p.told)) =
    subst (λ (q : SeatLog). puts q.seat q.mine ≡ events (done_by q)) (sym c.putter.view_is) c.requires in
    let count : length (of s (served p.told)) ≡ p.count =
    sym (events_length (of s (served p.told))) ∙ (ap length (sym idle) ∙ c.putter.invariant.2) in
    let same : of s (served p.told) ≡ of s (served u) =
    prefix_same (of s (served p.told)) (of s (served u)) (of s (served both))
    (of_prefix s (served p.told) (served both) (served_prefix p.told both pt))
    (of_prefix s (served u) (served both) (served_prefix u both pu)) (count ∙ sym (rw c.self.view_is k.1)) in
    rw (← c.putter.view_is, ← c.self.view_is) same
