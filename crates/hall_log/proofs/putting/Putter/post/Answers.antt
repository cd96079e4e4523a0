use Rattle.std.proofs.Common.{◌≡◌, ◌++◌, ◌∷◌, [], sym, ◌∙◌, ap, subst, refl, length}
use Rattle.hall_log.specs.Lists.{of}
use Rattle.hall_log.specs.Histories.{events}
use Rattle.hall_log.specs.Log.{puts, served}
use Rattle.hall_log.specs.Putting.{MayPut}
use Rattle.hall_log.specs.SeatLogs.{SeatLog, done_by}
use Rattle.hall_log.proofs.Logs.{events_length}
use Rattle.hall_log.proofs.Telling.{has_put}
use Rattle.hall_log.proofs.putting.Putter.post.Goals as goal

pub invariant_of-result : goal.invariant_of-result
invariant_of-result g c =
    let s = c.self.inside.seat in
    let told = c.self.inside.told in
    let mine = c.self.inside.mine in
    let idle : puts s mine ≡ events (of s (served told)) =
    subst (λ (p : SeatLog). puts p.seat p.mine ≡ events (done_by p)) (sym c.self.view_is) c.requires.idle in
    let may : MayPut g.J.Naming.was_read s (of s (served told)) c.args.event.now =
    subst (λ (p : SeatLog). MayPut g.J.Naming.was_read p.seat (done_by p) c.args.event.now) (sym c.self.view_is) c.requires.may in
    let put : puts s c.put.new.self ≡ puts s mine ++ c.args.event.now ∷ [] =
    subst (λ w. puts s c.put.new.self ≡ puts s w ++ c.args.event.now ∷ []) c.again-mine.ensures (c.if-not-put.ensures.put refl).0 in
    let count : length (of s (served told)) ≡ c.self.inside.count =
    sym (events_length (of s (served told))) ∙ (ap length (sym idle) ∙ c.self.invariant.2) in
    record {
      has_put = rw (c.again.ensures, c.of.ensures)
          (has_put mine c.put.new.self s c.args.event.now c.self.inside.count c.self.invariant.2 put);
      count = rw c.again-2.ensures.same count;
      may = rw (c.again-2.ensures.same, c.of.ensures) (∣ may ∣₁);
    }
