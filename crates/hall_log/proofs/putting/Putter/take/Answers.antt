use Rattle.std.proofs.Common.{◌≡◌, ◌+◌, ◌++◌, [], ◌∷◌, sym, ◌∙◌, ap, subst, length, arith}
use Rattle.std.proofs.lemmas.Bool.Decides.{nat_tests}
use mathlib.Core.List.{IsPrefix}
use Rattle.hall_log.specs.Lists.{of}
use Rattle.hall_log.specs.Histories.{events}
use Rattle.hall_log.specs.Log.{puts, served}
use Rattle.hall_log.specs.SeatLogs.{SeatLog, done_by}
use Rattle.hall_log.proofs.Beginnings.{prefix_trans}
use Rattle.hall_log.proofs.Logs.{events-append}
use Rattle.hall_log.proofs.Telling.{got_is}
use Rattle.hall_log.proofs.putting.Putter.take.Goals as goal

pub returns-clause-got : goal.returns-clause-got
returns-clause-got g c taken =
    let mine = c.self.inside.mine in
    let told = c.self.inside.told in
    let h = c.args.receipt.told in
    let all = c.with-all.result in
    let s = c.self.inside.seat in
    let both = c.with-both.result in
    let pt : IsPrefix told all = prefix_trans told both all
    (subst (λ w. IsPrefix w both) c.reached-ours.ensures c.with-both.ensures.this) c.with-all.ensures.this in
    let ph : IsPrefix h all = prefix_trans h both all
    (subst (λ w. IsPrefix w both) c.reached-theirs.ensures c.with-both.ensures.that) c.with-all.ensures.this in
    let put : puts s mine ≡ events (of s (served told)) ++ c.args._event.now.value ∷ [] =
    subst (λ (p : SeatLog). puts p.seat p.mine ≡ events (done_by p) ++ c.args._event.now.value ∷ []) (sym c.self.view_is) c.requires in
    let below = c.if-number-self.false in
    let last = c.if-number-self-2.false in
    let here = c.self.invariant.2 in
    let count : length (puts s mine) ≡ c.args.receipt.number + 1 = grind (arith, nat_tests) in
    let same = c.if-seat-self.false in
    let seat : c.args.receipt.seat ≡ s = grind (arith, nat_tests) in
    let got = got_is mine told h all s c.args._event.now.value c.args.receipt.answer.value c.args.receipt.number
    c.with-all.ensures.that pt ph c.with-all.ensures.orderly put count
    (subst (λ w. Rattle.hall_log.specs.Log.HasGot h w c.args.receipt.answer.value c.args.receipt.number) seat c.args.receipt.has_got) in
    rw (← c.self.view_is) (
      got,
      put
          ∙ (sym (events-append (of s (served told)) ((c.args._event.now.value, c.args.receipt.answer.value) ∷ [])) ∙ sym (ap events got)),
    )
