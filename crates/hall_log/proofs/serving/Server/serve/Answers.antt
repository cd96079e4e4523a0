use Rattle.std.proofs.Common.{◌≡◌, ◌++◌, [], ◌∷◌, sym, ◌∙◌, subst, refl, length}
use mathlib.Core.List.{IsPrefix}
use Rattle.hall_log.specs.Lists.{of}
use Rattle.hall_log.specs.Log.{served}
use Rattle.hall_log.proofs.Telling.{next_is, serves_one, has_got, one_more_of, counts_after}
use Rattle.hall_log.proofs.serving.Server.serve.Goals as goal

pub serve-requires-clause-next : goal.serve-requires-clause-next
serve-requires-clause-next g c =
    let u = c.self.inside.told in
    let all = c.with-all.result in
    let front : IsPrefix u all = subst (λ w. IsPrefix w all) c.reached-ours.ensures c.with-all.ensures.this in
    let len : length (of c.args.post.seat (served u)) ≡ c.args.post.number = rw c.self.view_is c.requires.next.1 in (
      u,
      front,
      sym c.self.invariant.0,
      next_is u all c.args.post.put c.args.post.seat c.args.post.event.value c.args.post.number front c.with-all.ensures.that
          c.with-all.ensures.orderly c.args.post.has_put len,
    )

pub invariant_of-told : goal.invariant_of-told
invariant_of-told g c =
    let u = c.self.inside.told in
    let all = c.with-all.result in
    let front : IsPrefix u all = subst (λ w. IsPrefix w all) c.reached-ours.ensures c.with-all.ensures.this in
    let done = c.if-not-serve.ensures.served refl in
    let is : served c.serve.new.self ≡ served u ++ (c.args.post.seat, (c.args.post.event.value, c.args.answer.now)) ∷ [] =
    serves_one u all c.serve.new.self (c.args.post.seat, (c.args.post.event.value, c.args.answer.now)) front
    (done.1 ∙ c.self.invariant.0) done.0 in
    subst g.J.Naming.served (sym is) (rw c.self.view_is c.requires.served)

pub invariant_of-result : goal.invariant_of-result
invariant_of-result g c =
    let u = c.self.inside.told in
    let all = c.with-all.result in
    let front : IsPrefix u all = subst (λ w. IsPrefix w all) c.reached-ours.ensures c.with-all.ensures.this in
    let done = c.if-not-serve.ensures.served refl in
    let is : served c.serve.new.self ≡ served u ++ (c.args.post.seat, (c.args.post.event.value, c.args.answer.now)) ∷ [] =
    serves_one u all c.serve.new.self (c.args.post.seat, (c.args.post.event.value, c.args.answer.now)) front
    (done.1 ∙ c.self.invariant.0) done.0 in
    let len : length (of c.args.post.seat (served u)) ≡ c.args.post.number = rw c.self.view_is c.requires.next.1 in
    record {
      has_got = rw c.of.ensures
          (has_got u c.serve.new.self c.args.post.seat c.args.post.event.value c.args.answer.now c.args.post.number len
          (one_more_of u c.serve.new.self c.args.post.seat (c.args.post.event.value, c.args.answer.now) is));
    }

pub invariant_of-self : goal.invariant_of-self
invariant_of-self g c =
    let u = c.self.inside.told in
    let all = c.with-all.result in
    let front : IsPrefix u all = subst (λ w. IsPrefix w all) c.reached-ours.ensures c.with-all.ensures.this in
    let done = c.if-not-serve.ensures.served refl in
    let is : served c.serve.new.self ≡ served u ++ (c.args.post.seat, (c.args.post.event.value, c.args.answer.now)) ∷ [] =
    serves_one u all c.serve.new.self (c.args.post.seat, (c.args.post.event.value, c.args.answer.now)) front
    (done.1 ∙ c.self.invariant.0) done.0 in
    let inv = c.self.invariant in
    let after = counts_after u c.serve.new.self c.args.post.seat c.self.inside.count
    (c.args.post.event.value, c.args.answer.now) c.self.inside.counts c.in_ok-counts.counts c.requires.next.0 is inv.0 inv.1
    c.in_ok-counts.ensures in
    rw c.again.ensures.same (after.0, after.1, inv.2)

pub returns-clause-served : goal.returns-clause-served
returns-clause-served g c =
    let u = c.self.inside.told in
    let all = c.with-all.result in
    let front : IsPrefix u all = subst (λ w. IsPrefix w all) c.reached-ours.ensures c.with-all.ensures.this in
    let done = c.if-not-serve.ensures.served refl in
    let is : served c.serve.new.self ≡ served u ++ (c.args.post.seat, (c.args.post.event.value, c.args.answer.now)) ∷ [] =
    serves_one u all c.serve.new.self (c.args.post.seat, (c.args.post.event.value, c.args.answer.now)) front
    (done.1 ∙ c.self.invariant.0) done.0 in
    rw (c.again.ensures.same, ← c.self.view_is) is
