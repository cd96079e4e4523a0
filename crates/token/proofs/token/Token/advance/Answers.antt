use Rattle.std.proofs.Common.{◌≡◌, ◌+◌, refl, [], ◌∷◌, length, length-append, sym, ◌∙◌}
use Rattle.std.specs.Prelude.{map}
use Rattle.std.proofs.lemmas.List.{reverse-append}
use Rattle.lists.proofs.IndexLemmas.{append_nil}
use Rattle.lists.proofs.ListLemmas.{map-push}
use Rattle.model_runs.proofs.Accounts.{accounts-more}
use Rattle.model_runs.proofs.Ids.{blames-more, next-ids, step-shows}
use Rattle.token.proofs.token.Token.advance.Goals as goal

pub returns-in-Some-event-clause-ok : goal.returns-in-Some-event-clause-ok
returns-in-Some-event-clause-ok g c = record {
  event = c.in-Some.event;
  first = rw (c.pop.ensures.items, c.in-Some.is) (reverse-append c.pop.new.self.items (c.in-Some.event ∷ []));
  more = c.in-Some-event.reply ∷ [];
  last = rw (c.push_reserved.ensures.items, c.reserve.ensures.items) refl;
  step = λ sure w s h. step-shows g.K.Keep.terms s.contents 1 _ _ _ w _ _ _
      (rw c.in-Some-event.is at (c.event.ensures.step sure w s (rw c.reserve-2.ensures.items h)));
}

pub returns-in_default-event-clause-ok : goal.returns-in_default-event-clause-ok
returns-in_default-event-clause-ok g c = record {
  event = c.in-Some.event;
  first = rw (c.pop.ensures.items, c.in-Some.is) (reverse-append c.pop.new.self.items (c.in-Some.event ∷ []));
  more = [];
  last = c.reserve.ensures.items ∙ sym (append_nil c.args.replies.now.items);
  step = λ sure w s h. step-shows g.K.Keep.terms s.contents 1 _ _ _ w _ _ _
      (c.in_default-event.ensures.step sure w s (rw c.reserve-2.ensures.items h));
}

-- ---- whom the replies blame

pub returns-in-Some-event-clause-accounts : goal.returns-in-Some-event-clause-accounts
returns-in-Some-event-clause-accounts g c = λ before so.
    rw (c.push_reserved.ensures.items, c.reserve.ensures.items, map-push (λ r. r.1) c.args.replies.now.items c.in-Some-event.reply)
    (accounts-more before _ _ _ _ so (rw c.in-Some-event.is at c.event.ensures.accounts) c.event.ensures.counts.failures)

pub returns-in_default-event-clause-accounts : goal.returns-in_default-event-clause-accounts
returns-in_default-event-clause-accounts g c = λ before so.
    rw (c.reserve.ensures.items, ← append_nil (map (λ r. r.1) c.args.replies.now.items))
    (accounts-more before _ _ _ _ so c.in_default-event.ensures.accounts c.in_default-event.ensures.counts.failures)

-- ---- while there are ids

pub returns-in-Some-event-clause-ids : goal.returns-in-Some-event-clause-ids
returns-in-Some-event-clause-ids g c = λ has.
    let rest = c.pop.new.self.items in
    let one : length c.args.events.now.items ≡ length rest + 1 =
    rw (c.pop.ensures.items, c.in-Some.is) (length-append rest (c.in-Some.event ∷ [])) in
    let next = next-ids g.K.Keep.terms _ _ _ _ _ _ c.args.events.now.items rest c.in-Some.event (c.in-Some-event.reply ∷ []) one
    (rw c.reserve-2.ensures.items has) c.event.ensures.counts.steady g.met.K.Keep.sure
    (rw c.in-Some-event.is at c.event.ensures.step) (rw c.in-Some-event.is at c.event.ensures.steady) in (
      rw (c.push_reserved.ensures.items, c.reserve.ensures.items, map-push (λ r. r.1) c.args.replies.now.items c.in-Some-event.reply)
          (blames-more _ _ _ refl next.0),
      next.1,
    )

pub returns-in_default-event-clause-ids : goal.returns-in_default-event-clause-ids
returns-in_default-event-clause-ids g c = λ has.
    let rest = c.pop.new.self.items in
    let one : length c.args.events.now.items ≡ length rest + 1 =
    rw (c.pop.ensures.items, c.in-Some.is) (length-append rest (c.in-Some.event ∷ [])) in
    let next = next-ids g.K.Keep.terms _ _ _ _ _ _ c.args.events.now.items rest c.in-Some.event [] one
    (rw c.reserve-2.ensures.items has) c.event.ensures.counts.steady g.met.K.Keep.sure
    c.in_default-event.ensures.step c.in_default-event.ensures.steady in
    (rw c.reserve.ensures.items refl, next.1)
