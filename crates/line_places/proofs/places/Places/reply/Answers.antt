use Rattle.std.proofs.Common.{ap, refl, sym, ◌∙◌}
use Rattle.std.proofs.lemmas.Option.{slice_get_within}
use Rattle.std.proofs.Math.Logic.{∥∥₁_map}
use Rattle.line_places.proofs.Doing.{at-index, count-set, did-reply, one-client, client-at}
use Rattle.line_places.proofs.Arriving.{come-set, past-stays}
use Rattle.line_places.proofs.Tying.{get_set_other, sent-at, tied-sent}
use Rattle.line_places.proofs.places.Places.reply.Goals as goal

pub invariant_of-self : goal.invariant_of-self
invariant_of-self g c =
    let was = c.args.self.now in
    let r = c.requires.owed in
    let at = at-index was.places.items c.args.place c.index_mut.result.now
    (slice_get_within was.places.items c.args.place r.is.place r.is.at) c.index_mut.ensures.value in
    let one = one-client was.places.items c.args.place r.is.place c.index_mut.result.now r.client c.in-Some.client r.is.at at
    r.is.client c.in-Some.is in
    record {
      worker = was.worker;
      count = count-set was.places.items c.args.place _ was.count;
      kept = ∥∥₁_map was.kept
          (did-reply was.seed was.number was.places.items was.past.items was.asked.items was.told.items c.args.place
          c.index_mut.result.now c.in-Some.client c.reply.new.self at c.in-Some.is c.reply.ensures.same
          c.args.app c.args.reply c.push.new.self.items (ap (λ x. x.app) (sym one) ∙ r.app_is) c.reply.ensures.takes c.push.ensures);
    }

pub invariant_of-self-in_default : goal.invariant_of-self-in_default
invariant_of-self-in_default g c =
    let was = c.args.self.now in
    let r = c.requires.owed in
    let at = at-index was.places.items c.args.place c.index_mut.result.now
    (slice_get_within was.places.items c.args.place r.is.place r.is.at) c.index_mut.ensures.value in
    absurd (c.in_default.not-Some r.client
    (client-at was.places.items c.args.place r.is.place c.index_mut.result.now r.client r.is.at at r.is.client))

pub returns-in-Some-clause-still : goal.returns-in-Some-clause-still
returns-in-Some-clause-still g c =
    let was = c.args.self.now in
    let r = c.requires.owed in
    let at = at-index was.places.items c.args.place c.index_mut.result.now
    (slice_get_within was.places.items c.args.place r.is.place r.is.at) c.index_mut.ensures.value in
    come-set was.number was.places.items c.args.place c.index_mut.result.now _ at
    (past-stays c.index_mut.result.now _ c.reply.new.self refl refl)

pub returns-in-Some-clause-others : goal.returns-in-Some-clause-others
returns-in-Some-clause-others g c =
    let was = c.args.self.now in
    λ i not. get_set_other was.places.items c.args.place i _ not

pub returns-in-Some-clause-tied : goal.returns-in-Some-clause-tied
returns-in-Some-clause-tied g c =
    let was = c.args.self.now in
    let r = c.requires.owed in
    let at = at-index was.places.items c.args.place c.index_mut.result.now
    (slice_get_within was.places.items c.args.place r.is.place r.is.at) c.index_mut.ensures.value in
    λ all. tied-sent g.R.Source.given g.R.Source.reading g.W.Taker.writing was.places.items was.past.items c.args.place
    c.index_mut.result.now c.in-Some.client c.reply.new.self at c.in-Some.is c.reply.ensures.same.0 all _ c.reply.ensures.sent

pub returns-in-Some-clause-sent : goal.returns-in-Some-clause-sent
returns-in-Some-clause-sent g c =
    let was = c.args.self.now in
    let r = c.requires.owed in
    let at = at-index was.places.items c.args.place c.index_mut.result.now
    (slice_get_within was.places.items c.args.place r.is.place r.is.at) c.index_mut.ensures.value in
    sent-at g.R.Source.given g.R.Source.reading g.W.Taker.writing was.places.items was.past.items c.args.place
    c.index_mut.result.now c.in-Some.client c.reply.new.self at c.in-Some.is _ c.reply.ensures.sent

pub reply-requires-clause-may : goal.reply-requires-clause-may
reply-requires-clause-may g c =
    let was = c.args.self.now in
    let r = c.requires.owed in
    let at = at-index was.places.items c.args.place c.index_mut.result.now
    (slice_get_within was.places.items c.args.place r.is.place r.is.at) c.index_mut.ensures.value in
    c.requires.may c.in-Some.client (record { place = c.index_mut.result.now; at = at; client = c.in-Some.is })

pub returns-clause-sent : goal.returns-clause-sent
returns-clause-sent g c =
    let was = c.args.self.now in
    let r = c.requires.owed in
    let at = at-index was.places.items c.args.place c.index_mut.result.now
    (slice_get_within was.places.items c.args.place r.is.place r.is.at) c.index_mut.ensures.value in
    absurd (c.in_default.not-Some r.client
    (client-at was.places.items c.args.place r.is.place c.index_mut.result.now r.client r.is.at at r.is.client))

pub returns-clause-tied : goal.returns-clause-tied
returns-clause-tied g c =
    let was = c.args.self.now in
    let r = c.requires.owed in
    let at = at-index was.places.items c.args.place c.index_mut.result.now
    (slice_get_within was.places.items c.args.place r.is.place r.is.at) c.index_mut.ensures.value in
    absurd (c.in_default.not-Some r.client
    (client-at was.places.items c.args.place r.is.place c.index_mut.result.now r.client r.is.at at r.is.client))
