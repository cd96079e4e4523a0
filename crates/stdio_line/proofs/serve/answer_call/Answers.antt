use Rattle.std.proofs.Common.{◌≡◌, Some, None, [], ◌∷◌, sym, ◌∙◌, ap, arith}
use Rattle.model_worlds.specs.Worlds.{World, called}
use Rattle.serve_base.specs.declared.out.Out.TheVariants.{Reply as OutReply}
use Rattle.serve_base.specs.Shown.{question_of}
use Rattle.token.proofs.States.{accounts-none, accounts-more, accounts-one, blames-none, shows-more}
use Rattle.token.specs.States.{IsOpen, ShowsAfter}
use Rattle.stdio_line.proofs.Going.{ids-moved}
use Rattle.stdio_line.proofs.Moving.{idle, moved-reply, moved-ask}
use Rattle.stdio_line.proofs.serve.answer_call.Goals as goal

pub returns-in-Reply-clause-moved : goal.returns-in-Reply-clause-moved
returns-in-Reply-clause-moved g c = λ sure w s h.
    moved-reply w (idle w h) c.args.app c.args.call c.args.random _ _ _ c.in-Reply.reply
    (rw c.deref.ensures.value at (c.in-Reply.ensures.says sure w s))
    (rw c.deref.ensures.value at (c.in-Reply.ensures.world sure w s)) (rw c.deref.ensures.value at (c.in-Reply.ensures.leaves sure w s))

pub returns-clause-moved : goal.returns-clause-moved
returns-clause-moved g c = λ sure w s h.
    let honest : g.K.Keep.terms.doubt c.call.new.self.store.keep ≡ 0 = omega (arith, c.finish.ensures.counts.doubt, sure) in
    let v : World = called w c.args.app c.args.call c.args.random.items None in
    let shown = rw c.deref.ensures.value at (c.in-Ask.ensures.world honest w s) in
    let opened : (v.views c.args.app).question ≡ Some (question_of c.in-Ask.job) → IsOpen v c.args.app c.run.result.job.value =
    λ out. record {
      asker = ap (λ j. j.app) c.run.ensures ∙ c.in-Ask.ensures.asker;
      question = out
          ∙ ap (λ j. Some (question_of j)) (sym c.run.ensures);
    } in
    moved-ask w (idle w h) c.args.app c.args.call c.args.random _ _ _ _ c.finish.result (question_of c.in-Ask.job)
    (rw c.deref.ensures.value at (c.in-Ask.ensures.says honest w s))
    (λ out. c.finish.ensures.told sure v shown (opened out))
    (λ out. c.finish.ensures.world sure v shown (opened out))
    (rw c.deref.ensures.value at (c.in-Ask.ensures.leaves honest w s))
    (λ out. c.finish.ensures.leaves sure v shown (opened out))

-- ---- whom the reply blames

pub returns-in-Reply-clause-accounts : goal.returns-in-Reply-clause-accounts
returns-in-Reply-clause-accounts g c =
    accounts-one _ _ c.in-Reply.reply c.in-Reply.ensures.counts.failures (λ is. c.in-Reply.ensures.cause (ap OutReply is))

pub returns-clause-accounts : goal.returns-clause-accounts
returns-clause-accounts g c =
    accounts-more _ _ _ [] (c.finish.result ∷ []) (accounts-none _ _ c.in-Ask.ensures.counts.failures)
    (accounts-one _ _ c.finish.result c.finish.ensures.counts.failures c.finish.ensures.cause) c.finish.ensures.counts.failures

-- ---- and only where there is no id

pub returns-in-Reply-clause-ids : goal.returns-in-Reply-clause-ids
returns-in-Reply-clause-ids g c = λ count has.
    let w = has.world in
    let s = has.shows in
    let room = has.ids in
    let steady = c.in-Reply.ensures.counts.steady has.steady in
    let sure = g.met.K.Keep.sure _ steady in
    let moved = moved-reply w (idle w has.jobs) c.args.app c.args.call c.args.random
    (ShowsAfter g.K.Keep.terms s.contents 2 c.call.new.self) _ _ c.in-Reply.reply
    (rw c.deref.ensures.value at (c.in-Reply.ensures.says sure w s))
    (shows-more g.K.Keep.terms s.contents 1 2 _ _ (omega arith) (rw c.deref.ensures.value at (c.in-Reply.ensures.ids sure w s)))
    (rw c.deref.ensures.value at (c.in-Reply.ensures.leaves sure w s)) in (
      blames-none c.in-Reply.reply
          (λ is. let lacks = (c.in-Reply.ensures.steady has.steady (ap OutReply is) w s).1 in omega (arith, lacks, room)),
      ids-moved g.K.Keep.terms c.args.token.now c.call.new.self count 2 has steady _ _ _ _ moved,
    )

pub returns-clause-ids : goal.returns-clause-ids
returns-clause-ids g c = λ count has.
    let w = has.world in
    let s = has.shows in
    let room = has.ids in
    let between = c.in-Ask.ensures.counts.steady has.steady in
    let steady = c.finish.ensures.counts.steady between in
    let honest = g.met.K.Keep.sure _ between in
    let sure = g.met.K.Keep.sure _ steady in
    let v : World = called w c.args.app c.args.call c.args.random.items None in
    let next = rw c.deref.ensures.value at (c.in-Ask.ensures.ids honest w s) in
    let shown = next.0 in
    let one = next.1 in
    let opened : (v.views c.args.app).question ≡ Some (question_of c.in-Ask.job) → IsOpen v c.args.app c.run.result.job.value =
    λ out. record {
      asker = ap (λ j. j.app) c.run.ensures ∙ c.in-Ask.ensures.asker;
      question = out
          ∙ ap (λ j. Some (question_of j)) (sym c.run.ensures);
    } in
    let moved = moved-ask w (idle w has.jobs) c.args.app c.args.call c.args.random
    (ShowsAfter g.K.Keep.terms s.contents 2 c.finish.new.self) _ _ _ c.finish.result (question_of c.in-Ask.job)
    (rw c.deref.ensures.value at (c.in-Ask.ensures.says honest w s))
    (λ out. c.finish.ensures.told sure v shown (opened out))
    (λ out. let last = c.finish.ensures.ids sure v shown (opened out) in (last.0, let more = last.1 in omega (arith, one, more)))
    (rw c.deref.ensures.value at (c.in-Ask.ensures.leaves honest w s))
    (λ out. c.finish.ensures.leaves sure v shown (opened out)) in (
      blames-none c.finish.result (λ is. let lacks = (c.finish.ensures.steady between is v shown).1 in
          omega (arith, lacks, one, room)),
      ids-moved g.K.Keep.terms c.args.token.now c.finish.new.self count 2 has steady _ _ _ _ moved,
    )
