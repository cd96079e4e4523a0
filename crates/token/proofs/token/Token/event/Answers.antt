use Rattle.std.proofs.Common.{refl, sym, ap, arith, inl}
use Rattle.serve_base.specs.declared.out.Out.TheVariants.{Reply as OutReply}
use Rattle.model_runs.proofs.Jobs.{step_reply, step_ask, step_finish, step_pass, step_gone, open_is, no_question, none-left}
use Rattle.model_runs.proofs.Accounts.{accounts-one, accounts-none}
use Rattle.model_runs.proofs.Ids.{blames-one, shows-more}
use Rattle.model_runs.proofs.Resulted.{lacks-open}
use Rattle.token.proofs.token.Token.event.Goals as goal

pub returns-in-Reply-clause-step : goal.returns-in-Reply-clause-step
returns-in-Reply-clause-step g c = λ sure w s h.
    rw c.in-Call.is (step_reply w c.args.out.now.items h c.in-Call.app _ _ _ c.in-Call.call c.in-Call.words c.in-Reply.reply
    (rw c.deref.ensures.value at (c.in-Reply.ensures.says sure w s)) (rw c.deref.ensures.value at (c.in-Reply.ensures.ids sure w s))
    (rw c.deref.ensures.value at (c.in-Reply.ensures.leaves sure w s)))

pub returns-in-Call-clause-step : goal.returns-in-Call-clause-step
returns-in-Call-clause-step g c = λ sure w s h.
    rw (c.in-Call.is, c.push_reserved.ensures.items)
    (step_ask w c.args.out.now.items h c.in-Call.app _ _ _ c.in-Call.call c.in-Call.words c.in-Ask.job c.in-Ask.ensures.asker
    (rw c.deref.ensures.value at (c.in-Ask.ensures.says sure w s)) (rw c.deref.ensures.value at (c.in-Ask.ensures.ids sure w s))
    (rw c.deref.ensures.value at (c.in-Ask.ensures.leaves sure w s)))

pub returns-in-Some-clause-step : goal.returns-in-Some-clause-step
returns-in-Some-clause-step g c = λ sure w s h.
    let taken = rw c.in-Some.is at c.take_job.ensures in
    let is = open_is w c.in-Finish.app c.args.out.now.items c.take_job.new.out.items c.in-Some.job h taken in
    let same = rw (sym c.run.ensures) at is.0 in
    rw c.in-Finish.is (step_finish w c.args.out.now.items h c.in-Finish.app _ _ _ c.take_job.new.out.items is.1 taken.1
    c.in-Some.job c.finish-reply.result is.0
    (c.finish-reply.ensures.told sure w s same) (c.finish-reply.ensures.ids sure w s same) (c.finish-reply.ensures.leaves sure w s same))

pub returns-in-Finish-clause-step : goal.returns-in-Finish-clause-step
returns-in-Finish-clause-step g c = λ sure w s h.
    let taken = rw c.in-None.is at c.take_job.ensures in
    rw (c.in-Finish.is, taken.1) (step_pass w c.args.out.now.items h c.in-Finish.app _ _ _
    (no_question w c.in-Finish.app c.args.out.now.items h taken.0) (s, omega arith) (λ l may. may))

pub returns-clause-step : goal.returns-clause-step
returns-clause-step g c = λ sure w s h.
    let rest = none-left c.in-Gone.app c.args.out.now.items c.take_job-in-Gone.result c.take_job-in-Gone.new.out.items w h
    c.take_job-in-Gone.ensures in
    rw c.in-Gone.is (step_gone w c.args.out.now.items h c.in-Gone.app _ _ _ c.take_job-in-Gone.new.out.items rest.0 rest.1
    (shows-more g.K.Keep.terms s.contents 0 1 _ _ (omega arith) (c.gone.ensures.ids w s)) (λ l may. rw c.gone.ensures.keep at may))

-- ---- whom the reply blames

pub returns-in-Reply-clause-accounts : goal.returns-in-Reply-clause-accounts
returns-in-Reply-clause-accounts g c =
    accounts-one _ _ c.in-Reply.reply c.in-Reply.ensures.counts.failures (λ is. c.in-Reply.ensures.cause (ap OutReply is))

pub returns-in-Call-clause-accounts : goal.returns-in-Call-clause-accounts
returns-in-Call-clause-accounts g c = accounts-none _ _ c.in-Ask.ensures.counts.failures

pub returns-in-Some-clause-accounts : goal.returns-in-Some-clause-accounts
returns-in-Some-clause-accounts g c =
    accounts-one _ _ c.finish-reply.result c.finish-reply.ensures.counts.failures c.finish-reply.ensures.cause

pub returns-in-Finish-clause-accounts : goal.returns-in-Finish-clause-accounts
returns-in-Finish-clause-accounts g c = accounts-none _ _ (omega arith)

pub returns-clause-accounts : goal.returns-clause-accounts
returns-clause-accounts g c = rw c.gone.ensures.keep (accounts-none _ _ (omega arith))

-- ---- and only where there is no id

pub returns-in-Reply-clause-steady : goal.returns-in-Reply-clause-steady
returns-in-Reply-clause-steady g c = λ steady w s h.
    rw c.in-Call.is (blames-one _ c.in-Reply.reply
    (λ is. rw c.deref.ensures.value at (c.in-Reply.ensures.steady steady (ap OutReply is) w s)))

pub returns-in-Call-clause-steady : goal.returns-in-Call-clause-steady
returns-in-Call-clause-steady g c = λ steady w s h. inl refl

pub returns-in-Some-clause-steady : goal.returns-in-Some-clause-steady
returns-in-Some-clause-steady g c = λ steady w s h.
    let taken = rw c.in-Some.is at c.take_job.ensures in
    let is = open_is w c.in-Finish.app c.args.out.now.items c.take_job.new.out.items c.in-Some.job h taken in
    rw c.in-Finish.is (blames-one _ c.finish-reply.result
    (λ blamed. lacks-open w c.in-Finish.app c.in-Some.job is.0 s.contents
    (rw c.run.ensures at (c.finish-reply.ensures.steady steady blamed w s))))

pub returns-in-Finish-clause-steady : goal.returns-in-Finish-clause-steady
returns-in-Finish-clause-steady g c = λ steady w s h. inl refl

pub returns-clause-steady : goal.returns-clause-steady
returns-clause-steady g c = λ steady w s h. inl refl
