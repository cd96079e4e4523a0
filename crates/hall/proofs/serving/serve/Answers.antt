use Rattle.std.proofs.Common.{ap, sym, ◌∙◌, subst, refl, [], ◌∷◌, ◌++◌}
use Rattle.hall_log.specs.Histories.{History}
use Rattle.hall_log.specs.Log.{served}
use Rattle.hall_channels.specs.declared.messages.Message.{Message}
use Rattle.hall.specs.Given.{IsSoFar}
use Rattle.hall.proofs.Giving.{so_led, so_more}
use Rattle.hall.proofs.serving.serve.Goals as goal
use Rattle.hall.proofs.serving.serve.Goals.{After-answer-answer}

-- the history goes on by the event and its answer
more : (g : _) (c : After-answer-answer g)
    → IsSoFar g.M.Machine.terms g.J.Naming.was_read c.args.serving.now.began.value c.answer-answer.new.machine
    (served c.args.serving.now.server
    ++ (c.args.posted.post.seat, (c.args.posted.post.event.value, c.answer-answer.result)) ∷ [])
more g c = so_more g.M.Machine.terms g.J.Naming.was_read _ _
    c.answer-answer.new.machine (served c.args.serving.now.server) c.args.posted.post.seat c.take_event.result
    c.args.posted.post.event.value c.answer-answer.result
    c.requires.so (c.if-not-is_next.ensures refl).2
    (c.take_event.ensures ∙ ap (λ (m : Message). m.event) c.deref_mut.ensures.value
    ∙ c.args.posted.same) c.answer-answer.ensures.suits c.answer-answer.ensures.did g.met.M.Machine.sure

pub returns-then-not-is_next-clause-led : goal.returns-then-not-is_next-clause-led
returns-then-not-is_next-clause-led g c =
    so_led g.M.Machine.terms g.J.Naming.was_read _ _ _
    c.requires.so

pub returns-in_default-clause-led : goal.returns-in_default-clause-led
returns-in_default-clause-led g c =
    so_led g.M.Machine.terms g.J.Naming.was_read _ _ _
    c.requires.so

pub serve-requires-clause-served : goal.serve-requires-clause-served
serve-requires-clause-served g c = c.requires.all c.answer-answer.new.machine _
    (more g (goal.at.serve-requires-clause-served g c).After-answer-answer)

pub returns-in_default-serve-clause-led : goal.returns-in_default-serve-clause-led
returns-in_default-serve-clause-led g c =
    so_led g.M.Machine.terms g.J.Naming.was_read _ _ _
    (more g (goal.at.returns-in_default-serve-clause-led g c).After-answer-answer)

pub returns-in-Some-answer-clause-led : goal.returns-in-Some-answer-clause-led
returns-in-Some-answer-clause-led g c =
    so_led g.M.Machine.terms g.J.Naming.was_read _ _ _
    (more g (goal.at.returns-in-Some-answer-clause-led g c).After-answer-answer)

pub returns-in-None-clause-led : goal.returns-in-None-clause-led
returns-in-None-clause-led g c =
    so_led g.M.Machine.terms g.J.Naming.was_read _ _ _
    (more g (goal.at.returns-in-None-clause-led g c).After-answer-answer)

pub returns-in-Some-answer-clause-so : goal.returns-in-Some-answer-clause-so
returns-in-Some-answer-clause-so g c =
    λ t. subst (λ (h : History). IsSoFar g.M.Machine.terms g.J.Naming.was_read c.args.serving.now.began.value
    c.answer-answer.new.machine h) (sym c.in-Some-serve.ensures.served)
    (more g (goal.at.returns-in-Some-answer-clause-so g c).After-answer-answer)

pub returns-in-None-clause-so : goal.returns-in-None-clause-so
returns-in-None-clause-so g c =
    λ t. subst (λ (h : History). IsSoFar g.M.Machine.terms g.J.Naming.was_read c.args.serving.now.began.value
    c.answer-answer.new.machine h) (sym c.in-Some-serve.ensures.served)
    (more g (goal.at.returns-in-None-clause-so g c).After-answer-answer)
