use Rattle.model_runs.proofs.Resulted.{next-gone, shows-gone}
use Rattle.token.proofs.token.Token.gone.Goals as goal

pub returns-clause-world : goal.returns-clause-world
returns-clause-world g c = λ w s. rw c.retain_others.ensures
    (shows-gone g.K.Keep.terms _ _ c.drop_desk.new.desks.entries _ c.args.app w c.drop_desk.ensures.own c.drop_desk.ensures.others
    (rw (← c.self.view_is) at s))

pub returns-clause-ids : goal.returns-clause-ids
returns-clause-ids g c = rw (c.retain_others.ensures, ← c.self.view_is)
    (λ w s. next-gone g.K.Keep.terms _ _ c.drop_desk.new.desks.entries _ c.args.app w c.drop_desk.ensures.own c.drop_desk.ensures.others s)
