use Rattle.model_runs.proofs.Resulted.{shows-opening, no-jobs, sound-new}
use Rattle.token.proofs.States.{shows-at-first}
use Rattle.token.proofs.token.Token.new.Goals as goal

pub returns-clause-shows : goal.returns-clause-shows
returns-clause-shows g c = λ k held sure. rw (c.new.ensures.empty, c.new-2.ensures.items)
    (shows-opening g.K.Keep.terms _ k (c.in_ok-store.ensures.has k held sure))

pub returns-clause-ids : goal.returns-clause-ids
returns-clause-ids g c = λ k held sure. rw (c.new.ensures.empty, c.new-2.ensures.items)
    (shows-at-first g.K.Keep.terms _ k (c.in_ok-store.ensures.has k held sure))

pub returns-clause-jobs : goal.returns-clause-jobs
returns-clause-jobs g c = λ w s. no-jobs g.K.Keep.terms _ _ w (rw c.new.ensures.empty at s)

pub returns-clause-sound : goal.returns-clause-sound
returns-clause-sound g c = λ w s few. sound-new g.K.Keep.terms _ w (rw (c.new.ensures.empty, c.new-2.ensures.items) at s) few
