use Rattle.std.proofs.Common.{refl, sym, ◌∙◌}
use Rattle.std.proofs.lemmas.Bool.{true≢false}
use Rattle.model_runs.specs.Applications.{desk_at}
use Rattle.token.proofs.Endings.{blames-device, short-result, stays-finished}
use Rattle.model_runs.proofs.Jobs.{answer-other, asked-of, job-of}
use Rattle.model_runs.proofs.Resulted.{lacks-taken, next-taken, taken, open-numbers, shows-open}
use Rattle.token.proofs.Finished.{finished, finished-none}
use Rattle.token.proofs.Refused.{stands-finished}
use Rattle.token.proofs.token.Token.finish.Goals as goal

pub returns : goal.returns
returns g c =
    let f = rw c.deref.ensures.value at c.finish_app.ensures.finishes in
    finished g.K.Keep.terms _ c.args.app c.args.done.job.value c.or_fault_code-reply.result _
    -- how it is taken
    (λ sure w s has.
    let t = rw (← c.self.view_is) at s in
    let q = asked-of _ c.args.app c.args.done.job.value has in
    rw (c.or_fault_code-reply.ensures, c.retain_others.ensures, ← c.self.view_is)
    (taken g.K.Keep.terms _ c.finish_app.new.store _ _ _ c.args.app c.args.done.job.value w t q.0 q.1
    (λ b differ. rw (c.finish_app.ensures.others b differ) refl) c.finish_app.result
    (f.serves sure t.contents t.has (t.fits c.args.app))))
    -- it is of the pending call
    (λ other. absurd (true≢false (sym c.if-not-is_pending_job.false ∙ c.is_pending_job.ensures
    ∙ answer-other _ c.args.app c.args.done.job.value (rw (← c.self.view_is) at other))))
    -- writes, and failures
    (rw (← c.self.view_is) f.counts)
    (λ blamed. rw (← c.self.view_is)
    (f.cause (blames-device g.K.Keep.terms c.args.done.job.value _ _ _ (desk_at c.self.inside.desks.entries c.args.app)
    c.finish_app.result (desk_at c.finish_app.new.desks.entries c.args.app) c.finish_app.ensures.finishes
    (sym c.or_fault_code-reply.ensures ∙ blamed))))
    (rw (← c.self.view_is) (λ steady is w s.
    let blamed = blames-device g.K.Keep.terms c.args.done.job.value _ _ _
    (desk_at c.self.inside.desks.entries c.args.app) c.finish_app.result
    (desk_at c.finish_app.new.desks.entries c.args.app) c.finish_app.ensures.finishes (sym c.or_fault_code-reply.ensures ∙ is) in
    lacks-taken g.K.Keep.terms _ c.finish_app.new.store _ c.finish_app.new.desks.entries _ c.args.app c.args.done.job.value w s
    (f.steady steady blamed s.contents s.has (s.fits c.args.app))))
    -- ids
    (λ sure. rw (c.or_fault_code-reply.ensures, c.retain_others.ensures, ← c.self.view_is) (λ w s is.
    let q = asked-of _ c.args.app c.args.done.job.value (open-numbers w c.args.app c.args.done.job.value is) in
    shows-open w c.args.app c.args.done.job.value is _ _ _ _
    (next-taken g.K.Keep.terms _ c.finish_app.new.store _ _ _ c.args.app c.args.done.job.value w s q.0 q.1
    (λ b differ. rw (c.finish_app.ensures.others b differ) refl) c.finish_app.result
    (f.serves sure s.contents s.has (s.fits c.args.app)))))
    -- desks
    (rw (← c.self.view_is) c.finish_app.ensures.others)
    (λ some. rw (← c.self.view_is)
    (stays-finished g.K.Keep.terms c.args.done.job.value _ _ _ (desk_at c.self.inside.desks.entries c.args.app)
    c.finish_app.result (desk_at c.finish_app.new.desks.entries c.args.app) c.finish_app.ensures.finishes
    (rw c.or_fault_code-reply.ensures at some)))
    (rw (← c.self.view_is) (λ has is k fits.
    let q = job-of _ c.args.app c.args.done.job.value has in
    stands-finished c.args.done.job.value q.0 _ (desk_at c.self.inside.desks.entries c.args.app)
    (desk_at c.finish_app.new.desks.entries c.args.app) c.finish_app.result q.1 f.stays f.refused
    (rw c.or_fault_code-reply.ensures at is) k fits))
    -- its length
    (λ few. rw c.or_fault_code-reply.ensures (short-result c.finish_app.result (f.short few)))

pub returns-then-not-is_pending_job : goal.returns-then-not-is_pending_job
returns-then-not-is_pending_job g c =
    finished-none g.K.Keep.terms _ c.args.app c.args.done.job.value
    (rw (← c.self.view_is) (sym c.is_pending_job.ensures ∙ c.if-not-is_pending_job.true))
