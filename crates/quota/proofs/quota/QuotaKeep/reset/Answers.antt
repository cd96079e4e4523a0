use Rattle.std.proofs.Common.{arith, subst}
use Rattle.keep.specs.Contents.{after_reset}
use Rattle.keep.specs.Keeping.{Changes}
use Rattle.quota.specs.QuotaState.{QuotaState, quota_terms}
use Rattle.quota.proofs.Counting.{changes}
use Rattle.quota.proofs.quota.QuotaKeep.reset.Goals as goal

pub returns-clause-ok : goal.returns-clause-ok
returns-clause-ok g c =
    let was = c.self.inside in
    let new : QuotaState g.row.K.Denot =
    record { keep = c.reset.new.self; count = 0; most = was.most; refused = was.refused; tried = was.tried } in
    let step = after_reset c.args.token_record in
    subst (λ k. Changes (quota_terms g.K.Keep.terms) k new step) c.self.view_is
    (changes g.K.Keep.terms _ new c.reset.ensures.counts.doubt step (λ d h sure few. omega arith) c.in_ok-reset.ensures.ok)
