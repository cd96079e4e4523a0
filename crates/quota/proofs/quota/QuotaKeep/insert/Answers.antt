use Rattle.std.proofs.Common.{◌+◌, subst}
use Rattle.keep.specs.Contents.{with_object}
use Rattle.keep.specs.Keeping.{Changes}
use Rattle.quota.specs.QuotaState.{QuotaState, quota_terms}
use Rattle.quota.proofs.Counting.{changes, one_more}
use Rattle.quota.proofs.quota.QuotaKeep.insert.Goals as goal

pub returns-clause-ok : goal.returns-clause-ok
returns-clause-ok g c =
    let was = c.self.inside in
    let new : QuotaState g.row.K.Denot =
    record { keep = c.insert.new.self; count = was.count + 1; most = was.most; refused = was.refused; tried = was.tried } in
    let step = with_object c.args.object.now in
    subst (λ k. Changes (quota_terms g.K.Keep.terms) k new step) c.self.view_is
    (changes g.K.Keep.terms _ new c.insert.ensures.counts.doubt step
    (λ d h sure few. one_more c.args.object.now d was.count few) c.in_ok-id.ensures.ok)
