use Rattle.std.proofs.Common.{OnOk, subst}
use Rattle.keep.specs.Contents.{with_replacement}
use Rattle.keep.specs.Keeping.{Changes}
use Rattle.quota.specs.QuotaState.{QuotaState, quota_terms}
use Rattle.quota.proofs.Counting.{as_many, on_ok_changes}
use Rattle.quota.proofs.quota.QuotaKeep.replace.Goals as goal

pub returns-clause-ok : goal.returns-clause-ok
returns-clause-ok g c =
    let was = c.self.inside in
    let new : QuotaState g.row.K.Denot =
    record { keep = c.replace.new.self; count = was.count; most = was.most; refused = was.refused; tried = was.tried } in
    let step = with_replacement c.args.id c.args.object.now in
    subst (λ k. OnOk c.replace.result (Changes (quota_terms g.K.Keep.terms) k new step)) c.self.view_is
    (on_ok_changes g.K.Keep.terms _ new c.replace.ensures.counts.doubt c.replace.result step
    (λ d h sure few. as_many c.args.id c.args.object.now d was.count few) c.replace.ensures.ok)
