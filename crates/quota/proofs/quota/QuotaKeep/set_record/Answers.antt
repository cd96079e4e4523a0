use Rattle.std.proofs.Common.{OnOk, subst}
use Rattle.keep.specs.Contents.{with_record}
use Rattle.keep.specs.Keeping.{Changes}
use Rattle.quota.specs.QuotaState.{QuotaState, quota_terms}
use Rattle.quota.proofs.Counting.{on_ok_changes}
use Rattle.quota.proofs.quota.QuotaKeep.set_record.Goals as goal

pub returns-clause-ok : goal.returns-clause-ok
returns-clause-ok g c =
    let was = c.self.inside in
    let new : QuotaState g.row.K.Denot =
    record { keep = c.set_record.new.self; count = was.count; most = was.most; refused = was.refused; tried = was.tried } in
    subst (λ k. OnOk c.set_record.result (Changes (quota_terms g.K.Keep.terms) k new (with_record c.args.token_record))) c.self.view_is
    (on_ok_changes g.K.Keep.terms _ new c.set_record.ensures.counts.doubt c.set_record.result (with_record c.args.token_record)
    (λ d h sure few. few) c.set_record.ensures.ok)
