use Rattle.std.proofs.Common.{◌≤◌, ◌-◌, length, subst, sym}
use Rattle.keep.specs.Contents.{without_object}
use Rattle.keep.specs.Keeping.{Changes}
use Rattle.quota.specs.QuotaState.{QuotaState, quota_terms}
use Rattle.quota.proofs.Counting.{changes, one_less}
use Rattle.quota.proofs.quota.QuotaKeep.remove.Goals as goal

pub returns-clause-ok : goal.returns-clause-ok
returns-clause-ok g c =
    let was = c.self.inside in
    let new : QuotaState g.row.K.Denot =
    record {
      keep = c.remove.new.self;
      count = c.saturating_sub-self-inside.result;
      most = was.most;
      refused = was.refused;
      tried = was.tried;
    } in
    let step = without_object c.args.id in
    subst (λ k. Changes (quota_terms g.K.Keep.terms) k new step) c.self.view_is
    (changes g.K.Keep.terms _ new c.remove.ensures.counts.doubt step
    (λ d h sure few. subst (λ n. length (step d).objects ≤ n) (sym c.saturating_sub-self-inside.ensures)
    (one_less c.args.id d was.count (c.in_ok-remove.ensures.there sure d h) few)) c.in_ok-remove.ensures.ok)
