use Rattle.std.proofs.Common.{◌∙◌, ap, subst}
use Rattle.sqlite.specs.Held.{state}
use Rattle.keep_sql_model.specs.Store.{Stayed}
use Rattle.keep_sql_model.specs.SqlState.{SqlState}
use Rattle.keep_sql.proofs.sql_keep.SqlKeepKeep.object.Goals as goal

pub returns-in-Ok-clause-same : goal.returns-in-Ok-clause-same
returns-in-Ok-clause-same g c =
    let it = subst (λ x. Stayed (state g.S.Store x) (state g.S.Store c.read.new.conn))
    (ap (λ (k : SqlState _). k.conn) c.self.view_is) c.in-Ok.ensures.same in
    record {
      held = λ d h. (it.held d h.0, ap (λ (k : SqlState _). k.token_record) c.self.view_is ∙ h.1);
      crash = λ d left h may. it.crash d left h.0 may;
    }

pub returns-in-Err-clause-same : goal.returns-in-Err-clause-same
returns-in-Err-clause-same g c =
    let it = subst (λ x. Stayed (state g.S.Store x) (state g.S.Store c.read.new.conn))
    (ap (λ (k : SqlState _). k.conn) c.self.view_is) c.in-Err.ensures.same in
    record {
      held = λ d h. (it.held d h.0, ap (λ (k : SqlState _). k.token_record) c.self.view_is ∙ h.1);
      crash = λ d left h may. it.crash d left h.0 may;
    }
