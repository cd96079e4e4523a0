use Rattle.std.proofs.Common.{◌∙◌, ap, subst}
use Rattle.sqlite.specs.Held.{state}
use Rattle.keep.specs.Contents.{with_replacement}
use Rattle.keep_sql_model.specs.Store.{Changed, Failed}
use Rattle.keep_sql_model.specs.SqlState.{SqlState}
use Rattle.keep_sql.proofs.sql_keep.SqlKeepKeep.replace.Goals as goal

pub returns-in-Ok-clause-ok : goal.returns-in-Ok-clause-ok
returns-in-Ok-clause-ok g c =
    let it = subst (λ x. Changed (state g.S.Store x) (state g.S.Store c.replace.new.conn)
    (with_replacement c.args.id c.args.object.now)) (ap (λ (k : SqlState _). k.conn) c.self.view_is) c.in-Ok.ensures.ok in
    record {
      held = λ d h. (it.held d h.0, ap (λ (k : SqlState _). k.token_record) c.self.view_is ∙ h.1);
      crash = λ d left h may. it.crash d left h.0 may;
    }

pub returns-in-Err-clause-err : goal.returns-in-Err-clause-err
returns-in-Err-clause-err g c =
    let it = subst (λ x. Failed (state g.S.Store x) (state g.S.Store c.replace.new.conn)
    (with_replacement c.args.id c.args.object.now)) (ap (λ (k : SqlState _). k.conn) c.self.view_is) c.in-Err.ensures.err in
    record {
      held = λ d h. (it.held d h.0, ap (λ (k : SqlState _). k.token_record) c.self.view_is ∙ h.1);
      crash = λ d left h may. it.crash d left h.0 may;
    }
