use Rattle.std.proofs.Common.{◌∙◌, ap, sym, subst}
use Rattle.sqlite.specs.Held.{state}
use Rattle.sql_statements.specs.Store.{Unwritten}
use Rattle.keep_sql_model.specs.SqlState.{SqlState}
use Rattle.keep_sql.proofs.Unwritten.{unwritten_stayed}
use Rattle.keep_sql.proofs.sql_keep.SqlKeep.is_shut.Goals as goal

pub returns-clause-same : goal.returns-clause-same
returns-clause-same g c =
    let kept = subst (λ x. Unwritten (state g.S.Store x) (state g.S.Store c.ensure_open-found.new.conn))
    (ap (λ (k : SqlState _). k.conn) c.self.view_is) c.ensure_open-found.ensures.kept in
    let it = unwritten_stayed _ _ kept in
    record {
      held = λ d h. (it.held d h.0, ap (λ (k : SqlState _). k.token_record) c.self.view_is ∙ h.1);
      crash = λ d left h may. it.crash d left h.0 may;
    }
