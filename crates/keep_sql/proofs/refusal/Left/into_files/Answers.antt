use Rattle.std.proofs.Common.{Some, sym, subst}
use Rattle.keep_sql.specs.Refusal.{AreLeftIn}
use Rattle.keep_sql.specs.declared.refusal.Left.{Left}
use Rattle.keep_sql.proofs.refusal.Left.into_files.Goals as goal

pub returns-in-Connection-clause-files : goal.returns-in-Connection-clause-files
returns-in-Connection-clause-files g c =
    subst (λ (left : Left _ _). AreLeftIn left (Some c.close.result)) (sym c.in-Connection.is)
    (c.into_store.result, c.into_store.ensures.quiet, c.close.ensures)
