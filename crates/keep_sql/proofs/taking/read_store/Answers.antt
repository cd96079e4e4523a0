use Rattle.std.proofs.Common.{ap, Err, arith}
use Rattle.sqlite.specs.State.{HasCleanDisk}
use Rattle.sqlite.specs.Held.{state}
use Rattle.keep_sql_model.proofs.Opens.{reads_then, same_fault}
use Rattle.keep_sql.proofs.taking.read_store.Goals as goal

pub returns-in_err-token_record-clause-undamaged : goal.returns-in_err-token_record-clause-undamaged
returns-in_err-token_record-clause-undamaged g c =
    λ clean db sees r all damaged. c.in_err-token_record.ensures.undamaged clean db sees r all.record_is
    (ap Err (same_fault c.from_residual.result _ _ c.from_residual.ensures.1 damaged))

pub returns-in_err-renewals-clause-same : goal.returns-in_err-renewals-clause-same
returns-in_err-renewals-clause-same g c = reads_then _ _ _ c.read_record.ensures.same c.read_objects.ensures.same

pub returns-in_err-renewals-clause-undamaged : goal.returns-in_err-renewals-clause-undamaged
returns-in_err-renewals-clause-undamaged g c = λ clean db sees r all damaged.
    c.in_err-renewals.ensures.undamaged clean db (c.read_record.ensures.same.sees db sees) all.objects_are
    (ap Err (same_fault c.from_residual-in_err-renewals.result _ _ c.from_residual-in_err-renewals.ensures.1 damaged))

pub returns-clause-same : goal.returns-clause-same
returns-clause-same g c = reads_then _ _ _ c.read_record.ensures.same c.read_objects.ensures.same

pub returns-clause-ok : goal.returns-clause-ok
returns-clause-ok g c = λ clean db sees.
    let mid_clean : HasCleanDisk (state g.S.Store c.read_record.new.conn) = omega (arith, c.read_objects.ensures.same.clean) in
    let there = c.read_record.ensures.same.sees db sees in (
      c.in_ok-renewals.ensures.open clean db there,
      record {
        record_is = c.in_ok-token_record.ensures.ok mid_clean db sees;
        covered = c.in_ok-renewals.ensures.covered clean db there;
        own = c.in_ok-renewals.ensures.own clean db there;
      },
    )
