use Rattle.std.proofs.Common.{◌≡◌}
use Rattle.keep.specs.declared.keep.KeepFault.TheVariants.{Damaged}
use Rattle.keep_sql.proofs.files.adopt.Goals as goal

pub returns-clause-undamaged : goal.returns-clause-undamaged
returns-clause-undamaged g c =
    λ none all is. c.in-Err.ensures.back.fresh none (all c.in-Err.field-0-1) (let fault : c.in-Err.fault ≡ Damaged = cc in fault)
