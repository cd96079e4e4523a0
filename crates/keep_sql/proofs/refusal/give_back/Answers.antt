use Rattle.std.proofs.Common.{refl}
use Rattle.sql_log.proofs.Written.{begins_same}
use Rattle.keep_sql.proofs.refusal.give_back.Goals as goal

pub returns-then-not-may_be_used : goal.returns-then-not-may_be_used
returns-then-not-may_be_used g c =
    record { db = refl; log = λ is. absurd (cc); synced = λ is. absurd (cc); crash = λ clean x may. (x, may, λ n alike. begins_same n x) }

pub returns-in-Ok : goal.returns-in-Ok
returns-in-Ok g c = record {
  db = refl;
  log = λ is. c.in-Ok.ensures.bytes;
  synced = λ is. c.in-Ok.ensures.synced;
  crash = c.in-Ok.ensures.crash;
}

pub returns-in-Err : goal.returns-in-Err
returns-in-Err g c = record { db = refl; log = λ is. absurd (cc); synced = λ is. absurd (cc); crash = c.in-Err.ensures.crash }
