use Rattle.std.proofs.Common.{◌≡◌, ◌⊎◌, ℕ, Bool, cond, List, Result, Ok, Err, IfOk, IfErr, sym, ap₂, subst, inl, inr}
use Rattle.sqlite_disk.specs.Events.{Event, replay}
use Rattle.sqlite_wal.specs.Recovery.{Image}
use Rattle.keep_sql_model.specs.OpenedFile.{OpenedFile}
use Rattle.keep_sql.proofs.path.SqlKeep+FileStore+FileFrom+S.open.Goals as goal

abbrev image : List ℕ → List ℕ → Image
image log db = record { log = log; db = db }

abbrev seen : List ℕ → List ℕ → Bool → List Event → List ℕ
seen log db is_log history = (replay (cond is_log log db) history).seen

if_err : {X E : Type 0} (P Q : E → Type 0) (r : Result X E) → ((e : E) → P e → Q e) → IfErr r P → IfErr r Q
if_err P Q (Ok x) step it = tt
if_err P Q (Err e) step it = step e it

pub returns-in-Ok-random-clause-opened : goal.returns-in-Ok-random-clause-opened
returns-in-Ok-random-clause-opened g c =
    let (log, db) = c.in-Ok.ensures.fresh in
    let same = ap₂ image (ap₂ (seen g.S.Start.log g.S.Start.db) log.0 log.1) (ap₂ (seen g.S.Start.log g.S.Start.db) db.0 db.1) in
    subst (λ (i : Image). IfOk c.open_files.result (OpenedFile i)) same c.open_files.ensures.opened

pub returns-in-Ok-random-clause-leaves : goal.returns-in-Ok-random-clause-leaves
returns-in-Ok-random-clause-leaves g c =
    if_err _ _ c.open_files.result
    (λ r it. inr (c.in-Ok.files, c.in-Ok.ensures.fresh.0, c.in-Ok.ensures.fresh.1, it)) c.open_files.ensures.leaves
