use Rattle.std.proofs.Common.{List, ℕ, true, sym, ap₂, subst, refl, inl}
use Rattle.std.proofs.lemmas.Bool.{both_ways}
use Rattle.sqlite_wal.specs.Recovery.{Image}
use Rattle.sqlite.specs.Files.{file_state, IsBlankAs}
use Rattle.sqlite.specs.Start.{FindsIn}
use Rattle.keep_sql.proofs.Refusals.{left_by}
use Rattle.keep_sql.proofs.files.SqlKeep+FileStore+D.open_files.Goals as goal

abbrev image : List ℕ → List ℕ → Image
image log db = record { log = log; db = db }

pub returns-in-Err-clause-leaves : goal.returns-in-Err-clause-leaves
returns-in-Err-clause-leaves g c = (c.inspect.ensures.log, c.inspect.ensures.db, c.in-Err.ensures.cause)

pub returns-in-Err-open_files_with-clause-leaves : goal.returns-in-Err-open_files_with-clause-leaves
returns-in-Err-open_files_with-clause-leaves g c = (
  c.inspect.new.files,
  c.inspect.ensures.log,
  c.inspect.ensures.db,
  c.in-Err-open_files_with.ensures.unharmed,
  (c.in-Err-open_files_with.error, refl, c.in-Err-open_files_with.ensures.cause),
)

pub returns-then-not-is_ours-clause-leaves : goal.returns-then-not-is_ours-clause-leaves
returns-then-not-is_ours-clause-leaves g c =
    let seen = ap₂ image c.inspect.ensures.log.seen c.inspect.ensures.db.seen in
    let opened = c.in-Ok-open_files_with.ensures in record {
      was = c.in-Ok-open_files_with.conn;
      is_open = opened.opened;
      finds = λ clean. let f = opened.found clean in
          subst (λ (i : Image). FindsIn i (file_state c.in-Ok-open_files_with.conn)) seen (record { holds = f.holds; reads = f.reads });
      leaves =
          let blank = c.if-not-is_ours.ensures.not_ours refl in
          inl (refl, refl, blank.1, λ clean first. both_ways _ blank.0 ((c.in-Ok.ensures.first (opened.found clean).honest).1 first));
    }

pub returns-in-Err-settle-clause-leaves : goal.returns-in-Err-settle-clause-leaves
returns-in-Err-settle-clause-leaves g c =
    let seen = ap₂ image c.inspect.ensures.log.seen c.inspect.ensures.db.seen in
    let opened = c.in-Ok-open_files_with.ensures in
    left_by c.args.files c.in-Ok-open_files_with.conn c.in-Err-settle.fault c.in-Err-settle.left opened.opened
    (λ clean. let f = opened.found clean in
    subst (λ (i : Image). FindsIn i (file_state c.in-Ok-open_files_with.conn)) seen
    (record { holds = f.holds; reads = f.reads })) c.in-Err-settle.ensures.leaves

pub returns-in-Ok-settle-clause-opened : goal.returns-in-Ok-settle-clause-opened
returns-in-Ok-settle-clause-opened g c =
    let seen = ap₂ image c.inspect.ensures.log.seen c.inspect.ensures.db.seen in
    let opened = c.in-Ok-open_files_with.ensures in
    let it = c.in-Ok-settle.ensures in record {
      was = c.in-Ok-open_files_with.conn;
      is_open = opened.opened;
      finds = λ clean. let f = opened.found clean in
          subst (λ (i : Image). FindsIn i (file_state c.in-Ok-open_files_with.conn)) seen (record { holds = f.holds; reads = f.reads });
      first = λ clean none. (c.in-Ok.ensures.first (opened.found clean).honest).0 (c.if-not-is_ours.ensures.ours refl none);
      undamaged = λ clean. c.in-Ok.ensures.sound (opened.found clean).honest;
      sums = λ clean blank. opened.sums clean (subst (λ (i : Image). IsBlankAs true i) (sym seen) blank);
      opened = it.opened;
      found = it.found;
      fresh = it.fresh;
      copied = it.file;
      failures = it.counts.0;
      tried = it.counts.1;
    }
