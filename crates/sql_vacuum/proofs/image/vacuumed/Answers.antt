use Rattle.std.proofs.Common.{refl}
use Rattle.sqlite_disk.specs.Memory.{memory_bytes}
use Rattle.sqlite.specs.Files.{file_state}
use Rattle.sql_vacuum.proofs.Files.{file_if}
use Rattle.sql_vacuum.proofs.image.vacuumed.Goals as goal

pub returns-in-Ok-clause-file : goal.returns-in-Ok-clause-file
returns-in-Ok-clause-file g c =
    let it = c.in-Ok.ensures.copied refl in
    file_if (λ v. v.items) c.copy_of.result _ _ (file_state c.in_ok-conn.conn) c.args.version c.bytes.result.now
    (memory_bytes c.in-Ok.files.db) c.copy_of.ensures c.bytes.ensures (c.in_ok-conn.ensures.ok it.was_clean)
    (c.in_ok-conn.ensures.version it.was_clean)
    it.seen.alone
