-- Permission bits of a file (POSIX.1-2017, sys/stat.h: S_IRUSR, S_IWUSR).
use Rattle.std.specs.Prelude.{ℕ, ◌+◌}

abbrev pub owner_reads : ℕ
owner_reads = 0o400

abbrev pub owner_writes : ℕ
owner_writes = 0o200

-- its owner may read and write it, and nobody else may do anything
abbrev pub owner_alone : ℕ
owner_alone = owner_reads + owner_writes
