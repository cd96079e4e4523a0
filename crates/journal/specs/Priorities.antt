-- The priority that a line on standard error has for a journal: that of syslog (RFC 5424, 6.2.1), as sd-daemon(3) reads it.
use Rattle.std.specs.Prelude.{ℕ}
use Rattle.log.specs.declared.level.Level.{Level}
use Rattle.log.specs.declared.level.Level.TheVariants as level

abbrev pub priority_of : Level → ℕ
priority_of level.Error = 3
priority_of level.Warn = 4
priority_of level.Info = 6
priority_of level.Debug = 7
priority_of level.Trace = 7
