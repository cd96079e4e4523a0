-- The exit statuses of `tokend`.
use Rattle.std.specs.Prelude.{◌≡◌, ℕ, ◌⊎◌}
use Rattle.commands.specs.declared.failure.Failure.{Failure}
use Rattle.commands.specs.declared.failure.Failure.TheVariants as failures

abbrev pub status_of : Failure → ℕ
status_of failures.CommandLine = 2
status_of failures.Store = 3
status_of failures.Copy = 3
status_of failures.Socket = 4
status_of failures.BadInput = 5
status_of failures.Memory = 6
status_of failures.Line = 7

-- 0 where it ended as asked, 2 for a command line that is refused, or that of a failure or of a daemon that doesn't serve
abbrev pub IsStatus : ℕ → Type 0
IsStatus n = (n ≡ 0) ⊎ ((n ≡ 2) ⊎ ((n ≡ 3) ⊎ ((n ≡ 4) ⊎ ((n ≡ 5) ⊎ ((n ≡ 6) ⊎ ((n ≡ 7) ⊎ ((n ≡ 8) ⊎ (n ≡ 9))))))))
