-- The exit statuses of `tokend status`.
use Rattle.std.specs.Prelude.{◌≡◌, ℕ, ◌⊎◌}
use Rattle.standing.specs.declared.standing.Standing.{Standing}
use Rattle.standing.specs.declared.standing.Standing.TheVariants as standings

abbrev pub standing_status : Standing → ℕ
standing_status (standings.Serves info) = 0
standing_status standings.Silent = 8
standing_status (standings.Forbidden allowed) = 9
standing_status standings.NobodyListens = 4
standing_status standings.NoFile = 4
standing_status standings.NoSocket = 4
standing_status (standings.Failed error) = 4

-- 0 where a daemon serves, or why not
abbrev pub IsStandingStatus : ℕ → Type 0
IsStandingStatus n = (n ≡ 0) ⊎ ((n ≡ 4) ⊎ ((n ≡ 8) ⊎ (n ≡ 9)))
