-- Permission bits as they are written: a number in octal digits (POSIX, chmod).
use Rattle.std.specs.Prelude.{◌≡◌, ◌≤◌, ℕ, List}
use Rattle.std.specs.Str.Parse.{IsNumeral, digits_value, without_leading_plus}

-- the text spells these bits: those of owner, group and others
abbrev pub IsMode : List ℕ → ℕ → Type 0
IsMode text mode = IsNumeral 8 (without_leading_plus text) × (digits_value 8 (without_leading_plus text) ≡ mode) × (mode ≤ 511)
