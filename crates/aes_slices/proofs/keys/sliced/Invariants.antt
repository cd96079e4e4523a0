use Rattle.std.proofs.Common.{◌≡◌, ℕ, ◌<◌, ◌≤◌, length}
use Rattle.fips_197.specs.Cipher.{round_key}
use Rattle.fips_197.specs.KeyExpansion.{key_expansion}
use Rattle.aes_planes.specs.Planes.{IsSliced, with_constant}
use Rattle.aes_slices.specs.Slices.{eight_at}
use Rattle.aes_slices.specs.Rows.{in_rows}
use Rattle.aes_slices.proofs.keys.sliced.Given as goal

-- the planes so far are those of the round keys
abbrev pub invariant-keys : goal.invariant-keys
invariant-keys l = record {
  size : length l.planes ≡ 1920;
  first : (j : ℕ) → j < 8 → IsSliced (eight_at l.planes 0) j (round_key (key_expansion l.key) 0);
  so_far : (q : ℕ) → q < l.r → 1 ≤ q → (j : ℕ) → j < 8
      → IsSliced (eight_at l.planes q) j (in_rows (with_constant (round_key (key_expansion l.key) q)));
}
