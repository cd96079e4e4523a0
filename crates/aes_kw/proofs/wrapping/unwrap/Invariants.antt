use Rattle.std.proofs.Common.{◌≡◌, ◌+◌, ◌-◌, ◌*◌, ℕ, List, length}
use Rattle.fips_197.specs.Bytes.{AreBytes}
use Rattle.aes_kw.specs.KeyWrap.{after_steps}
use Rattle.aes_kw.proofs.wrapping.unwrap.Given as goal

abbrev pub invariant-steps : goal.invariant-steps
invariant-steps l = record {
  size : length l.registers.items ≡ 8 * l.n + 8;
  back : (x : List ℕ) → after_steps l.key l.n x (6 * l.n - l.undone) ≡ l.registers.items → after_steps l.key l.n x (6 * l.n) ≡ l.bytes;
  only : (x : List ℕ) → AreBytes x → length x ≡ 8 * l.n + 8 → after_steps l.key l.n x (6 * l.n) ≡ l.bytes
      → after_steps l.key l.n x (6 * l.n - l.undone) ≡ l.registers.items;
}
