use Rattle.std.proofs.Common.{◌≡◌, ◌≢◌, ◌+◌, ◌-◌, ◌≤◌, ◌<◌, ℕ, List, get_or}
use Rattle.aes_modes.specs.Padding.{padded}
use Rattle.aes_modes.proofs.padded_chaining.unpadded_len.Given as goal

-- the bytes looked at so far, from the last on, are as the count has them, or no text has this padded text
abbrev pub invariant-pad : goal.invariant-pad
invariant-pad l = record {
  within : l.wrong ≤ l.i + 2;
  count : l.wrong ≡ 0 → (1 ≤ l.count) × (l.count ≤ 16);
  right : l.wrong ≡ 0 → (j : ℕ) → j < l.i → j < l.count → get_or l.text (l.end - j) 0 ≡ l.count;
  none : l.wrong ≢ 0 → (x : List ℕ) → padded x ≢ l.text;
}
