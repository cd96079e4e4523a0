-- The equivalent inverse cipher leads back from the cipher, and the cipher from it.
use Rattle.std.proofs.Common.{◌≡◌, ℕ, zero, suc, ◌-◌, ◌<◌, ◌≤◌, List, ap, sym, ◌∙◌, arith}
use Rattle.fips_197.specs.Bytes.{IsBlock, xor_bytes}
use Rattle.fips_197.specs.Cipher.{mix_columns, add_round_key, round, last_round, round_key, state_after, cipher}
use Rattle.fips_197.specs.InverseCipher.{inverse_mix_columns, inverse_round, inverse_last_round, inverse_state_after, inverse_cipher}
use Rattle.fips_197.proofs.Blocks.{xor_bytes-twice}
use Rattle.fips_197.proofs.Steps.{shifted, unshifted, IsBlock-shifted, IsBlock-unshifted, shifted-unshifted, unshifted-shifted, IsBlock-mix_columns, IsBlock-inverse_mix_columns, mix_columns-xor, inverse_mix_columns-xor, mix_columns-undone, inverse_mix_columns-undone, IsBlock-add_round_key, IsBlock-round, IsBlock-last_round, IsBlock-inverse_round, IsBlock-inverse_last_round}

-- what is added twice is gone
added-twice : (s k : List ℕ) → IsBlock s → IsBlock k → add_round_key (add_round_key s k) k ≡ s
unfolding add_round_key
added-twice s k hs hk = xor_bytes-twice s k (hs.size ∙ sym hk.size)

-- an inverse round leads back from a round: from the state before one's MixColumns to that before the other's
inverse_round-shifted : (k s : List ℕ) → IsBlock k → IsBlock s
    → inverse_round (inverse_mix_columns k) (shifted (round k s)) ≡ shifted s
unfolding inverse_round round unshifted shifted add_round_key
inverse_round-shifted k s hk hs =
    let t : List ℕ = shifted s in
    let ht : IsBlock t = IsBlock-shifted s hs in
    let mixed : IsBlock (mix_columns t) = IsBlock-mix_columns t ht in
    let hu : IsBlock (inverse_mix_columns k) = IsBlock-inverse_mix_columns k hk in
    ap (λ l. xor_bytes (inverse_mix_columns l) (inverse_mix_columns k)) (unshifted-shifted (round k s) (IsBlock-round k s hk hs))
    ∙ ap (λ l. xor_bytes l (inverse_mix_columns k)) (inverse_mix_columns-xor (mix_columns t) k mixed hk
    ∙ ap (λ l. xor_bytes l (inverse_mix_columns k)) (inverse_mix_columns-undone t ht))
    ∙ xor_bytes-twice t (inverse_mix_columns k) (ht.size ∙ sym hu.size)

-- and a round back from an inverse round
shifted-round : (k d s : List ℕ) → IsBlock k → IsBlock d → shifted s ≡ inverse_round (inverse_mix_columns k) d
    → shifted (round k s) ≡ d
unfolding inverse_round round unshifted shifted add_round_key
shifted-round k d s hk hd e =
    let u : List ℕ = unshifted d in
    let hu : IsBlock u = IsBlock-unshifted d hd in
    let back : round k s ≡ u =
    ap (λ l. xor_bytes (mix_columns l) k) e
    ∙ ap (λ l. xor_bytes l k) (mix_columns-xor (inverse_mix_columns u) (inverse_mix_columns k)
    (IsBlock-inverse_mix_columns u hu) (IsBlock-inverse_mix_columns k hk)
    ∙ (λ i. xor_bytes (mix_columns-undone u hu i) (mix_columns-undone k hk i)))
    ∙ xor_bytes-twice u k (hu.size ∙ sym hk.size) in
    ap shifted back ∙ shifted-unshifted d hd

-- the round keys of n rounds under the schedule w are blocks
module _ (w : List ℕ) (n : ℕ) (keys : (r : ℕ) → r ≤ n → IsBlock (round_key w r)) (some : 1 ≤ n) where
  pub IsBlock-state_after : (p : List ℕ) (r : ℕ) → r ≤ n → IsBlock p → IsBlock (state_after w p r)
  unfolding state_after
  IsBlock-state_after p zero le hp = IsBlock-add_round_key p (round_key w 0) hp (keys 0 le)
  IsBlock-state_after p (suc r) le hp =
      IsBlock-round (round_key w (suc r)) (state_after w p r) (keys (suc r) le) (IsBlock-state_after p r (omega arith) hp)

  pub IsBlock-cipher : (p : List ℕ) → IsBlock p → IsBlock (cipher w n p)
  unfolding cipher
  IsBlock-cipher p hp =
      IsBlock-last_round (round_key w n) (state_after w p (n - 1)) (keys n (omega arith))
      (IsBlock-state_after p (n - 1) (omega arith) hp)

  IsBlock-inverse_state_after : (c : List ℕ) (i : ℕ) → i < n → IsBlock c → IsBlock (inverse_state_after w n c i)
  unfolding inverse_state_after
  IsBlock-inverse_state_after c zero lt hc = IsBlock-add_round_key c (round_key w n) hc (keys n (omega arith))
  IsBlock-inverse_state_after c (suc i) lt hc =
      let k : List ℕ = round_key w (n - suc i) in
      IsBlock-inverse_round (inverse_mix_columns k) (inverse_state_after w n c i)
      (IsBlock-inverse_mix_columns k (keys (n - suc i) (omega arith))) (IsBlock-inverse_state_after c i (omega arith) hc)

  pub IsBlock-inverse_cipher : (c : List ℕ) → IsBlock c → IsBlock (inverse_cipher w n c)
  unfolding inverse_cipher
  IsBlock-inverse_cipher c hc =
      IsBlock-inverse_last_round (round_key w 0) (inverse_state_after w n c (n - 1)) (keys 0 (omega arith))
      (IsBlock-inverse_state_after c (n - 1) (omega arith) hc)

  -- from an encrypted block back: after i rounds the state is the one before MixColumns of the round n - i
  passed : (p : List ℕ) (i : ℕ) → i < n → IsBlock p → inverse_state_after w n (cipher w n p) i
      ≡ shifted (state_after w p (n - suc i))
  unfolding inverse_state_after cipher last_round shifted state_after
  passed p zero lt hp =
      let t : List ℕ = shifted (state_after w p (n - 1)) in
      added-twice t (round_key w n) (IsBlock-shifted (state_after w p (n - 1))
      (IsBlock-state_after p (n - 1) (omega arith) hp)) (keys n (omega arith))
  passed p (suc i) lt hp =
      let r : ℕ = n - suc (suc i) in
      let here : n - suc i ≡ suc r = omega arith in
      ap (inverse_round (inverse_mix_columns (round_key w (n - suc i)))) (passed p i (omega arith) hp)
      ∙ (λ t. inverse_round (inverse_mix_columns (round_key w (here t))) (shifted (state_after w p (here t))))
      ∙ inverse_round-shifted (round_key w (suc r)) (state_after w p r) (keys (suc r) (omega arith))
      (IsBlock-state_after p r (omega arith) hp)

  pub inverse_cipher-cipher : (p : List ℕ) → IsBlock p → inverse_cipher w n (cipher w n p) ≡ p
  unfolding inverse_cipher inverse_last_round unshifted state_after
  inverse_cipher-cipher p hp =
      let first : n - suc (n - 1) ≡ 0 = omega arith in
      ap (λ l. add_round_key (unshifted l) (round_key w 0))
      (passed p (n - 1) (omega arith) hp ∙ ap (λ r. shifted (state_after w p r)) first)
      ∙ ap (λ l. add_round_key l (round_key w 0))
      (unshifted-shifted (add_round_key p (round_key w 0)) (IsBlock-add_round_key p (round_key w 0) hp (keys 0 (omega arith))))
      ∙ added-twice p (round_key w 0) hp (keys 0 (omega arith))

  -- from a decrypted block forward: after r rounds the state is the one that the inverse rounds came from
  passed_back : (c : List ℕ) (r : ℕ) → r < n → IsBlock c → shifted (state_after w (inverse_cipher w n c) r)
      ≡ inverse_state_after w n c (n - suc r)
  unfolding state_after inverse_state_after inverse_cipher inverse_last_round unshifted
  passed_back c zero lt hc =
      let d : List ℕ = inverse_state_after w n c (n - 1) in
      let hd : IsBlock d = IsBlock-inverse_state_after c (n - 1) (omega arith) hc in
      ap shifted (added-twice (unshifted d) (round_key w 0) (IsBlock-unshifted d hd) (keys 0 (omega arith)))
      ∙ shifted-unshifted d hd
  passed_back c (suc r) lt hc =
      let m : ℕ = n - suc (suc r) in
      let next : n - suc r ≡ suc m = omega arith in
      let here : n - suc m ≡ suc r = omega arith in
      let d : List ℕ = inverse_state_after w n c m in
      shifted-round (round_key w (suc r)) d (state_after w (inverse_cipher w n c) r) (keys (suc r) (omega arith))
      (IsBlock-inverse_state_after c m (omega arith) hc)
      (passed_back c r (omega arith) hc ∙ ap (inverse_state_after w n c) next
      ∙ ap (λ j. inverse_round (inverse_mix_columns (round_key w j)) d) here)

  pub cipher-inverse_cipher : (c : List ℕ) → IsBlock c → cipher w n (inverse_cipher w n c) ≡ c
  unfolding cipher last_round shifted inverse_state_after
  cipher-inverse_cipher c hc =
      let last : n - suc (n - 1) ≡ 0 = omega arith in
      ap (λ l. add_round_key l (round_key w n)) (passed_back c (n - 1) (omega arith) hc ∙ ap (inverse_state_after w n c) last)
      ∙ added-twice c (round_key w n) hc (keys n (omega arith))
