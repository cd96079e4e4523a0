-- Round keys one after another, of which one is written.
use Rattle.std.proofs.Common.{◌≡◌, ℕ, ◌+◌, ◌-◌, ◌*◌, ◌<◌, ◌≤◌, List, [], ◌∷◌, length, take, drop, ap, refl, sym, ◌∙◌, arith, inl, inr}
use borrow.Rule.Slice.PartMut.{put_mid}
use lib.Lanes.{put_chunk}
use Rattle.std.proofs.lemmas.Bool.{cases_lt}
use Rattle.std.proofs.lemmas.List.{take-take, drop-take, take_at, drop_at, length-take-le, length-drop}
use Rattle.std.proofs.lemmas.List.Elements.{All-take, All-drop}
use Rattle.std.proofs.lemmas.Slice.{take-put_mid_below, drop-put_mid}
use Rattle.fips_197.specs.Bytes.{AreBytes, IsBlock}
use Rattle.fips_197.specs.Cipher.{round_key}

-- a vector that fills all of a slice
pub put_all : (xs ys : List ℕ) → length ys ≡ length xs → put_chunk 0 xs ys ≡ ys
put_all [] [] e = refl
put_all [] (y ∷ ys) e = absurd (omega arith)
put_all (x ∷ xs) [] e = absurd (omega arith)
put_all (x ∷ xs) (y ∷ ys) e = ap (λ l. y ∷ l) (put_all xs ys (omega arith))

-- each round key of bytes is a block
pub IsBlock-part : (w : List ℕ) (r : ℕ) → AreBytes w → 16 * r + 16 ≤ length w → IsBlock (round_key w r)
unfolding round_key
IsBlock-part w r bytes h = record {
  size = length-take-le 16 (drop (16 * r) w) (omega (arith, length-drop (16 * r) w));
  bytes = All-take (λ b. b < 256) 16 (drop (16 * r) w) (All-drop (λ b. b < 256) (16 * r) w bytes);
}

-- a round key that lies before a place
before_place : (w : List ℕ) (n q : ℕ) → 16 * q + 16 ≤ n → round_key w q ≡ round_key (take n w) q
unfolding round_key
before_place w n q le =
    let m : ℕ = n - 16 * q in
    let sum : n ≡ 16 * q + m = omega arith in
    sym (ap (λ k. take 16 (drop (16 * q) (take k w))) sum ∙ ap (take 16) (drop-take (16 * q) m w)
    ∙ take-take 16 m (drop (16 * q) w) (omega arith))

-- the keys ks with ys in the place of round key r
module _ (ks ys : List ℕ) (r k : ℕ) (size : k ≡ 16) (long : length ys ≡ 16) (within : 16 * r ≤ length ks) where
  pub stored_here : round_key (put_mid (16 * r) k ks ys) r ≡ ys
  unfolding round_key
  stored_here =
      ap (take 16) (drop_at (take (16 * r) ks) _ (16 * r) (length-take-le (16 * r) ks within)) ∙ take_at ys _ 16 long

  pub stored_others : (q : ℕ) → (q ≡ r → ⊥) → round_key (put_mid (16 * r) k ks ys) q ≡ round_key ks q
  unfolding round_key
  stored_others q ne = elim (cases_lt q r) [
    | inl below ↦ before_place (put_mid (16 * r) k ks ys) (16 * r) q (omega arith)
        ∙ ap (λ l. round_key l q) (take-put_mid_below (16 * r) k ks ys (16 * r) (omega arith) within)
        ∙ sym (before_place ks (16 * r) q (omega arith))
    | inr above ↦
        let past : r < q = omega (arith, ne) in
        ap (take 16) (drop-put_mid (16 * r) k ks ys (16 * q) (omega arith) within (long ∙ sym size))
  ]
