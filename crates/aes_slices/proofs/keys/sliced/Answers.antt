use Rattle.std.proofs.Common.{ℕ, ◌<◌, ◌≤◌, ap, refl, sym, subst, ◌∙◌, arith, below_more}
use Rattle.fips_197.specs.Cipher.{round_key}
use Rattle.fips_197.specs.KeyExpansion.{key_expansion}
use Rattle.fips_197.proofs.KeySchedules.{round_count-bounds, IsBlock-round_key}
use Rattle.aes_planes.specs.Planes.{IsSliced, with_constant}
use Rattle.aes_slices.specs.Slices.{eight_at}
use Rattle.aes_slices.specs.Rows.{in_rows}
use Rattle.aes_slices.specs.Keys.{ArePlanes}
use Rattle.aes_slices.proofs.keys.sliced.Goals as goal

pub store_eight-requires-in-keys : goal.store_eight-requires-in-keys
store_eight-requires-in-keys c =
    omega (arith, c.keys.invariant.size, c.rounds-rounds.ensures.value, round_count-bounds c.args.key.now c.rounds-rounds.ensures.key.size)

pub store_eight-requires-2 : goal.store_eight-requires-2
store_eight-requires-2 c =
    omega (arith, c.keys.invariant.size, c.rounds-rounds.ensures.value, round_count-bounds c.args.key.now c.rounds-rounds.ensures.key.size)

pub keys-init : goal.keys-init
keys-init c =
    let k = round_key (key_expansion c.args.key.now) 0 in
    record {
      size = c.store_eight.ensures.size ∙ refl;
      first = λ j lt. subst (λ t. IsSliced t j k) (sym c.store_eight.ensures.here)
          (subst (IsSliced c.planes_of.result j) c.round_vector.ensures (c.planes_of.ensures j lt));
      so_far = λ q lt some. absurd (omega (arith, lt, some));
    }

pub keys-preserved : goal.keys-preserved
keys-preserved c =
    let w = key_expansion c.args.key.now in
    let r = c.keys.r in
    let next = c.store_eight-in-keys.new.text in
    let made = λ (some : 1 ≤ r) (j : ℕ) (lt : j < 8). subst (λ t. IsSliced t j (in_rows (with_constant (round_key w r))))
    (sym c.store_eight-in-keys.ensures.here)
    (subst (IsSliced c.planes_of-in-keys.result j)
    (c.by_row.ensures ∙ ap in_rows (c.with_constant-round_key.ensures ∙ ap with_constant c.round_vector-in-keys.ensures))
    (c.planes_of-in-keys.ensures j lt)) in
    record {
      size = c.store_eight-in-keys.ensures.size ∙ c.keys.invariant.size;
      first = λ j lt. subst (λ t. IsSliced t j (round_key w 0)) (sym (c.store_eight-in-keys.ensures.others 0 (omega arith)))
          (c.keys.invariant.first j lt);
      so_far = below_more (λ q. 1 ≤ q → (j : ℕ) → j < 8 → IsSliced (eight_at next q) j (in_rows (with_constant (round_key w q)))) r
          (λ q lt some j below. subst (λ t. IsSliced t j (in_rows (with_constant (round_key w q))))
          (sym (c.store_eight-in-keys.ensures.others q lt))
          (c.keys.invariant.so_far q lt some j below))
          made;
    }

pub returns : goal.returns
returns c =
    let key = c.args.key.now in
    let w = key_expansion key in
    let n = c.rounds-rounds.result in
    let bounds = round_count-bounds key c.rounds-rounds.ensures.key.size in
    let all : ArePlanes c.store_eight-2.new.text n w = record {
      blocks = λ r le. IsBlock-round_key key r c.rounds-rounds.ensures.key (omega (arith, c.rounds-rounds.ensures.value));
      first = λ j lt. subst (λ t. IsSliced t j (round_key w 0))
          (sym (c.store_eight-2.ensures.others 0 (omega (arith, c.rounds-rounds.ensures.value, bounds)))) (c.keys.invariant.first j lt);
      middle = λ r some lt j below. subst (λ t. IsSliced t j (in_rows (with_constant (round_key w r))))
          (sym (c.store_eight-2.ensures.others r lt))
          (c.keys.invariant.so_far r (omega arith) some j below);
      last = λ j lt. subst (λ t. IsSliced t j (with_constant (round_key w n))) (sym c.store_eight-2.ensures.here)
          (subst (IsSliced c.planes_of-2.result j) (c.with_constant-last.ensures ∙ ap with_constant c.round_vector-2.ensures)
          (c.planes_of-2.ensures j lt));
    } in
    subst (λ m. ArePlanes c.store_eight-2.new.text m w) c.rounds-rounds.ensures.value all
