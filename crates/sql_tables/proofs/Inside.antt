-- Statements that are run one after the other in a transaction.
use Rattle.std.proofs.Common.{◌≡◌, ℕ, List, [], ◌∷◌, true, Ok, Err, Result, IsTrue, OnOk, refl, arith}
use Rattle.sqlite_value.specs.declared.value.Value.TheVariants.{Blob}
use Rattle.sqlite.specs.Order.{Row}
use Rattle.sqlite.specs.Store.{Ghosts}
use Rattle.sqlite.specs.State.{State, HasCleanDisk, ExecutesInside, Survives}
use Rattle.sqlite.specs.Held.{Held, state}
use Rattle.sqlite.specs.declared.error.Error.{Error}
use Rattle.sql_statements.specs.Ran.{RanPair, RanThree}

-- what a call in a transaction returns
abbrev pub Inside : List ℕ → Row → State → State → Result ℕ Error → Type 0
Inside sql params old new r = HasCleanDisk new → IsTrue old.in_transaction → ExecutesInside 0 sql params old new r

module _ {S : Type 0} (g : Ghosts S) (first second bytes : List ℕ) (begun mid last : Held S) (count : ℕ) (r : Result ℕ Error)
    (one : Inside first [] (state g begun) (state g mid) (Ok count))
    (two : Inside second (Blob bytes ∷ []) (state g mid) (state g last) r) (stays : Survives (state g mid) (state g last) (λ _. ⊥))
    (clean : HasCleanDisk (state g last)) where
  mid_clean : HasCleanDisk (state g mid)
  mid_clean = omega (arith, stays.clean)

  pub pair_ran : (before : Held S) → begun ≡ record before { in_transaction = true }
      → OnOk r (RanPair g first second bytes before (state g last).now)
  pair_ran before is = made r two
    where
      made : (r : Result ℕ Error) → Inside second (Blob bytes ∷ []) (state g mid) (state g last) r
          → OnOk r (RanPair g first second bytes before (state g last).now)
      made (Err e) two = tt
      made (Ok n) two =
          let ran = one mid_clean (rw is) in
          record { mid = mid; last = last; counts = (count, n); one = rw is at ran.0; two = (two clean ran.1.mode).0; is = refl }

module _ {S : Type 0} (g : Ghosts S) (first second third bytes : List ℕ) (begun half mid last : Held S) (count more : ℕ)
    (r : Result ℕ Error) (one : Inside first [] (state g begun) (state g half) (Ok count))
    (two : Inside second [] (state g half) (state g mid) (Ok more))
    (three : Inside third (Blob bytes ∷ []) (state g mid) (state g last) r) (stays : Survives (state g half) (state g mid) (λ _. ⊥))
    (ends : Survives (state g mid) (state g last) (λ _. ⊥)) (clean : HasCleanDisk (state g last)) where
  at_mid : HasCleanDisk (state g mid)
  at_mid = omega (arith, ends.clean)

  at_half : HasCleanDisk (state g half)
  at_half = omega (arith, stays.clean, ends.clean)

  pub three_ran : (before : Held S) → begun ≡ record before { in_transaction = true }
      → OnOk r (RanThree g first second third bytes before (state g last).now)
  three_ran before is = made r three
    where
      made : (r : Result ℕ Error) → Inside third (Blob bytes ∷ []) (state g mid) (state g last) r
          → OnOk r (RanThree g first second third bytes before (state g last).now)
      made (Err e) three = tt
      made (Ok n) three =
          let ran = one at_half (rw is) in
          let then = two at_mid ran.1.mode in
          record {
            half = half;
            mid = mid;
            last = last;
            counts = (count, more, n);
            one = rw is at ran.0;
            two = then.0;
            three = (three clean then.1.mode).0;
            is = refl;
          }
