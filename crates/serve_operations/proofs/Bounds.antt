-- How much a cipher adds to its output for data that fits into a frame: no more than fits into a frame.
use Rattle.std.proofs.Common.{◌≡◌, ℕ, ◌+◌, ◌-◌, ◌≤◌, ◌/◌, true, false, not, List, [], length, Option, Some, None, refl, arith}
use Rattle.std.specs.Prelude.{is_some, ◌&&◌, ◌==◌}
use Rattle.std.proofs.lemmas.Bool.{eqb-true, not-false}
use Rattle.std.specs.Option.{unwrap_or}
use Rattle.aes_modes.specs.declared.direction.Direction.{Direction}
use Rattle.aes_modes.specs.declared.direction.Direction.TheVariants.{Encrypt, Decrypt}
use Rattle.streams.specs.declared.mechanism.Mechanism.{Mechanism}
use Rattle.streams.specs.declared.mechanism.Mechanism.TheVariants.{Ecb, Cbc, CbcPad, Ctr}
use Rattle.streams.specs.declared.part.Part.TheVariants.{Update, Last}
use Rattle.mech.specs.Rooms.{most_added}
use Rattle.serve_base.specs.Short.{IsShortData, most_data}
use Rattle.serve_operations.specs.Steps.{IsShortLast}

pub buffer_len-short : (input : List ℕ) (buffer_len : Option ℕ) → IsShortData input buffer_len → (n : ℕ) → buffer_len ≡ Some n
    → length input ≤ 1048553
buffer_len-short input None short n is = absurd cc
buffer_len-short input (Some buffer_len) short n is = short

-- whole blocks, of which there are no more than 65,535
blocks-short : (t n : ℕ) → n ≤ 1048553 → (t + n) / 16 ≤ t / 16 + 65535
blocks-short t n few = omega (arith, few)

held-short : (t n : ℕ) → n ≤ 1048553 → (t + n - 1) / 16 ≤ (t - 1) / 16 + 65535
held-short t n few = omega (arith, few)

pub update-short : (m : Mechanism) (d : Direction) (t n : ℕ) → n ≤ 1048553 → most_added Update m d t n ≤ most_data
update-short Ecb d t n few = omega (arith, blocks-short t n few)
update-short (Cbc iv) d t n few = omega (arith, blocks-short t n few)
update-short (CbcPad iv) Encrypt t n few = omega (arith, blocks-short t n few)
update-short (CbcPad iv) Decrypt t n few = omega (arith, held-short t n few)
update-short (Ctr bits start) d t n few = omega (arith, few)

-- the single-part call, and with it the padding
single-short : (m : Mechanism) (d : Direction) (t n : ℕ) → t ≡ 0 → n ≤ 1048553 → most_added Last m d t n ≤ most_data
single-short Ecb d t n none few = omega (arith, none, few)
single-short (Cbc iv) d t n none few = omega (arith, none, few)
single-short (CbcPad iv) Encrypt t n none few = omega (arith, none, few)
single-short (CbcPad iv) Decrypt t n none few = omega (arith, none, few)
single-short (Ctr bits start) d t n none few = omega (arith, none, few)

-- the final part
last-short : (m : Mechanism) (d : Direction) (t n : ℕ) → n ≡ 0 → most_added Last m d t n ≤ most_data
last-short Ecb d t n none = omega (arith, none)
last-short (Cbc iv) d t n none = omega (arith, none)
last-short (CbcPad iv) Encrypt t n none = omega (arith, none)
last-short (CbcPad iv) Decrypt t n none = omega (arith, none)
last-short (Ctr bits start) d t n none = omega (arith, none)

-- the data of a call that ends the operation, of which nothing was taken where that is all data
pub ending-short : (m : Mechanism) (d : Direction) (t : ℕ) (all : Option (List ℕ)) (buffer_len : Option ℕ)
    → (is_some all ≡ true → t ≡ 0) → IsShortLast all buffer_len → (n : ℕ) → buffer_len ≡ Some n
    → most_added Last m d t (length (unwrap_or all [])) ≤ most_data
ending-short m d t None buffer_len fresh few n is = last-short m d t 0 refl
ending-short m d t (Some input) buffer_len fresh few n is =
    single-short m d t (length input) (fresh refl) (buffer_len-short input buffer_len few n is)

-- all data comes to an operation that has taken nothing
pub not-late : (all : Option (List ℕ)) (taken : ℕ) → (is_some all && not (taken == 0)) ≡ false → is_some all ≡ true → taken ≡ 0
not-late None taken fresh is = let k : false ≡ true = is in cc
not-late (Some input) taken fresh is = eqb-true _ _ (not-false _ fresh)
