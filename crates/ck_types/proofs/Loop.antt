-- Reading values one after the other, as a loop does.
use Rattle.std.proofs.Common.{◌≡◌, ℕ, suc, ◌-◌, ◌+◌, ◌≤◌, ◌<◌, List, [], ◌∷◌, ◌++◌, Option, Some, None, refl, sym, ap, ◌∙◌, append_assoc, arith}
use Rattle.std.proofs.lemmas.List.{append-nil}
use Rattle.ck_types.specs.declared.fault.CodecFault.{CodecFault}
use Rattle.ck_types.specs.declared.fault.CodecFault.TheVariants as faults
use Rattle.ck_types.specs.Format.{Format, ◌>>=◌, decode_many}

-- what was read before, and what is still read
abbrev pub with_front : {A : Type 0} → List A → Option (List A × List ℕ) → Option (List A × List ℕ)
with_front front read = read >>= λ x. Some (front ++ x.0, x.1)

regroup : {A : Type 0} (front : List A) (n : A) (read : Option (List A × List ℕ))
    → with_front front (read >>= λ x. Some (n ∷ x.0, x.1)) ≡ with_front (front ++ n ∷ []) read
regroup {A} front n (Some x) = ap (λ (ns : List A). Some (ns, x.1)) (simp append_assoc)
regroup front n None = refl

pub goes_on : {A : Type 0} (c : Format A) (front : List A) (count i : ℕ) (bytes : List ℕ) (n : A) (after : List ℕ)
    (total : Option (List A × List ℕ)) → i < count → c.decode bytes ≡ Some (n, after)
    → with_front front (decode_many c (count - i) bytes) ≡ total
    → with_front (front ++ n ∷ []) (decode_many c (count - (i + 1)) after) ≡ total
unfolding decode_many
goes_on c front count i bytes n after total lt h so_far =
    let k : count - i ≡ suc (count - (i + 1)) = omega arith in
    let one : with_front front (decode_many c (count - i) bytes)
    ≡ with_front (front ++ n ∷ []) (decode_many c (count - (i + 1)) after) =
    rw (k, h) (regroup front n (decode_many c (count - (i + 1)) after)) in
    sym one ∙ so_far

pub ends : {A : Type 0} (c : Format A) (front : List A) (count i : ℕ) (bytes : List ℕ) (total : Option (List A × List ℕ))
    → i < count → c.decode bytes ≡ None
    → with_front front (decode_many c (count - i) bytes) ≡ total → total ≡ None
unfolding decode_many
ends c front count i bytes total lt h so_far =
    let k : count - i ≡ suc (count - (i + 1)) = omega arith in
    let one : with_front front (decode_many c (count - i) bytes) ≡ None = rw (k, h) refl in
    sym so_far ∙ one

pub is_done : {A : Type 0} (c : Format A) (front : List A) (count i : ℕ) (bytes : List ℕ) (total : Option (List A × List ℕ))
    → count ≤ i → with_front front (decode_many c (count - i) bytes) ≡ total → total ≡ Some (front, bytes)
unfolding decode_many
is_done {A} c front count i bytes total le so_far =
    let k : count - i ≡ 0 = omega arith in
    let one : with_front front (decode_many c (count - i) bytes) ≡ Some (front, bytes) =
    rw k (ap (λ (ns : List A). Some (ns, bytes)) (append-nil front)) in
    sym so_far ∙ one

-- how a reader failed, by what it was to read
abbrev pub Fails : {Y : Type 0} → CodecFault → Option Y → Type 0
Fails faults.Memory read = Unit {0}
Fails faults.Malformed read = read ≡ None

pub ends_so : {A : Type 0} (c : Format A) (e : CodecFault) (front : List A) (count i : ℕ) (bytes : List ℕ)
    (total : Option (List A × List ℕ)) → i < count → Fails e (c.decode bytes)
    → with_front front (decode_many c (count - i) bytes) ≡ total → Fails e total
ends_so c faults.Memory front count i bytes total lt h so_far = tt
ends_so c faults.Malformed front count i bytes total lt h so_far = ends c front count i bytes total lt h so_far
