-- A file that was written from a place on, and cut.
use Rattle.std.proofs.Common.{◌≡◌, inl, inr, ℕ, ◌+◌, ◌-◌, ◌<◌, ◌≤◌, min, List, length, take, drop, slice_index, refl, sym, subst, ap, ◌∙◌, arith}
use Rattle.std.proofs.lemmas.List.{ext_get_or, get_or-drop, length-drop, take_all}
use Rattle.std.proofs.lemmas.Bool.{cases_lt}
use Rattle.sqlite_disk.specs.Disk.{Cut, Holds, Torn}
use Rattle.sql_log.specs.Bytes.{BeginsAs, IsAlike}

pub all_alike : (a b : List ℕ) (n : ℕ) → IsAlike n a b → n ≡ length a → n ≡ length b → a ≡ b
all_alike a b n it first second = ext_get_or 0 a b (sym first ∙ second) (λ i low. it.each i (omega (arith, low, first)))

-- it began alike, and has all bytes already
pub cut_is : (bytes old new : List ℕ) (same : ℕ) → IsAlike same old bytes → length bytes ≤ same → Cut (length bytes) old new
    → length new ≡ length bytes → new ≡ bytes
cut_is bytes old new same it all cut len =
    ext_get_or 0 new bytes len (λ i low.
    let few : i < length bytes = omega (arith, low, len) in
    let near : i < same = omega (arith, few, all) in
    let f = it.first in
    cut.below i (omega (arith, near, f)) few ∙ it.each i near)

-- what a slice to the end is
rest_is : (bytes : List ℕ) (same : ℕ) → take (length bytes - same) (drop same bytes) ≡ drop same bytes
rest_is bytes same = take_all (length bytes - same) (drop same bytes) (let it = length-drop same bytes in omega (arith, it))

-- it began alike, the bytes from there on were written, and the file was cut to their length
module _ (bytes old mid new : List ℕ) (same : ℕ) (it : IsAlike same old bytes) (some : same < length bytes)
    (torn_by : Torn same (length (take (length bytes - same) (drop same bytes))) old mid)
    (held : 0 < length (take (length bytes - same) (drop same bytes)) → Holds mid same (take (length bytes - same) (drop same bytes)))
    (cut : Cut (length bytes) mid new) (len : length new ≡ length bytes) where
  rest : length (drop same bytes) ≡ length bytes - same
  rest = length-drop same bytes

  torn : Torn same (length (drop same bytes)) old mid
  torn = subst (λ (bs : List ℕ). Torn same (length bs) old mid) (rest_is bytes same) torn_by

  holds : Holds mid same (drop same bytes)
  holds = subst (λ (bs : List ℕ). Holds mid same bs) (rest_is bytes same)
      (held (let is = ap (λ (bs : List ℕ). length bs) (rest_is bytes same) in omega (arith, is, rest, some)))

  covered : length bytes ≤ length mid
  covered = let w = holds.within in omega (arith, w, rest, some)

  each : (i : ℕ) → i < length new → slice_index new i ≡ slice_index bytes i
  each i low =
      let few : i < length bytes = omega (arith, low, len) in
      let there : i < length mid = omega (arith, few, covered) in
      cut.below i there few ∙ elim (cases_lt i same) [
        | inl before ↦ (let f = it.first in torn.below i (omega (arith, before, f)) before) ∙ it.each i before
        | inr behind ↦
            let back : same + (i - same) ≡ i = omega (arith, behind) in
            let inside : i - same < length (drop same bytes) = omega (arith, few, rest, behind) in
            ap (λ (k : ℕ). slice_index mid k) (sym back) ∙ holds.each (i - same) inside ∙ get_or-drop same bytes (i - same) 0
            ∙ ap (λ (k : ℕ). slice_index bytes k) back
      ]

  pub written_is : new ≡ bytes
  written_is = ext_get_or 0 new bytes len each

-- ---- what a crash may leave, as far as nothing was written

pub begins_same : (n : ℕ) (c : List ℕ) → BeginsAs n c c
begins_same n c = record { long = omega arith; each = λ i low there. refl }

pub begins_less : (n same : ℕ) (d c : List ℕ) → n ≤ same → BeginsAs same d c → BeginsAs n d c
begins_less n same d c few it =
    record { long = (let l = it.long in omega (arith, few, l)); each = λ i low there. it.each i (omega (arith, low, few)) there }

pub begins_cut : (same len : ℕ) (d c : List ℕ) → same ≤ len → Cut len d c → BeginsAs same d c
begins_cut same len d c within cut =
    record {
      long = (let l = cut.no_shorter in omega (arith, within, l));
      each = λ i low there. cut.below i there (omega (arith, low, within));
    }

pub begins_torn : (same more len : ℕ) (d mid c : List ℕ) → same ≤ len → Torn same more d mid → Cut len mid c → BeginsAs same d c
begins_torn same more len d mid c within torn cut = record {
  long = (let l = cut.no_shorter in let longer = torn.no_shorter in omega (arith, within, l, longer));
  each = λ i low there. (let longer = torn.no_shorter in cut.below i (omega (arith, there, longer)) (omega (arith, low, within)))
      ∙ torn.below i there low;
}
