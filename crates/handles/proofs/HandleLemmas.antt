-- What keeps a table of handles, and where a look-up in it finds at most one.
use Rattle.std.proofs.Common.{◌≡◌, ℕ, ◌+◌, ◌≤◌, Bool, false, eqb, List, [], ◌∷◌, ◌++◌, Option, Some, None, IfSome, refl, sym, ap, subst, ◌∙◌, arith, inl, inr}
use Rattle.std.specs.Prelude.{filter}
use Rattle.std.specs.Option.{option_map}
use Rattle.std.specs.List.{AllByRecursion}
use Rattle.std.proofs.lemmas.Bool.{cases_Bool, eqb-true, eq-eqb, ne_eqb, true≢false}
use Rattle.handles.specs.declared.Handle.{Handle}
use Rattle.lists.specs.InOrder.{NumbersRise}
use Rattle.handles.specs.Handles.{object_of, handle_number, AreDistinct, IsHandleTable}
use Rattle.lists.proofs.InOrderLemmas.{All-filter, All-weaken, PassesOnce, find-none, NumbersRise-above, NumbersRise-filter, NumbersRise-push}

-- ---- numbers
pub NumbersRise-next : {E : Type 0} (number : E → ℕ) (low next : ℕ) (xs : List E) → NumbersRise number low xs next
    → NumbersRise number low xs (next + 1)
NumbersRise-next number low next [] rising = omega (arith, rising)
NumbersRise-next number low next (x ∷ xs) rising = (rising.0, NumbersRise-next number (number x + 1) next xs rising.1)

-- ---- objects
AreDistinct-filter : (test : Handle → Bool) (hs : List Handle) → AreDistinct hs → AreDistinct (filter test hs)
AreDistinct-filter test [] distinct = tt
AreDistinct-filter test (h ∷ hs) distinct =
    let rest = AreDistinct-filter test hs distinct.1 in
    elim (cases_Bool (test h)) [
      | inl passes ↦ rw passes (All-filter (λ x. eqb x.id h.id ≡ false) test hs distinct.0, rest)
      | inr fails ↦ rw fails rest
    ]

-- no handle is of an object that has none
pub not_there : (id : ℕ) (hs : List Handle) → handle_number hs id ≡ None → AllByRecursion (λ h. eqb h.id id ≡ false) hs
not_there id [] none = tt
not_there id (h ∷ hs) none = elim (cases_Bool (eqb h.id id)) [
  | inl here ↦ absurd (let found : Some h.handle ≡ None = rw here at none in cc)
  | inr other ↦ (other, not_there id hs (rw other at none))
]

All-push : (P : Handle → Type 0) (h : Handle) (hs : List Handle) → AllByRecursion P hs → P h → AllByRecursion P (hs ++ h ∷ [])
All-push P h [] all last = (last, tt)
All-push P h (x ∷ hs) all last = (all.0, All-push P h hs all.1 last)

AreDistinct-push : (h : Handle) (hs : List Handle) → AllByRecursion (λ x. eqb x.id h.id ≡ false) hs → AreDistinct hs
    → AreDistinct (hs ++ h ∷ [])
AreDistinct-push h [] new distinct = (tt, tt)
AreDistinct-push h (x ∷ hs) new distinct =
    let differs : eqb h.id x.id ≡ false = ne_eqb h.id x.id (λ is. true≢false (sym (eq-eqb x.id h.id (sym is)) ∙ new.0)) in
    (All-push (λ y. eqb y.id x.id ≡ false) h hs distinct.0 differs, AreDistinct-push h hs new.1 distinct.1)

-- ---- tables
pub IsTable-filter : (next : ℕ) (test : Handle → Bool) (hs : List Handle) → IsHandleTable next hs → IsHandleTable next (filter test hs)
IsTable-filter next test hs table = record {
  rising = NumbersRise-filter (λ h. h.handle) 1 next test hs table.rising;
  distinct = AreDistinct-filter test hs table.distinct;
}

pub IsTable-push : (next id : ℕ) (private : Bool) (hs : List Handle) → handle_number hs id ≡ None → IsHandleTable next hs
    → IsHandleTable (next + 1) (hs ++ record { handle = next; id = id; private = private } ∷ [])
IsTable-push next id private hs none table = record {
  rising = NumbersRise-push (λ h. h.handle) 1 next _ hs refl table.rising;
  distinct = AreDistinct-push _ hs (not_there id hs none) table.distinct;
}

pub IsTable-next : (next : ℕ) (hs : List Handle) → IsHandleTable next hs → IsHandleTable (next + 1) hs
IsTable-next next hs table = record {
  rising = NumbersRise-next (λ h. h.handle) 1 next hs table.rising;
  distinct = table.distinct;
}

-- ---- look-ups
pub PassesOnce-object : (id : ℕ) (hs : List Handle) → AreDistinct hs → PassesOnce (λ h. eqb h.id id) hs
PassesOnce-object id [] distinct = tt
PassesOnce-object id (h ∷ hs) distinct = (
  λ here. All-weaken (λ x. eqb x.id h.id ≡ false) (λ x. eqb x.id id ≡ false)
      (λ x differs. ap (eqb x.id) (sym (eqb-true h.id id here)) ∙ differs) hs distinct.0,
  PassesOnce-object id hs distinct.1,
)

-- a new handle is found
pub number_of-push : (hs : List Handle) (h : Handle) → handle_number hs h.id ≡ None → handle_number (hs ++ h ∷ []) h.id ≡ Some h.handle
number_of-push [] h none = rw (eq-eqb h.id h.id refl) refl
number_of-push (x ∷ hs) h none = elim (cases_Bool (eqb x.id h.id)) [
  | inl here ↦ absurd (let found : Some x.handle ≡ None = rw here at none in cc)
  | inr other ↦ rw other (number_of-push hs h (rw other at none))
]

-- ---- handles and objects match both ways
pub number_of-object_of : (n id : ℕ) (hs : List Handle) → AreDistinct hs → object_of hs n ≡ Some id → handle_number hs id ≡ Some n
number_of-object_of n id [] distinct found = absurd (cc)
number_of-object_of n id (h ∷ hs) distinct found = elim (cases_Bool (eqb h.handle n)) [
  | inl here ↦
      let same : Some h.id ≡ Some id = rw here at found in
      let object : h.id ≡ id = cc in
      rw (eq-eqb h.id id object) (ap Some (eqb-true h.handle n here))
  | inr other ↦
      let later = number_of-object_of n id hs distinct.1 (rw other at found) in
      rw (ne_eqb h.id id (λ is. absurd
      (let gone : handle_number hs id ≡ None =
      ap (option_map (λ x. x.handle))
      (find-none (λ x. eqb x.id id) hs (subst (λ i. AllByRecursion (λ x. eqb x.id i ≡ false) hs) is distinct.0)) in
      let never : None ≡ Some n = sym gone ∙ later in cc))) later
]

pub object_of-number_of : (low next n id : ℕ) (hs : List Handle) → NumbersRise (λ h. h.handle) low hs next
    → handle_number hs id ≡ Some n → object_of hs n ≡ Some id
object_of-number_of low next n id [] rising found = absurd (cc)
object_of-number_of low next n id (h ∷ hs) rising found = elim (cases_Bool (eqb h.id id)) [
  | inl here ↦
      let same : Some h.handle ≡ Some n = rw here at found in
      let handle : h.handle ≡ n = cc in
      rw (eq-eqb h.handle n handle) (ap Some (eqb-true h.id id here))
  | inr other ↦
      let later = object_of-number_of (h.handle + 1) next n id hs rising.1 (rw other at found) in
      let above = All-weaken (λ x. h.handle + 1 ≤ x.handle) (λ x. eqb x.handle h.handle ≡ false)
      (λ x high. ne_eqb x.handle h.handle (λ is. omega (arith, high, is))) hs
      (NumbersRise-above (λ x. x.handle) (h.handle + 1) next hs rising.1) in
      rw (ne_eqb h.handle n (λ is. absurd
      (let gone : object_of hs n ≡ None =
      ap (option_map (λ x. x.id)) (find-none (λ x. eqb x.handle n) hs
      (subst (λ i. AllByRecursion (λ x. eqb x.handle i ≡ false) hs) is above)) in
      let never : None ≡ Some id = sym gone ∙ later in cc))) later
]

pub IfSome-object_of : (next n : ℕ) (hs : List Handle) (r : Option ℕ) → IsHandleTable next hs → r ≡ object_of hs n
    → IfSome r (λ id. handle_number hs id ≡ Some n)
IfSome-object_of next n hs None table is = tt
IfSome-object_of next n hs (Some id) table is = number_of-object_of n id hs table.distinct (sym is)

pub IfSome-number_of : (next id : ℕ) (hs : List Handle) (r : Option ℕ) → IsHandleTable next hs → r ≡ handle_number hs id
    → IfSome r (λ n. object_of hs n ≡ Some id)
IfSome-number_of next id hs None table is = tt
IfSome-number_of next id hs (Some n) table is = object_of-number_of 1 next n id hs table.rising (sym is)
