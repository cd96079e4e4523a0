-- What keeps the handles by rising id beside those by rising number.
use Rattle.std.proofs.Common.{◌≡◌, ℕ, ◌+◌, ◌<◌, ◌≤◌, Bool, true, false, cond, eqb, not, List, [], ◌∷◌, ◌++◌, length, map, Option, Some, None, is_some, count_by, refl, sym, ap, subst, ◌∙◌, inl, inr, arith}
use Rattle.std.specs.Prelude.{find, filter}
use Rattle.std.specs.Option.{option_map}
use Rattle.std.specs.List.{AllByRecursion}
use Rattle.std.proofs.lemmas.Bool.{cases_lt, cases_Bool, lt-ltb, le-ltb, eq-eqb, eqb-true, ne_eqb, true≢false}
use Rattle.std.proofs.lemmas.List.Sums.{sum_by-cons}
use Rattle.handles.specs.declared.Handle.{Handle}
use Rattle.handles.specs.declared.Entry.{Entry}
use Rattle.lists.specs.Bisection.{KeysRise}
use Rattle.lists.specs.InOrder.{placed, NumbersRise}
use Rattle.handles.specs.Handles.{handle_number, public_handles, handles_without, AreDistinct, IsHandleTable, by_rising_id}
use Rattle.handles.specs.Stored.{handles_in, entry_id, entry_number, IsStored, IsTaken}
use Rattle.lists.proofs.BisectionLemmas.{KeysRise-numbers}
use Rattle.lists.proofs.InOrderLemmas.{All-weaken, PassesOnce, placed-cases, length-in_order, IsOrdered-in_order, filter-placed, NumbersRise-above, NumbersRise-filter, NumbersRise-push}
use Rattle.handles.proofs.HandleLemmas.{not_there, NumbersRise-next, PassesOnce-object, IsTable-filter, IsTable-next, IsTable-push}
use Rattle.handles.proofs.LiveLemmas.{absent-kept, KeysRise-filter, live-push, live-taken}

-- ---- a handle among others
module _ (key : Handle → ℕ) where
  placed-All : (P : Handle → Type 0) (e : Handle) (xs : List Handle) → P e → AllByRecursion P xs → AllByRecursion P (placed key e xs)
  placed-All P e [] one all = (one, tt)
  placed-All P e (x ∷ xs) one all = elim (placed-cases key e x xs) [
    | inl here ↦ rw here.1 (one, all)
    | inr later ↦ rw later.1 (all.0, placed-All P e xs one all.1)
  ]

  find-placed : (test : Handle → Bool) (e : Handle) (xs : List Handle) → (test e ≡ true → AllByRecursion (λ x. test x ≡ false) xs)
      → find test (placed key e xs) ≡ cond (test e) (Some e) (find test xs)
  find-placed test e [] once = refl
  find-placed test e (x ∷ xs) once = elim (placed-cases key e x xs) [
    | inl here ↦ rw here.1 refl
    | inr later ↦ rw later.1 (elim (cases_Bool (test e)) [
      | inl passes ↦ rw ((once passes).0, find-placed test e xs (λ p. (once p).1), passes) refl
      | inr fails ↦ rw (find-placed test e xs (λ p. (once p).1), fails) refl
    ])
  ]

  -- two handles of different keys may be put in either way round
  placed-placed : (a b : Handle) (xs : List Handle) → key a < key b → placed key a (placed key b xs) ≡ placed key b (placed key a xs)
  placed-placed a b [] lt = rw (lt-ltb (key a) (key b) lt, le-ltb (key b) (key a) (omega (arith, lt))) refl
  placed-placed a b (x ∷ xs) lt = elim (placed-cases key b x xs) [
    | inl here ↦ rw (
      here.1,
      lt-ltb (key a) (key b) lt,
      lt-ltb (key a) (key x) (omega (arith, lt, here.0)),
      le-ltb (key b) (key a) (omega (arith, lt)),
      here.1,
    ) refl
    | inr later ↦ elim (placed-cases key a x xs) [
      | inl first ↦ rw (later.1, lt-ltb (key a) (key x) first.0, le-ltb (key b) (key a) (omega (arith, lt)), later.1) refl
      | inr second ↦ rw (later.1, le-ltb (key a) (key x) second.0, le-ltb (key b) (key x) later.0)
          (ap (λ ys. x ∷ ys) (placed-placed a b xs lt))
    ]
  ]

  placed-other : (a b : Handle) (xs : List Handle) → eqb (key a) (key b) ≡ false
      → placed key a (placed key b xs) ≡ placed key b (placed key a xs)
  placed-other a b xs differs = elim (cases_lt (key a) (key b)) [
    | inl below ↦ placed-placed a b xs below
    | inr above ↦ elim (cases_lt (key b) (key a)) [
      | inl lt ↦ sym (placed-placed b a xs lt)
      | inr le ↦ absurd (true≢false (sym (eq-eqb (key a) (key b) (omega (arith, le, above))) ∙ differs))
    ]
  ]

-- ---- the handles by rising id
by_rising_id-All : (P : Handle → Type 0) (hs : List Handle) → AllByRecursion P hs → AllByRecursion P (by_rising_id hs)
by_rising_id-All P [] all = tt
by_rising_id-All P (h ∷ hs) all = placed-All (λ x. x.id) P h (by_rising_id hs) all.0 (by_rising_id-All P hs all.1)

pub by_rising_id-length : (hs : List Handle) → length (by_rising_id hs) ≡ length hs
by_rising_id-length hs = length-in_order (λ h. h.id) (map Some hs) ∙ all_there hs
  where
    all_there : (xs : List Handle) → count_by is_some (map Some xs) ≡ length xs
    all_there [] = refl
    all_there (x ∷ xs) = omega (arith, all_there xs, sum_by-cons (λ o. cond (is_some o) 1 0) (Some x) (map Some xs))

pub by_rising_id-find : (test : Handle → Bool) (hs : List Handle) → PassesOnce test hs → find test (by_rising_id hs) ≡ find test hs
by_rising_id-find test [] once = refl
by_rising_id-find test (h ∷ hs) once =
    find-placed (λ x. x.id) test h (by_rising_id hs) (λ passes. by_rising_id-All (λ x. test x ≡ false) hs (once.0 passes))
    ∙ elim (cases_Bool (test h)) [
      | inl passes ↦ rw passes refl
      | inr fails ↦ rw fails (by_rising_id-find test hs once.1)
    ]

pub by_rising_id-filter : (test : Handle → Bool) (hs : List Handle) → by_rising_id (filter test hs) ≡ filter test (by_rising_id hs)
by_rising_id-filter test [] = refl
by_rising_id-filter test (h ∷ hs) =
    rw (filter-placed (λ x. x.id) test h (by_rising_id hs) (IsOrdered-in_order (λ x. x.id) (map Some hs))) (elim (cases_Bool (test h)) [
      | inl passes ↦ rw passes (ap (placed (λ x. x.id) h) (by_rising_id-filter test hs))
      | inr fails ↦ rw fails (by_rising_id-filter test hs)
    ])

pub by_rising_id-push : (e : Handle) (hs : List Handle) → AllByRecursion (λ h. eqb h.id e.id ≡ false) hs
    → by_rising_id (hs ++ e ∷ []) ≡ placed (λ h. h.id) e (by_rising_id hs)
by_rising_id-push e [] new = refl
by_rising_id-push e (h ∷ hs) new =
    ap (placed (λ x. x.id) h) (by_rising_id-push e hs new.1) ∙ placed-other (λ x. x.id) h e (by_rising_id hs) new.0

-- ---- an object's handle is retired by its number

-- an object's number is one of those that were given
number-above : (low next id n : ℕ) (hs : List Handle) → NumbersRise (λ h. h.handle) low hs next → handle_number hs id ≡ Some n → low ≤ n
number-above low next id n [] rising found = absurd (cc)
number-above low next id n (h ∷ hs) rising found =
    let first : low ≤ h.handle = rising.0 in
    elim (cases_Bool (eqb h.id id)) [
      | inl here ↦ let same : Some h.handle ≡ Some n = rw here at found in let is : h.handle ≡ n = cc in omega (arith, first, is)
      | inr other ↦ let later : h.handle + 1 ≤ n = number-above (h.handle + 1) next id n hs rising.1 (rw other at found) in
          omega (arith, first, later)
    ]

all-pass : (test : Handle → Bool) (hs : List Handle) → AllByRecursion (λ h. test h ≡ true) hs → filter test hs ≡ hs
all-pass test [] all = refl
all-pass test (h ∷ hs) all = rw all.0 (ap (λ xs. h ∷ xs) (all-pass test hs all.1))

without-number : (low next id n : ℕ) (hs : List Handle) → NumbersRise (λ h. h.handle) low hs next → AreDistinct hs
    → handle_number hs id ≡ Some n → filter (λ h. not (eqb h.handle n)) hs ≡ filter (λ h. not (eqb h.id id)) hs
without-number low next id n [] rising distinct found = refl
without-number low next id n (h ∷ hs) rising distinct found = elim (cases_Bool (eqb h.id id)) [
  | inl here ↦
      let some : Some h.handle ≡ Some n = rw here at found in
      let is : h.handle ≡ n = cc in
      let above = NumbersRise-above (λ x. x.handle) (h.handle + 1) next hs rising.1 in
      let numbers = all-pass (λ x. not (eqb x.handle n)) hs
      (All-weaken (λ x. h.handle + 1 ≤ x.handle) (λ x. not (eqb x.handle n) ≡ true)
      (λ x high. rw (ne_eqb x.handle n (λ same. omega (arith, high, same, is))) refl) hs above) in
      let objects = all-pass (λ x. not (eqb x.id id)) hs
      (All-weaken (λ x. eqb x.id h.id ≡ false) (λ x. not (eqb x.id id) ≡ true)
      (λ x differs. let d : eqb x.id id ≡ false = ap (eqb x.id) (sym (eqb-true h.id id here)) ∙ differs in rw d refl) hs distinct.0) in
      rw (here, eq-eqb h.handle n is) (numbers ∙ sym objects)
  | inr other ↦
      let later = rw other at found in
      let high : h.handle + 1 ≤ n = number-above (h.handle + 1) next id n hs rising.1 later in
      rw (other, ne_eqb h.handle n (λ same. omega (arith, high, same)))
      (ap (λ xs. h ∷ xs) (without-number (h.handle + 1) next id n hs rising.1 distinct.1 later))
]

-- ---- tables as they are stored

module _ (next : ℕ) (entries by_id : List Entry) (stored : IsStored next entries by_id) where
  pub IsStored-numbers : KeysRise entry_number entries
  IsStored-numbers = KeysRise-numbers entry_number 1 next entries stored.numbers

  pub IsStored-length : length (handles_in by_id) ≡ length (handles_in entries)
  IsStored-length = ap length stored.same ∙ by_rising_id-length (handles_in entries)

  -- an object's handle is the same in both orders
  pub IsStored-find : (id : ℕ) → find (λ h. eqb h.id id) (handles_in by_id) ≡ find (λ h. eqb h.id id) (handles_in entries)
  IsStored-find id =
      ap (find (λ h. eqb h.id id)) stored.same
      ∙ by_rising_id-find (λ h. eqb h.id id) (handles_in entries) (PassesOnce-object id (handles_in entries) stored.table.distinct)

  pub IsStored-number_of : (id : ℕ) (r : Option Handle) → r ≡ find (λ h. eqb h.id id) (handles_in by_id)
      → handle_number (handles_in entries) id ≡ option_map (λ h. h.handle) r
  IsStored-number_of id r is = ap (option_map (λ h. h.handle)) (sym (is ∙ IsStored-find id))

  pub IsStored-next : IsStored (next + 1) entries by_id
  IsStored-next = record {
    table = IsTable-next next (handles_in entries) stored.table;
    numbers = NumbersRise-next entry_number 1 next entries stored.numbers;
    ids = stored.ids;
    same = stored.same;
  }

  -- in both orders the handles are left that pass a test
  IsStored-left : (test : Handle → Bool) (entries' by_id' : List Entry) → handles_in entries' ≡ filter test (handles_in entries)
      → handles_in by_id' ≡ filter test (handles_in by_id) → NumbersRise entry_number 1 entries' next → KeysRise entry_id by_id'
      → IsStored next entries' by_id'
  IsStored-left test entries' by_id' left left' numbers ids = record {
    table = subst (IsHandleTable next) (sym left) (IsTable-filter next test (handles_in entries) stored.table);
    numbers = numbers;
    ids = ids;
    same = left' ∙ ap (filter test) stored.same ∙ sym (by_rising_id-filter test (handles_in entries)) ∙ ap by_rising_id (sym left);
  }

  pub IsStored-private : (entries' by_id' : List Entry) → handles_in entries' ≡ public_handles (handles_in entries)
      → handles_in by_id' ≡ public_handles (handles_in by_id) → NumbersRise entry_number 1 entries' next → KeysRise entry_id by_id'
      → IsStored next entries' by_id'
  IsStored-private entries' by_id' left left' numbers ids = IsStored-left (λ h. not h.private) entries' by_id' left left' numbers ids

  module _ (id : ℕ) where
    -- the handle of an object is retired by its number
    pub left-by-number : (h : Handle) → Some h ≡ find (λ x. eqb x.id id) (handles_in by_id)
        → filter (λ x. not (eqb x.handle h.handle)) (handles_in entries) ≡ handles_without (handles_in entries) id
    left-by-number h found = without-number 1 next id h.handle (handles_in entries) stored.table.rising stored.table.distinct
        (IsStored-number_of id (Some h) found)

    pub IsStored-retired : (entries' by_id' : List Entry) (h : Handle) → Some h ≡ find (λ x. eqb x.id id) (handles_in by_id)
        → handles_in entries' ≡ filter (λ x. not (eqb x.handle h.handle)) (handles_in entries)
        → handles_in by_id' ≡ handles_without (handles_in by_id) id → NumbersRise entry_number 1 entries' next → KeysRise entry_id by_id'
        → IsStored next entries' by_id'
    IsStored-retired entries' by_id' h found left left' numbers ids =
        IsStored-left (λ x. not (eqb x.id id)) entries' by_id' (left ∙ left-by-number h found) left' numbers ids

    -- there is none of the object
    pub none-left : None ≡ find (λ x. eqb x.id id) (handles_in by_id) → handles_in entries ≡ handles_without (handles_in entries) id
    none-left none = absent-kept (λ x. x.id) id (handles_in entries) (sym (none ∙ IsStored-find id))

    pub IsStored-none : (by_id' : List Entry) → None ≡ find (λ x. eqb x.id id) (handles_in by_id)
        → handles_in by_id' ≡ handles_without (handles_in by_id) id → KeysRise entry_id by_id' → IsStored next entries by_id'
    IsStored-none by_id' none left' ids = IsStored-left (λ x. not (eqb x.id id)) entries by_id' (none-left none) left' stored.numbers ids

-- ---- retired entries are taken out

pub taken-same : (old new : List Entry) → IsTaken old new → handles_in new ≡ handles_in old
taken-same old new (inl is) = ap handles_in is
taken-same old new (inr is) = ap handles_in is ∙ live-taken (λ e. e.retired) (λ e. e.handle) old

pub taken-numbers : (next : ℕ) (old new : List Entry) → IsTaken old new → NumbersRise entry_number 1 old next
    → NumbersRise entry_number 1 new next
taken-numbers next old new (inl is) rise = subst (λ xs. NumbersRise entry_number 1 xs next) (sym is) rise
taken-numbers next old new (inr is) rise =
    subst (λ xs. NumbersRise entry_number 1 xs next) (sym is) (NumbersRise-filter entry_number 1 next (λ e. not e.retired) old rise)

pub taken-ids : (old new : List Entry) → IsTaken old new → KeysRise entry_id old → KeysRise entry_id new
taken-ids old new (inl is) rise = subst (KeysRise entry_id) (sym is) rise
taken-ids old new (inr is) rise = subst (KeysRise entry_id) (sym is) (KeysRise-filter entry_id (λ e. not e.retired) old rise)

pub IsStored-taken : (next : ℕ) (entries by_id entries' by_id' : List Entry) → IsStored next entries by_id
    → IsTaken entries entries' → IsTaken by_id by_id' → IsStored next entries' by_id'
IsStored-taken next entries by_id entries' by_id' stored taken taken' = record {
  table = subst (IsHandleTable next) (sym (taken-same entries entries' taken)) stored.table;
  numbers = taken-numbers next entries entries' taken stored.numbers;
  ids = taken-ids by_id by_id' taken' stored.ids;
  same = taken-same by_id by_id' taken' ∙ stored.same ∙ ap by_rising_id (sym (taken-same entries entries' taken));
}

-- ---- a handle is given

pub pushed-same : (entries : List Entry) (h : Handle)
    → handles_in (entries ++ record { handle = h; retired = false } ∷ []) ≡ handles_in entries ++ h ∷ []
pushed-same entries h = live-push (λ e. e.retired) (λ e. e.handle) (record { handle = h; retired = false }) entries refl

pub IsStored-given : (next id : ℕ) (private : Bool) (entries by_id by_id' : List Entry)
    → None ≡ find (λ x. eqb x.id id) (handles_in by_id)
    → handles_in by_id' ≡ placed (λ h. h.id) (record { handle = next; id = id; private = private }) (handles_in by_id)
    → KeysRise entry_id by_id' → IsStored next entries by_id
    → IsStored (next + 1) (entries ++ record { handle = record { handle = next; id = id; private = private }; retired = false } ∷ []) by_id'
IsStored-given next id private entries by_id by_id' none put ids stored =
    let h : Handle = record { handle = next; id = id; private = private } in
    let absent = IsStored-number_of next entries by_id stored id None none in
    let pushed = pushed-same entries h in
    record {
      table = subst (IsHandleTable (next + 1)) (sym pushed) (IsTable-push next id private (handles_in entries) absent stored.table);
      numbers = NumbersRise-push entry_number 1 next (record { handle = h; retired = false }) entries refl stored.numbers;
      ids = ids;
      same = put ∙ ap (placed (λ x. x.id) h) stored.same
          ∙ sym (by_rising_id-push h (handles_in entries) (not_there id (handles_in entries) absent)) ∙ ap by_rising_id (sym pushed);
    }
