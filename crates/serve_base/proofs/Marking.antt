-- The list of the objects and their marks after each change of the contents.
use Rattle.std.proofs.Common.{◌≡◌, ℕ, ◌+◌, ◌<◌, ◌≤◌, Bool, true, false, cond, eqb, not, get_or, map, arith, subst, List, [], ◌∷◌, ◌++◌, Option, Some, None, refl, sym, ◌∙◌, ap, inl, inr, is_some}
use Rattle.std.specs.Prelude.{All, filter, ◌==◌}
use Rattle.std.specs.List.{AllByRecursion}
use Rattle.std.proofs.lemmas.Bool.{cases_Bool, cases_eq, eq-eqb, ne_eqb}
use Rattle.std.proofs.lemmas.List.{map-append}
use Rattle.std.proofs.lemmas.List.Elements.{All-filter, All-from_recursion, All-map, All-push, All-weaker}
use Rattle.ck_types.specs.declared.entry.Entry.{Entry}
use Rattle.find.specs.Marks.{ObjectMark, mark_of}
use Rattle.lists.specs.Bisection.{KeysRise}
use Rattle.lists.proofs.ListLemmas.{All-push as All-last}
use Rattle.handles.proofs.LiveLemmas.{live-push, live-taken}
use Rattle.keep.specs.Contents.{Contents, Kept, IdsRise, IsSound, ids_of, object_at, with_object, with_replacement, without_object}
use Rattle.keep.specs.ObjectLaws.{object_at-with_object, object_at-with_object_other, object_at-with_replacement, object_at-with_replacement_none, object_at-with_replacement_other, object_at-without_object, object_at-without_object_other}
use Rattle.serve_base.specs.declared.listed.ObjectEntry.{ObjectEntry}
use Rattle.serve_base.specs.Listing.{AreListed, AreMarks, IsMarkOf, AreRemovedTaken, all_ids, id_in, listed_ids, marked_at, listed_removed_at, unread}

-- ---- ids

by-ids : (P : ℕ → Type 0) (xs : List ObjectEntry) → AllByRecursion P (all_ids xs) → AllByRecursion (λ e. P e.id) xs
by-ids P [] all = tt
by-ids P (x ∷ xs) all = (all.0, by-ids P xs all.1)

pub ids-rise-in : (xs : List ObjectEntry) → KeysRise (λ i. i) (all_ids xs) → KeysRise id_in xs
ids-rise-in [] rise = tt
ids-rise-in (x ∷ xs) rise = (by-ids (λ i. x.id < i) xs rise.0, ids-rise-in xs rise.1)

pub ids-unread : (ids : List ℕ) → listed_ids (map unread ids) ≡ ids
ids-unread [] = refl
ids-unread (id ∷ ids) = ap (λ (xs : List ℕ). id ∷ xs) (ids-unread ids)

all-unread : (ids : List ℕ) → all_ids (map unread ids) ≡ ids
all-unread [] = refl
all-unread (id ∷ ids) = ap (λ (xs : List ℕ). id ∷ xs) (all-unread ids)

pub ids-push : (xs : List ObjectEntry) (e : ObjectEntry) → e.removed ≡ false → listed_ids (xs ++ e ∷ []) ≡ listed_ids xs ++ e.id ∷ []
ids-push xs e there = live-push (λ x. x.removed) id_in e xs there

pub ids-marked : (id : ℕ) (mark : ObjectMark) (xs : List ObjectEntry) → listed_ids (map (marked_at id mark) xs) ≡ listed_ids xs
ids-marked id mark [] = refl
ids-marked id mark (x ∷ xs) = step (eqb x.id id) (ids-marked id mark xs) where
  step : (b : Bool) → listed_ids (map (marked_at id mark) xs) ≡ listed_ids xs
      → listed_ids (cond b (record { id = x.id; mark = Some mark; removed = x.removed }) x ∷ map (marked_at id mark) xs) ≡ listed_ids (x ∷ xs)
  step true rest = ap (λ (ids : List ℕ). cond x.removed ids (x.id ∷ ids)) rest
  step false rest = ap (λ (ids : List ℕ). cond x.removed ids (x.id ∷ ids)) rest

all-marked : (id : ℕ) (mark : ObjectMark) (xs : List ObjectEntry) → all_ids (map (marked_at id mark) xs) ≡ all_ids xs
all-marked id mark [] = refl
all-marked id mark (x ∷ xs) = step (eqb x.id id) (all-marked id mark xs) where
  step : (b : Bool) → all_ids (map (marked_at id mark) xs) ≡ all_ids xs
      → (cond b (record { id = x.id; mark = Some mark; removed = x.removed }) x).id ∷ all_ids (map (marked_at id mark) xs) ≡ x.id
      ∷ all_ids xs
  step true rest = ap (λ (ids : List ℕ). x.id ∷ ids) rest
  step false rest = ap (λ (ids : List ℕ). x.id ∷ ids) rest

pub ids-removed : (id : ℕ) (xs : List ObjectEntry) → listed_ids (map (listed_removed_at id) xs) ≡ filter (λ i. not (i == id)) (listed_ids xs)
ids-removed id [] = refl
ids-removed id (x ∷ xs) = step (eqb x.id id) x.removed refl (ids-removed id xs) where
  step : (b r : Bool) → eqb x.id id ≡ b → listed_ids (map (listed_removed_at id) xs) ≡ filter (λ i. not (i == id)) (listed_ids xs)
      → listed_ids (cond b (record { id = x.id; mark = x.mark; removed = true }) (record { id = x.id; mark = x.mark; removed = r })
      ∷ map (listed_removed_at id) xs) ≡ filter (λ i. not (i == id)) (cond r (listed_ids xs) (x.id ∷ listed_ids xs))
  step true true is rest = rest
  step true false is rest = rw is rest
  step false true is rest = rest
  step false false is rest = rw is (ap (λ (ids : List ℕ). x.id ∷ ids) rest)

all-removed : (id : ℕ) (xs : List ObjectEntry) → all_ids (map (listed_removed_at id) xs) ≡ all_ids xs
all-removed id [] = refl
all-removed id (x ∷ xs) = step (eqb x.id id) (all-removed id xs) where
  step : (b : Bool) → all_ids (map (listed_removed_at id) xs) ≡ all_ids xs
      → (cond b (record { id = x.id; mark = x.mark; removed = true }) x).id ∷ all_ids (map (listed_removed_at id) xs) ≡ x.id ∷ all_ids xs
  step true rest = ap (λ (ids : List ℕ). x.id ∷ ids) rest
  step false rest = ap (λ (ids : List ℕ). x.id ∷ ids) rest

pub ids-taken : (old new : List ObjectEntry) → AreRemovedTaken old new → listed_ids new ≡ listed_ids old
ids-taken old new (inl is) = ap listed_ids is
ids-taken old new (inr is) = ap listed_ids is ∙ live-taken (λ e. e.removed) id_in old

-- ---- their order

-- the ids of all entries are as they were
pub order-same : (last : ℕ) (old new : List ObjectEntry) → all_ids new ≡ all_ids old → AreListed last old → AreListed last new
order-same last old new same order = record {
  rise = subst (KeysRise (λ i. i)) (sym same) order.rise;
  within = subst (AllByRecursion (λ i. i ≤ last)) (sym same) order.within;
}

pub order-marked : (last id : ℕ) (mark : ObjectMark) (xs : List ObjectEntry) → AreListed last xs → AreListed last (map (marked_at id mark) xs)
order-marked last id mark xs order = order-same last xs (map (marked_at id mark) xs) (all-marked id mark xs) order

pub order-removed : (last id : ℕ) (xs : List ObjectEntry) → AreListed last xs → AreListed last (map (listed_removed_at id) xs)
order-removed last id xs order = order-same last xs (map (listed_removed_at id) xs) (all-removed id xs) order

all-left : (P : ℕ → Type 0) (t : ObjectEntry → Bool) (xs : List ObjectEntry) → AllByRecursion P (all_ids xs)
    → AllByRecursion P (all_ids (filter t xs))
all-left P t [] all = tt
all-left P t (x ∷ xs) all = let rest = all-left P t xs all.1 in elim (cases_Bool (t x)) [
  | inl passes ↦ rw passes (all.0, rest)
  | inr fails ↦ rw fails rest
]

rise-left : (t : ObjectEntry → Bool) (xs : List ObjectEntry) → KeysRise (λ i. i) (all_ids xs) → KeysRise (λ i. i) (all_ids (filter t xs))
rise-left t [] rise = tt
rise-left t (x ∷ xs) rise = let rest = rise-left t xs rise.1 in elim (cases_Bool (t x)) [
  | inl passes ↦ rw passes (all-left (λ i. x.id < i) t xs rise.0, rest)
  | inr fails ↦ rw fails rest
]

pub order-taken : (last : ℕ) (old new : List ObjectEntry) → AreRemovedTaken old new → AreListed last old → AreListed last new
order-taken last old new (inl is) order = subst (AreListed last) (sym is) order
order-taken last old new (inr is) order = subst (AreListed last) (sym is) (record {
  rise = rise-left (λ e. not e.removed) old order.rise;
  within = all-left (λ i. i ≤ last) (λ e. not e.removed) old order.within;
})

-- the next id comes last
rise-push : (last : ℕ) (ids : List ℕ) → KeysRise (λ i. i) ids → AllByRecursion (λ i. i ≤ last) ids
    → KeysRise (λ i. i) (ids ++ (last + 1) ∷ [])
rise-push last [] rise within = (tt, tt)
rise-push last (i ∷ ids) rise within =
    let le : i ≤ last = within.0 in
    (All-last (λ j. i < j) ids (last + 1) rise.0 (omega (arith, le)), rise-push last ids rise.1 within.1)

within-push : (last : ℕ) (ids : List ℕ) → AllByRecursion (λ i. i ≤ last) ids → AllByRecursion (λ i. i ≤ last + 1) (ids ++ (last + 1) ∷ [])
within-push last [] within = (omega arith, tt)
within-push last (i ∷ ids) within = (let le : i ≤ last = within.0 in omega (arith, le), within-push last ids within.1)

pub order-push : (last id : ℕ) (xs : List ObjectEntry) (e : ObjectEntry) → e.id ≡ last + 1 → AreListed last xs → AreListed (last + 1) (xs ++ e ∷ [])
order-push last id xs e is order =
    let ids : all_ids (xs ++ e ∷ []) ≡ all_ids xs ++ (last + 1) ∷ [] =
    map-append id_in xs (e ∷ []) ∙ ap (λ (i : ℕ). all_ids xs ++ i ∷ []) is in
    record {
      rise = subst (KeysRise (λ i. i)) (sym ids) (rise-push last (all_ids xs) order.rise order.within);
      within = subst (AllByRecursion (λ i. i ≤ last + 1)) (sym ids) (within-push last (all_ids xs) order.within);
    }

-- ids are at most the last that was given
ids-within : (low last : ℕ) (es : List Kept) → IdsRise low es last → AllByRecursion (λ i. i ≤ last) (map (λ e. e.0) es)
ids-within low last [] ids = tt
ids-within low last (e ∷ es) ids = (ids.1, ids-within e.0 last es ids.2)

below-all : (b low last : ℕ) (es : List Kept) → b ≤ low → IdsRise low es last → AllByRecursion (λ x. b < x) (map (λ e. e.0) es)
below-all b low last [] le ids = tt
below-all b low last (e ∷ es) le ids =
    (let l : low < e.0 = ids.0 in omega arith, below-all b e.0 last es (let l : low < e.0 = ids.0 in omega arith) ids.2)

ids-rise : (low last : ℕ) (es : List Kept) → IdsRise low es last → KeysRise (λ i. i) (map (λ e. e.0) es)
ids-rise low last [] ids = tt
ids-rise low last (e ∷ es) ids = (below-all e.0 e.0 last es (omega arith) ids.2, ids-rise e.0 last es ids.2)

-- none was read yet
pub order-unread : (c : Contents) (ids : List ℕ) → IsSound c → ids ≡ ids_of c → AreListed c.last_id (map unread ids)
order-unread c ids sound is =
    let same : all_ids (map unread ids) ≡ ids_of c = all-unread ids ∙ is in
    record {
      rise = subst (KeysRise (λ i. i)) (sym same) (ids-rise 0 c.last_id c.objects sound.ids);
      within = subst (AllByRecursion (λ i. i ≤ c.last_id)) (sym same) (ids-within 0 c.last_id c.objects sound.ids);
    }

-- ---- marks

pub unmarked : (o : Option (List Entry)) → IsMarkOf o None
unmarked None = tt
unmarked (Some o) = tt

-- the mark of an object that was read
pub mark-read : (found : Option (List Entry)) (o : List Entry) → found ≡ Some o → IsMarkOf found (Some (mark_of o))
mark-read found o is = subst (λ x. IsMarkOf x (Some (mark_of o))) (sym is) refl

same-object : (c d : Contents) (e : ObjectEntry) → object_at d e.id ≡ object_at c e.id → IsMarkOf (object_at c e.id) e.mark
    → IsMarkOf (object_at d e.id) e.mark
same-object c d e same was = subst (λ x. IsMarkOf x e.mark) (sym same) was

pub marks-unread : (c : Contents) (ids : List ℕ) → AreMarks c (map unread ids)
marks-unread c ids = All-from_recursion (λ e. IsMarkOf (object_at c e.id) e.mark) (map unread ids) (each ids) where
  each : (ids : List ℕ) → AllByRecursion (λ e. IsMarkOf (object_at c e.id) e.mark) (map unread ids)
  each [] = tt
  each (id ∷ ids) = (unmarked (object_at c id), each ids)

module _ (c : Contents) (xs : List ObjectEntry) (marks : AreMarks c xs) where
  pub marks-inserted : (o : List Entry) (id : ℕ) → IsSound c → AreListed c.last_id xs → id ≡ c.last_id + 1
      → AreMarks (with_object o c) (xs ++ record { id = id; mark = Some (mark_of o); removed = false } ∷ [])
  marks-inserted o id sound order is =
      All-push (λ e. IsMarkOf (object_at (with_object o c) e.id) e.mark) xs
      (record { id = id; mark = Some (mark_of o); removed = false }) others new where
        within : All (λ e. e.id ≤ c.last_id) xs
        within = All-from_recursion (λ e. e.id ≤ c.last_id) xs (by-ids (λ i. i ≤ c.last_id) xs order.within)

        stays : (e : ObjectEntry) → e.id ≤ c.last_id → IsMarkOf (object_at c e.id) e.mark → IsMarkOf (object_at (with_object o c) e.id) e.mark
        stays e le was = same-object c (with_object o c) e (object_at-with_object_other o c e.id (λ k. omega (arith, k, le))) was

        others : AreMarks (with_object o c) xs
        others k d lt = stays (get_or xs k d) (within k d lt) (marks k d lt)

        new : IsMarkOf (object_at (with_object o c) id) (Some (mark_of o))
        new = mark-read (object_at (with_object o c) id) o (ap (object_at (with_object o c)) is ∙ object_at-with_object o c sound)

  pub marks-replaced : (id : ℕ) (o : List Entry) → AreMarks (with_replacement id o c) (map (marked_at id (mark_of o)) xs)
  marks-replaced id o = All-map (λ e. IsMarkOf (object_at (with_replacement id o c) e.id) e.mark) (marked_at id (mark_of o)) xs
      (All-weaker (λ e. IsMarkOf (object_at c e.id) e.mark)
      (λ e. IsMarkOf (object_at (with_replacement id o c) (marked_at id (mark_of o) e).id)
      (marked_at id (mark_of o) e).mark) each xs marks) where
        there : (was : Option (List Entry)) → object_at c id ≡ was → IsMarkOf (object_at (with_replacement id o c) id) (Some (mark_of o))
        there None none = subst (λ x. IsMarkOf x (Some (mark_of o))) (sym (object_at-with_replacement_none id id o c none)) tt
        there (Some old) some = mark-read (object_at (with_replacement id o c) id) o (object_at-with_replacement id o c (ap is_some some))

        each : (e : ObjectEntry) → IsMarkOf (object_at c e.id) e.mark
            → IsMarkOf (object_at (with_replacement id o c) (marked_at id (mark_of o) e).id) (marked_at id (mark_of o) e).mark
        each e was = elim (cases_eq e.id id) [
          | inl is ↦ rw (eq-eqb e.id id is)
              (subst (λ i. IsMarkOf (object_at (with_replacement id o c) i) (Some (mark_of o))) (sym is) (there (object_at c id) refl))
          | inr differ ↦ rw (ne_eqb e.id id differ)
              (same-object c (with_replacement id o c) e (object_at-with_replacement_other id e.id o c differ) was)
        ]

  pub marks-removed : (id : ℕ) → AreMarks (without_object id c) (map (listed_removed_at id) xs)
  marks-removed id = All-map (λ e. IsMarkOf (object_at (without_object id c) e.id) e.mark) (listed_removed_at id) xs
      (All-weaker (λ e. IsMarkOf (object_at c e.id) e.mark)
      (λ e. IsMarkOf (object_at (without_object id c) (listed_removed_at id e).id) (listed_removed_at id e).mark) each xs marks) where
        each : (e : ObjectEntry) → IsMarkOf (object_at c e.id) e.mark
            → IsMarkOf (object_at (without_object id c) (listed_removed_at id e).id) (listed_removed_at id e).mark
        each e was = elim (cases_eq e.id id) [
          | inl is ↦ rw (eq-eqb e.id id is)
              (subst (λ x. IsMarkOf x e.mark) (sym (ap (object_at (without_object id c)) is ∙ object_at-without_object id c)) tt)
          | inr differ ↦ rw (ne_eqb e.id id differ)
              (same-object c (without_object id c) e (object_at-without_object_other id e.id c differ) was)
        ]

pub marks-taken : (c : Contents) (old new : List ObjectEntry) → AreRemovedTaken old new → AreMarks c old → AreMarks c new
marks-taken c old new (inl is) marks = subst (AreMarks c) (sym is) marks
marks-taken c old new (inr is) marks =
    subst (AreMarks c) (sym is) (All-filter (λ e. not e.removed) (λ e. IsMarkOf (object_at c e.id) e.mark) old marks)
