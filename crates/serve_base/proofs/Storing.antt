-- What a call of the keeper makes of it and the list of its objects.
use Rattle.std.proofs.Common.{◌≡◌, ℕ, ◌+◌, ◌≤◌, Bool, true, false, cond, not, map, arith, subst, List, [], ◌∷◌, ◌++◌, Option, Some, None, Result, Ok, Err, refl, sym, ◌∙◌, ap, is_some}
use Rattle.std.specs.Prelude.{find, filter, ◌==◌, ◌||◌, IsSome, OnErr}
use Rattle.std.proofs.lemmas.Bool.{eq-eqb}
use Rattle.std.proofs.lemmas.List.Elements.{All-nil}
use Rattle.std.specs.List.{list_any, AllByRecursion}
use Rattle.ck_types.specs.declared.entry.Entry.{Entry}
use Rattle.lists.specs.Bisection.{KeysRise}
use Rattle.pin_record.specs.Records.{TokenRecord}
use Rattle.keep.specs.Contents.{Contents, IsSound, IsTokenObject, after_reset, ids_of, object_at, with_object, with_record, with_replacement, without_object}
use Rattle.keep.specs.Keeping.{Stays, Terms}
use Rattle.keep.specs.ContentsLaws.{IsSound-after_reset, IsSound-with_object, IsSound-with_record, IsSound-with_replacement, IsSound-without_object}
use Rattle.keep.specs.IdLaws.{ids_of-with_object, ids_of-with_replacement, ids_of-without_object, is_some-object_at}
use Rattle.find.specs.Marks.{mark_of}
use Rattle.serve_base.specs.declared.listed.ObjectEntry.{ObjectEntry}
use Rattle.serve_base.specs.Listing.{AreListed, AreMarks, IsMarkOf, AreRemovedTaken, id_in, listed_ids, marked_at, listed_removed_at, unread}
use Rattle.serve_base.specs.Stores.{StoreState, StoreHas, SameIds}
use Rattle.serve_base.proofs.Marking.{ids-marked, ids-push, ids-removed, ids-rise-in, ids-taken, ids-unread, marks-inserted, marks-removed, marks-replaced, marks-taken, marks-unread, order-marked, order-push, order-removed, order-taken, order-unread}
use Rattle.handles.proofs.LiveLemmas.{live-absent, live-found}

pub on_err : {T E P : Type 0} (r : Result T E) → P → OnErr r P
on_err (Ok x) p = tt
on_err (Err e) p = p

-- ---- what is read leaves the contents

pub has-still : {K : Type 0} (terms : Terms K) (old new : StoreState K) (c : Contents) → Stays terms old.keep new.keep
    → SameIds terms old new → StoreHas terms old c → StoreHas terms new c
has-still terms old new c same ids h =
    record { held = same.held c h.held; ids = ids.ids ∙ h.ids; marks = ids.marks c h.held h.marks; sound = h.sound }

-- nothing is read
pub same_ids-none : {K : Type 0} (terms : Terms K) (s : StoreState K) → SameIds terms s s
same_ids-none terms s = record { ids = refl; marks = λ c held knows. knows }

-- one after the other is read
pub same_ids-then : {K : Type 0} (terms : Terms K) (old mid new : StoreState K) → Stays terms old.keep mid.keep
    → SameIds terms old mid → SameIds terms mid new → SameIds terms old new
same_ids-then terms old mid new same first second =
    record { ids = second.ids ∙ first.ids; marks = λ c held knows. second.marks c (same.held c held) (first.marks c held knows) }

-- the list is left as it is
pub same_ids-left : {K : Type 0} (terms : Terms K) (old new : StoreState K) → terms.doubt old.keep ≤ terms.doubt new.keep
    → new.listed ≡ old.listed → SameIds terms old new
same_ids-left terms old new less same = record {
  ids = ap listed_ids same;
  marks = λ c held knows. record {
    order = subst (AreListed c.last_id) (sym same) knows.order;
    right = λ sure. subst (AreMarks c) (sym same) (knows.right (omega (arith, less, sure)));
  };
}

module _ {K : Type 0} (terms : Terms K) (old new : StoreState K) (c : Contents) (less : terms.doubt old.keep ≤ terms.doubt new.keep) where
  -- what was known is known as long as the disk is faithful
  still-known : StoreHas terms old c → terms.doubt new.keep ≡ 0 → AreMarks c old.listed
  still-known h sure = h.marks.right (omega (arith, less, sure))

  -- a change isn't made
  pub has-failed : StoreHas terms old c → terms.holds new.keep c → new.listed ≡ old.listed → StoreHas terms new c
  has-failed h held list = record {
    held = held;
    ids = ap listed_ids list ∙ h.ids;
    marks = record {
      order = subst (AreListed c.last_id) (sym list) h.marks.order;
      right = λ sure. subst (AreMarks c) (sym list) (still-known h sure);
    };
    sound = h.sound;
  }

  pub has-inserted : (o : List Entry) (id : ℕ) → IsTokenObject o → StoreHas terms old c → id ≡ c.last_id + 1
      → terms.holds new.keep (with_object o c)
      → new.listed ≡ old.listed ++ record { id = id; mark = Some (mark_of o); removed = false } ∷ [] → StoreHas terms new (with_object o c)
  has-inserted o id token h is held list = record {
    held = held;
    ids = ap listed_ids list ∙ ids-push old.listed (record { id = id; mark = Some (mark_of o); removed = false }) refl
        ∙ ap (λ (xs : List ℕ). xs ++ id ∷ []) h.ids ∙ ap (λ (n : ℕ). ids_of c ++ n ∷ []) is ∙ sym (ids_of-with_object o c);
    marks = record {
      order = subst (AreListed (c.last_id + 1)) (sym list)
          (order-push c.last_id id old.listed (record { id = id; mark = Some (mark_of o); removed = false }) is h.marks.order);
      right = λ sure. subst (AreMarks (with_object o c)) (sym list)
          (marks-inserted c old.listed (still-known h sure) o id h.sound h.marks.order is);
    };
    sound = IsSound-with_object o c token h.sound;
  }

  pub has-replaced : (o : List Entry) (id : ℕ) → IsTokenObject o → StoreHas terms old c → terms.holds new.keep (with_replacement id o c)
      → new.listed ≡ map (marked_at id (mark_of o)) old.listed → StoreHas terms new (with_replacement id o c)
  has-replaced o id token h held list = record {
    held = held;
    ids = ap listed_ids list ∙ ids-marked id (mark_of o) old.listed ∙ h.ids ∙ sym (ids_of-with_replacement id o c);
    marks = record {
      order = subst (AreListed c.last_id) (sym list) (order-marked c.last_id id (mark_of o) old.listed h.marks.order);
      right = λ sure. subst (AreMarks (with_replacement id o c)) (sym list) (marks-replaced c old.listed (still-known h sure) id o);
    };
    sound = IsSound-with_replacement id o c token h.sound;
  }

  pub has-removed : (id : ℕ) → StoreHas terms old c → terms.holds new.keep (without_object id c)
      → new.listed ≡ map (listed_removed_at id) old.listed → StoreHas terms new (without_object id c)
  has-removed id h held list = record {
    held = held;
    ids = ap listed_ids list ∙ ids-removed id old.listed ∙ ap (filter (λ i. not (i == id))) h.ids ∙ sym (ids_of-without_object id c);
    marks = record {
      order = subst (AreListed c.last_id) (sym list) (order-removed c.last_id id old.listed h.marks.order);
      right = λ sure. subst (AreMarks (without_object id c)) (sym list) (marks-removed c old.listed (still-known h sure) id);
    };
    sound = IsSound-without_object id c h.sound;
  }

  pub has-recorded : (r : TokenRecord) → StoreHas terms old c → terms.holds new.keep (with_record r c) → new.listed ≡ old.listed
      → StoreHas terms new (with_record r c)
  has-recorded r h held list = record {
    held = held;
    ids = ap listed_ids list ∙ h.ids;
    marks = record {
      order = subst (AreListed c.last_id) (sym list) h.marks.order;
      right = λ sure. subst (AreMarks c) (sym list) (still-known h sure);
    };
    sound = IsSound-with_record r c h.sound;
  }

pub has-reset : {K : Type 0} (terms : Terms K) (new : StoreState K) (c : Contents) (r : TokenRecord)
    → terms.holds new.keep (after_reset r c) → new.listed ≡ [] → StoreHas terms new (after_reset r c)
has-reset terms new c r held list = record {
  held = held;
  ids = ap listed_ids list;
  marks = record {
    order = subst (AreListed c.last_id) (sym list) (record { rise = tt; within = tt });
    right = λ sure. subst (AreMarks (after_reset r c)) (sym list) (All-nil (λ e. IsMarkOf (object_at (after_reset r c) e.id) e.mark));
  };
  sound = IsSound-after_reset r c;
}

-- none of the objects was read
pub has-adopted : {K : Type 0} (terms : Terms K) (new : StoreState K) (c : Contents) (ids : List ℕ) → terms.holds new.keep c
    → IsSound c → ids ≡ ids_of c → new.listed ≡ map unread ids → StoreHas terms new c
has-adopted terms new c ids held sound is list = record {
  held = held;
  ids = ap listed_ids list ∙ ids-unread ids ∙ is;
  marks = record {
    order = subst (AreListed c.last_id) (sym list) (order-unread c ids sound is);
    right = λ sure. subst (AreMarks c) (sym list) (marks-unread c ids);
  };
  sound = sound;
}

-- the entries of removed objects are taken out
pub has-taken : {K : Type 0} (terms : Terms K) (keep : K) (old new : List ObjectEntry) (c : Contents) → AreRemovedTaken old new
    → StoreHas terms (record { keep = keep; listed = old }) c → StoreHas terms (record { keep = keep; listed = new }) c
has-taken terms keep old new c taken h = record {
  held = h.held;
  ids = ids-taken old new taken ∙ h.ids;
  marks = record {
    order = order-taken c.last_id old new taken h.marks.order;
    right = λ sure. marks-taken c old new taken (h.marks.right sure);
  };
  sound = h.sound;
}

-- ---- ids rise

pub has-rising : {K : Type 0} (terms : Terms K) (s : StoreState K) (c : Contents) → StoreHas terms s c → KeysRise id_in s.listed
has-rising terms s c h = ids-rise-in s.listed h.marks.order.rise

any-found : (id : ℕ) (ids : List ℕ) → list_any (λ i. i == id) ids ≡ is_some (find (λ i. i == id) ids)
any-found id [] = refl
any-found id (i ∷ ids) = step (i == id) (any-found id ids) where
  step : (b : Bool) → list_any (λ i. i == id) ids ≡ is_some (find (λ i. i == id) ids)
      → (b || list_any (λ i. i == id) ids) ≡ is_some (cond b (Some i) (find (λ i. i == id) ids))
  step true h = refl
  step false h = h

-- an entry has the id: its object is there, if it wasn't removed
pub any-here : (xs : List ObjectEntry) (id : ℕ) (x : ObjectEntry) → KeysRise id_in xs → find (λ e. id_in e == id) xs ≡ Some x
    → not x.removed ≡ list_any (λ i. i == id) (listed_ids xs)
any-here xs id x rise found = there x.removed (live-found (λ e. e.removed) id_in (λ i. i) id xs x rise found) where
  there : (r : Bool) → find (λ i. i == id) (listed_ids xs) ≡ cond r None (Some x.id) → not r ≡ list_any (λ i. i == id) (listed_ids xs)
  there true is = sym (any-found id (listed_ids xs) ∙ ap is_some is)
  there false is = sym (any-found id (listed_ids xs) ∙ ap is_some is)

pub any-absent : (xs : List ObjectEntry) (id : ℕ) → find (λ e. id_in e == id) xs ≡ None → false ≡ list_any (λ i. i == id) (listed_ids xs)
any-absent xs id none = sym (any-found id (listed_ids xs) ∙ ap is_some (live-absent (λ e. e.removed) id_in (λ i. i) id xs none))

pub not_there : {K : Type 0} (terms : Terms K) (s : StoreState K) (c : Contents) (id : ℕ) → StoreHas terms s c
    → list_any (λ i. i == id) (listed_ids s.listed) ≡ false → None ≡ object_at c id
not_there terms s c id h is = none (object_at c id) (is_some-object_at c id ∙ sym (ap (list_any (λ i. i == id)) h.ids) ∙ is) where
  none : (o : Option (List Entry)) → is_some o ≡ false → None ≡ o
  none None e = refl
  none (Some o) e = let k : true ≡ false = e in cc

pub is_there : {K : Type 0} (terms : Terms K) (s : StoreState K) (c : Contents) (id : ℕ) → StoreHas terms s c
    → list_any (λ i. i == id) (listed_ids s.listed) ≡ true → object_at c id ≡ None → ⊥
is_there terms s c id h is none =
    let k : is_some (object_at c id) ≡ true = is_some-object_at c id ∙ sym (ap (list_any (λ i. i == id)) h.ids) ∙ is in
    let n : is_some (object_at c id) ≡ false = ap is_some none in
    cc

-- by the test of the ids
pub absent_at : {K : Type 0} (terms : Terms K) (s : StoreState K) (c : Contents) (id : ℕ) (has : Bool) → StoreHas terms s c
    → (KeysRise id_in s.listed → has ≡ list_any (λ i. i == id) (listed_ids s.listed)) → has ≡ false → None ≡ object_at c id
absent_at terms s c id has h is none = not_there terms s c id h (sym (is (has-rising terms s c h)) ∙ none)

pub present_at : {K : Type 0} (terms : Terms K) (s : StoreState K) (c : Contents) (id : ℕ) (has : Bool) → StoreHas terms s c
    → (KeysRise id_in s.listed → has ≡ list_any (λ i. i == id) (listed_ids s.listed)) → has ≡ true → object_at c id ≡ None → ⊥
present_at terms s c id has h is some = is_there terms s c id h (sym (is (has-rising terms s c h)) ∙ some)

-- ---- each id has an object

or-true : (b r : Bool) → r ≡ true → (b || r) ≡ true
or-true true r is = refl
or-true false r is = is

all-any : (P : ℕ → Type 0) (ids : List ℕ) → ((id : ℕ) → list_any (λ i. i == id) ids ≡ true → P id) → AllByRecursion P ids
all-any P [] give = tt
all-any P (x ∷ ids) give = (
  give x (rw (eq-eqb x x refl) refl),
  all-any P ids (λ id is. give id (or-true (x == id) (list_any (λ i. i == id) ids) is)),
)

pub all-there : (c : Contents) → AllByRecursion (λ id. IsSome (object_at c id)) (ids_of c)
all-there c = all-any (λ id. IsSome (object_at c id)) (ids_of c) (λ id is. is_some-object_at c id ∙ is)
