-- From what a call does to the bodies of the tables to what it does to contents.
use Rattle.std.proofs.Common.{◌≡◌, ◌⊎◌, inl, inr, ℕ, ◌==◌, ◌+◌, not, List, [], ◌∷◌, ◌++◌, map, filter, find, cond, Bool, true, false, Some, Option, IsTrue, refl, sym, ap, subst, ◌∙◌, arith}
use Rattle.std.specs.Option.{option_map}
use Rattle.sqlite_value.specs.declared.value.Value.TheVariants.{Blob}
use Rattle.sqlite_value.specs.Order.{Row}
use Rattle.sqlite.specs.Tree.{Trees}
use Rattle.sqlite.specs.State.{State, HasCleanDisk}
use Rattle.attrs.specs.Objects.{IsObject}
use Rattle.pin_record.specs.Records.{TokenRecord, new_record}
use Rattle.pin_record.specs.Stored.{IsRecord}
use Rattle.keep.specs.Contents.{Contents, IdsRise, IsSound, IsTokenObject, after_reset, ids_of, new_contents, kept_replaced_at, with_object, with_record, with_replacement, without_object}
use Rattle.keep.specs.ContentsLaws.{IsSound-after_reset, IsSound-with_object, IsSound-with_record, IsSound-with_replacement, IsSound-without_object}
use Rattle.sql_statements.specs.Bodies as tables
use Rattle.sql_statements.specs.Bodies.{Bodies, put_at}
use Rattle.sql_statements.specs.Store.{HasRows, HasTables, HoldsRows, IsAtRows, RowsChanged, RowsFailed, RowsStayed, ShowsBody, body_row}
use Rattle.keep_sql_model.specs.Store.{AreObjects, Body, Changed, Failed, Holds, IsAt, IsStore, RowShows, Stayed, Stores, encoded, encoded_record, row_of_object}
use Rattle.keep_sql_model.proofs.Held.{reads_one}

-- ---- contents as bodies

abbrev pub stored : ℕ × Body → ℕ × List ℕ
stored e = (e.0, encoded e.1)

abbrev pub bodies_of : Contents → Bodies
bodies_of c = record { objects = map stored c.objects; token_record = encoded_record c.token_record; last_id = c.last_id }

-- contents that can stand in tables
pub record IsKept (c : Contents) : Type 0 where
  pub sound : IsSound c
  pub is_record : IsRecord c.token_record
  pub are_objects : AreObjects c.objects

pub rows_are : (objects : List (ℕ × Body)) → map row_of_object objects ≡ map body_row (map stored objects)
rows_are [] = refl
rows_are (e ∷ es) = ap (λ (rows : List Row). row_of_object e ∷ rows) (rows_are es)

ids_rise : (low last : ℕ) (objects : List (ℕ × Body)) → IdsRise low objects last → tables.RowIdsRise low (map stored objects) last
ids_rise low last [] ids = tt
ids_rise low last (e ∷ es) ids = (ids.0, ids.1, ids_rise e.0 last es ids.2)

pub as_rows : (trees : Trees) (c : Contents) → Stores trees c → HasRows trees (bodies_of c)
as_rows trees c it = record {
  record_is = it.record_is;
  objects_are = it.objects_are ∙ rows_are c.objects;
  count_is = it.count_is;
  ids = ids_rise 0 c.last_id c.objects it.sound.ids;
}

pub kept_of : (trees : Trees) (c : Contents) → Stores trees c → IsKept c
kept_of trees c it = record { sound = it.sound; is_record = it.is_record; are_objects = it.are_objects }

pub as_contents : (trees : Trees) (c : Contents) → IsKept c → HasRows trees (bodies_of c) → Stores trees c
as_contents trees c kept it = record {
  record_is = it.record_is;
  objects_are = it.objects_are ∙ sym (rows_are c.objects);
  count_is = it.count_is;
  sound = kept.sound;
  is_record = kept.is_record;
  are_objects = kept.are_objects;
}

at_rows : (s : State) (c : Contents) → IsAt s c → IsAtRows s (bodies_of c)
at_rows s c at = record {
  schema = at.schema;
  settled = at.settled;
  autocommit = at.autocommit;
  stores = as_rows s.now.trees c at.stores;
  sound = at.sound;
}

pub at_contents : (s : State) (c : Contents) → IsKept c → IsAtRows s (bodies_of c) → IsAt s c
at_contents s c kept at = record {
  schema = at.schema;
  settled = at.settled;
  autocommit = at.autocommit;
  stores = as_contents s.now.trees c kept at.stores;
  sound = at.sound;
}

pub as_store : (trees : Trees) (c : Contents) → IsKept c → HasTables trees (bodies_of c) → IsStore trees c
as_store trees c kept it = record { stores = as_contents trees c kept it.rows; sound = it.sound }

pub hold_rows : (s : State) (c : Contents) → Holds s c → HoldsRows s (bodies_of c)
hold_rows s c h clean up = at_rows s c (h clean up)

-- ---- a change of contents that is this change of the bodies

pub record IsStepOf (step : Contents → Contents) (rows : Bodies → Bodies) : Type 0 where
  pub same : (c : Contents) → bodies_of (step c) ≡ rows (bodies_of c)
  pub keeps : (c : Contents) → IsKept c → IsKept (step c)

module _ (old new : State) (step : Contents → Contents) (rows : Bodies → Bodies) (it : IsStepOf step rows) where
  at_step : (c : Contents) → IsAt old c → IsAtRows new (rows (bodies_of c)) → IsAt new (step c)
  at_step c at made = at_contents new (step c) (it.keeps c (kept_of old.now.trees c at.stores))
      (subst (λ (b : Bodies). IsAtRows new b) (sym (it.same c)) made)

  left_step : (c : Contents) (trees : Trees) → IsAt old c → HasTables trees (rows (bodies_of c)) → IsStore trees (step c)
  left_step c trees at made = as_store trees (step c) (it.keeps c (kept_of old.now.trees c at.stores))
      (subst (λ (b : Bodies). HasTables trees b) (sym (it.same c)) made)

  pub changed : RowsChanged old new rows → Changed old new step
  changed did = record {
    clean = did.clean;
    held = λ c h clean up. at_step c (h (was_clean clean) (did.was_open clean)) (did.held (bodies_of c) (hold_rows old c h) clean up);
    crash = λ c left h may.
        let clean = may.0 in
        reads_one may.1.0 (step c) left
        (left_step c may.1.0 (h (was_clean clean) (did.was_open clean))
        (did.crash (bodies_of c) (hold_rows old c h) clean may.1.0 may.1.1)) may.1.2;
  }
    where
      was_clean : HasCleanDisk new → HasCleanDisk old
      was_clean clean = omega (arith, did.clean)

  pub failed : RowsFailed old new rows → Failed old new step
  failed did = record {
    clean = did.clean;
    held = λ c h clean up. at_contents new c (kept_of old.now.trees c (h (was_clean clean) (did.was_open clean up)).stores)
        (did.held (bodies_of c) (hold_rows old c h) clean up);
    crash = λ c left h may.
        let clean = may.0 in
        elim (did.crash (bodies_of c) (hold_rows old c h) clean may.1.0 may.1.1) [
          | inl before ↦ inl (was_clean clean, (may.1.0, before, may.1.2))
          | inr made ↦ inr (reads_one may.1.0 (step c) left (left_step c may.1.0 (h (was_clean clean) made.0) made.1) may.1.2)
        ];
  }
    where
      was_clean : HasCleanDisk new → HasCleanDisk old
      was_clean clean = omega (arith, did.clean)

pub stayed : (old new : State) → RowsStayed old new → Stayed old new
stayed old new did = record {
  clean = did.clean;
  held = λ c h clean up. at_contents new c (kept_of old.now.trees c (h (was_clean clean) (did.was_open clean up)).stores)
      (did.held (bodies_of c) (hold_rows old c h) clean up);
  crash = λ c left h may. (was_clean may.0, (may.1.0, did.crash (bodies_of c) (hold_rows old c h) may.0 may.1.0 may.1.1, may.1.2));
}
  where
    was_clean : HasCleanDisk new → HasCleanDisk old
    was_clean clean = omega (arith, did.clean)

-- ---- each change

one_more : (id : ℕ) (o : Body) (objects : List (ℕ × Body))
    → map stored (objects ++ (id, o) ∷ []) ≡ map stored objects ++ (id, encoded o) ∷ []
one_more id o [] = refl
one_more id o (e ∷ es) = ap (λ (rest : List (ℕ × List ℕ)). stored e ∷ rest) (one_more id o es)

more_objects : (id : ℕ) (o : Body) (objects : List (ℕ × Body)) → IsObject o → AreObjects objects → AreObjects (objects ++ (id, o) ∷ [])
more_objects id o [] is all = (is, tt)
more_objects id o (p ∷ more) is all = (all.0, more_objects id o more is all.1)

pub insert_step : (o : Body) (bytes : List ℕ) → IsTokenObject o → IsObject o → bytes ≡ encoded o
    → IsStepOf (with_object o) (tables.with_body bytes)
insert_step o bytes is_token is_object is = record {
  same = λ c.
      ap (λ (es : List (ℕ × List ℕ)). record { objects = es; token_record = encoded_record c.token_record; last_id = c.last_id + 1 })
      (one_more (c.last_id + 1) o c.objects ∙ ap (λ (b : List ℕ). map stored c.objects ++ (c.last_id + 1, b) ∷ []) (sym is));
  keeps = λ c kept. record {
    sound = IsSound-with_object o c is_token kept.sound;
    is_record = kept.is_record;
    are_objects = more_objects (c.last_id + 1) o c.objects is_object kept.are_objects;
  };
}

put_stored : (id : ℕ) (o : Body) (objects : List (ℕ × Body))
    → map stored (map (kept_replaced_at id o) objects) ≡ map (put_at id (encoded o)) (map stored objects)
put_stored id o [] = refl
put_stored id o (e ∷ es) =
    let one = first (e.0 == id) in
    let rest = put_stored id o es in
    ap (λ (x : ℕ × List ℕ). x ∷ map stored (map (kept_replaced_at id o) es)) one
    ∙ ap (λ (xs : List (ℕ × List ℕ)). put_at id (encoded o) (stored e) ∷ xs) rest
  where
    first : (t : Bool) → stored (cond t (e.0, o) e) ≡ cond t (e.0, encoded o) (stored e)
    first true = refl
    first false = refl

replaced_objects : (id : ℕ) (o : Body) (objects : List (ℕ × Body)) → IsObject o → AreObjects objects
    → AreObjects (map (kept_replaced_at id o) objects)
replaced_objects id o [] is all = tt
replaced_objects id o (p ∷ more) is all = (one (p.0 == id), replaced_objects id o more is all.1)
  where
    one : (t : Bool) → IsObject (cond t (p.0, o) p).1
    one true = is
    one false = all.0

pub replace_step : (id : ℕ) (o : Body) (bytes : List ℕ) → IsTokenObject o → IsObject o → bytes ≡ encoded o
    → IsStepOf (with_replacement id o) (tables.with_body_at id bytes)
replace_step id o bytes is_token is_object is = record {
  same = λ c.
      ap (λ (es : List (ℕ × List ℕ)). record { objects = es; token_record = encoded_record c.token_record; last_id = c.last_id })
      (put_stored id o c.objects ∙ ap (λ (b : List ℕ). map (put_at id b) (map stored c.objects)) (sym is));
  keeps = λ c kept. record {
    sound = IsSound-with_replacement id o c is_token kept.sound;
    is_record = kept.is_record;
    are_objects = replaced_objects id o c.objects is_object kept.are_objects;
  };
}

abbrev without : {B : Type 0} → ℕ → List (ℕ × B) → List (ℕ × B)
without {B} id es = filter (λ (e : ℕ × B). not (e.0 == id)) es

less_stored : (id : ℕ) (objects : List (ℕ × Body)) → map stored (without id objects) ≡ without id (map stored objects)
less_stored id [] = refl
less_stored id (e ∷ es) = go (not (e.0 == id)) (less_stored id es)
  where
    go : (t : Bool) → map stored (without id es) ≡ without id (map stored es)
        → map stored (cond t (e ∷ without id es) (without id es))
        ≡ cond t (stored e ∷ without id (map stored es)) (without id (map stored es))
    go true rest = ap (λ (xs : List (ℕ × List ℕ)). stored e ∷ xs) rest
    go false rest = rest

fewer : (id : ℕ) (objects : List (ℕ × Body)) → AreObjects objects → AreObjects (without id objects)
fewer id [] all = tt
fewer id (p ∷ more) all = go (not (p.0 == id)) (fewer id more all.1)
  where
    go : (t : Bool) → AreObjects (without id more) → AreObjects (cond t (p ∷ without id more) (without id more))
    go true rest = (all.0, rest)
    go false rest = rest

pub remove_step : (id : ℕ) → IsStepOf (without_object id) (tables.without_body id)
remove_step id = record {
  same = λ c. ap (λ (es : List (ℕ × List ℕ)). record {
    objects = es;
    token_record = encoded_record c.token_record;
    last_id = c.last_id;
  }) (less_stored id c.objects);
  keeps = λ c kept. record {
    sound = IsSound-without_object id c kept.sound;
    is_record = kept.is_record;
    are_objects = fewer id c.objects kept.are_objects;
  };
}

pub record_step : (to : TokenRecord) (bytes : List ℕ) → IsRecord to → bytes ≡ encoded_record to
    → IsStepOf (with_record to) (tables.bodies_with_record bytes)
record_step to bytes fits is = record {
  same = λ c. ap (λ (b : List ℕ). record { objects = map stored c.objects; token_record = b; last_id = c.last_id }) (sym is);
  keeps = λ c kept. record { sound = IsSound-with_record to c kept.sound; is_record = fits; are_objects = kept.are_objects };
}

pub reset_step : (to : TokenRecord) (bytes : List ℕ) → IsRecord to → bytes ≡ encoded_record to
    → IsStepOf (after_reset to) (tables.bodies_after_reset bytes)
reset_step to bytes fits is = record {
  same = λ c. ap (λ (b : List ℕ). record { objects = []; token_record = b; last_id = c.last_id }) (sym is);
  keeps = λ c kept. record { sound = IsSound-after_reset to c; is_record = fits; are_objects = tt };
}

-- ---- a new store

is_new : (r : TokenRecord) → IsRecord r → IsKept (new_contents r)
is_new r fits = record { sound = IsSound-after_reset r (new_contents r); is_record = fits; are_objects = tt }

module _ (r : TokenRecord) (fits : IsRecord r) (bytes : List ℕ) (is : bytes ≡ encoded_record r) (first : r ≡ new_record) where
  pub created : (s : State) → IsAtRows s (tables.new_bodies bytes) → IsAt s (new_contents new_record)
  created s at =
      subst (λ (x : TokenRecord). IsAt s (new_contents x)) first
      (at_contents s (new_contents r) (is_new r fits) (subst (λ (b : List ℕ). IsAtRows s (tables.new_bodies b)) is at))

  created_left : (left : Trees) → HasTables left (tables.new_bodies bytes) → IsStore left (new_contents new_record)
  created_left left has =
      subst (λ (x : TokenRecord). IsStore left (new_contents x)) first
      (as_store left (new_contents r) (is_new r fits) (subst (λ (b : List ℕ). HasTables left (tables.new_bodies b)) is has))

  pub left_new : {P : Type 0} (left : Trees) → P ⊎ HasTables left (tables.new_bodies bytes) → P ⊎ IsStore left (new_contents new_record)
  left_new left (inl before) = inl before
  left_new left (inr whole) = inr (created_left left whole)

-- ---- what reads show

pub same_ids : (c : Contents) → tables.row_ids (bodies_of c) ≡ ids_of c
same_ids c = each c.objects
  where
    each : (objects : List (ℕ × Body)) → map (λ (e : ℕ × List ℕ). e.0) (map stored objects) ≡ map (λ (e : ℕ × Body). e.0) objects
    each [] = refl
    each (e ∷ es) = ap (λ (ns : List ℕ). e.0 ∷ ns) (each es)

abbrev under : {B : Type 0} → ℕ → List (ℕ × B) → Option B
under {B} id es = option_map (λ (e : ℕ × B). e.1) (find (λ (e : ℕ × B). e.0 == id) es)

object_under : (id : ℕ) (objects : List (ℕ × Body)) → AreObjects objects → (bytes : List ℕ)
    → under id (map stored objects) ≡ Some bytes → (o : Body) × (under id objects ≡ Some o) × (bytes ≡ encoded o) × IsObject o
object_under id [] all bytes is = absurd (cc)
object_under id (p ∷ more) all bytes is = go (p.0 == id) refl is (object_under id more all.1 bytes)
  where
    go : (t : Bool) → (p.0 == id) ≡ t → under id (stored p ∷ map stored more) ≡ Some bytes
        → (under id (map stored more) ≡ Some bytes → (o : Body) × (under id more ≡ Some o) × (bytes ≡ encoded o) × IsObject o)
        → (o : Body) × (under id (p ∷ more) ≡ Some o) × (bytes ≡ encoded o) × IsObject o
    go true known is later =
        let found : Some (encoded p.1) ≡ Some bytes = rw known at is in
        let same : bytes ≡ encoded p.1 = cc in
        (p.1, rw known refl, same, all.0)
    go false known is later = let rest = later (rw known at is) in (rest.0, rw known rest.1, rest.2, rest.3)

pub shows_object : (old : State) (c : Contents) (id : ℕ) (row : Row) → HasCleanDisk old → IsTrue old.is_open → Holds old c
    → ShowsBody (bodies_of c) id row → RowShows c id row
shows_object old c id row clean up h shown =
    let it = object_under id c.objects (h clean up).stores.are_objects shown.0 shown.1 in
    record { body = it.0; is = it.1; row_is = shown.2 ∙ ap (λ (b : List ℕ). Blob b ∷ []) it.2; is_object = it.3 }
