-- What a store holds, in either format, and what it holds once its bodies are written again.
use Rattle.std.proofs.Common.{◌≡◌, inl, inr, ℕ, zero, suc, pos, ◌<◌, List, [], ◌∷◌, map, length, get_or, All, Contains, Bool, true, false, not, ◌&&◌, Some, Option, refl, sym, ap, subst, ◌∙◌, arith}
use Rattle.std.proofs.lemmas.List.Elements.{All-head, All-tail, All-weaker}
use Rattle.std.proofs.lemmas.List.Sorted.{IsPermutation-refl}
use Rattle.sqlite_value.specs.declared.value.Value.TheVariants.{Blob}
use Rattle.sqlite_value.specs.Order.{Row, column}
use Rattle.sqlite.specs.Tree.{Trees}
use Rattle.pin_record.specs.Records.{TokenRecord}
use Rattle.pin_record.specs.Stored.{IsRecord, IsOldRecord, record_old_stored}
use Rattle.pin_record.proofs.StoredLaws.{record_old_stored-complete}
use Rattle.keep.specs.Contents.{Contents, IdsRise, IsTokenObject}
use Rattle.sql_tables.specs.declared.renewals.Renewal.{Renewal}
use Rattle.keep_sql.specs.declared.taking.Found.{Found}
use Rattle.sql_statements.specs.Store.{HasRows, body_row}
use Rattle.keep_sql_model.specs.Store.{AreObjects, Body, Stores, encoded, encoded_record, row_of_object, record_row}
use Rattle.keep_sql_model.specs.Formats.{AreBodies, IsRecordBody, StoresEither, is_old, old_encoded, old_encoded_record}
use Rattle.sql_statements.specs.Rows.{bodies, ids_and_bodies, natural}
use Rattle.keep_sql_model.specs.Rows.{ShowsEither}
use Rattle.sql_statements.specs.Bodies as tables
use Rattle.sql_statements.specs.Bodies.{Bodies}
use Rattle.sql_tables.specs.Renewed.{AreNatural, put_each, renewed}
use Rattle.keep_sql_model.specs.Renewals.{IsCovered, IsOfRow, IsStoredAs}
use Rattle.keep_sql.specs.Found.{TablesFind, has_none, is_current}
use Rattle.keep_sql_model.specs.Opening.{AllDecode, HasOld}
use Rattle.sql_statements.proofs.Ids.{rising}
use Rattle.keep_sql_model.proofs.Bytes.{if_new_record, if_old_record, new_is, new_record_is, old_is, old_record_is}
use Rattle.keep_sql_model.proofs.Held.{record_of}
use Rattle.keep_sql_model.proofs.Renewed.{all_renewed}

-- ---- tables that store contents decode

each_shows : (low last : ℕ) (xs : List (ℕ × List ℕ)) (objects : List (ℕ × Body)) → AreBodies xs objects → IdsRise low objects last
    → AreObjects objects → All (λ (e : ℕ × Body). IsTokenObject e.1) objects
    → (k : ℕ) (d : Row) → k < length (ids_and_bodies (map body_row xs)) → ShowsEither (get_or (ids_and_bodies (map body_row xs)) k d)
each_shows low last [] [] same ids are tokens k d below = absurd (omega (arith, below))
each_shows low last [] (e ∷ es) same ids are tokens k d below = absurd same
each_shows low last (x ∷ xs) [] same ids are tokens k d below = absurd same
each_shows low last (x ∷ xs) (e ∷ es) same ids are tokens zero d below =
    record {
      id = x.0;
      object = e.1;
      bytes = x.1;
      id_is = refl;
      above = (let h = ids.0 in let is = same.0 in omega arith);
      body_is = refl;
      is_body = same.1;
      is_object = are.0;
      is_token = tokens 0 e (omega arith);
    }
each_shows low last (x ∷ xs) (e ∷ es) same ids are tokens (suc k) d below =
    each_shows e.0 last xs es same.2 ids.2 are.1 (λ n y h. tokens (suc n) y (omega arith)) k d (omega (arith, below))

pub either_decodes : (trees : Trees) (c : Contents) → StoresEither trees c → AllDecode trees c.token_record
either_decodes trees c it = record {
  record_is = record {
    row = Blob it.record_body ∷ [];
    bytes = it.record_body;
    alone = ap bodies it.record_is;
    body_is = refl;
    is_body = it.is_record_body;
  };
  objects_are = subst (λ (rows : List Row). All ShowsEither (ids_and_bodies rows)) (sym it.objects_are)
      (λ k d below. each_shows 0 c.last_id it.bodies c.objects it.are_bodies it.sound.ids it.are_objects it.sound.objects k d below);
}

-- ---- what was read decodes

stored_body : (bytes : List ℕ) (r : TokenRecord) (old : Bool) → IsStoredAs bytes r old → IsRecordBody bytes r
stored_body bytes r false is = inl is
stored_body bytes r true is = inr is

covered_shows : (es : List Renewal) (row : Row) → IsCovered es row → ShowsEither row
covered_shows es row (inl it) =
    record {
      id = it.id;
      object = it.object;
      bytes = encoded it.object;
      id_is = it.id_is;
      above = it.above;
      body_is = it.body_is;
      is_body = inl refl;
      is_object = it.is_object;
      is_token = it.is_token;
    }
covered_shows es row (inr of) = let it = of.2 in
    record {
      id = it.id;
      object = it.object;
      bytes = old_encoded it.object;
      id_is = it.id_is;
      above = it.above;
      body_is = it.was;
      is_body = inr (refl, it.unflagged);
      is_object = it.is_object;
      is_token = it.is_token;
    }

pub found_decodes : (trees : Trees) (f : Found) → TablesFind trees f → AllDecode trees f.token_record
found_decodes trees f it = record {
  record_is = record {
    row = it.record_is.row;
    bytes = it.record_is.bytes;
    alone = it.record_is.alone;
    body_is = it.record_is.body_is;
    is_body = stored_body it.record_is.bytes f.token_record f.is_old it.record_is.stored;
  };
  objects_are = All-weaker (IsCovered f.renewals.items) ShowsEither (λ row. covered_shows f.renewals.items row)
      (ids_and_bodies (trees 1)) it.covered;
}

-- ---- a body of format 1

-- what isn't current has one
pub has_old : (trees : Trees) (f : Found) → TablesFind trees f → is_current f ≡ false → HasOld trees
has_old trees f it isnt = go f.is_old f.renewals.items refl refl isnt
  where
    go : (old : Bool) (es : List Renewal) → f.is_old ≡ old → f.renewals.items ≡ es → (not old && has_none es) ≡ false → HasOld trees
    go true es is are isnt =
        let stored : IsStoredAs it.record_is.bytes f.token_record true =
        subst (IsStoredAs it.record_is.bytes f.token_record) is it.record_is.stored in
        inl (
          it.record_is.row,
          subst (λ (rows : List Row). Contains rows it.record_is.row) (sym it.record_is.alone)
              (0, omega arith, refl),
          it.record_is.bytes,
          it.record_is.body_is,
          ap is_old stored.0 ∙ old_record_is f.token_record,
        )
    go false [] is are isnt = absurd (cc)
    go false (e ∷ es) is are isnt =
        let of = All-head (IsOfRow (ids_and_bodies (trees 1))) e es
        (subst (λ (xs : List Renewal). All (IsOfRow (ids_and_bodies (trees 1))) xs) are it.own) in
        inr (of.0, of.1, old_encoded of.2.object, of.2.was, old_is of.2.object)

at_one : (row one : Row) (k : ℕ) → k < length (one ∷ []) → get_or (one ∷ []) k row ≡ row → one ≡ row
at_one row one zero below is = is
at_one row one (suc k) below is = absurd (omega (arith, below))

-- what is stored in format 2 has none
pub none_old : (trees : Trees) (c : Contents) → Stores trees c → HasOld trees → ⊥
none_old trees c it (inl old) =
    let in_one = subst (λ (rows : List Row). Contains (bodies rows) old.0) it.record_is old.1 in
    let row = at_one old.0 (Blob (encoded_record c.token_record) ∷ []) in_one.0 in_one.1 in_one.2 in
    let same : Blob old.2 ≡ Blob (encoded_record c.token_record) = sym old.3 ∙ sym (ap (λ (r : Row). column r 0) row) in
    let bytes : old.2 ≡ encoded_record c.token_record = cc in
    absurd (let no : true ≡ false = sym old.4 ∙ ap is_old bytes ∙ new_record_is c.token_record in cc)
none_old trees c it (inr old) =
    let there = subst (λ (rows : List Row). Contains (ids_and_bodies rows) old.0) it.objects_are old.1 in
    new_at c.objects there.0 old.0 there.1 there.2 old.2 old.3 old.4
  where
    new_at : (objects : List (ℕ × Body)) (k : ℕ) (row : Row) → k < length (ids_and_bodies (map row_of_object objects))
        → get_or (ids_and_bodies (map row_of_object objects)) k row ≡ row → (bytes : List ℕ) → column row 1 ≡ Blob bytes
        → is_old bytes ≡ true → ⊥
    new_at [] k row below is bytes body old = absurd (omega (arith, below))
    new_at (e ∷ es) zero row below is bytes body old =
        let same : Blob bytes ≡ Blob (encoded e.1) = sym body ∙ sym (ap (λ (r : Row). column r 1) is) in
        let found : bytes ≡ encoded e.1 = cc in
        absurd (let no : true ≡ false = sym old ∙ ap is_old found ∙ new_is e.1 in cc)
    new_at (e ∷ es) (suc k) row below is bytes body old = new_at es k row (omega (arith, below)) is bytes body old

-- ---- the record that was read

old_record_of : (r q : TokenRecord) → IsOldRecord r → IsOldRecord q → old_encoded_record r ≡ old_encoded_record q → r ≡ q
unfolding old_encoded_record
old_record_of r q one two same =
    let both : ◌≡◌ {A = Option TokenRecord} (Some r) (Some q) =
    sym (record_old_stored-complete r one) ∙ ap record_old_stored same ∙ record_old_stored-complete q two in cc

same_stored : (bytes : List ℕ) (r q : TokenRecord) (old : Bool) → IsStoredAs bytes r old → IsRecordBody bytes q → r ≡ q
same_stored bytes r q false is body =
    let that = if_new_record bytes q body (ap is_old is.0 ∙ new_record_is r) in
    record_of r q is.1 that.1 (sym is.0 ∙ that.0)
same_stored bytes r q true is body =
    let that = if_old_record bytes q body (ap is_old is.0 ∙ old_record_is r) in
    old_record_of r q is.1 that.1 (sym is.0 ∙ that.0)

pub same_record : (trees : Trees) (c : Contents) (f : Found) → StoresEither trees c → TablesFind trees f → f.token_record ≡ c.token_record
same_record trees c f it found =
    let rows : found.record_is.row ∷ [] ≡ (Blob it.record_body ∷ []) ∷ [] = sym found.record_is.alone ∙ ap bodies it.record_is in
    let row : found.record_is.row ≡ Blob it.record_body ∷ [] = cc in
    let shown : Blob found.record_is.bytes ≡ Blob it.record_body = sym found.record_is.body_is ∙ ap (λ (x : Row). column x 0) row in
    let bytes : found.record_is.bytes ≡ it.record_body = cc in
    same_stored it.record_body f.token_record c.token_record f.is_old
    (subst (λ (b : List ℕ). IsStoredAs b f.token_record f.is_old) bytes found.record_is.stored) it.is_record_body

-- ---- once the bodies are written again

bodies_rise : (low last : ℕ) (xs : List (ℕ × List ℕ)) (objects : List (ℕ × Body)) → AreBodies xs objects → IdsRise low objects last
    → tables.RowIdsRise low xs last
bodies_rise low last [] [] same ids = tt
bodies_rise low last [] (e ∷ es) same ids = absurd same
bodies_rise low last (x ∷ xs) [] same ids = absurd same
bodies_rise low last (x ∷ xs) (e ∷ es) same ids =
    let is = same.0 in
    let first = ids.0 in
    let most = ids.1 in
    (omega arith, omega arith, subst (λ (n : ℕ). tables.RowIdsRise n xs last) (sym same.0) (bodies_rise e.0 last xs es same.2 ids.2))

pub are_natural : (es : List Renewal) (rows : List Row) → All (IsOfRow rows) es → AreNatural es
are_natural [] rows of = tt
are_natural (e ∷ es) rows of =
    let it = (All-head (IsOfRow rows) e es of).2 in
    (it.same_id ∙ ap (λ (n : ℕ). pos n) (sym (ap natural it.same_id)), are_natural es rows (All-tail (IsOfRow rows) e es of))

module _ (trees : Trees) (c : Contents) (f : Found) (it : StoresEither trees c) (found : TablesFind trees f) where
  -- the bodies as they are stored
  abbrev pub rows : Bodies
  rows = record { objects = it.bodies; token_record = it.record_body; last_id = c.last_id }

  pub has_rows : HasRows trees rows
  has_rows = record {
    record_is = it.record_is;
    objects_are = it.objects_are;
    count_is = it.count_is;
    ids = bodies_rise 0 c.last_id it.bodies c.objects it.are_bodies it.sound.ids;
  }

  all_written : map body_row (put_each f.renewals.items it.bodies) ≡ map row_of_object c.objects
  all_written =
      let shown = ids_and_bodies (map body_row it.bodies) in
      let covered = subst (λ (rs : List Row). All (IsCovered f.renewals.items) (ids_and_bodies rs)) it.objects_are found.covered in
      let own = subst (λ (rs : List Row). All (IsOfRow (ids_and_bodies rs)) f.renewals.items) it.objects_are found.own in
      all_renewed f.renewals.items shown it.bodies c.objects (rising trees rows has_rows) it.are_bodies it.are_objects
      (IsPermutation-refl shown) covered own

  pub written : IsRecord f.token_record → (bytes : List ℕ) → bytes ≡ encoded_record f.token_record → (left : Trees)
      → HasRows left (renewed f.renewals.items bytes rows) → Stores left c
  written fits bytes is left has =
      let token = same_record trees c f it found in record {
        record_is = has.record_is ∙ ap (λ (b : List ℕ). body_row (1, b) ∷ []) is ∙ ap (λ (r : TokenRecord). record_row r ∷ []) token;
        objects_are = has.objects_are ∙ all_written;
        count_is = has.count_is;
        sound = it.sound;
        is_record = subst IsRecord token fits;
        are_objects = it.are_objects;
      }

  -- where each body has format 2
  pub current : is_current f ≡ true → Stores trees c
  current is = go f.is_old f.renewals.items refl refl is
    where
      go : (old : Bool) (es : List Renewal) → f.is_old ≡ old → f.renewals.items ≡ es → (not old && has_none es) ≡ true → Stores trees c
      go true es was are is = absurd (cc)
      go false (e ∷ es) was are is = absurd (cc)
      go false [] was are is =
          let stored : IsStoredAs found.record_is.bytes f.token_record false =
          subst (IsStoredAs found.record_is.bytes f.token_record) was found.record_is.stored in
          let rows : found.record_is.row ∷ [] ≡ (Blob it.record_body ∷ []) ∷ [] = sym found.record_is.alone ∙ ap bodies it.record_is in
          let row : found.record_is.row ≡ Blob it.record_body ∷ [] = cc in
          let shown : Blob found.record_is.bytes ≡ Blob it.record_body = sym found.record_is.body_is ∙ ap (λ (x : Row). column x 0) row in
          let bytes : found.record_is.bytes ≡ it.record_body = cc in
          let new = if_new_record it.record_body c.token_record it.is_record_body
          (sym (ap is_old bytes) ∙ ap is_old stored.0 ∙ new_record_is f.token_record) in
          record {
            record_is = it.record_is ∙ ap (λ (b : List ℕ). body_row (1, b) ∷ []) new.0;
            objects_are = it.objects_are ∙ ap (λ (es : List Renewal). map body_row (put_each es it.bodies)) (sym are) ∙ all_written;
            count_is = it.count_is;
            sound = it.sound;
            is_record = new.1;
            are_objects = it.are_objects;
          }
