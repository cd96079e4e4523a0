-- Stores whose bodies have format 2, or format 1, in which older tokens wrote them.
use Rattle.std.specs.Prelude.{◌≡◌, ◌⊎◌, ℕ, ◌==◌, Bool, false, List, [], ◌∷◌, map, IsTrue, ⊤}
use Rattle.sqlite.specs.Tree.{Trees}
use Rattle.sqlite.specs.Effect.{IsDatabase}
use Rattle.sqlite.specs.State.{State, HasCleanDisk}
use Rattle.attrs.specs.OldStored as object
use Rattle.attrs.specs.OldStored.{has_new_flags}
use Rattle.pin_record.specs.Records.{TokenRecord}
use Rattle.pin_record.specs.Stored as token
use Rattle.pin_record.specs.Stored.{IsOldRecord, IsRecord}
use Rattle.keep.specs.Contents.{Contents, IsSound}
use Rattle.sql_statements.specs.Tables.{token_schema}
use Rattle.sql_statements.specs.Store.{body_row, counter_rows}
use Rattle.keep_sql_model.specs.Store.{AreObjects, Body, encoded, encoded_record}

-- one spelling in format 1
unfoldable pub old_encoded : Body → List ℕ
old_encoded o = object.old_form o

unfoldable pub old_encoded_record : TokenRecord → List ℕ
old_encoded_record r = token.old_record_form r

-- the first byte is the format
abbrev pub is_old : List ℕ → Bool
is_old [] = false
is_old (b ∷ bytes) = b == 1

-- the body of an object: in format 1 both of the attributes that it hasn't are false
abbrev pub IsBody : List ℕ → Body → Type 0
IsBody bytes o = (bytes ≡ encoded o) ⊎ ((bytes ≡ old_encoded o) × (has_new_flags o ≡ false))

-- the body of a record: in format 1 the rounds of its PINs are those of older tokens
abbrev pub IsRecordBody : List ℕ → TokenRecord → Type 0
IsRecordBody bytes r = ((bytes ≡ encoded_record r) × IsRecord r) ⊎ ((bytes ≡ old_encoded_record r) × IsOldRecord r)

-- a body for each object, under its id
abbrev pub AreBodies : List (ℕ × List ℕ) → List (ℕ × Body) → Type 0
AreBodies [] [] = ⊤
AreBodies [] (e ∷ es) = ⊥
AreBodies (b ∷ bs) [] = ⊥
AreBodies (b ∷ bs) (e ∷ es) = (b.0 ≡ e.0) × IsBody b.1 e.1 × AreBodies bs es

-- the tables are these contents, and no others, each body in either format
pub record StoresEither (trees : Trees) (c : Contents) : Type 0 where
  pub record_body : List ℕ
  pub bodies : List (ℕ × List ℕ)
  pub record_is : trees 0 ≡ body_row (1, record_body) ∷ []
  pub is_record_body : IsRecordBody record_body c.token_record
  pub objects_are : trees 1 ≡ map body_row bodies
  pub are_bodies : AreBodies bodies c.objects
  pub count_is : trees 2 ≡ counter_rows c.last_id
  pub sound : IsSound c
  pub are_objects : AreObjects c.objects

-- an open connection on the two tables, with no transaction
pub record IsAtEither (s : State) (c : Contents) : Type 0 where
  pub schema : s.now.schema ≡ token_schema
  pub settled : s.committed ≡ s.now
  pub autocommit : s.in_transaction ≡ false
  pub stores : StoresEither s.now.trees c
  pub sound : IsDatabase s.now

-- a connection that is shut, or whose disk was faulty, is at any contents
abbrev pub HoldsEither : State → Contents → Type 0
HoldsEither s c = HasCleanDisk s → IsTrue s.is_open → IsAtEither s c
