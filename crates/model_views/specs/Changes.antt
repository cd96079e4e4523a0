-- What one application does that others may see: a change of the token objects, or of the token's record.
use Rattle.std.specs.Prelude.{ℕ, ◌==◌, nat_eq, Bool, true, false, ◌&&◌, not, List, [], ◌∷◌, ◌++◌, Option, Some, None, if◌then◌else◌, is_some}
use Rattle.std.specs.Bool.{beq}
use Rattle.std.specs.Cmp.Lexicographic.{pointwise}
use Rattle.std.specs.List.{remove}
use Rattle.std.specs.Option.{option_eq}
use Rattle.std.specs.Str.{bytes_eq}
use Rattle.ck_types.specs.declared.entry.Entry.{Entry}
use Rattle.attrs.specs.Masking.{mask as mask_object}
use Rattle.attrs.specs.Sameness.{same_object}
use Rattle.lists.specs.Indexes.{seen_index, kept_index, replaced, updated}
use Rattle.pin_record.specs.Records.{PinState, TokenRecord}
use Rattle.model_views.specs.Views.{View, TokenObject, without_handle, mask_record, mask}

pub data Change : Type 0 where
  Stays : Change
  Insert : (object : List Entry) → Change
  Replace : (index : ℕ) (object : List Entry) → Change
  Remove : (index : ℕ) → Change
  -- a new record
  Records : (token_record : TokenRecord) → Change
  -- no objects, and a new record
  Resets : (token_record : TokenRecord) → Change

abbrev pub is_still : Change → Bool
is_still Stays = true
is_still (Insert o) = false
is_still (Replace index o) = false
is_still (Remove index) = false
is_still (Records r) = false
is_still (Resets r) = false

abbrev pub mask_change : Change → Change
mask_change Stays = Stays
mask_change (Insert o) = Insert (mask_object o)
mask_change (Replace index o) = Replace index (mask_object o)
mask_change (Remove index) = Remove index
mask_change (Records r) = Records (mask_record r)
mask_change (Resets r) = Resets (mask_record r)

-- the list of the token objects after it
abbrev pub changed : Change → List (List Entry) → List (List Entry)
changed Stays objects = objects
changed (Insert o) objects = objects ++ o ∷ []
changed (Replace index o) objects = replaced objects index o
changed (Remove index) objects = remove objects index
changed (Records r) objects = objects
changed (Resets r) objects = []

-- and the record
abbrev pub recorded : Change → TokenRecord → TokenRecord
recorded Stays r = r
recorded (Insert o) r = r
recorded (Replace index o) r = r
recorded (Remove index) r = r
recorded (Records new) r = new
recorded (Resets new) r = new

-- another object stands at an index, under the handle that was there
abbrev pub rewritten : List TokenObject → ℕ → List Entry → List TokenObject
rewritten ts index o = updated ts index (λ t. record { object = o; handle = t.handle })

-- what the view of another application becomes
abbrev pub seen : Change → View → View
seen Stays v = v
seen (Insert o) v = record v { tokens = v.tokens ++ without_handle o ∷ [] }
seen (Replace index o) v = record v { tokens = rewritten v.tokens index o }
seen (Remove index) v = record v { tokens = remove v.tokens index }
seen (Records r) v = record v { token_record = r }
seen (Resets r) v = record v { token_record = r; tokens = [] }

-- ---- whether a change alters what an application sees

-- a PIN and a record, but for verifiers, which no view has
abbrev pub same_pin : PinState → PinState → Bool
same_pin p q = beq (is_some p.verifier) (is_some q.verifier) && (p.tries == q.tries)

abbrev pub same_record : TokenRecord → TokenRecord → Bool
same_record r s = bytes_eq r.label s.label && (same_pin r.so s.so && same_pin r.user s.user)

abbrev pub same_token_object : TokenObject → TokenObject → Bool
same_token_object t u = same_object t.object u.object && option_eq nat_eq t.handle u.handle

-- the record and the token objects of two views, which are all that others change
abbrev pub same_shared : View → View → Bool
same_shared u v = same_record u.token_record v.token_record && pointwise same_token_object u.tokens v.tokens

-- it alters the view
unfoldable pub is_seen : View → Change → Bool
is_seen v change = not (same_shared (mask v) (mask (seen change v)))

-- ---- indexes, which one application counts among the objects that it sees

-- a change at an index among the objects that are seen, as one of the list
abbrev pub in_list : (List Entry → Bool) → List (List Entry) → Change → Change
in_list sees objects Stays = Stays
in_list sees objects (Insert o) = Insert o
in_list sees objects (Replace index o) = Replace (kept_index sees objects index) o
in_list sees objects (Remove index) = Remove (kept_index sees objects index)
in_list sees objects (Records r) = Records r
in_list sees objects (Resets r) = Resets r

abbrev pub replaced_at : List Entry → Option ℕ → Change
replaced_at o None = Stays
replaced_at o (Some index) = Replace index o

abbrev pub removed_at : Option ℕ → Change
removed_at None = Stays
removed_at (Some index) = Remove index

-- A change of the list as one sees it. A change of an object that isn't seen isn't. What an object is changed
-- into is seen where the object was, since CKA_PRIVATE never changes.
abbrev pub as_seen : (List Entry → Bool) → List (List Entry) → Change → Change
as_seen sees objects Stays = Stays
as_seen sees objects (Insert o) = if sees o then Insert o else Stays
as_seen sees objects (Replace index o) = replaced_at o (seen_index sees objects index)
as_seen sees objects (Remove index) = removed_at (seen_index sees objects index)
as_seen sees objects (Records r) = Records r
as_seen sees objects (Resets r) = Resets r
