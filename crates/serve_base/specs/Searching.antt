-- What a search finds among the token objects (C_FindObjectsInit; PKCS #11 v3.1, 5.7.7).
use Rattle.std.specs.Prelude.{◌≡◌, ℕ, Bool, true, ◌&&◌, ◌||◌, not, List, [], ◌∷◌, ◌++◌, map, filter, Option, Some, None, if◌then◌else◌}
use Rattle.ck_types.specs.declared.entry.Entry.{Entry}
use Rattle.ck_types.specs.declared.attr_type.AttrType.TheVariants as attr
use Rattle.ck_types.specs.declared.user_type.UserType.{UserType}
use Rattle.attrs.specs.Objects.{flag}
use Rattle.find.specs.Matching.{template_matches}
use Rattle.find.specs.Codes.{codes_match}
use Rattle.find.specs.Marks.{ObjectMark, WantedMarks, excludes}
use Rattle.guard.specs.Access.{is_user_in}
use Rattle.keep.specs.Contents.{Kept}
use Rattle.model_views.specs.Views.{sees}
use Rattle.serve_base.specs.declared.listed.ObjectEntry.{ObjectEntry}
use Rattle.serve_base.specs.declared.searching.Match.{Match}
use Rattle.serve_base.specs.declared.searching.Match.TheVariants.{TokenObject, SessionObject}

module _ (login : Option UserType) (template : List Entry) where
  -- one who is logged in so sees the object, and the template finds it
  abbrev pub finds : List Entry → Bool
  finds o = sees login o && template_matches template o

  abbrev pub token_match : ℕ → List Entry → Match
  token_match id o = TokenObject id (flag o attr.Private)

  -- what is found of the token objects, in the order of their creation
  abbrev pub kept_found : List Kept → List Match
  kept_found es = map (λ e. token_match e.0 e.1) (filter (λ e. finds e.1) es)

  -- ---- by their ids

  abbrev pub found_of : ℕ → Option (List Entry) → List Match
  found_of id None = []
  found_of id (Some o) = if finds o then token_match id o ∷ [] else []

  -- nothing is found of an object that was removed
  abbrev pub found_in : (ℕ → Option (List Entry)) → ObjectEntry → List Match
  found_in object_of e = if e.removed then [] else found_of e.id (object_of e.id)

  abbrev pub found_at : (ℕ → Option (List Entry)) → List ℕ → List Match
  found_at object_of [] = []
  found_at object_of (id ∷ ids) = found_of id (object_of id) ++ found_at object_of ids

-- One who is logged in so doesn't see an object with this mark, or what is wanted excludes it.
abbrev pub passes_over : Option UserType → WantedMarks → ObjectMark → Bool
passes_over login wanted mark = (mark.private && not (is_user_in login)) || excludes wanted mark

-- what is found of an object that isn't passed over, where its mark decides that
abbrev pub marked_match : List Entry → ℕ → ObjectMark → List Match
marked_match template id mark = if codes_match mark.codes template then TokenObject id mark.private ∷ [] else []

-- private objects are found for the user alone
abbrev pub MayFind : Option UserType → Match → Type 0
MayFind login (TokenObject id private) = private ≡ true → is_user_in login ≡ true
MayFind login (SessionObject handle) = Unit {0}
