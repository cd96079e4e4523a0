-- Handles of what is found, one after the other.
use Rattle.std.specs.Prelude.{ℕ, List, [], ◌∷◌, map, filter}
use Rattle.std.specs.Option.{unwrap_or}
use Rattle.ck_types.specs.declared.entry.Entry.{Entry}
use Rattle.find.specs.Matching.{template_matches}
use Rattle.handles.specs.Handles.{HandleTable, handle_number, with_handle}
use Rattle.desk.specs.declared.own_object.OwnObject.{OwnObject}
use Rattle.serve_base.specs.declared.searching.Match.{Match}
use Rattle.serve_base.specs.declared.searching.Match.TheVariants.{TokenObject, SessionObject}

-- what is found of the session objects, in the order of their creation
abbrev pub own_matches : List Entry → List OwnObject → List Match
own_matches template es = map (λ e. SessionObject e.handle) (filter (λ e. template_matches template e.object) es)

-- a token object has a handle then: the one that it had, or the next
abbrev pub with_one : HandleTable → Match → HandleTable
with_one t (TokenObject id private) = with_handle t id private
with_one t (SessionObject handle) = t

abbrev pub number_of_one : HandleTable → Match → ℕ
number_of_one t (TokenObject id private) = unwrap_or (handle_number (with_handle t id private).entries id) 0
number_of_one t (SessionObject handle) = handle

abbrev pub given : HandleTable → List Match → HandleTable
given t [] = t
given t (m ∷ ms) = given (with_one t m) ms

abbrev pub numbers : HandleTable → List Match → List ℕ
numbers t [] = []
numbers t (m ∷ ms) = number_of_one t m ∷ numbers (with_one t m) ms
