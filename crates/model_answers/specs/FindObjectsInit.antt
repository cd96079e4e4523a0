-- C_FindObjectsInit (PKCS #11 v3.1, 5.7.7): a search begins, and what it finds is fixed there.
use Rattle.std.specs.Prelude.{ℕ, ◌+◌, Bool, false, ◌&&◌, List, [], ◌∷◌, ◌++◌, map, filter, is_none, is_some, if◌then◌else◌, Some}
use Rattle.std.specs.Option.{unwrap_or}
use Rattle.ck_calls.specs.declared.function.Function.TheVariants.{FindObjectsInit}
use Rattle.find.specs.Matching.{template_matches}
use Rattle.precede.specs.declared.condition.Condition.TheVariants.{NoSession, OperationActive}
use Rattle.ops.specs.Operations.{search_in, with_search}
use Rattle.model_views.specs.Calls.{Ok, Code, Entry, Condition, View, TokenObject, SessionObject, Answer, becomes, session_of, checked}

abbrev pub find_init_row : View → ℕ → Condition → Bool
find_init_row v s NoSession = is_none (session_of v s)
find_init_row v s OperationActive = is_some (search_in (session_of v s))
find_init_row v s _ = false

-- a token object that is found and has no handle takes the next one
abbrev pub takes_handle : List Entry → TokenObject → Bool
takes_handle template t = template_matches template t.object && is_none t.handle

abbrev pub with_handles : List Entry → ℕ → List TokenObject → List TokenObject
with_handles template next [] = []
with_handles template next (t ∷ ts) =
    if takes_handle template t then record { object = t.object; handle = Some next } ∷ with_handles template (next + 1) ts
    else t ∷ with_handles template next ts

-- the number of the next handle after these
abbrev pub next_after : List Entry → ℕ → List TokenObject → ℕ
next_after template next [] = next
next_after template next (t ∷ ts) = if takes_handle template t then next_after template (next + 1) ts else next_after template next ts

-- the handles of what is found: of the token objects, all of which have one by then, and of the session objects, each
-- by the order of their creation
abbrev pub tokens_found : List Entry → List TokenObject → List ℕ
tokens_found template ts = map (λ t. unwrap_or t.handle 0) (filter (λ t. template_matches template t.object) ts)

abbrev pub own_found : List Entry → List SessionObject → List ℕ
own_found template es = map (λ e. e.handle) (filter (λ e. template_matches template e.object) es)

abbrev pub found : List Entry → View → List ℕ
found template v = tokens_found template v.tokens ++ own_found template v.own

-- what is found has its handles, and the search of the session has them to return
abbrev pub handled : List Entry → View → View
handled template v = record v {
  tokens = with_handles template v.next_handle v.tokens;
  next_handle = next_after template v.next_handle v.tokens;
}

abbrev pub searches : View → ℕ → List Entry → Answer
searches v s template =
    let all = handled template v in
    becomes (Code Ok) (record all { sessions = with_search v.sessions s (Some (found template all)) })

abbrev pub find_objects_init : View → ℕ → List Entry → Answer
find_objects_init v s template = checked FindObjectsInit (find_init_row v s) v (searches v s template)
