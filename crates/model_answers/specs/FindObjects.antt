-- C_FindObjects and C_FindObjectsFinal (PKCS #11 v3.1, 5.7.8 and 5.7.9): the handles that a search found, some at a time,
-- and its end.
use Rattle.std.specs.Prelude.{ℕ, Bool, false, nat_le, List, [], take, drop, is_none, if◌then◌else◌, Some, None}
use Rattle.std.specs.Option.{unwrap_or}
use Rattle.ck_calls.specs.declared.function.Function.TheVariants.{FindObjects, FindObjectsFinal}
use Rattle.ck_calls.specs.declared.reply.Reply.TheVariants.{Objects}
use Rattle.precede.specs.declared.condition.Condition.TheVariants.{NoSession, NoOperation}
use Rattle.ops.specs.Operations.{search_in, with_search}
use Rattle.model_views.specs.Calls.{Ok, Code, Condition, View, Answer, becomes, session_of, checked}

abbrev pub search_row : View → ℕ → Condition → Bool
search_row v s NoSession = is_none (session_of v s)
search_row v s NoOperation = is_none (search_in (session_of v s))
search_row v s _ = false

-- how many handles one call returns: as many as are asked for, up to the limit
abbrev pub found_limit : ℕ
found_limit = 1024

abbrev pub answered_at_once : ℕ → ℕ
answered_at_once max_count = if nat_le max_count found_limit then max_count else found_limit

-- the first handles that weren't returned yet; the search goes on with the others, also where none is left
abbrev pub gives_found : View → ℕ → ℕ → List ℕ → Answer
gives_found v s count handles =
    becomes (Objects (take count handles)) (record v { sessions = with_search v.sessions s (Some (drop count handles)) })

abbrev pub find_objects : View → ℕ → ℕ → Answer
find_objects v s max_count = checked FindObjects (search_row v s) v
    (gives_found v s (answered_at_once max_count) (unwrap_or (search_in (session_of v s)) []))

abbrev pub find_objects_final : View → ℕ → Answer
find_objects_final v s = checked FindObjectsFinal (search_row v s) v
    (becomes (Code Ok) (record v { sessions = with_search v.sessions s None }))
