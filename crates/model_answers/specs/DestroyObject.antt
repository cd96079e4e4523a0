-- C_DestroyObject (PKCS #11 v3.1, 5.7.3).
use Rattle.std.specs.Prelude.{ℕ, Bool, false, ◌&&◌, ◌==◌, not, filter, Option, Some, None, is_none}
use Rattle.std.specs.List.{remove}
use Rattle.ck_types.specs.declared.attr_type.AttrType.TheVariants as attr
use Rattle.ck_calls.specs.declared.function.Function.TheVariants.{DestroyObject}
use Rattle.precede.specs.declared.condition.Condition.TheVariants.{NoSession, NoObject, TokenObjectReadOnly, NotDestroyable}
use Rattle.model_views.specs.Calls.{Ok, Code, Condition, View, Remove, Answer, Replies, becomes, session_of, index_of, object_at, checked, writes, flag_at}

abbrev pub destroy_row : View → ℕ → ℕ → Condition → Bool
destroy_row v s handle NoSession = is_none (session_of v s)
destroy_row v s handle NoObject = is_none (object_at v handle)
destroy_row v s handle TokenObjectReadOnly = flag_at (object_at v handle) attr.Token && not (writes (session_of v s))
destroy_row v s handle NotDestroyable = not (flag_at (object_at v handle) attr.Destroyable)
destroy_row v s handle _ = false

-- the session object under the handle is gone, or the token object at an index
abbrev pub destroyed : View → ℕ → Option ℕ → Answer
destroyed v handle None = becomes (Code Ok) (record v { own = filter (λ e. not (e.handle == handle)) v.own })
destroyed v handle (Some index) =
    record { says = Replies (Code Ok); view = record v { tokens = remove v.tokens index }; change = Remove index }

abbrev pub destroy_object : View → ℕ → ℕ → Answer
destroy_object v s handle = checked DestroyObject (destroy_row v s handle) v (destroyed v handle (index_of v.tokens handle))
