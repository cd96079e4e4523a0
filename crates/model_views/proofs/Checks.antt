-- An answer by its table is proper: by a fact of what each condition tests, and of what it returns where that is not its
-- code alone.
use Rattle.std.proofs.lemmas.Bool.{lt-ltb}
use Rattle.std.proofs.Common.{arith, ◌≡◌, ℕ, Bool, true, false, cond, List, [], ◌∷◌, Option, Some, None, refl, ◌∙◌, ap}
pub use Rattle.ck_types.specs.declared.entry.Entry.{Entry}
pub use Rattle.attrs.specs.Masking.{mask as mask_object}
pub use Rattle.precede.specs.declared.condition.Condition.{Condition}
pub use Rattle.model_views.specs.Views.{View, mask, mask_session, mask_token_object, mask_session_object}
pub use Rattle.model_views.specs.Answering.{Answer, shown, replies, refuses, refuses_by, becomes, session_of, object_at, index_of}
pub use Rattle.model_views.proofs.Masks.{
  tokens-twice,
  own-twice,
  sessions-twice,
  question-twice,
  record-twice,
  set-masked,
  tries-masked,
  verifier-masked,
  mask-twice,
  session-mask,
  object-mask,
  index-mask,
}
pub use Rattle.model_views.proofs.Blind.{
  IsProper,
  IsFair,
  blind-reply,
  blind-becomes,
  blind-refusal,
  blind-if,
  blind-index,
  fair,
  fair-if,
  fair-refusal,
}
use Rattle.std.specs.Prelude.{is_none, nat_lt, length}
use Rattle.std.specs.List.{AllByRecursion}
use Rattle.model_views.specs.Answering.{Reveal, mask_reveal, has_session}
use Rattle.std.specs.Option.{option_map, unwrap_or}
use Rattle.ck_calls.specs.declared.reply.Reply.{Reply}
use Rattle.ck_types.specs.declared.attr_type.AttrType.{AttrType}
use Rattle.ck_types.specs.declared.attr_type.AttrType.TheVariants as attr
use Rattle.ck_types.specs.declared.rv.Rv.TheVariants.{Ok}
use Rattle.ck_types.specs.Numbers.{attr_type_number}
use Rattle.attrs.specs.MaskingLaws.{flag-mask}
use Rattle.sessions.specs.declared.Session.{Session}
use Rattle.sessions.specs.Sessions.{state_of, session_at}
pub use Rattle.ops.specs.Operations.{Operations, no_operations}
use Rattle.ck_calls.specs.declared.function.Function.{Function}
use Rattle.ck_calls.specs.declared.reply.Reply.TheVariants.{Code}
use Rattle.ck_calls.specs.Functions.{function_number}
use Rattle.precede.specs.declared.condition.Condition.TheVariants.{Busy, NoSession, NoObject}
use Rattle.precede.specs.Condition.{code_of}
use Rattle.precede.specs.Table.{table_of}
use Rattle.model_views.specs.Refusals.{resource_error}
use Rattle.model_views.specs.Checked.{by_rows, checked, checked_by, object_row, reads, flag_at, writes, state_in}

-- no condition's code is a resource error
pub plain-row : (row : Condition) → resource_error (Code (code_of Ok row)) ≡ None
plain-row Busy = refl
plain-row _ = refl

pub blind-row : (v : View) (row : Condition) → shown (refuses_by (mask v) row) ≡ shown (refuses_by v row)
blind-row v row = blind-refusal v (code_of Ok row)

pub fair-row : {quiet : Bool} (v : View) (row : Condition) → IsFair quiet v (refuses_by v row)
fair-row v row = fair-refusal v (code_of Ok row) (plain-row row)

pub blind-rows : (rows : List Condition) (h k : Condition → Bool) (f g : Condition → Answer) (x y : Answer)
    → ((row : Condition) → h row ≡ k row) → ((row : Condition) → shown (f row) ≡ shown (g row)) → shown x ≡ shown y
    → shown (by_rows rows h f x) ≡ shown (by_rows rows k g y)
blind-rows [] h k f g x y same says is = is
blind-rows (row ∷ rows) h k f g x y same says is =
    blind-if (h row) (k row) (f row) (g row) _ _ (same row) (says row) (blind-rows rows h k f g x y same says is)

fair-rows : {quiet : Bool} (rows : List Condition) (v : View) (h : Condition → Bool) (f : Condition → Answer) (x : Answer)
    → ((row : Condition) → IsFair quiet v (f row)) → IsFair quiet v x → IsFair quiet v (by_rows rows h f x)
fair-rows [] v h f x says is = is
fair-rows (row ∷ rows) v h f x says is = fair-if v (h row) (says row) (fair-rows rows v h f x says is)

pub blind-checked_by : (f : Function) (h k : Condition → Bool) (says says' : Condition → Answer) (x y : Answer)
    → ((row : Condition) → h row ≡ k row) → ((row : Condition) → shown (says row) ≡ shown (says' row)) → shown x ≡ shown y
    → shown (checked_by f h says x) ≡ shown (checked_by f k says' y)
blind-checked_by f h k says says' x y same told is = blind-rows (table_of (function_number f)) h k says says' x y same told is

pub fair-checked_by : {quiet : Bool} (f : Function) (v : View) (h : Condition → Bool) (says : Condition → Answer) (x : Answer)
    → ((row : Condition) → IsFair quiet v (says row)) → IsFair quiet v x → IsFair quiet v (checked_by f h says x)
fair-checked_by f v h says x told is = fair-rows (table_of (function_number f)) v h says x told is

-- where no condition holds, and each is known not to
fair-given : {quiet : Bool} (rows : List Condition) (v : View) (h : Condition → Bool) (f : Condition → Answer) (x : Answer)
    → ((row : Condition) → IsFair quiet v (f row)) → (AllByRecursion (λ row. h row ≡ false) rows → IsFair quiet v x)
    → IsFair quiet v (by_rows rows h f x)
fair-given [] v h f x says is = is tt
fair-given {quiet = quiet} (row ∷ rows) v h f x says is = step (h row) refl (λ e. fair-given rows v h f x says (λ all. is (e, all))) where
  step : (b : Bool) → h row ≡ b → ((h row ≡ false) → IsFair quiet v (by_rows rows h f x))
      → IsFair quiet v (cond b (f row) (by_rows rows h f x))
  step true e rest = says row
  step false e rest = rest e

-- the conditions of a call's table, where none holds
abbrev pub NoRow : Function → (Condition → Bool) → Type 0
NoRow f h = AllByRecursion (λ row. h row ≡ false) (table_of (function_number f))

-- where each condition refuses by its code, by what is revealed too
pub proper-given : {quiet : Bool} (f : Function) (h : View → Reveal → Condition → Bool) (x : View → Answer)
    → ((v : View) (r : Reveal) (row : Condition) → h (mask v) (mask_reveal r) row ≡ h v r row)
    → ((v : View) → shown (x (mask v)) ≡ shown (x v)) → ((v : View) (r : Reveal) → NoRow f (h v r) → IsFair quiet v (x v))
    → IsProper (λ v r. checked f (h v r) v (x v)) quiet
proper-given f h x same is fairly = record {
  blind = λ v r. blind-checked_by f (h (mask v) (mask_reveal r)) (h v r) (refuses_by (mask v)) (refuses_by v) (x (mask v)) (x v)
      (same v r) (blind-row v) (is v);
  fair = λ v r. fair-given (table_of (function_number f)) v (h v r) (refuses_by v) (x v) (fair-row v) (fairly v r);
}

pub proper-checked : {quiet : Bool} (f : Function) (h : View → Condition → Bool) (x : View → Answer)
    → ((v : View) (row : Condition) → h (mask v) row ≡ h v row) → ((v : View) → shown (x (mask v)) ≡ shown (x v))
    → ((v : View) → IsFair quiet v (x v)) → IsProper (λ v r. checked f (h v) v (x v)) quiet
proper-checked f h x same is fairly = proper-given f (λ v r. h v) x (λ v r. same v) is (λ v r none. fairly v)

-- ---- what conditions test

none-map : {A B : Type 0} (f : A → B) (o : Option A) → is_none (option_map f o) ≡ is_none o
none-map f None = refl
none-map f (Some a) = refl

pub row-session : (v : View) (s : ℕ) → is_none (session_of (mask v) s) ≡ is_none (session_of v s)
row-session v s = ap is_none (session-mask v s) ∙ none-map mask_session (session_of v s)

pub row-object : (v : View) (handle : ℕ) → is_none (object_at (mask v) handle) ≡ is_none (object_at v handle)
row-object v handle = ap is_none (object-mask v handle) ∙ none-map mask_object (object_at v handle)

pub none-masked : (o : Option (List Entry)) → is_none (option_map mask_object o) ≡ is_none o
none-masked o = none-map mask_object o

pub flag-masked : (o : Option (List Entry)) (t : AttrType) → ((e : attr_type_number t ≡ attr_type_number attr.Value) → ⊥)
    → flag_at (option_map mask_object o) t ≡ flag_at o t
flag-masked None t other = refl
flag-masked (Some o) t other = flag-mask o t other

pub row-flag : (v : View) (handle : ℕ) (t : AttrType) → ((e : attr_type_number t ≡ attr_type_number attr.Value) → ⊥)
    → flag_at (object_at (mask v) handle) t ≡ flag_at (object_at v handle) t
row-flag v handle t other = ap (λ o. flag_at o t) (object-mask v handle) ∙ flag-masked (object_at v handle) t other

pub row-writes : (v : View) (s : ℕ) → writes (session_of (mask v) s) ≡ writes (session_of v s)
row-writes v s = ap writes (session-mask v s) ∙ of (session_of v s) where
  of : (o : Option (Session Operations)) → writes (option_map mask_session o) ≡ writes o
  of None = refl
  of (Some s) = refl

pub state-mask : (v : View) (s : ℕ) → state_in (mask v) s ≡ state_in v s
state-mask v s = ap (state_of v.sessions.login) (row-writes v s)

-- ---- a call that reads an object, by what it reveals of one but for its masked value

object-mask-row : (s handle : ℕ) (v : View) (row : Condition) → object_row (mask v) s handle row ≡ object_row v s handle row
object-mask-row s handle v NoSession = row-session v s
object-mask-row s handle v NoObject = row-object v handle
object-mask-row s handle v _ = refl

blind-told : (handle : ℕ) (tells : List Entry → Reply) → ((o : List Entry) → tells (mask_object o) ≡ tells o) → (v : View)
    → shown (replies (mask v) (tells (unwrap_or (object_at (mask v) handle) [])))
    ≡ shown (replies v (tells (unwrap_or (object_at v handle) [])))
blind-told handle tells same v = ap (λ o. shown (replies (mask v) (tells (unwrap_or o [])))) (object-mask v handle)
    ∙ of (object_at v handle) where
      of : (o : Option (List Entry))
          → shown (replies (mask v) (tells (unwrap_or (option_map mask_object o) []))) ≡ shown (replies v (tells (unwrap_or o [])))
      of None = blind-reply v (tells [])
      of (Some o) = ap (λ r. shown (replies (mask v) r)) (same o) ∙ blind-reply v (tells o)

pub proper-reads : (f : Function) (s handle : ℕ) (tells : List Entry → Reply) → ((o : List Entry) → tells (mask_object o) ≡ tells o)
    → ((o : List Entry) → resource_error (tells o) ≡ None) → IsProper (λ v r. reads f v s handle tells) true
proper-reads f s handle tells same plain =
    proper-checked f (λ v. object_row v s handle) (λ v. replies v (tells (unwrap_or (object_at v handle) []))) (object-mask-row s handle)
    (blind-told handle tells same)
    (λ v. fair v {a = replies v (tells (unwrap_or (object_at v handle) []))}
    (plain (unwrap_or (object_at v handle) [])) refl refl refl refl)

-- ---- who has a session

pub has-session : (v : View) (s : ℕ) → is_none (session_of v s) ≡ false → has_session v ≡ true
has-session v s there = step v.sessions.sessions there where
  step : (ss : List (Session Operations)) → is_none (session_at ss s) ≡ false → nat_lt 0 (length ss) ≡ true
  step [] is = let k : true ≡ false = is in cc
  step (x ∷ xs) is = lt-ltb 0 (length (x ∷ xs)) (omega arith)
