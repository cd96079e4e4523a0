-- What an answer that refuses leaves: a fact of it, put together as the answer is.
use Rattle.std.proofs.Common.{◌≡◌, Bool, true, false, cond, List, [], ◌∷◌, refl, sym, ◌∙◌, ap}
use Rattle.ck_calls.specs.declared.call.Call.{Call}
use Rattle.ck_calls.specs.declared.function.Function.{Function}
use Rattle.ck_calls.specs.Functions.{function_number}
use Rattle.precede.specs.declared.condition.Condition.{Condition}
use Rattle.precede.specs.Table.{table_of}
use Rattle.model_views.specs.Views.{View}
use Rattle.model_views.specs.Answering.{Said, Replies, Asks, Answer, noted, noted_by, refuses_by}
use Rattle.model_views.specs.Refusals.{is_refused}
use Rattle.model_views.specs.Checked.{by_rows, checked, checked_by}

-- where the answer refuses, this is true of it
pub record OnRefusal (P : Answer → Type 0) (a : Answer) : Type 0 where
  pub leaves : is_refused a.says ≡ true → P a

module _ {P : Answer → Type 0} where
  -- it is true
  pub refusal-leaves : {a : Answer} → P a → OnRefusal P a
  refusal-leaves left = record { leaves = λ is. left }

  -- what is returned is no refusal
  pub no-refusal : {a : Answer} → is_refused a.says ≡ false → OnRefusal P a
  no-refusal told = record { leaves = λ is. let k : false ≡ true = sym told ∙ is in absurd cc }

  pub refusal-if : (b : Bool) {x y : Answer} → OnRefusal P x → OnRefusal P y → OnRefusal P (cond b x y)
  refusal-if true p q = p
  refusal-if false p q = q

  pub refusal-rows : (rows : List Condition) (h : Condition → Bool) (f : Condition → Answer) (x : Answer)
      → ((row : Condition) → OnRefusal P (f row)) → OnRefusal P x → OnRefusal P (by_rows rows h f x)
  refusal-rows [] h f x says is = is
  refusal-rows (row ∷ rows) h f x says is = refusal-if (h row) (says row) (refusal-rows rows h f x says is)

  pub refusal-checked_by : (f : Function) (h : Condition → Bool) (says : Condition → Answer) (x : Answer)
      → ((row : Condition) → OnRefusal P (says row)) → OnRefusal P x → OnRefusal P (checked_by f h says x)
  refusal-checked_by f h says x told is = refusal-rows (table_of (function_number f)) h says x told is

  -- where each condition refuses by its code, the view stays
  pub refusal-row : (v : View) (row : Condition) → P (refuses_by v row) → OnRefusal P (refuses_by v row)
  refusal-row v row same = record { leaves = λ is. same }

  pub refusal-checked : (f : Function) (h : Condition → Bool) (v : View) (x : Answer) → ((row : Condition) → P (refuses_by v row))
      → OnRefusal P x → OnRefusal P (checked f h v x)
  refusal-checked f h v x same is = refusal-checked_by f h (refuses_by v) x (λ row. refusal-row v row (same row)) is

  -- and where the call that becomes pending is noted
  pub refusal-noted : (c : Call) (a : Answer) → OnRefusal P a → OnRefusal P (noted c a)
  refusal-noted c a p = at a.says refl where
    at : (s : Said) → a.says ≡ s → OnRefusal P (noted_by c a s)
    at (Replies reply) is = p
    at (Asks q) is = no-refusal {a = noted_by c a (Asks q)} (ap is_refused is)
