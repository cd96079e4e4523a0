-- The last checks of C_UnwrapKey, and its job: the checks of the unwrapping key and of the wrapped key passed.
use Rattle.std.specs.Prelude.{ℕ, ◌-◌, List, [], ◌∷◌, length, Option, Some}
use Rattle.ck_types.specs.declared.entry.Entry.{Entry}
use Rattle.ck_types.specs.declared.rv.Rv.{Rv}
use Rattle.ck_types.specs.declared.session_state.SessionState.{SessionState}
use Rattle.ck_calls.specs.declared.function.Function.TheVariants.{UnwrapKey}
use Rattle.precede.specs.declared.condition.Condition.TheVariants.{TemplateRefused, WrappedLengthOfType}
use Rattle.precede.specs.Table.{write}
use Rattle.templates.specs.declared.making.Making.TheVariants.{Unwrap}
use Rattle.templates.specs.Faults.{template_fault}
use Rattle.model_views.specs.Views.{View, UnwrapsKey}
use Rattle.model_views.specs.Answering.{Answer, asks}
use Rattle.model_views.specs.Checked.{by_rows}
use Rattle.model_answers.specs.UnwrapKey.{key_ahead, unwrap_says, template_row}

abbrev pub asks_by : View → ℕ → SessionState → List ℕ → List ℕ → List Entry → List ℕ → Option Rv → Answer
asks_by v s state key wrapped template random fault =
    by_rows (TemplateRefused ∷ WrappedLengthOfType ∷ write)
    (template_row v state fault (key_ahead template random (length wrapped - 8))) (unwrap_says v fault)
    (asks v UnwrapKey s (UnwrapsKey (Some key) wrapped state template random))

abbrev pub asks_for_key : View → ℕ → SessionState → List ℕ → List ℕ → List Entry → List ℕ → Answer
asks_for_key v s state key wrapped template random =
    asks_by v s state key wrapped template random (template_fault (Unwrap (length wrapped - 8)) state [] template)
