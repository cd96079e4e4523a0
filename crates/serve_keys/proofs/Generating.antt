-- C_GenerateKey.
use Rattle.std.proofs.Common.{◌≡◌, ℕ, Bool, true, false, cond, List, [], ◌∷◌, length, Option, Some, None, refl, ◌∙◌, ap}
use Rattle.std.specs.Prelude.{find, nat_le, not, ◌==◌}
use Rattle.std.specs.Option.{option_map, unwrap_or}
use Rattle.std.specs.Int.{w64, from_be_bytes}
use Rattle.ck_types.specs.declared.entry.Entry.{Entry}
use Rattle.ck_types.specs.declared.attr_type.AttrType.TheVariants.{ValueLen}
use Rattle.ck_types.specs.declared.mech_type.MechType.{MechType}
use Rattle.ck_types.specs.declared.session_state.SessionState.{SessionState}
use Rattle.ck_types.specs.Numbers.{attr_type_number}
use Rattle.ck_calls.specs.declared.fields.Mechanism.{Mechanism}
use Rattle.ck_calls.specs.Need.{value_len_of, value_len_in}
use Rattle.templates.specs.declared.making.Making.TheVariants.{Generate}
use Rattle.templates.specs.Faults.{template_fault}
use Rattle.templates.specs.Made.{object_made, generated_len, generated_value, asked_len}
use Rattle.attrs.specs.Objects.{attribute, number_of}
use Rattle.sessions.specs.declared.Session.{Session}
use Rattle.sessions.specs.Sessions.{state_of}
use Rattle.ops.specs.Operations.{Operations}
use Rattle.model_views.specs.Views.{View}
use Rattle.model_views.specs.Answering.{session_of}
use Rattle.model_answers.specs.GenerateKey.{generation_at, generate_key}
use Rattle.model_answers.specs.CreateObject.{adds_where}

-- ---- the random bytes that the call takes are as many as the key wants

found-attribute : (n : ℕ) (es : List Entry) → option_map (λ e. e.value) (find (λ e. e.attr_type == n) es) ≡ attribute es n
found-attribute n [] = refl
found-attribute n (e ∷ es) = step (e.attr_type == n) (found-attribute n es) where
  step : (b : Bool) → option_map (λ x. x.value) (find (λ x. x.attr_type == n) es) ≡ attribute es n
      → option_map (λ x. x.value) (cond b (Some e) (find (λ x. x.attr_type == n) es)) ≡ cond b (Some e.value) (attribute es n)
  step true rest = refl
  step false rest = rest

asked-bytes : (value : List ℕ) (b : Bool)
    → cond b (cond (nat_le (from_be_bytes w64 value) 512) (from_be_bytes w64 value) 0) 0
    ≡ asked_len (cond b (Some (from_be_bytes w64 value)) None)
asked-bytes value true = refl
asked-bytes value false = refl

asked-entry : (e : Option Entry)
    → unwrap_or (option_map (λ x. value_len_of x.value) e) 0 ≡ asked_len (number_of (option_map (λ x. x.value) e))
asked-entry None = refl
asked-entry (Some e) = asked-bytes e.value (length e.value == 8)

pub asked-len : (template : List Entry) → value_len_in template ≡ generated_len template
asked-len template =
    asked-entry (find (λ e. e.attr_type == attr_type_number ValueLen) template)
    ∙ ap (λ value. asked_len (number_of value)) (found-attribute (attr_type_number ValueLen) template)

-- ---- the answer

module _ (v : View) (session : ℕ) (m : Mechanism) (template : List Entry) (s : Session Operations)
    (there : session_of v session ≡ Some s) (kind : MechType) (is : generation_at m.mech_type ≡ Some kind)
    (empty : not (length m.parameter == 0) ≡ false) where
  abbrev pub state : SessionState
  state = state_of v.sessions.login s.read_write

  pub generate-is : (random : List ℕ) (o : List Entry) → template_fault (Generate kind) state [] template ≡ None
      → object_made (Generate kind) [] template random (generated_value template random) ≡ o
      → generate_key v session m template random ≡ adds_where v session state o
  generate-is random o fault made = rw (there, is, empty, fault, made) refl
