-- C_GenerateKey.
use Rattle.std.proofs.Common.{◌≡◌, ℕ, false, List, [], Option, refl, ◌∙◌, ap}
use Rattle.std.specs.Option.{unwrap_or}
use Rattle.ck_types.specs.declared.mech_type.MechType.TheVariants.{AesKeyGen}
use Rattle.ck_types.specs.declared.rv.Rv.{Rv}
use Rattle.ck_calls.specs.declared.fields.Mechanism.{Mechanism}
use Rattle.ck_calls.specs.declared.function.Function.TheVariants.{GenerateKey}
use Rattle.templates.specs.declared.making.Making.TheVariants.{Generate}
use Rattle.templates.specs.Faults.{template_fault}
use Rattle.templates.specs.Made.{object_made, generated_value}
use Rattle.precede.specs.declared.condition.Condition.TheVariants.{NoSession, WrongMechanism, WrongParameter}
use Rattle.model_views.specs.Checked.{state_in, made_by}
use Rattle.model_answers.specs.CreateObject.{adds, makes_row, makes_says}
use Rattle.model_answers.specs.GenerateKey.{generation_at, generate_row, generates, generate_key}
use Rattle.model_answers.proofs.Proper.CreateObject.{blind-adds, makes-mask, makes-told, makes-fair, fair-adds}
use Rattle.model_answers.proofs.Templates.{fault-plain}
use Rattle.model_views.proofs.Checks.{Entry, Condition, View, mask, shown, IsProper, blind-checked_by, fair-checked_by, row-session, state-mask}

generate-mask : (v : View) (s : ℕ) (m : Mechanism) (fault : Option Rv) (o : List Entry) (row : Condition)
    → generate_row (mask v) s m fault o row ≡ generate_row v s m fault o row
generate-mask v s m fault o NoSession = row-session v s
generate-mask v s m fault o WrongMechanism = refl
generate-mask v s m fault o WrongParameter = refl
generate-mask v s m fault o row = ap (λ state. makes_row (mask v) state fault o row) (state-mask v s)
    ∙ makes-mask o o refl v (state_in v s) fault row

blind-generates : (v : View) (s : ℕ) (m : Mechanism) (fault : Option Rv) (o : List Entry)
    → shown (generates (mask v) s m fault o) ≡ shown (generates v s m fault o)
blind-generates v s m fault o =
    blind-checked_by GenerateKey (generate_row (mask v) s m fault o) (generate_row v s m fault o) (makes_says (mask v) fault)
    (makes_says v fault) (adds (mask v) s o) (adds v s o) (generate-mask v s m fault o) (makes-told v fault) (blind-adds o o refl v s)

pub proper-generate_key : (s : ℕ) (m : Mechanism) (template : List Entry) (random : List ℕ)
    → IsProper (λ v r. generate_key v s m template random) false
proper-generate_key s m template random =
    let kind = unwrap_or (generation_at m.mech_type) AesKeyGen in
    let fault : View → Option Rv = λ v. template_fault (Generate kind) (state_in v s) [] template in
    let made : Option Rv → List Entry = λ f. made_by f (object_made (Generate kind) [] template random (generated_value template random)) in
    record {
      blind = λ v r. ap (λ state. let f = template_fault (Generate kind) state [] template in
          shown (generates (mask v) s m f (made f))) (state-mask v s) ∙ blind-generates v s m (fault v) (made (fault v));
      fair = λ v r. fair-checked_by GenerateKey v (generate_row v s m (fault v) (made (fault v))) (makes_says v (fault v))
          (adds v s (made (fault v))) (makes-fair v (fault v) (fault-plain (Generate kind) (state_in v s) [] template))
          (fair-adds v s (made (fault v)));
    }
