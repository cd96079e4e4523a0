-- The resource errors in an application's trace are those of its replies.
use Rattle.std.proofs.Common.{◌≡◌, ℕ, List, [], ◌∷◌, ◌++◌, Option, Some, None, refl, sym, ◌∙◌, ap}
use Rattle.ck_calls.specs.declared.reply.Reply.{Reply}
use Rattle.model_views.specs.declared.fault.Fault.{Fault}
use Rattle.model_views.specs.declared.fault.Fault.TheVariants.{Memory, Device}
use Rattle.model_views.specs.Views.{View, left, mask}
use Rattle.model_views.specs.Changes.{seen}
use Rattle.model_views.specs.Answering.{Said, Replies, Asks, answered}
use Rattle.model_views.specs.Refusals.{refusal, resource_error, resource_error_in}
use Rattle.model_answers.specs.Answers.{answer, answer_result}
use Rattle.model_answers.proofs.Proper.{plain-answer, plain-result}
use Rattle.model_worlds.specs.Worlds.{World, Move, replies}
use Rattle.model_worlds.specs.Traces.{Moment, Calls, Gets, CallFails, ResultFails, Leaves, Sees, said, trace, replies_told, replies_to, with_fault, faults_in, failures_in}
use Rattle.model_worlds.proofs.Told.{told-trace}

-- an answer says none
plain-said : (s : Said) (rs : List Reply) → resource_error_in s ≡ None → faults_in (said s ++ rs) ≡ faults_in rs
plain-said (Replies reply) rs plain = ap (λ e. with_fault e (faults_in rs)) plain
plain-said (Asks q) rs plain = refl

fault-of : (fault : Fault) (rs : List Reply) → faults_in (refusal fault ∷ rs) ≡ fault ∷ faults_in rs
fault-of Memory rs = refl
fault-of Device rs = refl

faults-told : (v : View) (ms : List Moment) → faults_in (replies_told v ms) ≡ failures_in ms
faults-told v [] = refl
faults-told v (Calls call random reveal ∷ ms) =
    let a = answer v call random reveal in
    plain-said a.says (replies_told (mask a.view) ms) (plain-answer v call random reveal) ∙ faults-told (mask a.view) ms
faults-told v (Gets outcome reveal ∷ ms) =
    let a = answer_result v outcome reveal in
    plain-said a.says (replies_told (mask a.view) ms) (plain-result v outcome reveal) ∙ faults-told (mask a.view) ms
faults-told v (CallFails fault ∷ ms) = fault-of fault (replies_told v ms) ∙ ap (λ fs. fault ∷ fs) (faults-told v ms)
faults-told v (ResultFails fault ∷ ms) = fault-of fault (replies_told (answered v) ms) ∙ ap (λ fs. fault ∷ fs) (faults-told (answered v) ms)
faults-told v (Leaves ∷ ms) = faults-told (left v) ms
faults-told v (Sees change ∷ ms) = faults-told (seen change v) ms

pub told-failures : (app : ℕ) (w : World) (ms : List Move) → failures_in (trace app w ms) ≡ faults_in (replies_to app (replies w ms))
told-failures app w ms = sym (faults-told (mask (w.views app)) (trace app w ms)) ∙ ap faults_in (sym (told-trace app w ms))
