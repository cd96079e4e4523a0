-- What is found, and a key that is added.
use Rattle.std.proofs.Common.{◌≡◌, ◌<◌, ◌^◌, ℕ, List, Option, Some, None, refl, sym, subst}
use Rattle.std.proofs.lemmas.Bool.{lt-ltb}
use Rattle.ck_types.specs.declared.entry.Entry.{Entry}
use Rattle.keep.specs.Contents.{Contents}
use Rattle.desk.specs.Desks.{DeskState}
use Rattle.model_views.specs.Views.{View}
use Rattle.sessions.specs.declared.Session.{Session}
use Rattle.sessions.specs.Sessions.{state_of}
use Rattle.ops.specs.Operations.{Operations}
use Rattle.model_views.specs.TaskResults.{Unwrapped}
use Rattle.model_views.specs.Answering.{Said, Answer, object_at, session_of}
use Rattle.model_answers.specs.CreateObject.{adds_where}
use Rattle.model_answers.specs.UnwrapKey.{unwrapped_result}
use Rattle.serve_base.specs.declared.finding.Found.{Found}
use Rattle.serve_base.specs.Found.{IsFound}
use Rattle.serve_base.specs.Shown.{view_of, GivesAnswer}
use Rattle.serve_keys.specs.Objects.{object_in}

-- what is found is what the application sees
pub found-is : (c : Contents) (d : DeskState) (handle : ℕ) (found : Option Found) → IsFound c d handle found
    → object_at (view_of c d) handle ≡ object_in found
found-is c d handle None is = is
found-is c d handle (Some found) is = is.0

-- an answer at the desk, written otherwise
pub gives-is : (a b : Answer) (c : Contents) (d d' : DeskState) (said : Said) → a ≡ b → GivesAnswer b d.sessions.login c said c d'
    → GivesAnswer a d.sessions.login c said c d'
gives-is a b c d d' said is gives = subst (λ x. GivesAnswer x d.sessions.login c said c d') (sym is) gives

-- ---- a key that is added

pub unwrapped-is : (v : View) (session : ℕ) (s : Session Operations) → session_of v session ≡ Some s → (o : List Entry)
    → v.next_handle < 2 ^ 63 → unwrapped_result v session (Unwrapped o) ≡ adds_where v session (state_of v.sessions.login s.read_write) o
unwrapped-is v session s there o below = rw (there, lt-ltb v.next_handle (2 ^ 63) below) refl
