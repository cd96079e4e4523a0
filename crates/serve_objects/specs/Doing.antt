-- What a call does with an object that it has found.
use Rattle.std.specs.Prelude.{◌≡◌, ◌⊎◌, true, ℕ, Result, IfErr, IfOk, IsErrOf}
use Rattle.ck_calls.specs.declared.reply.Reply.{Reply}
use Rattle.desk.specs.Desks.{DeskState, SameDesk}
use Rattle.keep.specs.Contents.{Contents}
use Rattle.keep.specs.Keeping.{Counted, Rises, Terms}
use Rattle.model_views.specs.Answering.{Answer, Replies}
use Rattle.model_views.specs.Refusals.{is_refusal}
use Rattle.model_views.specs.Views.{View}
use Rattle.serve_base.specs.declared.refusal.Refusal.{Refusal}
use Rattle.serve_base.specs.declared.refusal.Refusal.TheVariants.{Device}
use Rattle.serve_base.specs.Refusing.{CallDoes, EndsNone, IsPlain}
use Rattle.serve_base.specs.Short.{IsShort}
use Rattle.serve_base.specs.Shown.{Fits, ShowsSame, view_of}
use Rattle.serve_base.specs.Stores.{StoreHas, StoreState}

-- It is what `IsDone` says of a call, but that it gives the answer where the object was found so.
pub record IsDoneWhere (Found : Contents → Type 0) {K : Type 0} (terms : Terms K) (writes : ℕ) (f : View → Answer)
    (old new : StoreState K) (before : DeskState) (result : Result Reply Refusal) (desk : DeskState) : Type 0 where
  pub serves : terms.doubt new.keep ≡ 0 → (c : Contents) → StoreHas terms old c → Fits c before.handles.entries → Found c
      → CallDoes terms (f (view_of c before)) c old new before result desk
  pub counts : Counted terms old.keep new.keep 0 writes
  pub cause : IsErrOf result Device → Rises (terms.failures old.keep) (terms.failures new.keep)
  pub plain : IsPlain result
  pub stays : IfErr result (λ refusal. SameDesk before desk)
  pub refused : IfOk result (λ reply. is_refusal reply ≡ true → ShowsSame before desk ⊎ EndsNone (Replies reply))
  pub short : IfOk result (λ reply. IsShort reply)
