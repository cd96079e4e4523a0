-- An operation ends, and the answer says so.
use Rattle.std.proofs.Common.{◌≡◌, rules, ℕ, None, Ok, sym, subst}
use Rattle.ck_types.specs.declared.rv.Rv.TheVariants as rv
use Rattle.ck_calls.specs.declared.reply.Reply.TheVariants.{Code}
use Rattle.precede.specs.Condition.{code_of}
use Rattle.precede.specs.declared.condition.Condition.{Condition}
use Rattle.keep.specs.Contents.{Contents}
use Rattle.desk.specs.Desks.{DeskState}
use Rattle.ops.specs.declared.place.Kind.{Kind}
use Rattle.ops.specs.declared.place.Kind.TheVariants.{Cipher, Mac}
use Rattle.model_views.specs.Views.{View}
use Rattle.model_views.specs.Answering.{Said, Replies, Answer}
use Rattle.model_answers.specs.CipherInit.{place_for}
use Rattle.model_answers.specs.OperationInit.{operation_ends}
use Rattle.serve_base.specs.declared.out.Out.TheVariants.{Reply as OutReply}
use Rattle.serve_base.specs.Refusing.{AtDeskIf}
use Rattle.serve_base.specs.Shown.{said_of, view_of, Fits, GivesAnswer}
use Rattle.serve_operations.specs.Beginning.{table_without}
use Rattle.serve_operations.proofs.Ciphering as ciphering
use Rattle.serve_operations.proofs.Signing as signing

-- an answer at the desk, written otherwise
pub gives-is : (a b : Answer) (c : Contents) (d d' : DeskState) (said : Said) → a ≡ b → GivesAnswer b d.sessions.login c said c d'
    → GivesAnswer a d.sessions.login c said c d'
gives-is a b c d d' said is gives = subst (λ x. GivesAnswer x d.sessions.login c said c d') (sym is) gives

module _ (d : DeskState) (session : ℕ) (row : Condition) where
  ended-at : (kind : Kind) (c : Contents) → Fits c d.handles.entries
      → GivesAnswer (operation_ends kind (view_of c d) session row) d.sessions.login c (Replies (Code (code_of rv.Ok row))) c
      (record d { sessions = table_without d.sessions session kind })
  ended-at (Cipher direction) c fits = ciphering.gives-with c d session (place_for direction) None (Code (code_of rv.Ok row)) fits
  ended-at (Mac place) c fits = signing.gives-with c d session place None (Code (code_of rv.Ok row)) fits

  -- a call that ends its operation for a check of its table that fails
  pub ended-for : (given : Type 0) (f : View → Answer) (kind : Kind)
      → ((c : Contents) → f (view_of c d) ≡ operation_ends kind (view_of c d) session row)
      → AtDeskIf given said_of f d (Ok (OutReply (Code (code_of rv.Ok row))))
      (record d { sessions = table_without d.sessions session kind })
  ended-for given f kind is = record {
    serves = λ c fits. gives-is _ (operation_ends kind (view_of c d) session row) c d _ _ (is c) (ended-at kind c fits);
    cause = search rules;
    short = search rules;
  }
