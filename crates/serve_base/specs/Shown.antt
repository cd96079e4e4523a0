-- The view that a token's parts refine: the one place where ids become handles.
use Rattle.std.specs.Prelude.{◌≡◌, ◌≢◌, ℕ, ◌≤◌, Bool, not, List, [], ◌∷◌, map, filter, Option, Some, Result, Ok, Err}
use Rattle.std.proofs.Common.{zero, suc}
use Rattle.std.specs.Option.{option_map}
use Rattle.std.specs.List.{AllByRecursion, remove}
use Rattle.ck_types.specs.declared.entry.Entry.{Entry}
use Rattle.ck_types.specs.declared.user_type.UserType.{UserType}
use Rattle.guard.specs.Access.{is_public}
use Rattle.lists.specs.Indexes.{updated}
use Rattle.handles.specs.declared.Handle.{Handle}
use Rattle.handles.specs.Handles.{handle_number}
use Rattle.keep.specs.Contents.{Contents, Kept, with_object, with_record, after_reset}
use Rattle.desk.specs.Jobs.{Job, Work, Cipher, Take, Sign, Verify, Wrap, Unwrap, CheckPin, MakePin, ChangePin, InitToken, ResetToken}
use Rattle.desk.specs.declared.own_object.OwnObject.{OwnObject}
use Rattle.desk.specs.Desks.{DeskState}
use Rattle.ops.specs.Operations.{operation_of, mac_of}
use Rattle.serve_base.specs.declared.out.Out.{Out}
use Rattle.serve_base.specs.declared.out.Out.TheVariants.{Reply as OutReply, Ask}
use Rattle.model_views.specs.Views.{sees, TokenObject, SessionObject, Task, Ciphers, Takes, Signs, Verifies, WrapsKey, UnwrapsKey, ChecksPin, MakesPin, ChangesPin, InitsToken, ResetsToken, Question, View}
use Rattle.model_views.specs.Changes.{Change, Stays, Insert, Replace, Remove, Records, Resets, in_list}
use Rattle.model_views.specs.Answering.{Said, Replies, Asks, Answer}

-- ---- one desk

abbrev pub objects_of : Contents → List (List Entry)
objects_of c = map (λ e. e.1) c.objects

abbrev pub sees_kept : Option UserType → Kept → Bool
sees_kept login e = sees login e.1

abbrev pub token_object : DeskState → Kept → TokenObject
token_object d e = record { object = e.1; handle = handle_number d.handles.entries e.0 }

abbrev pub session_object : OwnObject → SessionObject
session_object e = record { object = e.object; handle = e.handle; session = e.session }

abbrev pub task_of : Work → Task
task_of (Cipher stream part input) = Ciphers part (operation_of stream) input
task_of (Take place mac input) = Takes place (mac_of mac) input
task_of (Sign mac input) = Signs (mac_of mac) input
task_of (Verify mac input signature) = Verifies (mac_of mac) input signature
task_of (Wrap key value) = WrapsKey (Some key) (Some value)
task_of (Unwrap key wrapped state template random) = UnwrapsKey (Some key) wrapped state template random
task_of (CheckPin who verifier pin) = ChecksPin who verifier pin
task_of (MakePin pin salt) = MakesPin pin salt
task_of (ChangePin who verifier pin new_pin salt) = ChangesPin who verifier pin new_pin salt
task_of (InitToken label pin salt) = InitsToken label pin salt
task_of (ResetToken label verifier pin) = ResetsToken label verifier pin

abbrev pub question_of : Job → Question
question_of j = record { number = j.question; function = j.function; session = j.session; task = task_of j.work.value }

-- the full view that a desk makes with what is kept
abbrev pub view_of : Contents → DeskState → View
view_of c d =
    record {
      token_record = c.token_record;
      tokens = map (token_object d) (filter (sees_kept d.sessions.login) c.objects);
      own = map session_object d.own;
      sessions = d.sessions;
      call = d.call;
      question = option_map question_of d.question;
      next_handle = d.handles.next_number;
      next_question = d.next_question;
    }

-- handles are of ids that were given, and each records whether its object is private
abbrev pub IsNoted : List Handle → Kept → Type 0
IsNoted hs e = AllByRecursion (λ h. h.id ≡ e.0 → h.private ≡ not (is_public e.1)) hs

pub record Fits (c : Contents) (hs : List Handle) : Type 0 where
  pub given : AllByRecursion (λ h. h.id ≤ c.last_id) hs
  pub noted : AllByRecursion (IsNoted hs) c.objects

-- a desk shows what another one showed, whatever is kept
abbrev pub ShowsSame : DeskState → DeskState → Type 0
ShowsSame old new = (c : Contents) → Fits c old.handles.entries → view_of c new ≡ view_of c old

-- ---- what is kept changes

-- another object stands at an index, under the id that was there
abbrev pub rekept : List Kept → ℕ → List Entry → List Kept
rekept es index o = updated es index (λ e. (e.0, o))

-- what stands at an index is public where the object is
abbrev pub IsAsPublic : List Kept → ℕ → List Entry → Type 0
IsAsPublic [] index o = Unit {0}
IsAsPublic (e ∷ es) zero o = is_public o ≡ is_public e.1
IsAsPublic (e ∷ es) (suc index) o = IsAsPublic es index o

abbrev pub ChangesContents : Change → Contents → Contents → Type 0
ChangesContents Stays old new = new ≡ old
ChangesContents (Insert o) old new = new ≡ with_object o old
ChangesContents (Replace index o) old new = IsAsPublic old.objects index o × (new ≡ record old { objects = rekept old.objects index o })
ChangesContents (Remove index) old new = new ≡ record old { objects = remove old.objects index }
ChangesContents (Records r) old new = new ≡ with_record r old
ChangesContents (Resets r) old new = new ≡ after_reset r old

-- ---- what is returned

abbrev pub said_of : Out → Said
said_of (OutReply reply) = Replies reply
said_of (Ask job) = Asks (question_of job)

-- it is a reply
abbrev pub IsReply : Out → Type 0
IsReply (OutReply reply) = Unit {0}
IsReply (Ask job) = ⊥

-- It is a reply, or a refusal other than an allocation failure: no job, which takes memory.
abbrev pub RepliesAtOnce : {E : Type 0} → E → Result Out E → Type 0
RepliesAtOnce memory (Ok out) = IsReply out
RepliesAtOnce memory (Err refusal) = refusal ≢ memory

-- a job of it is the application's
abbrev pub IsFor : ℕ → Out → Type 0
IsFor app (OutReply reply) = Unit {0}
IsFor app (Ask job) = job.app ≡ app

-- What is returned to one who is logged in so, what is kept and what the desk holds after it are the answer.
pub record GivesAnswer (a : Answer) (login : Option UserType) (old : Contents) (said : Said) (new : Contents) (desk : DeskState) : Type 0 where
  pub says : said ≡ a.says
  pub view : view_of new desk ≡ a.view
  pub changes : ChangesContents (in_list (sees login) (objects_of old) a.change) old new
  pub fits : Fits new desk.handles.entries
