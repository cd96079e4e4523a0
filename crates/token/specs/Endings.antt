-- The result of a pending call at its desk, by what the other applications have in progress.
use Rattle.std.specs.Prelude.{◌≡◌, ℕ, ◌≤◌, Result, Ok, Err, length}
use Rattle.ck_types.specs.declared.user_type.UserType.{UserType}
use Rattle.ck_types.specs.declared.user_type.UserType.TheVariants.{So, User}
use Rattle.ck_calls.specs.declared.reply.Reply.{Reply}
use Rattle.keep.specs.Contents.{Contents}
use Rattle.keep.specs.Keeping.{Terms}
use Rattle.mech.specs.declared.outcome.Outcome.{Outcome}
use Rattle.mech.specs.declared.work.Work.{Work}
use Rattle.mech.specs.Rooms.{given_of}
use Rattle.mech.specs.Works.{outcome_of}
use Rattle.desk.specs.Desks.{DeskState}
use Rattle.model_views.specs.declared.fault.Fault.{Fault}
use Rattle.model_worlds.specs.WorkResults.{told_of}
use Rattle.model_views.specs.Views.{Question, View}
use Rattle.model_views.specs.Answering.{Answer, Replies}
use Rattle.model_answers.specs.Answers.{answer_outcome}
use Rattle.model_worlds.specs.Worlds.{reveal_by_outcome}
use Rattle.serve_base.specs.declared.refusal.Refusal.{Refusal}
use Rattle.serve_base.specs.Refusing.{GivesAnyway, IsDoneIf, with_code, refusal_code}
use Rattle.serve_base.specs.Short.{most_data}
use Rattle.serve_base.specs.Shown.{objects_of, task_of}
use Rattle.serve_base.specs.Stores.{StoreState}
use Rattle.token.specs.declared.ending.Others.{Others}

-- how many others check the PIN
abbrev pub under_way_of : Others → UserType → ℕ
under_way_of o So = o.so_checks
under_way_of o User = o.user_checks

-- what the work gave fits into a frame
abbrev pub IsShortOutcome : Outcome → Type 0
IsShortOutcome outcome = length (given_of outcome) ≤ most_data

-- the answer to an outcome, which is of this work
abbrev pub outcome_answer : Outcome → Others → Work → Question → Contents → View → Answer
outcome_answer outcome others work q c v =
    answer_outcome v q (task_of work) (told_of outcome)
    (reveal_by_outcome (task_of work) (told_of outcome) (objects_of c) (under_way_of others) others.others_have_sessions)

-- The outcome of some work is answered as the definition of the pending call says, and shortly where it is short. A refusal may
-- end an operation, as the answer says.
abbrev pub OutcomeEndsBy : {K : Type 0} → Terms K → ℕ → Outcome → Others → StoreState K → StoreState K → DeskState → Result Reply Refusal
    → DeskState → Type 0
OutcomeEndsBy terms session outcome others old new before result desk =
    (work : Work) (q : Question) → outcome ≡ outcome_of work → q.session ≡ session
    → IsDoneIf (IsShortOutcome outcome)
    (λ said. GivesAnyway (outcome_answer outcome others work q) before said desk) terms Replies 1
    (outcome_answer outcome others work q) old new before result desk

-- what is returned for it
abbrev pub settled_reply : Result Reply Refusal → Result Reply Fault
settled_reply (Ok reply) = Ok reply
settled_reply (Err refusal) = with_code (λ reply. reply) (refusal_code refusal)
