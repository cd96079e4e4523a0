-- A result at one desk, and a disconnect, are the world's next step.
use Rattle.std.proofs.Common.{◌≡◌, ◌≢◌, ◌≤◌, ℕ, Bool, List, [], ◌∷◌, ◌++◌, Option, Some, None, Result, Ok, Err, refl, sym, ◌∙◌, ap, inl, inr, arith}
use Rattle.std.specs.Prelude.{option_to_list, map}
use Rattle.std.specs.Option.{option_map}
use Rattle.ck_types.specs.declared.user_type.UserType.{UserType}
use Rattle.ck_calls.specs.declared.reply.Reply.{Reply}
use Rattle.keep.specs.Contents.{Contents}
use Rattle.keep.specs.Keeping.{Terms}
use Rattle.pin_record.specs.Records.{tries_limit, tries_of}
use Rattle.model_views.specs.declared.fault.Fault.{Fault}
use Rattle.model_views.specs.declared.fault.Fault.TheVariants.{Memory, Device}
use Rattle.mech.specs.declared.job.Job.{Job}
use Rattle.model_views.specs.TaskResults.{TaskResult}
use Rattle.desk.specs.Desks.{DeskState, SameDesk, empty_desk, over}
use Rattle.model_worlds.specs.declared.check.Check.{Check}
use Rattle.model_worlds.specs.declared.event.Event.TheVariants.{Finish, Gone}
use Rattle.serve_base.specs.declared.out.Out.TheVariants.{Reply as OutReply}
use Rattle.ck_types.specs.declared.entry.Entry.{Entry}
use Rattle.model_views.specs.Views.{Question, View, sees}
use Rattle.model_views.specs.Changes.{Change, in_list}
use Rattle.model_views.specs.Answering.{Replies, Answer, Reveal, answered}
use Rattle.model_answers.specs.Answers.{answer_result}
use Rattle.model_views.specs.Refusals.{resource_error_in, refusal, resource_error}
use Rattle.model_worlds.specs.Worlds.{World, checks_of, others_checking, others_in_session, value_of, reveal_by_outcome, reveal_to_task, result_at, list_change, without_checks, stepped, unchecked, finished, finish_tells, finish_refusal, goes, happens, told, reply_to}
use Rattle.serve_base.specs.Shown.{objects_of, view_of, question_of, ChangesContents}
use Rattle.model_runs.specs.Applications.{desk_at, are_others_in_session, reveal_by_job, told_result, moved, move_of, IsOpen, HasNumbers, HasJobs, opening, answer_by, answer_to_job, asked_by_job, by_job, taken_by, says_by, TokenState, Shows, ShowsAfter}
use Rattle.serve_base.specs.Stores.{StoreState, StoreHas, LacksId, ServesAnswer}
use Rattle.model_runs.specs.Runs.{Lasting, lasting_of, lasting_in, MayLeave, LeavesBy, LeftBy, IsTakenBy, change_of, result_change}
use Rattle.model_worlds.specs.Tries.{IsSoundWorld}
use Rattle.model_answers.proofs.Proper.{plain-result, unasking-result}
use Rattle.lists.proofs.IndexLemmas.{append_nil}
use Rattle.model_runs.proofs.Seats.{seated-is}
use Rattle.model_worlds.proofs.Tries.{sound-start}
use Rattle.serve_base.proofs.Changing.{last-changed, lacks-in_list, objects-changed, record-changed}
use Rattle.model_runs.proofs.Steps.{fits-given, depicts-given, depicts-put, fits-put, fits-empty, depicts-gone, depicts-opening}

-- ---- a result with the numbers of the pending call, by its own value

module _ {K : Type 0} (terms : Terms K) (old new : StoreState K) (ds ds' : List (ℕ × DeskState)) (cs : List Check) (app : ℕ)
    (job : Job) (w : World) (s : Shows terms (record { store = old; desks = ds; checks = cs }) w) where
  abbrev outcome : TaskResult
  outcome = value_of (question_of job).task

  abbrev reveal : Reveal
  reveal = reveal_by_job job (others_checking cs app) (are_others_in_session ds app) s.contents

  abbrev given : Answer
  given = answer_to_job job (view_of s.contents (desk_at ds app)) reveal

  abbrev IsServed : Result Reply Fault → Type 0
  IsServed r = ServesAnswer terms Replies given s.contents old new (desk_at ds app) (over (desk_at ds app)) r (desk_at ds' app)

  abbrev before : TokenState K
  before = record { store = old; desks = ds; checks = cs }

  abbrev after : TokenState K
  after = record { store = new; desks = ds'; checks = without_checks app cs }

  -- what the result reveals of the world is what it reveals of the desks
  reveal-is : reveal_to_task w app (question_of job).task ≡ reveal
  reveal-is =
      let r : List (List Entry) → List Check → Bool → Reveal =
      λ os xs b. reveal_by_outcome (question_of job).task outcome os (others_checking xs app) b in
      ap (λ os. r os w.checks (others_in_session w app)) s.depicts.objects
      ∙ ap (λ xs. r (objects_of s.contents) xs (others_in_session w app)) s.depicts.checks
      ∙ ap (r (objects_of s.contents) cs) (seated-is ds w.in_session app s.depicts.in_session)

  given-is : answer_by w app job ≡ given
  given-is = ap (λ v. answer_to_job job v (reveal_to_task w app (question_of job).task)) (s.depicts.views app)
      ∙ ap (answer_to_job job (view_of s.contents (desk_at ds app))) reveal-is

  change-is : list_change w app (answer_by w app job) ≡ in_list (sees (desk_at ds app).sessions.login) (objects_of s.contents) given.change
  change-is = ap (list_change w app) given-is ∙ rw (s.depicts.views app, s.depicts.objects) refl

  went : (reply : Reply) → Replies reply ≡ given.says → resource_error reply ≡ None
  went reply is = ap resource_error_in is ∙ plain-result (asked_by_job job (view_of s.contents (desk_at ds app))) outcome reveal

  takes : taken_by w app job None ≡ unchecked (stepped w app given) app
  takes = ap (λ a. unchecked (stepped w app a) app) given-is

  fault-resource_error_in : (fault : Fault) → (f : Fault) × (resource_error (refusal fault) ≡ Some f) × (refusal f ≡ refusal fault)
  fault-resource_error_in Memory = (Memory, refl, refl)
  fault-resource_error_in Device = (Device, refl, refl)

  lasts : (d : Contents) → ChangesContents
      (in_list (sees (desk_at ds app).sessions.login) (objects_of s.contents) given.change) s.contents d
      → lasting_in d ≡ lasting_of (taken_by w app job None)
  lasts d is =
      let change : Change = in_list (sees (desk_at ds app).sessions.login) (objects_of s.contents) given.change in
      rw (
        change-is,
        s.depicts.token_record,
        s.depicts.objects,
        objects-changed change s.contents d is,
        record-changed change s.contents d is,
      ) refl

  module _ (q : Question) (asked : (w.views app).question ≡ Some q)
      (others : (b : ℕ) → b ≢ app → SameDesk (desk_at ds b) (desk_at ds' b)) where
    pub next-taken : (r : Result Reply Fault) → IsServed r
        → IsTakenBy (ShowsAfter terms s.contents 1 after) (MayLeave terms before) (MayLeave terms after) w app job (told_result r)
    next-taken (Ok reply) m =
        let d = depicts-given given s.contents m.contents ds ds' app s.fits others (Replies reply) m.gives cs w s.depicts in
        let e = went reply m.gives.says in
        record {
          shows = rw (e, takes) (
            record {
              contents = m.contents;
              has = m.has;
              fits = fits-given given s.contents m.contents ds ds' app s.fits others (Replies reply) m.gives;
              depicts = record {
                token_record = d.token_record;
                objects = d.objects;
                checks = ap (without_checks app)
                    (d.checks ∙ ap (λ o. cs ++ checks_of app o)
                    (unasking-result (asked_by_job job (view_of s.contents (desk_at ds app))) outcome reveal) ∙ append_nil cs);
                in_session = d.in_session;
                views = d.views;
              };
            },
            last-changed (in_list (sees (desk_at ds app).sessions.login)
                (objects_of s.contents) given.change) s.contents m.contents m.gives.changes,
          );
          says = rw e (m.gives.says ∙ ap (λ (a : Answer). a.says) (sym given-is));
          leaves = λ l may. rw e (elim (m.leaves may.0 may.1) [
            | inl prior ↦ inl ((may.0, prior.0, may.2), change-is ∙ prior.1)
            | inr is ↦ inr (may.2 ∙ ap (option_map lasting_in) is ∙ ap Some (lasts m.contents m.gives.changes))
          ]);
        }
    next-taken (Err fault) m =
        let f = fault-resource_error_in fault in
        record {
          shows = rw (f.1, asked) (
            record {
              contents = s.contents;
              has = m.has;
              fits = fits-put s.contents ds ds' app (rw m.same (s.fits app)) others s.fits;
              depicts = depicts-put s.contents ds ds' cs app (over (desk_at ds app)) (answered (w.views app)) w m.same
                  (rw (s.depicts.views app) refl) others s.depicts;
            },
            omega arith,
          );
          says = rw f.1 (ap Replies (sym f.2));
          leaves = λ l may. rw f.1 (elim (m.leaves may.0 may.1) [
            | inl prior ↦ inl (may.0, prior, may.2)
            | inr is ↦ inr (may.2 ∙ ap (option_map lasting_in) is.1 ∙ ap Some (lasts is.0 is.2))
          ]);
        }

    pub taken : (r : Result Reply Fault) → IsServed r
        → IsTakenBy (Shows terms after) (MayLeave terms before) (MayLeave terms after) w app job (told_result r)
    taken r m = let is = next-taken r m in record { shows = is.shows.0; says = is.says; leaves = is.leaves }

  -- an answer for which there is no id adds an object to what lasts
  pub lacks-taken : LacksId given.change s.contents → LacksId (list_change w app (answer_by w app job)) s.contents
  lacks-taken lacks = rw change-is
      (lacks-in_list (sees (desk_at ds app).sessions.login) (objects_of s.contents) given.change s.contents lacks)

-- ---- and where the job is the pending call's

module _ (w : World) (app : ℕ) (job : Job) (open_is : IsOpen w app job) where
  pub open-numbers : HasNumbers (w.views app).question app job
  open-numbers = rw open_is.question (open_is.asker, refl, refl)

  -- -- its job is just this
  asked-open : answer_by w app job ≡ result_at w app (question_of job)
  asked-open =
      let v = w.views app in
      let f : Option Question → View = λ q. record v { question = q } in
      let same : asked_by_job job v ≡ v = ap (λ q. f (option_map (by_job job) q)) open_is.question ∙ ap f (sym open_is.question) in
      ap (λ v. answer_result v (value_of (question_of job).task) (reveal_to_task w app (question_of job).task)) same

  -- an answer for which there is no id adds an object to what lasts
  pub lacks-open : (c : Contents) → LacksId (list_change w app (answer_by w app job)) c → LacksId (change_of w (Finish app)) c
  lacks-open c lacks = rw (ap (result_change w app) open_is.question ∙ ap (list_change w app) (sym asked-open)) lacks

  happens-taken : (o : Option Fault) → happens w (moved (Finish app) o) ≡ taken_by w app job o
  happens-taken None = ap (finished w app) open_is.question ∙ ap (λ a. unchecked (stepped w app a) app) (sym asked-open)
  happens-taken (Some fault) = refl

  tells-taken : (o : Option Fault) → reply_to w (moved (Finish app) o) ≡ told app (says_by w app job o)
  tells-taken None = ap (finish_tells w app) open_is.question ∙ ap (λ (a : Answer). told app a.says) (sym asked-open)
  tells-taken (Some fault) = ap (finish_refusal app fault) open_is.question

  left-taken : (prior : Option Lasting → Type 0) (l : Option Lasting) (o : Option Fault)
      → LeavesBy prior (list_change w app (answer_by w app job)) (taken_by w app job None) o l → LeftBy prior w (moved (Finish app) o) l
  left-taken prior l None by = rw
      (happens-taken None, ap (result_change w app) open_is.question ∙ ap (list_change w app) (sym asked-open)) by
  left-taken prior l (Some fault) by = rw (happens-taken None) by

  module _ (showing : World → Type 0) (prior left : Option Lasting → Type 0) (reply : Reply)
      (is : IsTakenBy showing prior left w app job reply) where
    pub shows-open : showing (happens w (move_of (Finish app) (OutReply reply)))
    shows-open = rw (happens-taken (resource_error reply)) is.shows

    pub tells-open : reply_to w (move_of (Finish app) (OutReply reply)) ≡ (app, reply) ∷ []
    tells-open = tells-taken (resource_error reply) ∙ ap (told app) (sym is.says)

    pub leaves-open : (l : Option Lasting) → left l → LeftBy prior w (move_of (Finish app) (OutReply reply)) l
    leaves-open l may = left-taken prior l (resource_error reply) (is.leaves l may)

module _ {K : Type 0} (terms : Terms K) where
  -- -- the desk's pending call is the one that the world has
  pub desk-question : (old : StoreState K) (ds : List (ℕ × DeskState)) (cs : List Check) (app : ℕ) (w : World)
      (s : Shows terms (record { store = old; desks = ds; checks = cs }) w)
      → (w.views app).question ≡ option_map question_of (desk_at ds app).question
  desk-question old ds cs app w s = ap (λ v. v.question) (s.depicts.views app)

  -- -- a disconnect
  pub next-gone : (old : StoreState K) (ds ds' : List (ℕ × DeskState)) (cs : List Check) (app : ℕ) (w : World)
      → desk_at ds' app ≡ empty_desk → ((b : ℕ) → b ≢ app → desk_at ds' b ≡ desk_at ds b)
      → (s : Shows terms (record { store = old; desks = ds; checks = cs }) w)
      → ShowsAfter terms s.contents 0 (record { store = old; desks = ds'; checks = without_checks app cs }) (goes w (Gone app))
  next-gone old ds ds' cs app w own others s = (
    record {
      contents = s.contents;
      has = s.has;
      fits = fits-put s.contents ds ds' app (rw own (fits-empty s.contents)) (λ b differ. rw (others b differ) refl) s.fits;
      depicts = depicts-gone s.contents ds ds' cs app w own others s.depicts;
    },
    omega arith,
  )

  pub shows-gone : (old : StoreState K) (ds ds' : List (ℕ × DeskState)) (cs : List Check) (app : ℕ) (w : World)
      → desk_at ds' app ≡ empty_desk → ((b : ℕ) → b ≢ app → desk_at ds' b ≡ desk_at ds b)
      → Shows terms (record { store = old; desks = ds; checks = cs }) w
      → Shows terms (record { store = old; desks = ds'; checks = without_checks app cs }) (goes w (Gone app))
  shows-gone old ds ds' cs app w own others s = (next-gone old ds ds' cs app w own others s).0

  -- nobody has come yet
  pub shows-opening : (store : StoreState K) (c : Contents) → StoreHas terms store c
      → Shows terms (record { store = store; desks = []; checks = [] }) (opening c)
  shows-opening store c h = record { contents = c; has = h; fits = λ b. fits-empty c; depicts = depicts-opening c }

  pub no-jobs : (store : StoreState K) (cs : List Check) (w : World)
      → Shows terms (record { store = store; desks = []; checks = cs }) w → HasJobs w []
  no-jobs store cs w s app = ap (λ v. map (λ q. (app, q)) (option_to_list v.question)) (sym (s.depicts.views app))

  -- the ten tries begin
  pub sound-new : (store : StoreState K) (w : World) → Shows terms (record { store = store; desks = []; checks = [] }) w
      → ((who : UserType) → tries_of (w.token_record) who ≤ tries_limit) → IsSoundWorld (tries_of (w.token_record)) w
  sound-new store w s few = sound-start w s.depicts.checks (λ app. ap (λ v. v.question) (s.depicts.views app))
      (λ app. ap (λ v. v.token_record) (s.depicts.views app) ∙ sym s.depicts.token_record) few
