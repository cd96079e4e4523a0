-- Calls that take no memory: no allocation failure refuses them, and they leave an empty desk as it is.
use Rattle.std.proofs.Common.{◌≡◌, ◌≢◌, ◌⊎◌, ℕ, Bool, true, false, cond, not, List, Option, Some, None, Result, Ok, Err, inl, refl, sym, ◌∙◌, ap, subst}
use Rattle.std.specs.Prelude.{is_none, IfErr, IfOk}
use Rattle.ck_types.specs.declared.rv.Rv.TheVariants.{HostMemory}
use Rattle.ck_calls.specs.declared.call.Call.{Call}
use Rattle.ck_calls.specs.declared.call.Call.TheVariants as calls
use Rattle.ck_calls.specs.declared.reply.Reply.{Reply}
use Rattle.ck_calls.specs.declared.reply.Reply.TheVariants.{Code}
use Rattle.precede.specs.declared.condition.Condition.TheVariants.{WrongMechanism}
use Rattle.keep.specs.Contents.{Contents}
use Rattle.keep.specs.Keeping.{Terms}
use Rattle.desk.specs.Desks.{DeskState, SameDesk, empty_desk}
use Rattle.model_views.specs.declared.fault.Fault.{Fault}
use Rattle.model_views.specs.declared.fault.Fault.TheVariants as faults
use Rattle.model_views.specs.Views.{View, sees}
use Rattle.model_views.specs.Changes.{Change, Stays, in_list}
use Rattle.model_views.specs.Answering.{Answer, Reveal, noted, replies}
use Rattle.model_views.specs.Refusals.{is_refused, resource_error_in}
use Rattle.model_session_answers.specs.OpenSession.{is_slot}
use Rattle.model_session_answers.specs.Mechanisms.{mechanism_info_row}
use Rattle.model_answers.specs.Answers.{answer, answer_to}
use Rattle.model_runs.specs.Applications.{told_as}
use Rattle.model_runs.proofs.Steps.{fits-empty}
use Rattle.serve_base.specs.declared.out.Out.{Out}
use Rattle.serve_base.specs.declared.out.Out.TheVariants.{Reply as OutReply}
use Rattle.serve_base.specs.declared.refusal.Refusal.{Refusal}
use Rattle.serve_base.specs.declared.refusal.Refusal.TheVariants as refusals
use Rattle.serve_base.specs.Refusing.{GivesAnyway, IsServedIf, settled}
use Rattle.serve_base.specs.Shown.{objects_of, said_of, view_of, ChangesContents, Fits, RepliesAtOnce, ShowsSame}
use Rattle.serve_base.specs.Stores.{StoreState, LacksId, ServesAnswer}
use Rattle.serve_sessions.proofs.Closing.{gives-all-closed}
use Rattle.token.specs.Memory.{takes_no_memory}
use Rattle.token.proofs.Dispatching.{answer-is}
use Rattle.token.proofs.Refused.{served-from}

-- ---- what is returned

-- any call but these is none of them
pub takes-some : (call x : Call) (r : Result Out Fault) → call ≡ x → takes_no_memory x ≡ false → takes_no_memory call ≡ true
    → RepliesAtOnce faults.Memory r
takes-some call x r is some none = absurd (let k : false ≡ true = sym some ∙ ap takes_no_memory (sym is) ∙ none in cc)

-- a call that only replies, where no allocation failed
pub at-once : (r : Result Reply Refusal) (out : Result Out Fault) → out ≡ settled OutReply r → r ≢ Err refusals.Memory
    → RepliesAtOnce faults.Memory out
at-once r out told small = rw told (settles r small) where
  settles : (r : Result Reply Refusal) → r ≢ Err refusals.Memory → RepliesAtOnce faults.Memory (settled OutReply r)
  settles (Ok reply) small = tt
  settles (Err (refusals.Condition row)) small = tt
  settles (Err (refusals.Code code)) small = tt
  settles (Err refusals.Memory) small = absurd (small refl)
  settles (Err refusals.Device) small = λ is. cc

-- and one that may return a job
pub asked-at-once : (r : Result Out Refusal) (out : Result Out Fault) → out ≡ settled (λ out. out) r
    → RepliesAtOnce refusals.Memory r → RepliesAtOnce faults.Memory out
asked-at-once r out told small = rw told (settles r small) where
  settles : (r : Result Out Refusal) → RepliesAtOnce refusals.Memory r → RepliesAtOnce faults.Memory (settled (λ out. out) r)
  settles (Ok out) small = small
  settles (Err (refusals.Condition row)) small = tt
  settles (Err (refusals.Code code)) small = tt
  settles (Err refusals.Memory) small = absurd (small refl)
  settles (Err refusals.Device) small = λ is. cc

-- what a call doesn't give
pub none-is : {A : Type 0} (o : Option A) → is_none o ≡ true → o ≡ None
none-is None is = refl
none-is (Some x) is = absurd (let k : false ≡ true = is in cc)

-- no reply has the code of an allocation that failed
pub never-memory : (r : Result Out Fault) → IfOk r (λ out. resource_error_in (said_of out) ≡ None) → RepliesAtOnce faults.Memory r
    → told_as r ≢ OutReply (Code HostMemory)
never-memory (Ok out) plain small = λ is. let k : Some faults.Memory ≡ None = ap (λ o. resource_error_in (said_of o)) (sym is) ∙ plain in cc
never-memory (Err faults.Memory) plain small = absurd (small refl)
never-memory (Err faults.Device) plain small = λ is. cc

-- ---- an empty desk

-- the answer leaves what is seen, and others see no change
pub record IsIdle (v : View) (a : Answer) : Type 0 where
  pub view : a.view ≡ v
  pub change : a.change ≡ Stays

idle-if : (v : View) (x : Call) (b : Bool) (first other : Answer) → IsIdle v (noted x first) → IsIdle v (noted x other)
    → IsIdle v (noted x (cond b first other))
idle-if v x true first other one two = one
idle-if v x false first other one two = two

idle-replies : (v : View) (reply : Reply) → IsIdle v (replies v reply)
idle-replies v reply = record { view = refl; change = refl }

-- of a call that takes no memory, at a desk with no session
idle-to : (c : Contents) (x : Call) (random : List ℕ) (reveal : Reveal) → takes_no_memory x ≡ true
    → IsIdle (view_of c empty_desk) (noted x (answer_to (view_of c empty_desk) x random reveal))
unfolding answer_to
idle-to c (calls.GetTokenInfo slot) random reveal small =
    idle-if _ (calls.GetTokenInfo slot) (not (is_slot slot)) _ _ (idle-replies _ _) (idle-replies _ _)
idle-to c (calls.GetMechanismInfo slot mechanism) random reveal small =
    let x = calls.GetMechanismInfo slot mechanism in
    idle-if _ x (not (is_slot slot)) _ _ (idle-replies _ _)
    (idle-if _ x (mechanism_info_row slot mechanism WrongMechanism) _ _ (idle-replies _ _) (idle-replies _ _))
idle-to c (calls.CloseAllSessions slot) random reveal small = closes (is_slot slot) refl where
  closes : (b : Bool) → is_slot slot ≡ b
      → IsIdle (view_of c empty_desk)
      (noted (calls.CloseAllSessions slot) (answer_to (view_of c empty_desk) (calls.CloseAllSessions slot) random reveal))
  closes true is = rw is (record { view = sym (rw is at (gives-all-closed c empty_desk slot is (fits-empty c)).view); change = refl })
  closes false is = rw is (idle-replies _ _)
idle-to c (calls.CloseSession session) random reveal small = idle-replies _ _
idle-to c (calls.GetSessionInfo session) random reveal small = idle-replies _ _
idle-to c (calls.Logout session) random reveal small = idle-replies _ _
idle-to c (calls.FindObjectsFinal session) random reveal small = idle-replies _ _
idle-to c (calls.EncryptInit session mechanism key) random reveal small = idle-replies _ _
idle-to c (calls.DecryptInit session mechanism key) random reveal small = idle-replies _ _
idle-to c (calls.SignInit session mechanism key) random reveal small = idle-replies _ _
idle-to c (calls.VerifyInit session mechanism key) random reveal small = idle-replies _ _
idle-to c (calls.Encrypt session input buffer_len) random reveal small = idle-replies _ _
idle-to c (calls.EncryptUpdate session part buffer_len) random reveal small = idle-replies _ _
idle-to c (calls.EncryptFinal session buffer_len) random reveal small = idle-replies _ _
idle-to c (calls.Decrypt session input buffer_len) random reveal small = idle-replies _ _
idle-to c (calls.DecryptUpdate session encrypted_part buffer_len) random reveal small = idle-replies _ _
idle-to c (calls.DecryptFinal session buffer_len) random reveal small = idle-replies _ _
idle-to c (calls.Sign session input buffer_len) random reveal small = idle-replies _ _
idle-to c (calls.SignFinal session buffer_len) random reveal small = idle-replies _ _
idle-to c _ random reveal small = absurd (let k : false ≡ true = small in cc)

pub idle-answer : (c : Contents) (x : Call) (random : List ℕ) (reveal : Reveal) → takes_no_memory x ≡ true
    → IsIdle (view_of c empty_desk) (answer (view_of c empty_desk) x random reveal)
idle-answer c x random reveal small =
    subst (λ a. IsIdle (view_of c empty_desk) a) (sym (answer-is c empty_desk x random reveal refl)) (idle-to c x random reveal small)

-- What is served over such a desk leaves an empty one, whatever was served.
module _ {K : Type 0} (terms : Terms K) (f : View → Answer)
    (idle : (c : Contents) → IsIdle (view_of c empty_desk) (f (view_of c empty_desk))) where
  serves-empty : (c : Contents) (old new : StoreState K) (desk : DeskState) (r : Result Out Fault)
      → ServesAnswer terms said_of (f (view_of c empty_desk)) c old new empty_desk empty_desk r desk
      → ServesAnswer terms said_of (f (view_of c empty_desk)) c old new empty_desk empty_desk r empty_desk
  serves-empty c old new desk (Ok out) gave =
      let a = f (view_of c empty_desk) in
      let same : gave.contents ≡ c =
      subst (λ (change : Change). ChangesContents (in_list (sees None) (objects_of c) change) c gave.contents)
      (idle c).change gave.gives.changes in
      record {
        contents = gave.contents;
        has = gave.has;
        gives = record {
          says = gave.gives.says;
          view = ap (λ k. view_of k empty_desk) same ∙ sym (idle c).view;
          changes = gave.gives.changes;
          fits = fits-empty gave.contents;
        };
        leaves = gave.leaves;
      }
  serves-empty c old new desk (Err fault) refused = record { has = refused.has; same = refl; leaves = refused.leaves }

  refused-empty : (r : Result Out Fault)
      → IfOk r (λ out. is_refused (said_of out) ≡ true → ShowsSame empty_desk empty_desk
      ⊎ GivesAnyway (λ c. f) empty_desk (said_of out) empty_desk)
  refused-empty (Ok out) = λ is. inl (λ c fits. refl)
  refused-empty (Err fault) = tt

  stays-empty : (r : Result Out Fault) → IfErr r (λ fault. SameDesk empty_desk empty_desk)
  stays-empty (Ok out) = tt
  stays-empty (Err fault) = refl

  pub served-empty : {given : Type 0} {kind : Out → Type 0} (old new : StoreState K) (met desk : DeskState) (r : Result Out Fault)
      → SameDesk empty_desk met → IsServedIf given terms kind f old new met r desk
      → IsServedIf given terms kind f old new empty_desk r empty_desk
  served-empty old new met desk r same served =
      let serves = served-from terms f old new empty_desk met desk r same served.serves in
      record {
        serves = λ sure c h fits. serves-empty c old new desk r (serves sure c h fits);
        says = served.says;
        counts = served.counts;
        cause = served.cause;
        steady = λ was device c h fits. subst (λ (d : DeskState). LacksId (f (view_of c d)).change c) same
            (served.steady was device c h (subst (λ (d : DeskState). Fits c d.handles.entries) (sym same) fits));
        plain = served.plain;
        stays = stays-empty r;
        refused = refused-empty r;
        short = served.short;
      }
