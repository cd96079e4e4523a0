-- A record that is stored, and a check whose job is returned after its charge.
use Rattle.std.proofs.Common.{◌≡◌, ℕ, ◌+◌, List, Some, inl, inr, refl, sym, ap, subst}
use Rattle.ck_types.specs.declared.rv.Rv.{Rv}
use Rattle.ck_types.specs.declared.rv.Rv.TheVariants as rv
use Rattle.ck_types.specs.declared.user_type.UserType.{UserType}
use Rattle.ck_calls.specs.declared.function.Function.{Function}
use Rattle.ck_calls.specs.declared.reply.Reply.TheVariants.{Code}
use Rattle.pin_record.specs.Records.{TokenRecord, charged}
use Rattle.keep.specs.Contents.{Contents, with_record, after_reset}
use Rattle.keep.specs.Keeping.{Terms}
use Rattle.handles.specs.declared.Handle.{Handle}
use Rattle.mech.specs.declared.job.Job.{Job}
use Rattle.desk.specs.Desks.{DeskState, with_question}
use Rattle.model_views.specs.Views.{View, Question, Task, sees}
use Rattle.model_views.specs.Changes.{Change, Records, Resets, in_list}
use Rattle.model_views.specs.Answering.{Answer, Replies, Asks}
use Rattle.model_session_answers.specs.Pins.{resets}
use Rattle.serve_base.specs.Shown.{view_of, objects_of, question_of, ChangesContents, Fits, GivesAnswer}
use Rattle.serve_base.specs.Stores.{StoreState, StoreHas, LeavesOr, Refused}
use Rattle.serve_sessions.specs.Recording.{asks_charged, codes_with}

-- ---- what is returned

pub fits-recorded : (c : Contents) (r : TokenRecord) (hs : List Handle) → Fits c hs → Fits (with_record r c) hs
fits-recorded c r hs fits = record { given = fits.given; noted = fits.noted }

pub fits-reset : (c : Contents) (r : TokenRecord) (hs : List Handle) → Fits c hs → Fits (after_reset r c) hs
fits-reset c r hs fits = record { given = fits.given; noted = tt }

module _ (c : Contents) (d : DeskState) (r : TokenRecord) where
  abbrev asked : Function → ℕ → Task → Question
  asked function session task = record { number = d.next_question; function = function; session = session; task = task }

  pub gives-charged : (function : Function) (session : ℕ) (task : Task) (who : UserType) (job : Job)
      → question_of job ≡ asked function session task → Fits c d.handles.entries
      → GivesAnswer (asks_charged r (view_of c d) function session task who) d.sessions.login c (Asks (question_of job))
      (with_record (charged r who) c) (with_question d job)
  gives-charged function session task who job is fits =
      let f : Question → View = λ q. record
      (view_of (with_record (charged r who) c) d) { question = Some q; next_question = d.next_question + 1 } in
      record {
        says = ap Asks is;
        view = ap f is;
        changes = refl;
        fits = fits-recorded c (charged r who) d.handles.entries fits;
      }

  pub gives-stored : (code : Rv) → Fits c d.handles.entries
      → GivesAnswer (codes_with code r (view_of c d)) d.sessions.login c (Replies (Code code)) (with_record r c) d
  gives-stored code fits = record { says = refl; view = refl; changes = refl; fits = fits-recorded c r d.handles.entries fits }

  pub gives-reset : Fits c d.handles.entries → GivesAnswer (resets r (view_of c d)) d.sessions.login c (Replies (Code rv.Ok)) (after_reset r c) d
  gives-reset fits = record { says = refl; view = refl; changes = refl; fits = fits-reset c r d.handles.entries fits }

-- ---- what is refused

module _ {K : Type 0} (terms : Terms K) (a : Answer) (c : Contents) (old new : StoreState K) (d : DeskState) (r : TokenRecord) where
  pub refused-recorded : a.change ≡ Records r → StoreHas terms new c → LeavesOr terms old new (with_record r c)
      → Refused terms a d.sessions.login c old new d d
  refused-recorded is h leaves = record {
    has = h;
    same = refl;
    leaves = λ x may. elim (leaves x may) [
      | inl before ↦ inl before
      | inr left ↦ inr (
        with_record r c,
        left,
        subst (λ (ch : Change). ChangesContents (in_list (sees d.sessions.login) (objects_of c) ch) c (with_record r c)) (sym is) refl,
      )
    ];
  }

  pub refused-reset : a.change ≡ Resets r → StoreHas terms new c → LeavesOr terms old new (after_reset r c)
      → Refused terms a d.sessions.login c old new d d
  refused-reset is h leaves = record {
    has = h;
    same = refl;
    leaves = λ x may. elim (leaves x may) [
      | inl before ↦ inl before
      | inr left ↦ inr (
        after_reset r c,
        left,
        subst (λ (ch : Change). ChangesContents (in_list (sees d.sessions.login) (objects_of c) ch) c (after_reset r c)) (sym is) refl,
      )
    ];
  }
