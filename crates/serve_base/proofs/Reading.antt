-- Calls that read the store, and then answer at the desk.
use Rattle.std.proofs.Common.{◌≡◌, ◌⊎◌, true, Option, Some, None, Result, Ok, Err, inl, refl, sym, ◌∙◌, ap, subst, arith}
use Rattle.std.specs.Prelude.{IfErr, IfOk}
use Rattle.std.specs.Option.{ok_or}
use Rattle.std.specs.Result.{IsErrAnd}
use Rattle.precede.specs.declared.condition.Condition.{Condition}
use Rattle.keep.specs.Contents.{Contents}
use Rattle.keep.specs.Keeping.{Counted, Stays as KeepStays, Terms}
use Rattle.desk.specs.Desks.{DeskState, SameDesk}
use Rattle.model_views.specs.Views.{View}
use Rattle.model_views.specs.Changes.{Stays}
use Rattle.model_views.specs.Answering.{Said, Answer, refuses_by}
use Rattle.model_views.specs.Refusals.{is_refused, resource_error_in}
use Rattle.model_views.proofs.Checks.{plain-row}
use Rattle.serve_base.specs.declared.refusal.Refusal.{Refusal}
use Rattle.serve_base.specs.declared.refusal.Refusal.TheVariants as refusals
use Rattle.serve_base.specs.Refusing.{AtDesk, DoesAs, DoesAtDesk, EndsNone, IsDoneAs, IsPlainAs}
use Rattle.serve_base.specs.Shown.{view_of, Fits, ShowsSame}
use Rattle.serve_base.specs.Stores.{StoreState, StoreHas, LeavesAsBefore, SameIds}
use Rattle.serve_base.proofs.Gaves.{gave-is, gave-quiet}
use Rattle.serve_base.proofs.Plain.{some-fits}
use Rattle.serve_base.proofs.Storing.{has-still, same_ids-none}

module _ {K T : Type 0} (terms : Terms K) (tell : T → Said) (f a : View → Answer) (old new : StoreState K) (before desk : DeskState) where
  does-read : (c : Contents) (r : Result T Refusal) → f (view_of c before) ≡ a (view_of c before)
      → (a (view_of c before)).change ≡ Stays → StoreHas terms new c → LeavesAsBefore terms old new
      → DoesAtDesk tell (a (view_of c before)) c before r desk → DoesAs terms tell (f (view_of c before)) c old new before r desk
  does-read c (Ok out) is still h leaves does =
      gave-is terms (f (view_of c before)) (a (view_of c before)) before.sessions.login c old new (tell out) desk is
      (gave-quiet terms (a (view_of c before)) before.sessions.login c old new (tell out) desk h leaves still does)
  does-read c (Err (refusals.Condition row)) is still h leaves does = (is ∙ does.0, record { has = h; leaves = leaves; desk = does.1 })
  does-read c (Err (refusals.Code code)) is still h leaves does = (is ∙ does.0, record { has = h; leaves = leaves; desk = does.1 })
  does-read c (Err refusals.Memory) is still h leaves does = record { has = h; same = does; leaves = λ l may. inl (leaves l may) }
  does-read c (Err refusals.Device) is still h leaves does = absurd does

  plain-read : (c : Contents) (r : Result T Refusal) → resource_error_in (a (view_of c before)).says ≡ None
      → DoesAtDesk tell (a (view_of c before)) c before r desk → IsPlainAs tell r
  plain-read c (Ok out) plain does = ap resource_error_in does.says ∙ plain
  plain-read c (Err (refusals.Condition row)) plain does = tt
  plain-read c (Err (refusals.Code code)) plain does = ap (λ (x : Answer). resource_error_in x.says) (sym does.0) ∙ plain
  plain-read c (Err refusals.Memory) plain does = tt
  plain-read c (Err refusals.Device) plain does = tt

  stays-read : (c : Contents) (r : Result T Refusal) → DoesAtDesk tell (a (view_of c before)) c before r desk
      → IfErr r (λ refusal. SameDesk before desk)
  stays-read c (Ok out) does = tt
  stays-read c (Err (refusals.Condition row)) does = rw does.1 refl
  stays-read c (Err (refusals.Code code)) does = rw does.1 refl
  stays-read c (Err refusals.Memory) does = does
  stays-read c (Err refusals.Device) does = absurd does

  refused-read : (r : Result T Refusal) → ((v : View) → is_refused (a v).says ≡ true → (a v).view ≡ v) → AtDesk tell a before r desk
      → IfOk r (λ out. is_refused (tell out) ≡ true → ShowsSame before desk ⊎ EndsNone (tell out))
  refused-read (Ok out) alone at =
      λ is. inl (λ c fits. let gives = at.serves c fits in gives.view ∙ alone (view_of c before) (ap is_refused (sym gives.says) ∙ is))
  refused-read (Err e) alone at = tt

  pub done-read : (r : Result T Refusal) → KeepStays terms old.keep new.keep → SameIds terms old new
      → Counted terms old.keep new.keep 0 0 → ((v : View) → (a v).change ≡ Stays)
      → ((v : View) → resource_error_in (a v).says ≡ None) → ((v : View) → is_refused (a v).says ≡ true → (a v).view ≡ v)
      → (terms.doubt new.keep ≡ 0 → (c : Contents) → StoreHas terms old c → Fits c before.handles.entries
      → f (view_of c before) ≡ a (view_of c before)) → AtDesk tell a before r desk
      → IsDoneAs terms tell 0 (λ c v. f v) old new before r desk
  done-read r same ids counts still plain alone is at =
      let some = some-fits before.handles.entries in
      record {
        serves = λ sure c h fits. does-read c r (is sure c h fits) (still (view_of c before)) (has-still terms old new c same ids h)
            (λ l may. same.crash c l h.held may) (at.serves c fits);
        counts = counts;
        cause = λ device. absurd (at.cause device);
        plain = plain-read some.0 r (plain (view_of some.0 before)) (at.serves some.0 some.1);
        stays = stays-read some.0 r (at.serves some.0 some.1);
        refused = refused-read r alone at;
        short = at.short;
      }

-- ---- a check of the call's table fails

-- the condition that stands for nothing
abbrev the-none : (A : Type 0) → Option A
the-none A = None

pub row-of : {A : Type 0} (o : Option A) (row told : Condition) → Err told ≡ ok_or o row → told ≡ row
row-of {A} None row told is = let k : ok_or (the-none A) told ≡ ok_or (the-none A) row = is in cc
row-of (Some x) row told is = let k : Err told ≡ Ok x = is in cc

abbrev by_row : (T : Type 0) → Condition → Result T Refusal
by_row T row = Err (refusals.Condition row)

at-row : {T : Type 0} (tell : T → Said) (desk : DeskState) (r : Result T Refusal) (row : Condition)
    → IsErrAnd r (λ e. e ≡ refusals.Condition row) → AtDesk tell (λ v. refuses_by v row) desk r desk
at-row tell desk (Ok out) row is = absurd is
at-row {T} tell desk (Err e) row is = subst (λ x. AtDesk {T = T} tell (λ v. refuses_by v row) desk (Err x) desk) (sym is) refused where
  refused : AtDesk {T = T} tell (λ v. refuses_by v row) desk (by_row T row) desk
  refused = record {
    serves = λ c fits. (refl, refl);
    cause = λ device. (let k : by_row T row ≡ Err refusals.Device = device in cc);
    short = λ given. tt;
  }

module _ {K T : Type 0} (terms : Terms K) (tell : T → Said) (f : View → Answer) where
  pub done-row : (old new : StoreState K) (desk : DeskState) (r : Result T Refusal) (row : Condition)
      → IsErrAnd r (λ e. e ≡ refusals.Condition row) → KeepStays terms old.keep new.keep → SameIds terms old new
      → Counted terms old.keep new.keep 0 0
      → (terms.doubt new.keep ≡ 0 → (c : Contents) → StoreHas terms old c → Fits c desk.handles.entries
      → f (view_of c desk) ≡ refuses_by (view_of c desk) row) → IsDoneAs terms tell 0 (λ c v. f v) old new desk r desk
  done-row old new desk r row is same ids counts holds =
      done-read terms tell f (λ v. refuses_by v row) old new desk desk r same ids counts (λ v. refl) (λ v. plain-row row)
      (λ v is. refl) holds (at-row tell desk r row is)

  -- before anything is read
  pub done-row-first : (store : StoreState K) (desk : DeskState) (r : Result T Refusal) (row : Condition)
      → IsErrAnd r (λ e. e ≡ refusals.Condition row) → ((c : Contents) → f (view_of c desk) ≡ refuses_by (view_of c desk) row)
      → IsDoneAs terms tell 0 (λ c v. f v) store store desk r desk
  done-row-first store desk r row is holds =
      done-row store store desk r row is (record { held = λ c h. h; crash = λ c l h may. may }) (same_ids-none terms store)
      (record { steady = λ s. s; doubt = omega arith; failures = omega arith; tried = omega arith; bounded = omega arith })
      (λ sure c h fits. holds c)
