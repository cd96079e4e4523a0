-- A keeper with the list that the token has of its objects, and what the token refines by it.
use Rattle.std.specs.Prelude.{◌≡◌, ◌⊎◌, ◌≤◌, List, OnErr, OnOk, Option, Some, Result, Ok, Err, IsErrOf}
use Rattle.ck_types.specs.declared.user_type.UserType.{UserType}
use Rattle.keep.specs.Contents.{Contents, greatest_id, ids_of, IsSound}
use Rattle.keep.specs.Keeping.{Counted, HasCause, Terms}
use Rattle.keep.specs.declared.keep.KeepFault.{KeepFault}
use Rattle.keep.specs.declared.keep.KeepFault.TheVariants.{Device}
use Rattle.desk.specs.Desks.{DeskState, SameDesk}
use Rattle.model_views.specs.Views.{View, sees}
use Rattle.model_views.specs.Changes.{Change, Stays, Insert, in_list}
use Rattle.model_views.specs.Answering.{Said, Answer}
use Rattle.serve_base.specs.declared.listed.ObjectEntry.{ObjectEntry}
use Rattle.serve_base.specs.Listing.{AreListed, AreMarks, listed_ids}
use Rattle.serve_base.specs.Shown.{view_of, objects_of, ChangesContents, GivesAnswer, Fits}

pub record StoreState (K : Type 0) : Type 0 where
  pub keep : K
  pub listed : List ObjectEntry

-- The list is in order, and the marks that are known are right, as long as the disk is faithful. It is one member of `StoreHas` and
-- of `SameIds`, since the search for proofs goes through each of their members.
pub record KnowsMarks {K : Type 0} (terms : Terms K) (s : StoreState K) (c : Contents) : Type 0 where
  pub order : AreListed c.last_id s.listed
  pub right : terms.doubt s.keep ≡ 0 → AreMarks c s.listed

-- the keeper holds the contents, the ids are theirs, and so are the marks that are known
pub record StoreHas {K : Type 0} (terms : Terms K) (s : StoreState K) (c : Contents) : Type 0 where
  pub held : terms.holds s.keep c
  pub ids : listed_ids s.listed ≡ ids_of c
  pub marks : KnowsMarks terms s c
  pub sound : IsSound c

-- What a call that reads leaves of the list: the ids stay, in order where they were. Marks that it learned are right where the
-- others were.
pub record SameIds {K : Type 0} (terms : Terms K) (old new : StoreState K) : Type 0 where
  pub ids : listed_ids new.listed ≡ listed_ids old.listed
  pub marks : (c : Contents) → terms.holds old.keep c → KnowsMarks terms old c → KnowsMarks terms new c

-- ---- what a crash may leave
module _ {K : Type 0} (terms : Terms K) where
  -- the contents alone
  abbrev pub LeavesAlone : StoreState K → Contents → Type 0
  LeavesAlone new c = (left : Option Contents) → terms.may_leave new.keep left → left ≡ Some c

  -- what it could leave before
  abbrev pub LeavesAsBefore : StoreState K → StoreState K → Type 0
  LeavesAsBefore old new = (left : Option Contents) → terms.may_leave new.keep left → terms.may_leave old.keep left

  -- what it could leave before, or the contents
  abbrev pub LeavesOr : StoreState K → StoreState K → Contents → Type 0
  LeavesOr old new c = (left : Option Contents) → terms.may_leave new.keep left → terms.may_leave old.keep left ⊎ (left ≡ Some c)

  -- after an answer: its change alone, and what it could leave before where nothing changes
  abbrev pub LeavesChange : Change → StoreState K → StoreState K → Contents → Type 0
  LeavesChange change old new c = (left : Option Contents) → terms.may_leave new.keep left
      → (terms.may_leave old.keep left × (change ≡ Stays)) ⊎ (left ≡ Some c)

  -- after a refusal: what it could leave before, or the change of the answer
  abbrev pub LeavesTried : Change → StoreState K → StoreState K → Contents → Type 0
  LeavesTried change old new c = (left : Option Contents) → terms.may_leave new.keep left → terms.may_leave old.keep left
      ⊎ ((d : Contents) × (left ≡ Some d) × ChangesContents change c d)

-- What a write leaves, beside what the store holds with Ok. The change is of contents. A steady keeper is refused by `Device`
-- only where `may_fail` says.
pub record Wrote {K T : Type 0} (terms : Terms K) (change : Contents → Contents) (may_fail : Type 0) (old new : StoreState K)
    (result : Result T KeepFault) : Type 0 where
  -- With Ok a crash leaves the changed contents alone.
  pub leaves : (c : Contents) → StoreHas terms old c → OnOk result (LeavesAlone terms new (change c))
  -- With an Err the store holds what it held, and a crash leaves what it could leave before, or the changed contents.
  pub same : (c : Contents) → StoreHas terms old c → OnErr result (StoreHas terms new c)
  pub leaves_or : (c : Contents) → StoreHas terms old c → OnErr result (LeavesOr terms old new (change c))
  pub steady : terms.is_steady old.keep → IsErrOf result Device → may_fail
  -- One write is tried at most, and each failure is counted.
  pub counts : Counted terms old.keep new.keep 0 1
  pub cause : HasCause (terms.failures old.keep) (terms.failures new.keep) result

-- ---- ids that are used up

-- the change adds an object
abbrev pub AddsObject : Change → Type 0
AddsObject (Insert o) = Unit {0}
AddsObject _ = ⊥

-- the change adds an object, and there is no id for it: the greatest one was given
abbrev pub LacksId : Change → Contents → Type 0
LacksId change c = AddsObject change × (greatest_id ≤ c.last_id)

-- Over a steady keeper the event fails only at an answer that adds an object, where there is no id for it.
abbrev pub FailsForIds : {K T E : Type 0} → Terms K → E → (Contents → View → Answer) → StoreState K → DeskState → Result T E → Type 0
FailsForIds terms device f old before result =
    terms.is_steady old.keep → IsErrOf result device → (c : Contents) → StoreHas terms old c → Fits c before.handles.entries
    → LacksId (f c (view_of c before)).change c

-- ---- an event at one desk
module _ {K : Type 0} (terms : Terms K) where
  -- the answer is given to one who was logged in so
  pub record GaveAnswer (a : Answer) (login : Option UserType) (c : Contents) (old new : StoreState K) (said : Said)
      (desk : DeskState) : Type 0 where
    pub contents : Contents
    pub has : StoreHas terms new contents
    pub gives : GivesAnswer a login c said contents desk
    pub leaves : LeavesChange terms (in_list (sees login) (objects_of c) a.change) old new contents

  -- it is refused, and leaves the desk as it is then
  pub record Refused (a : Answer) (login : Option UserType) (c : Contents) (old new : StoreState K) (over desk : DeskState) : Type 0 where
    pub has : StoreHas terms new c
    pub same : SameDesk over desk
    pub leaves : LeavesTried terms (in_list (sees login) (objects_of c) a.change) old new c

  -- `over` is what a refusal leaves of the desk: at a call the desk itself, at a result the desk without its pending call
  abbrev pub ServesAnswer : {T E : Type 0} → (T → Said) → Answer → Contents → StoreState K → StoreState K → DeskState → DeskState
      → Result T E → DeskState → Type 0
  ServesAnswer tell a c old new before over (Ok out) desk = GaveAnswer a before.sessions.login c old new (tell out) desk
  ServesAnswer tell a c old new before over (Err fault) desk = Refused a before.sessions.login c old new over desk

-- An event is served by the answer to the view, while the store is faithful.
abbrev pub Served : {K : Type 0} → Terms K → {T E : Type 0} → (T → Said) → (View → Answer) → StoreState K → StoreState K → DeskState
    → DeskState → Result T E → DeskState → Type 0
Served terms tell f old new before over result desk =
    terms.doubt new.keep ≡ 0 → (c : Contents) → StoreHas terms old c → Fits c before.handles.entries
    → ServesAnswer terms tell (f (view_of c before)) c old new before over result desk
