-- What a contract sees of a desk.
use Rattle.std.specs.Prelude.{◌≡◌, ℕ, ◌+◌, ◌^◌, ◌==◌, ◌||◌, Bool, false, not, nat_le, is_some, List, [], find, filter, Option, Some, None, if◌then◌else◌}
use Rattle.std.specs.Option.{option_map}
use Rattle.std.specs.List.{AllByRecursion}
use Rattle.ck_types.specs.declared.entry.Entry.{Entry}
use Rattle.attrs.specs.Objects.{flag}
use Rattle.guard.specs.Access.{is_user_in}
use Rattle.ck_types.specs.declared.attr_type.AttrType.TheVariants.{Private}
use Rattle.ck_calls.specs.declared.call.Call.{Call}
use Rattle.lists.specs.Indexes.{updated_where}
use Rattle.mech.specs.declared.job.Job.{Job}
use Rattle.handles.specs.Handles.{HandleTable, no_handles, public_handles}
use Rattle.sessions.specs.Sessions.{SessionTable, no_sessions, without_session, table_logged_out}
use Rattle.desk.specs.declared.own_object.OwnObject.{OwnObject}
use Rattle.ops.specs.Operations.{Operations, no_operations}

-- The state of one application. It has its sessions with their operations and its login, its session objects in the order of
-- their creation, and its handles of token objects. Then it has the pending call with its job, and the number of the next job.
-- `own_capacity` is how many session objects fit without an allocation.
pub record DeskState : Type 0 where
  pub sessions : SessionTable Operations
  pub own : List OwnObject
  pub own_capacity : ℕ
  pub handles : HandleTable
  pub call : Option Call
  pub question : Option Job
  pub next_question : ℕ

-- the desk of an application that has none yet
abbrev pub empty_desk : DeskState
empty_desk = record {
  sessions = no_sessions;
  own = [];
  own_capacity = 0;
  handles = no_handles;
  call = None;
  question = None;
  next_question = 1;
}

-- the same but for capacities
abbrev pub SameDesk : DeskState → DeskState → Type 0
SameDesk old new = new ≡ record old { own_capacity = new.own_capacity; handles = record old.handles { capacity = new.handles.capacity } }

-- without the user no handle is of a private object; true of every desk
abbrev pub IsDiscreet : DeskState → Type 0
IsDiscreet d = is_user_in d.sessions.login ≡ false → AllByRecursion (λ h. h.private ≡ false) d.handles.entries

-- no call is taken: a call is pending, or a next number is used up
abbrev pub is_busy : DeskState → Bool
is_busy d = is_some d.question ||
    (nat_le (2 ^ 63) d.sessions.next_number || (nat_le (2 ^ 63) d.handles.next_number || nat_le (2 ^ 63) d.next_question))

-- the session object under a handle
abbrev pub own_at : List OwnObject → ℕ → Option (List Entry)
own_at own handle = option_map (λ e. e.object) (find (λ e. e.handle == handle) own)

-- another object stands under a handle, at the index of the one that was there
abbrev pub replaced_own : List OwnObject → ℕ → List Entry → List OwnObject
replaced_own own handle o = updated_where (λ e. e.handle == handle) (λ e. record { handle = e.handle; session = e.session; object = o }) own

-- handles of private objects are retired where nobody is logged in any more
abbrev pub handles_for : Bool → HandleTable → HandleTable
handles_for stays hs = if stays then hs else record hs { entries = public_handles hs.entries }

-- A session is closed, and its objects are destroyed. With the last one the login ends, and with the login the handles of
-- private objects.
abbrev pub closed : DeskState → ℕ → DeskState
closed d session =
    let sessions = without_session d.sessions session in
    record d {
      sessions = sessions;
      own = filter (λ e. not (e.session == session)) d.own;
      handles = handles_for (is_some sessions.login) d.handles;
    }

-- all are closed
abbrev pub all_closed : DeskState → DeskState
all_closed d =
    record d {
      sessions = record d.sessions { sessions = []; login = None };
      own = [];
      handles = record d.handles { entries = public_handles d.handles.entries };
    }

-- nobody is logged in any more: operations end; private session objects are destroyed, and handles of private token objects
-- retired
abbrev pub logged_out_desk : DeskState → DeskState
logged_out_desk d =
    record d {
      sessions = table_logged_out no_operations d.sessions;
      own = filter (λ e. not (flag e.object Private)) d.own;
      handles = record d.handles { entries = public_handles d.handles.entries };
    }

-- ---- the pending call

-- the call is pending that this job answers
abbrev pub with_question : DeskState → Job → DeskState
with_question d job = record d { question = Some job; next_question = d.next_question + 1 }

-- and it is seen which call that is
abbrev pub with_call : DeskState → Call → DeskState
with_call d c = record d { call = Some c }

-- no call is pending any more
abbrev pub over : DeskState → DeskState
over d = record d { call = None; question = None }
