-- What a contract sees of `Sessions`.
use Rattle.std.specs.Prelude.{◌≡◌, ℕ, ◌+◌, ◌≤◌, ◌==◌, Bool, true, false, not, IsFalse, List, [], ◌∷◌, ◌++◌, length, map, find, filter, Option, Some, None, if◌then◌else◌}
use Rattle.std.specs.List.{list_any}
use Rattle.ck_types.specs.declared.user_type.UserType.{UserType}
use Rattle.ck_types.specs.declared.user_type.UserType.TheVariants.{So, User}
use Rattle.ck_types.specs.declared.session_state.SessionState.{SessionState}
use Rattle.ck_types.specs.declared.constants.TheConstants.{MAX_SESSION_COUNT}
use Rattle.ck_types.specs.declared.session_state.SessionState.TheVariants as state
use Rattle.sessions.specs.declared.Session.{Session}
use Rattle.lists.specs.InOrder.{NumbersRise}

-- one application's sessions in the order in which they were opened, who is logged in, and the
-- number of the next session
pub record SessionTable (W : Type 0) : Type 0 where
  pub sessions : List (Session W)
  pub login : Option UserType
  pub next_number : ℕ

-- the state of a session, by who is logged in and whether it is read/write (PKCS #11 v3.1, 3.3:
-- `CK_STATE`); there is no read-only session while the SO is logged in
abbrev pub state_of : Option UserType → Bool → SessionState
state_of None false = state.RoPublic
state_of None true = state.RwPublic
state_of (Some User) false = state.RoUser
state_of (Some User) true = state.RwUser
state_of (Some So) read_write = state.RwSo

module _ {W : Type 0} where
  -- no session was opened yet
  abbrev pub no_sessions : SessionTable W
  no_sessions = record { sessions = []; login = None; next_number = 1 }

  abbrev pub session_at : List (Session W) → ℕ → Option (Session W)
  session_at ss handle = find (λ s. s.handle == handle) ss

  abbrev pub has_read_only : List (Session W) → Bool
  has_read_only ss = list_any (λ s. not s.read_write) ss

  -- a new session is the last, and has nothing in progress
  abbrev pub with_session : W → SessionTable W → Bool → SessionTable W
  with_session idle t read_write = record t {
    sessions = t.sessions ++ record { handle = t.next_number; read_write = read_write; work = idle } ∷ [];
    next_number = t.next_number + 1;
  }

  -- nobody is logged in where there is no session
  abbrev pub login_among : List (Session W) → Option UserType → Option UserType
  login_among [] login = None
  login_among (s ∷ ss) login = login

  -- the session of this number is gone, and with the last one the login
  abbrev pub without_session : SessionTable W → ℕ → SessionTable W
  without_session t handle =
      let others = filter (λ s. not (s.handle == handle)) t.sessions in
      record t { sessions = others; login = login_among others t.login }

  -- a session with this activity in progress, and the same where it has a number
  abbrev pub busy_with : W → Session W → Session W
  busy_with work s = record s { work = work }

  abbrev pub busy_at : ℕ → W → Session W → Session W
  busy_at handle work s = if s.handle == handle then busy_with work s else s

  -- the session of this number has this activity in progress
  abbrev pub with_work : SessionTable W → ℕ → W → SessionTable W
  with_work t handle work = record t { sessions = map (busy_at handle work) t.sessions }

  -- nobody is logged in, and nothing is in progress
  abbrev pub table_logged_out : W → SessionTable W → SessionTable W
  table_logged_out idle t = record t { sessions = map (busy_with idle) t.sessions; login = None }

  -- What is true of every table: numbers count from 1 and were given once each, and there are
  -- no more sessions than an application may have. None is read-only while the SO is logged in, and nobody is logged in without
  -- a session.
  pub record IsTable (t : SessionTable W) : Type 0 where
    pub rising : NumbersRise (λ s. s.handle) 1 t.sessions t.next_number
    pub few : length t.sessions ≤ MAX_SESSION_COUNT
    pub so : t.login ≡ Some So → IsFalse (has_read_only t.sessions)
    pub logged_in : t.sessions ≡ [] → t.login ≡ None
