-- The access table: which sessions see an object, and which may write it (PKCS #11 v3.1, 3.3, 4.4 and
-- 5.6; the SO sees public objects alone).
use Rattle.std.specs.Prelude.{Bool, true, false, ◌||◌, not, List, Option}
use Rattle.ck_types.specs.declared.entry.Entry.{Entry}
use Rattle.ck_types.specs.declared.attr_type.AttrType.TheVariants as attr
use Rattle.ck_types.specs.declared.session_state.SessionState.{SessionState}
use Rattle.ck_types.specs.declared.session_state.SessionState.TheVariants.{RoPublic, RoUser, RwPublic, RwUser, RwSo}
use Rattle.ck_types.specs.declared.user_type.UserType.{UserType}
use Rattle.attrs.specs.Objects.{flag}
use Rattle.sessions.specs.Sessions.{state_of}

-- the user is logged in, by a session's state
abbrev pub is_user : SessionState → Bool
is_user RoPublic = false
is_user RoUser = true
is_user RwPublic = false
is_user RwUser = true
is_user RwSo = false

-- and by the login, which all sessions of an application share
abbrev pub is_user_in : Option UserType → Bool
is_user_in login = is_user (state_of login true)

abbrev pub is_rw : SessionState → Bool
is_rw RoPublic = false
is_rw RoUser = false
is_rw RwPublic = true
is_rw RwUser = true
is_rw RwSo = true

abbrev pub is_public : List Entry → Bool
is_public es = not (flag es attr.Private)

abbrev pub is_visible : SessionState → List Entry → Bool
is_visible state es = is_public es || is_user state
