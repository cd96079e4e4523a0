-- The operations of a session (PKCS #11 v3.1, 5.7.7, 5.8, 5.10, 5.13 and 5.15): one of each kind may be active at a time. Which
-- may be active together a token decides (5.1.6, CKR_OPERATION_ACTIVE).
use Rattle.std.specs.Prelude.{ℕ, List, [], ◌++◌, Option, Some, None}
use Rattle.std.specs.Option.{unwrap_or}
use Rattle.streams.specs.declared.mechanism.Mechanism.{Mechanism}
pub use Rattle.streams.specs.declared.part.Part.{Part}
use Rattle.streams.specs.Streamed.{Direction, Streamed}
use Rattle.macs.specs.declared.mechanism.Mechanism.{Mechanism as MacMechanism}
use Rattle.macs.specs.Authentication.{Authentication}
use Rattle.sessions.specs.declared.Session.{Session}
use Rattle.sessions.specs.Sessions.{SessionTable, session_at, with_work}
use Rattle.ops.specs.declared.place.Place.{Place}
use Rattle.ops.specs.declared.place.Place.TheVariants.{Encrypt, Decrypt}
use Rattle.ops.specs.declared.place.MacPlace.{MacPlace}
use Rattle.ops.specs.declared.place.MacPlace.TheVariants.{Sign, Verify}

-- An operation that encrypts or decrypts: its mechanism with parameter and its direction, the data that it has taken and
-- its output so far. It works under a copy of its key's value, which may be left out.
pub record Operation : Type 0 where
  pub mechanism : Mechanism
  pub direction : Direction
  pub taken : List ℕ
  pub given : List ℕ
  pub key : Option (List ℕ)

-- an operation that has taken nothing yet
abbrev pub started : Mechanism → Direction → Option (List ℕ) → Operation
started mechanism direction key = record { mechanism = mechanism; direction = direction; taken = []; given = []; key = key }

-- one more part, for which `out` was output
abbrev pub operation_further : Operation → List ℕ → List ℕ → Operation
operation_further o piece out = record o { taken = o.taken ++ piece; given = o.given ++ out }

-- the operation of a text in parts, and the text of an operation, where its key isn't left out
abbrev pub operation_of : Streamed → Operation
operation_of s = record { mechanism = s.mechanism; direction = s.direction; taken = s.taken; given = s.given; key = Some s.key }

abbrev pub text_of : Operation → Streamed
text_of o = record { mechanism = o.mechanism; direction = o.direction; key = unwrap_or o.key []; taken = o.taken; given = o.given }

-- An operation that signs or verifies: its mechanism and the data that it has taken. It works under a copy of its key's
-- value, which may be left out.
pub record MacOperation : Type 0 where
  pub mechanism : MacMechanism
  pub taken : List ℕ
  pub key : Option (List ℕ)

abbrev pub mac_started : MacMechanism → Option (List ℕ) → MacOperation
mac_started mechanism key = record { mechanism = mechanism; taken = []; key = key }

abbrev pub mac_further : MacOperation → List ℕ → MacOperation
mac_further o piece = record o { taken = o.taken ++ piece }

-- the operation of a message in parts, and the message of an operation, where its key isn't left out
abbrev pub mac_of : Authentication → MacOperation
mac_of a = record { mechanism = a.mechanism; taken = a.taken; key = Some a.key }

abbrev pub message_of : MacOperation → Authentication
message_of o = record { mechanism = o.mechanism; key = unwrap_or o.key []; taken = o.taken }

-- what a session has in progress: of a search, the handles that were not returned yet
pub record Operations : Type 0 where
  pub encrypt : Option Operation
  pub decrypt : Option Operation
  pub sign : Option MacOperation
  pub verify : Option MacOperation
  pub find : Option (List ℕ)

abbrev pub no_operations : Operations
no_operations = record { encrypt = None; decrypt = None; sign = None; verify = None; find = None }

-- ---- places

abbrev pub operation_at : Operations → Place → Option Operation
operation_at ops Encrypt = ops.encrypt
operation_at ops Decrypt = ops.decrypt

abbrev pub mac_at : Operations → MacPlace → Option MacOperation
mac_at ops Sign = ops.sign
mac_at ops Verify = ops.verify

-- an operation stands at a place, or none; the others stay
abbrev pub placed : Operations → Place → Option Operation → Operations
placed ops Encrypt o = record ops { encrypt = o }
placed ops Decrypt o = record ops { decrypt = o }

abbrev pub mac_placed : Operations → MacPlace → Option MacOperation → Operations
mac_placed ops Sign o = record ops { sign = o }
mac_placed ops Verify o = record ops { verify = o }

-- ---- in a session

abbrev pub operation_in : Option (Session Operations) → Place → Option Operation
operation_in None place = None
operation_in (Some s) place = operation_at s.work place

abbrev pub placed_in : SessionTable Operations → ℕ → Option (Session Operations) → Place → Option Operation → SessionTable Operations
placed_in t session None place o = t
placed_in t session (Some s) place o = with_work t session (placed s.work place o)

abbrev pub table_with_operation : SessionTable Operations → ℕ → Place → Option Operation → SessionTable Operations
table_with_operation t session place o = placed_in t session (session_at t.sessions session) place o

abbrev pub mac_in : Option (Session Operations) → MacPlace → Option MacOperation
mac_in None place = None
mac_in (Some s) place = mac_at s.work place

abbrev pub mac_placed_in : SessionTable Operations → ℕ → Option (Session Operations) → MacPlace → Option MacOperation
    → SessionTable Operations
mac_placed_in t session None place o = t
mac_placed_in t session (Some s) place o = with_work t session (mac_placed s.work place o)

abbrev pub table_with_mac : SessionTable Operations → ℕ → MacPlace → Option MacOperation → SessionTable Operations
table_with_mac t session place o = mac_placed_in t session (session_at t.sessions session) place o

-- ---- a search (PKCS #11 v3.1, 5.7.7 to 5.7.9)

-- the search of a session
abbrev pub search_in : Option (Session Operations) → Option (List ℕ)
search_in None = None
search_in (Some s) = s.work.find

-- a search begins in a session, goes on or ends; the operations stay
abbrev pub searching_in : SessionTable Operations → ℕ → Option (Session Operations) → Option (List ℕ) → SessionTable Operations
searching_in t session None search = t
searching_in t session (Some s) search = with_work t session (record s.work { find = search })

abbrev pub with_search : SessionTable Operations → ℕ → Option (List ℕ) → SessionTable Operations
with_search t session search = searching_in t session (session_at t.sessions session) search

-- ---- what is masked

-- all of an operation but the value of its key
abbrev pub mask_operation : Operation → Operation
mask_operation o = record { mechanism = o.mechanism; direction = o.direction; taken = o.taken; given = o.given; key = None }

abbrev pub mask_mac : MacOperation → MacOperation
mask_mac o = record { mechanism = o.mechanism; taken = o.taken; key = None }
