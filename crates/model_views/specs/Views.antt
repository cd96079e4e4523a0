-- What one application sees of the token. The full view has the values of keys that are masked or in use, and the
-- verifiers that PINs are checked against; the view has none of them.
use Rattle.std.specs.Prelude.{ℕ, Bool, true, List, [], map, filter, Option, None}
use Rattle.std.specs.Option.{option_map}
use Rattle.ck_types.specs.declared.entry.Entry.{Entry}
use Rattle.ck_types.specs.declared.session_state.SessionState.{SessionState}
use Rattle.ck_types.specs.declared.user_type.UserType.{UserType}
use Rattle.ck_calls.specs.declared.call.Call.{Call}
use Rattle.ck_calls.specs.declared.function.Function.{Function}
use Rattle.attrs.specs.Masking.{mask as mask_object}
use Rattle.guard.specs.Access.{is_visible}
use Rattle.pin_record.specs.Verifiers.{PinVerifier, hidden_verifier}
use Rattle.pin_record.specs.Records.{PinState, TokenRecord}
use Rattle.sessions.specs.declared.Session.{Session}
use Rattle.sessions.specs.Sessions.{SessionTable, state_of, no_sessions}
use Rattle.ops.specs.declared.place.MacPlace.{MacPlace}
use Rattle.ops.specs.Operations.{Part, Operation, MacOperation, Operations, mask_operation, mask_mac}

-- ---- objects

-- the objects that an application sees by who is logged in (PKCS #11 v3.1, 4.4 and 5.6)
abbrev pub sees : Option UserType → List Entry → Bool
sees login o = is_visible (state_of login true) o

-- a token object, with the application's handle if it has one
pub record TokenObject : Type 0 where
  pub object : List Entry
  pub handle : Option ℕ

-- a session object, with its handle and the session that made it
pub record SessionObject : Type 0 where
  pub object : List Entry
  pub handle : ℕ
  pub session : ℕ

abbrev pub without_handle : List Entry → TokenObject
without_handle o = record { object = o; handle = None }

-- the token objects of a list that are seen
abbrev pub seen_by : Option UserType → List TokenObject → List TokenObject
seen_by login ts = filter (λ t. sees login t.object) ts

-- ---- pending calls

-- what a pending call computes
pub data Task : Type 0 where
  -- what an operation makes of data, as a part or as the last
  Ciphers : (part : Part) (operation : Operation) (input : List ℕ) → Task
  -- C_SignUpdate and C_VerifyUpdate: the operation at a place takes a part
  Takes : (place : MacPlace) (operation : MacOperation) (input : List ℕ) → Task
  -- C_Sign and C_SignFinal: the signature of the data
  Signs : (operation : MacOperation) (input : List ℕ) → Task
  -- C_Verify and C_VerifyFinal: whether a signature is that of the data
  Verifies : (operation : MacOperation) (input signature : List ℕ) → Task
  -- C_WrapKey: the wrapping of a key's value. The wrapping key and the value may be left out; their handles are in the call.
  WrapsKey : (key value : Option (List ℕ)) → Task
  -- C_UnwrapKey: the key that a template makes of the value which is wrapped in the bytes, in a session of this state
  UnwrapsKey : (key : Option (List ℕ)) (wrapped : List ℕ) (state : SessionState) (template : List Entry) (random : List ℕ) → Task
  -- C_Login: whether a PIN is right, by the verifier that stood when the check began
  ChecksPin : (who : UserType) (verifier : PinVerifier) (pin : List ℕ) → Task
  -- C_InitPIN: the verifier of the user's new PIN, with this salt
  MakesPin : (pin salt : List ℕ) → Task
  -- C_SetPIN: both
  ChangesPin : (who : UserType) (verifier : PinVerifier) (pin new_pin salt : List ℕ) → Task
  -- C_InitToken: the verifier of the SO's first PIN, or whether the SO's PIN is right
  InitsToken : (label pin salt : List ℕ) → Task
  ResetsToken : (label : List ℕ) (verifier : PinVerifier) (pin : List ℕ) → Task

-- what a pending call asks, by its function and session, to which its result belongs
pub record Question : Type 0 where
  pub number : ℕ
  pub function : Function
  pub session : ℕ
  pub task : Task

-- ---- views

pub record View : Type 0 where
  pub token_record : TokenRecord
  -- the token objects that are seen, in the order of their creation
  pub tokens : List TokenObject
  pub own : List SessionObject
  pub sessions : SessionTable Operations
  -- the pending call, in which the handles of its keys are, and what it asks: both are there, or none
  pub call : Option Call
  pub question : Option Question
  pub next_handle : ℕ
  pub next_question : ℕ

-- the full view of an application that isn't there
abbrev pub fresh : TokenRecord → List (List Entry) → View
fresh token_record objects =
    record {
      token_record = token_record;
      tokens = map without_handle (filter (sees None) objects);
      own = [];
      sessions = no_sessions;
      call = None;
      question = None;
      next_handle = 1;
      next_question = 1;
    }

-- what the view becomes when the application disconnects
abbrev pub left : View → View
left v = fresh v.token_record (map (λ t. t.object) v.tokens)

-- ---- what is masked (redaction)

-- a verifier is masked, and that there is one is seen
abbrev pub mask_verifier : PinVerifier → PinVerifier
mask_verifier v = hidden_verifier

abbrev pub mask_pin : PinState → PinState
mask_pin p = record { verifier = option_map mask_verifier p.verifier; tries = p.tries }

abbrev pub mask_record : TokenRecord → TokenRecord
mask_record r = record { label = r.label; so = mask_pin r.so; user = mask_pin r.user }

abbrev pub mask_token_object : TokenObject → TokenObject
mask_token_object t = record { object = mask_object t.object; handle = t.handle }

abbrev pub mask_session_object : SessionObject → SessionObject
mask_session_object e = record { object = mask_object e.object; handle = e.handle; session = e.session }

abbrev pub mask_operations : Operations → Operations
mask_operations ops =
    record {
      encrypt = option_map mask_operation ops.encrypt;
      decrypt = option_map mask_operation ops.decrypt;
      sign = option_map mask_mac ops.sign;
      verify = option_map mask_mac ops.verify;
      find = ops.find;
    }

abbrev pub mask_session : Session Operations → Session Operations
mask_session s = record { handle = s.handle; read_write = s.read_write; work = mask_operations s.work }

abbrev pub mask_sessions : SessionTable Operations → SessionTable Operations
mask_sessions t = record { sessions = map mask_session t.sessions; login = t.login; next_number = t.next_number }

abbrev pub mask_task : Task → Task
mask_task (Ciphers part operation input) = Ciphers part (mask_operation operation) input
mask_task (Takes place operation input) = Takes place (mask_mac operation) input
mask_task (Signs operation input) = Signs (mask_mac operation) input
mask_task (Verifies operation input signature) = Verifies (mask_mac operation) input signature
mask_task (WrapsKey key value) = WrapsKey None None
mask_task (UnwrapsKey key wrapped state template random) = UnwrapsKey None wrapped state template random
mask_task (ChecksPin who verifier pin) = ChecksPin who (mask_verifier verifier) pin
mask_task (MakesPin pin salt) = MakesPin pin salt
mask_task (ChangesPin who verifier pin new_pin salt) = ChangesPin who (mask_verifier verifier) pin new_pin salt
mask_task (InitsToken label pin salt) = InitsToken label pin salt
mask_task (ResetsToken label verifier pin) = ResetsToken label (mask_verifier verifier) pin

abbrev pub mask_question : Question → Question
mask_question q = record { number = q.number; function = q.function; session = q.session; task = mask_task q.task }

-- the view of a full view
abbrev pub mask : View → View
mask v =
    record {
      token_record = mask_record v.token_record;
      tokens = map mask_token_object v.tokens;
      own = map mask_session_object v.own;
      sessions = mask_sessions v.sessions;
      call = v.call;
      question = option_map mask_question v.question;
      next_handle = v.next_handle;
      next_question = v.next_question;
    }
