-- What a contract sees of a record.
use Rattle.std.specs.Prelude.{◌≡◌, ℕ, ◌+◌, ◌≤◌, ◌==◌, ◌&&◌, ◌||◌, Bool, true, List, Option, Some, None, is_some, is_none, not, nat_lt, replicate, if◌then◌else◌}
use Rattle.std.specs.Str.{bytes_eq}
use Rattle.ck_types.specs.declared.user_type.UserType.{UserType}
use Rattle.ck_types.specs.declared.user_type.UserType.TheVariants.{So, User}
use Rattle.pin_record.specs.Verifiers.{PinVerifier}

-- one of the two PINs, if it is set, and its tries: the checks that were begun since it was last
-- entered right, or set
pub record PinState : Type 0 where
  pub verifier : Option PinVerifier
  pub tries : ℕ

pub record TokenRecord : Type 0 where
  pub label : List ℕ
  pub so : PinState
  pub user : PinState

-- ---- which records there are

-- at so many tries a PIN is locked
abbrev pub tries_limit : ℕ
tries_limit = 10

-- a PIN that isn't set has no tries
abbrev pub tries_fit : PinState → Bool
tries_fit p = is_some p.verifier || (p.tries == 0)

-- what is true of every PIN of a record
pub record IsPin (p : PinState) : Type 0 where
  pub fit : tries_fit p ≡ true
  pub few : p.tries ≤ tries_limit

-- 32 blanks
abbrev pub blank_label : List ℕ
blank_label = replicate 32 0x20

-- where there is no SO PIN, there is no user PIN, and the label is blank
abbrev pub is_coherent : TokenRecord → Bool
is_coherent r = is_some r.so.verifier || (is_none r.user.verifier && bytes_eq r.label blank_label)

-- ---- what follows of a record

abbrev pub pin_of : TokenRecord → UserType → PinState
pin_of r So = r.so
pin_of r User = r.user

abbrev pub verifier_of : TokenRecord → UserType → Option PinVerifier
verifier_of r who = (pin_of r who).verifier

abbrev pub tries_of : TokenRecord → UserType → ℕ
tries_of r who = (pin_of r who).tries

-- a PIN is locked at ten tries
abbrev pub is_locked : TokenRecord → UserType → Bool
is_locked r who = not (nat_lt (tries_of r who) tries_limit)

-- the token is initialised where it has an SO PIN
abbrev pub is_initialized : TokenRecord → Bool
is_initialized r = is_some r.so.verifier

-- what applications may learn of a record: neither verifier is in it
pub record RecordView : Type 0 where
  pub label : List ℕ
  pub initialized : Bool
  pub user_pin_set : Bool
  pub so_tries : ℕ
  pub user_tries : ℕ

abbrev pub record_view : TokenRecord → RecordView
record_view r = record {
  label = r.label;
  initialized = is_initialized r;
  user_pin_set = is_some r.user.verifier;
  so_tries = r.so.tries;
  user_tries = r.user.tries;
}

-- ---- changes

abbrev pub unset_pin : PinState
unset_pin = record { verifier = None; tries = 0 }

-- of a new store: not initialised
abbrev pub new_record : TokenRecord
new_record = record { label = blank_label; so = unset_pin; user = unset_pin }

-- of a token that was initialised: this label and SO PIN, and no user PIN
abbrev pub initialized_record : List ℕ → PinVerifier → ℕ → TokenRecord
initialized_record label so tries = record { label = label; so = record { verifier = Some so; tries = tries }; user = unset_pin }

abbrev pub with_pin_state : TokenRecord → UserType → PinState → TokenRecord
with_pin_state r So p = record r { so = p }
with_pin_state r User p = record r { user = p }

abbrev pub with_pin : TokenRecord → UserType → PinVerifier → ℕ → TokenRecord
with_pin r who v tries = with_pin_state r who (record { verifier = Some v; tries = tries })

abbrev pub with_tries : TokenRecord → UserType → ℕ → TokenRecord
with_tries r who tries = with_pin_state r who (record { verifier = verifier_of r who; tries = tries })

-- a check of the PIN is charged: one more try
abbrev pub charged : TokenRecord → UserType → TokenRecord
charged r who = with_tries r who (tries_of r who + 1)

-- a check of the PIN has ended, and so many others of it are in progress
abbrev pub checked : TokenRecord → UserType → Bool → ℕ → TokenRecord
checked r who right under_way = if right then with_tries r who under_way else r
