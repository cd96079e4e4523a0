-- Checks of both PINs that are begun and end in any order, and what they make of the record.
use Rattle.std.specs.Prelude.{◌≡◌, ℕ, ◌+◌, ◌≤◌, ◌==◌, ◌&&◌, Bool, true, false, not, nat_lt, List, [], ◌∷◌, ◌++◌, length, filter, is_some, if◌then◌else◌}
use Rattle.std.specs.List.{list_any}
use Rattle.ck_types.specs.declared.user_type.UserType.{UserType}
use Rattle.ck_types.specs.declared.user_type.UserType.TheVariants.{So, User}
use Rattle.pin_record.specs.Verifiers.{PinVerifier}
use Rattle.pin_record.specs.Records.{TokenRecord, charged, checked, initialized_record, is_initialized, tries_limit, tries_of, verifier_of, with_pin}

-- the record that is stored, and the checks of each PIN that are in progress, each by a number of its own
pub record Charges : Type 0 where
  pub stored : TokenRecord
  pub so_checks : List ℕ
  pub user_checks : List ℕ

-- a record that was just read: no check is in progress
abbrev pub charges_opened : TokenRecord → Charges
charges_opened r = record { stored = r; so_checks = []; user_checks = [] }

abbrev pub charged_checks : Charges → UserType → List ℕ
charged_checks c So = c.so_checks
charged_checks c User = c.user_checks

abbrev pub with_checks : Charges → UserType → List ℕ → Charges
with_checks c So checks = record c { so_checks = checks }
with_checks c User checks = record c { user_checks = checks }

abbrev pub with_stored : Charges → TokenRecord → Charges
with_stored c r = record c { stored = r }

abbrev pub is_under_way : List ℕ → ℕ → Bool
is_under_way checks number = list_any (λ n. n == number) checks

abbrev pub without : List ℕ → ℕ → List ℕ
without checks number = filter (λ n. not (n == number)) checks

pub data Event : Type 0 where
  -- a check of a PIN begins
  Begins : (who : UserType) (number : ℕ) → Event
  -- a check ends, and the PIN was right
  EndsRight : (who : UserType) (number : ℕ) → Event
  -- a check ends wrong or abandoned: the PIN was wrong, its application disconnected, or memory or the store failed
  EndsOtherwise : (who : UserType) (number : ℕ) → Event
  -- a new PIN is set (C_InitPIN), which may follow on the right end of a check of the old one (C_SetPIN)
  SetsPin : (who : UserType) (verifier : PinVerifier) → Event
  -- the token is initialised, with a new SO PIN, or on the right end of a check with the old one
  Initializes : (label : List ℕ) (so : PinVerifier) → Event
  -- the token stops and starts again, so that no check is in progress any more
  Restarts : Event

-- a check begins only if its PIN is set and isn't locked
abbrev pub may_begin : Charges → UserType → ℕ → Bool
may_begin c who number =
    is_some (verifier_of c.stored who) && (nat_lt (tries_of c.stored who) tries_limit && not (is_under_way (charged_checks c who) number))

-- No check of the user's PIN is in progress. A token is initialised only then: such a check has a
-- session, and no application has one.
abbrev pub has_no_user_check : Charges → Bool
has_no_user_check c = length c.user_checks == 0

abbrev pub happens : Charges → Event → Charges
happens c (Begins who number) =
    if may_begin c who number then with_stored (with_checks c who (charged_checks c who ++ number ∷ [])) (charged c.stored who) else c
happens c (EndsRight who number) =
    let others = without (charged_checks c who) number in
    if is_under_way (charged_checks c who) number then with_stored (with_checks c who others) (checked c.stored who true (length others)) else c
happens c (EndsOtherwise who number) =
    let others = without (charged_checks c who) number in
    with_stored (with_checks c who others) (checked c.stored who false (length others))
happens c (SetsPin who verifier) =
    if is_initialized c.stored then with_stored c (with_pin c.stored who verifier (length (charged_checks c who))) else c
happens c (Initializes label so) =
    if has_no_user_check c then with_stored c (initialized_record label so (length c.so_checks)) else c
happens c Restarts = charges_opened c.stored

abbrev pub after : Charges → List Event → Charges
after c [] = c
after c (e ∷ es) = after (happens c e) es

abbrev pub is_same_user : UserType → UserType → Bool
is_same_user So So = true
is_same_user So User = false
is_same_user User So = false
is_same_user User User = true

-- How many checks of a PIN have ended wrong or abandoned since it was last entered right or set, or
-- the token initialised. An event of the other PIN, or of a check that isn't in progress, counts nothing.
abbrev pub spent_after : UserType → ℕ → Charges → Event → ℕ
spent_after who s c (Begins other number) = s
spent_after who s c (EndsRight other number) = if is_same_user who other && is_under_way (charged_checks c other) number then 0 else s
spent_after who s c (EndsOtherwise other number) = if is_same_user who other && is_under_way (charged_checks c other) number then s + 1 else s
spent_after who s c (SetsPin other verifier) = if is_same_user who other && is_initialized c.stored then 0 else s
spent_after who s c (Initializes label so) = if has_no_user_check c then 0 else s
spent_after who s c Restarts = s + length (charged_checks c who)

abbrev pub spent : UserType → ℕ → Charges → List Event → ℕ
spent who s c [] = s
spent who s c (e ∷ es) = spent who (spent_after who s c e) (happens c e) es

-- no number stands twice
abbrev pub Once : List ℕ → Type 0
Once [] = Unit {0}
Once (n ∷ ns) = (is_under_way ns n ≡ false) × Once ns

-- the tries are the checks that are spent and those in progress, and they are ten at most
pub record IsCounted (s tries : ℕ) (checks : List ℕ) : Type 0 where
  pub sum : tries ≡ s + length checks
  pub most : tries ≤ tries_limit
  pub once : Once checks

abbrev pub IsCharged : UserType → ℕ → Charges → Type 0
IsCharged who s c = IsCounted s (tries_of c.stored who) (charged_checks c who)
