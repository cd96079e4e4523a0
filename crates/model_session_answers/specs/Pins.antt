-- What the calls of PINs share (PKCS #11 v3.1, 5.5 and 5.6): checks of PINs, new ones, and what they make of the record.
use Rattle.std.specs.Prelude.{ℕ, Bool, true, false, ◌&&◌, nat_le, nat_lt, List, [], length, is_some, Option, Some, None}
use Rattle.std.specs.Option.{unwrap_or}
use Rattle.ck_types.specs.declared.constants.TheConstants.{MAX_PIN_LEN, MIN_PIN_LEN}
use Rattle.ck_types.specs.declared.user_type.UserType.TheVariants.{So, User}
use Rattle.ck_calls.specs.declared.reply.Reply.{Reply}
use Rattle.pin_record.specs.Verifiers.{PinVerifier, hidden_verifier}
use Rattle.pin_record.specs.Records.{TokenRecord, verifier_of, tries_of}
use Rattle.model_views.specs.Answering.{Reveal}
use Rattle.model_views.specs.Changes.{Records, Resets}
use Rattle.model_views.specs.Calls.{UserType, Code, Ok, View, Answer, Replies}

-- the SO is logged in
abbrev pub is_so : Option UserType → Bool
is_so None = false
is_so (Some So) = true
is_so (Some User) = false

-- a new PIN has 4 to 64 bytes
abbrev pub is_pin_length : List ℕ → Bool
is_pin_length pin = nat_le MIN_PIN_LEN (length pin) && nat_le (length pin) MAX_PIN_LEN

abbrev pub is_set : TokenRecord → UserType → Bool
is_set r who = is_some (verifier_of r who)

-- what a PIN that is set is checked against
abbrev pub verifier_or : TokenRecord → UserType → PinVerifier
verifier_or r who = unwrap_or (verifier_of r who) hidden_verifier

-- how many checks of the PIN other applications have in progress, which is revealed
abbrev pub others : Reveal → ℕ
others r = unwrap_or r.under_way 0

-- A check that ends is charged, as is each that is in progress; so these are fewer than the tries.
abbrev pub is_charged : TokenRecord → UserType → ℕ → Bool
is_charged r who under_way = nat_lt under_way (tries_of r who)

-- a reply, and a new record
abbrev pub stores : Reply → TokenRecord → View → Answer
stores reply r v = record { says = Replies reply; view = record v { token_record = r }; change = Records r }

-- a new record, and no objects
abbrev pub resets : TokenRecord → View → Answer
resets r v = record { says = Replies (Code Ok); view = record v { token_record = r; tokens = [] }; change = Resets r }
