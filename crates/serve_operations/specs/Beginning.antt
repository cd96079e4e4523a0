-- An operation begins: its tests in two parts, for the mechanism and for the key; and ends.
use Rattle.std.specs.Prelude.{◌≡◌, ℕ, Bool, true, false, not, if◌then◌else◌, List, [], ◌∷◌, Option, Some, None, Result, Ok, Err, option_map}
use Rattle.ck_types.specs.declared.entry.Entry.{Entry}
use Rattle.ck_types.specs.declared.key_type.KeyType.TheVariants.{Aes}
use Rattle.ck_types.specs.declared.mech_type.MechType.{MechType}
use Rattle.ck_mechanisms.specs.Table.{mechanism_for, mech_key_type as key_type_for}
use Rattle.ck_calls.specs.declared.fields.Mechanism.{Mechanism}
use Rattle.macs.specs.declared.mechanism.Mechanism.TheVariants.{AesCmac}
use Rattle.attrs.specs.Masking.{is_secret_key}
use Rattle.attrs.specs.Objects.{flag, class_of, key_type_of}
use Rattle.precede.specs.declared.condition.Condition.{Condition}
use Rattle.precede.specs.declared.condition.Condition.TheVariants.{OperationActive, WrongMechanism, WrongParameter, NoKey, WrongKeyType, KeyNotPermitted}
use Rattle.sessions.specs.declared.Session.{Session}
use Rattle.sessions.specs.Sessions.{SessionTable}
use Rattle.ops.specs.declared.place.Kind.{Kind}
use Rattle.ops.specs.declared.place.Kind.TheVariants.{Cipher, Mac}
use Rattle.ops.specs.Operations.{Operations, mac_started, started, table_with_mac, table_with_operation}
use Rattle.model_views.specs.Views.{View}
use Rattle.model_views.specs.Answering.{Answer, unless}
use Rattle.model_views.specs.Checked.{is_of_type}
use Rattle.model_answers.specs.CipherInit.{place_for, with_parameter, cipher_begins}
use Rattle.model_answers.specs.MacInit.{mac_mechanism_with, mac_begins}
use Rattle.model_answers.specs.OperationInit.{is_in_progress, permission, purpose_for}
use Rattle.serve_operations.specs.declared.chosen.Chosen.{Chosen}
use Rattle.serve_operations.specs.declared.chosen.Chosen.TheVariants as chosen

-- ---- in the sessions

-- the operation of a kind ends
abbrev pub table_without : SessionTable Operations → ℕ → Kind → SessionTable Operations
table_without t session (Cipher d) = table_with_operation t session (place_for d) None
table_without t session (Mac p) = table_with_mac t session p None

-- and one begins with a key
abbrev pub table_begun : SessionTable Operations → ℕ → Chosen → Option (List ℕ) → SessionTable Operations
table_begun t session (chosen.Cipher d mechanism) key = table_with_operation t session (place_for d) (Some (started mechanism d key))
table_begun t session (chosen.Mac p mechanism) key = table_with_mac t session p (Some (mac_started mechanism key))

-- ---- the mechanism with its parameter

abbrev pub kind_of : Chosen → Kind
kind_of (chosen.Cipher d mechanism) = Cipher d
kind_of (chosen.Mac p mechanism) = Mac p

abbrev pub chosen_with : Kind → MechType → List ℕ → Option Chosen
chosen_with (Cipher d) mech_type parameter = option_map (λ m. chosen.Cipher d m) (with_parameter mech_type parameter)
chosen_with (Mac p) mech_type parameter = option_map (λ m. chosen.Mac p m) (mac_mechanism_with mech_type parameter)

abbrev pub Choice : Type 0
Choice = MechType × Chosen

abbrev pub choice_by : MechType → Option Chosen → Result Choice Condition
choice_by mech_type None = Err WrongParameter
choice_by mech_type (Some c) = Ok (mech_type, c)

abbrev pub choice_of : Kind → Option MechType → List ℕ → Result Choice Condition
choice_of kind None parameter = Err WrongMechanism
choice_of kind (Some mech_type) parameter = choice_by mech_type (chosen_with kind mech_type parameter)

abbrev pub choice_for : Kind → Option (Session Operations) → Mechanism → Result Choice Condition
choice_for kind s m =
    if is_in_progress kind s then Err OperationActive else choice_of kind (mechanism_for (purpose_for kind) m.mech_type) m.parameter

-- ---- the type of its key

-- ciphers and CKM_AES_CMAC work with AES
abbrev pub uses_aes : Chosen → Bool
uses_aes (chosen.Cipher d mechanism) = true
uses_aes (chosen.Mac p AesCmac) = true
uses_aes (chosen.Mac p _) = false

abbrev pub HasKeyType : MechType → Chosen → Type 0
HasKeyType mech_type c = uses_aes c ≡ true → key_type_for mech_type ≡ Aes

-- ---- where what is left to test is the key

abbrev pub begins_as : Chosen → View → ℕ → List Entry → Answer
begins_as (chosen.Cipher d mechanism) v session key = cipher_begins d v session mechanism key
begins_as (chosen.Mac p mechanism) v session key = mac_begins p v session mechanism key

abbrev pub by_key : MechType → Chosen → View → ℕ → List Entry → Answer
by_key mech_type c v session key =
    unless v ((NoKey, not (is_secret_key (class_of key))) ∷ (WrongKeyType, not (is_of_type (key_type_for mech_type) (key_type_of key)))
    ∷ (KeyNotPermitted, not (flag key (permission (kind_of c)))) ∷ []) (begins_as c v session key)
