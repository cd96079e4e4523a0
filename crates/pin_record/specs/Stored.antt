-- The stored form of a record. In format 2 it is a byte 2, a byte for whether the token is initialised, and
-- the label in 32 bytes. Then come for the SO and for the user: a byte 0, or a byte 1 and the verifier, and
-- a byte of tries. A verifier is 16 bytes of salt, the rounds in 32 bits, and 32 bytes of key. All
-- numbers are big-endian. Older stores have format 1: its first byte is 1, and a verifier has no rounds,
-- which are those of older tokens.
use Rattle.std.specs.Prelude.{◌≡◌, ℕ, ◌<◌, ◌==◌, Bool, true, nat_le, List, [], ◌∷◌, Option, Some, None, Result, Ok, Err, is_some, if◌then◌else◌}
use Rattle.ck_types.specs.Format.{Format, ◌>>=◌, number32, fixed, pair, mapped, narrowed, optional, whole}
use Rattle.pin_record.specs.declared.fault.DecodeFault.{DecodeFault}
use Rattle.pin_record.specs.declared.fault.DecodeFault.TheVariants as faults
use Rattle.pin_record.specs.declared.version.Version.{Version}
use Rattle.pin_record.specs.declared.version.Version.TheVariants.{One, Two}
use Rattle.pin_record.specs.Verifiers.{PinVerifier, is_rounds, old_rounds}
use Rattle.pin_record.specs.Records.{PinState, TokenRecord, is_coherent, tries_fit, tries_limit}

-- a number below 256
abbrev pub decode_byte : List ℕ → Option (ℕ × List ℕ)
decode_byte [] = None
decode_byte (b ∷ rest) = Some (b, rest)

abbrev pub byte : Format ℕ
byte = record { encode = λ n. n ∷ []; Fits = λ n. n < 256; decode = decode_byte }

-- the values of a format that pass a test
abbrev pub restricted : {A : Type 0} → (A → Bool) → Format A → Format A
restricted test c = record {
  encode = c.encode;
  Fits = λ x. (test x ≡ true) × c.Fits x;
  decode = λ bytes. c.decode bytes >>= λ x. if test x.0 then Some x else None;
}

-- a byte that is always the same, and a value
abbrev pub headed : {A : Type 0} → ℕ → Format A → Format A
headed head c = record {
  encode = λ x. head ∷ c.encode x;
  Fits = c.Fits;
  decode = λ bytes. byte.decode bytes >>= λ b. if b.0 == head then c.decode b.1 else None;
}

abbrev pub verifier_form : Format PinVerifier
verifier_form =
    mapped (pair (fixed 16) (pair (restricted is_rounds number32) (fixed 32)))
    (λ p. record { salt = p.0; rounds = p.1.0; key = p.1.1 }) (λ v. (v.salt, (v.rounds, v.key)))

-- without its rounds
abbrev pub old_parts_form : Format (List ℕ × List ℕ)
old_parts_form = pair (fixed 16) (fixed 32)

abbrev pub old_verifier_form : Format PinVerifier
old_verifier_form = record {
  encode = λ v. old_parts_form.encode (v.salt, v.key);
  Fits = λ v. (v.rounds ≡ old_rounds) × old_parts_form.Fits (v.salt, v.key);
  decode = λ bytes. old_parts_form.decode bytes >>= λ p. Some (record { salt = p.0.0; rounds = old_rounds; key = p.0.1 }, p.1);
}

abbrev pub verifier_form_in : Version → Format PinVerifier
verifier_form_in One = old_verifier_form
verifier_form_in Two = verifier_form

abbrev pub version_number : Version → ℕ
version_number One = 1
version_number Two = 2

abbrev pub tries_form : Format ℕ
tries_form = restricted (λ n. nat_le n tries_limit) byte

abbrev pub pin_form : Version → Format PinState
pin_form version =
    restricted tries_fit
    (mapped (pair (optional (verifier_form_in version)) tries_form) (λ p. record { verifier = p.0; tries = p.1 })
    (λ p. (p.verifier, p.tries)))

abbrev pub flag_byte : Bool → ℕ
flag_byte initialized = if initialized then 1 else 0

-- the byte for whether the token is initialised, the label, and the two PINs
abbrev pub Parts : Type 0
Parts = ℕ × (List ℕ × (PinState × PinState))

abbrev pub parts_form : Version → Format Parts
parts_form version = pair byte (pair (fixed 32) (pair (pin_form version) (pin_form version)))

abbrev pub parts_of : TokenRecord → Parts
parts_of r = (flag_byte (is_some r.so.verifier), (r.label, (r.so, r.user)))

-- the byte is that of the SO's PIN
abbrev pub record_of : Parts → Option TokenRecord
record_of p =
    if p.0 == flag_byte (is_some p.1.1.0.verifier) then Some (record { label = p.1.0; so = p.1.1.0; user = p.1.1.1 }) else None

abbrev pub record_form : Version → Format TokenRecord
record_form version = headed (version_number version) (restricted is_coherent (narrowed (parts_form version) record_of parts_of))

-- the records that there are: those with a stored form
abbrev pub IsRecord : TokenRecord → Type 0
IsRecord r = (record_form Two).Fits r

abbrev pub stored_record_form : TokenRecord → List ℕ
stored_record_form r = (record_form Two).encode r

-- and those that an older token stored
abbrev pub IsOldRecord : TokenRecord → Type 0
IsOldRecord r = (record_form One).Fits r

abbrev pub old_record_form : TokenRecord → List ℕ
old_record_form r = (record_form One).encode r

-- the record with a stored form
unfoldable pub record_stored_in : Version → List ℕ → Option TokenRecord
record_stored_in version bytes = whole (record_form version) bytes

abbrev pub record_stored : List ℕ → Option TokenRecord
record_stored = record_stored_in Two

abbrev pub record_old_stored : List ℕ → Option TokenRecord
record_old_stored = record_stored_in One

-- What a decoder returns is the record. It takes no memory.
abbrev pub DecodesRecord : {X : Type 0} → Result X DecodeFault → Option X → Type 0
DecodesRecord (Ok x) decoded = decoded ≡ Some x
DecodesRecord (Err faults.Form) decoded = decoded ≡ None
DecodesRecord (Err faults.Memory) decoded = ⊥

-- a value at the front, and the bytes after it, are what a format decodes
abbrev pub ReadsField : {X Y : Type 0} → (X → Y) → Option X → Option Y → Type 0
ReadsField view (Some x) decoded = decoded ≡ Some (view x)
ReadsField view None decoded = decoded ≡ None
