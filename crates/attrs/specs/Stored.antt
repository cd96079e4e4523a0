-- The stored form of an object, format 2: a byte 2, a count of 16 bits, then each attribute by rising
-- number: its number and the length of its value in 32 bits, and the value. All big-endian.
use Rattle.std.specs.Prelude.{◌≡◌, ℕ, ◌==◌, List, [], ◌∷◌, Option, Some, None, Result, Ok, Err, if◌then◌else◌}
use Rattle.ck_types.specs.declared.entry.Entry.{Entry}
use Rattle.ck_types.specs.Format.{Format, number16, number32, byte_string, pair, mapped, counted, whole}
use Rattle.attrs.specs.declared.fault.DecodeFault.{DecodeFault}
use Rattle.attrs.specs.declared.fault.DecodeFault.TheVariants as faults
use Rattle.attrs.specs.Objects.{is_object}

abbrev pub stored_entry : Format Entry
stored_entry = mapped (pair number32 byte_string) (λ p. record { attr_type = p.0; value = p.1 }) (λ e. (e.attr_type, e.value))

abbrev pub stored_entries : Format (List Entry)
stored_entries = counted number16 stored_entry

abbrev pub stored_form : List Entry → List ℕ
stored_form es = 2 ∷ stored_entries.encode es

abbrev pub if_object : Option (List Entry) → Option (List Entry)
if_object None = None
if_object (Some es) = if is_object es then Some es else None

-- the object with a stored form
unfoldable pub object_stored : List ℕ → Option (List Entry)
object_stored [] = None
object_stored (b ∷ bytes) = if b == 2 then if_object (whole stored_entries bytes) else None

-- what a decoder returns is the object, unless memory runs out
abbrev pub DecodesObject : {X : Type 0} → Result X DecodeFault → Option X → Type 0
DecodesObject (Ok x) o = o ≡ Some x
DecodesObject (Err faults.Form) o = o ≡ None
DecodesObject (Err faults.Memory) o = Unit {0}
