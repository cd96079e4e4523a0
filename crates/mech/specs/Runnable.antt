-- Which work can be done.
use Rattle.std.specs.Prelude.{Bool, true, not, ◌||◌, ◌&&◌, ◌==◌, ◌-◌, ◌%◌, nat_le, [], length, is_none}
use Rattle.mech.specs.declared.work.Work.{Work}
use Rattle.mech.specs.declared.work.Work.TheVariants.{Cipher, Take, Sign, Verify, Wrap, Unwrap, CheckPin, MakePin, ChangePin, InitToken, ResetToken}
use Rattle.mech.specs.Wrappings.{is_value_length}
use Rattle.ops.specs.Texts.{refuses_length, ends_counters}
use Rattle.templates.specs.declared.making.Making.TheVariants as call
use Rattle.templates.specs.Faults.{template_fault}

-- data that the mechanism takes: of a length of its texts, where it is the last, and with a counter for each block; a value
-- that can be wrapped; the wrapping of such a value, of which the template makes a key; and whatever there is to do with a
-- message or a PIN
abbrev pub is_runnable : Work → Bool
is_runnable (Cipher stream part input) = not (refuses_length part stream (length input) || ends_counters stream input)
is_runnable (Take place mac input) = true
is_runnable (Sign mac input) = true
is_runnable (Verify mac input signature) = true
is_runnable (Wrap key value) = is_value_length (length value)
is_runnable (Unwrap key wrapped state template random) =
    (nat_le 24 (length wrapped) && (length wrapped % 8 == 0)) && is_none
    (template_fault (call.Unwrap (length wrapped - 8)) state [] template)
is_runnable (CheckPin who verifier pin) = true
is_runnable (MakePin pin salt) = true
is_runnable (ChangePin who verifier pin new_pin salt) = true
is_runnable (InitToken label pin salt) = true
is_runnable (ResetToken label verifier pin) = true
