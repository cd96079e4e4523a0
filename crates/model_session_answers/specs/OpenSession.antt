-- C_OpenSession (PKCS #11 v3.1, 5.6).
use Rattle.std.specs.Prelude.{bit_and, bit_or, ℕ, Bool, false, ◌&&◌, ◌==◌, not, nat_le, length}
use Rattle.ck_types.specs.declared.constants.TheConstants.{MAX_SESSION_COUNT}
use Rattle.ck_calls.specs.declared.function.Function.TheVariants.{OpenSession}
use Rattle.ck_calls.specs.declared.reply.Reply.TheVariants.{Session as SessionReply}
use Rattle.precede.specs.declared.condition.Condition.TheVariants.{NoSlot, NotSerial, UnknownFlag, SoLoggedIn, SessionLimit}
use Rattle.sessions.specs.Sessions.{with_session}
use Rattle.model_session_answers.specs.Pins.{is_so}
use Rattle.model_views.specs.Calls.{Condition, View, Answer, becomes, checked, no_operations}

-- the only slot
abbrev pub is_slot : ℕ → Bool
is_slot slot = slot == 0

-- the condition of a call that names a slot alone
abbrev pub slot_row : ℕ → Condition → Bool
slot_row slot NoSlot = not (is_slot slot)
slot_row slot _ = false

-- the flags CKF_SERIAL_SESSION, 4, and CKF_RW_SESSION, 2, and all others
abbrev pub is_serial : ℕ → Bool
is_serial flags = not (bit_and flags 4 == 0)

abbrev pub is_read_write : ℕ → Bool
is_read_write flags = not (bit_and flags 2 == 0)

abbrev pub has_other_flags : ℕ → Bool
has_other_flags flags = not (bit_or flags 6 == 6)

abbrev pub open_row : View → ℕ → ℕ → Condition → Bool
open_row v slot flags NoSlot = not (is_slot slot)
open_row v slot flags NotSerial = not (is_serial flags)
open_row v slot flags UnknownFlag = has_other_flags flags
open_row v slot flags SoLoggedIn = is_so v.sessions.login && not (is_read_write flags)
open_row v slot flags SessionLimit = nat_le MAX_SESSION_COUNT (length v.sessions.sessions)
open_row v slot flags _ = false

-- the next number, and a session with nothing in progress
abbrev pub opened : View → Bool → Answer
opened v read_write = becomes (SessionReply v.sessions.next_number)
    (record v { sessions = with_session no_operations v.sessions read_write })

abbrev pub open_session : View → ℕ → ℕ → Answer
open_session v slot flags = checked OpenSession (open_row v slot flags) v (opened v (is_read_write flags))
