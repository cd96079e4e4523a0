-- Refusals; and resource errors: CKR_HOST_MEMORY and CKR_DEVICE_ERROR, which no answer returns (PKCS #11 v3.1, 5.1.1
-- and 5.1.3).
use Rattle.std.specs.Prelude.{Bool, true, false, Option, Some, None}
use Rattle.ck_types.specs.declared.rv.Rv.TheVariants.{Ok, HostMemory, DeviceError}
use Rattle.ck_calls.specs.declared.reply.Reply.{Reply}
use Rattle.ck_calls.specs.declared.reply.Reply.TheVariants.{Code}
use Rattle.model_views.specs.declared.fault.Fault.{Fault}
use Rattle.model_views.specs.declared.fault.Fault.TheVariants.{Memory, Device}
use Rattle.model_views.specs.Answering.{Said, Replies, Asks}

-- a code other than CKR_OK, and nothing with it
abbrev pub is_refusal : Reply → Bool
is_refusal (Code Ok) = false
is_refusal (Code _) = true
is_refusal _ = false

abbrev pub is_refused : Said → Bool
is_refused (Replies reply) = is_refusal reply
is_refused (Asks q) = false

abbrev pub refusal : Fault → Reply
refusal Memory = Code HostMemory
refusal Device = Code DeviceError

-- the replies that are resource errors, each with its fault: no other reply has these codes
abbrev pub resource_error : Reply → Option Fault
resource_error (Code HostMemory) = Some Memory
resource_error (Code DeviceError) = Some Device
resource_error _ = None

abbrev pub resource_error_in : Said → Option Fault
resource_error_in (Replies reply) = resource_error reply
resource_error_in (Asks q) = None
