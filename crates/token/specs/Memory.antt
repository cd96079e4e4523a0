-- Which calls take no memory.
use Rattle.std.specs.Prelude.{Bool, true, false, is_none}
use Rattle.ck_calls.specs.declared.call.Call.{Call}
use Rattle.ck_calls.specs.declared.call.Call.TheVariants as calls

-- A call that returns a state, the token's record or a mechanism's key sizes; that ends something; or that asks for the length
-- of an output alone (PKCS #11 v3.1, 5.2). It makes no object and no job, and returns no list.
abbrev pub takes_no_memory : Call → Bool
takes_no_memory (calls.GetTokenInfo slot) = true
takes_no_memory (calls.GetMechanismInfo slot mechanism) = true
takes_no_memory (calls.CloseSession session) = true
takes_no_memory (calls.CloseAllSessions slot) = true
takes_no_memory (calls.GetSessionInfo session) = true
takes_no_memory (calls.Logout session) = true
takes_no_memory (calls.FindObjectsFinal session) = true
-- without a mechanism an operation ends
takes_no_memory (calls.EncryptInit session mechanism key) = is_none mechanism
takes_no_memory (calls.DecryptInit session mechanism key) = is_none mechanism
takes_no_memory (calls.SignInit session mechanism key) = is_none mechanism
takes_no_memory (calls.VerifyInit session mechanism key) = is_none mechanism
-- without a buffer a length is returned
takes_no_memory (calls.Encrypt session input buffer_len) = is_none buffer_len
takes_no_memory (calls.EncryptUpdate session part buffer_len) = is_none buffer_len
takes_no_memory (calls.EncryptFinal session buffer_len) = is_none buffer_len
takes_no_memory (calls.Decrypt session input buffer_len) = is_none buffer_len
takes_no_memory (calls.DecryptUpdate session encrypted_part buffer_len) = is_none buffer_len
takes_no_memory (calls.DecryptFinal session buffer_len) = is_none buffer_len
takes_no_memory (calls.Sign session input buffer_len) = is_none buffer_len
takes_no_memory (calls.SignFinal session buffer_len) = is_none buffer_len
takes_no_memory _ = false
