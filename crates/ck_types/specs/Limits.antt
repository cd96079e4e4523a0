-- The limits of this token. PKCS #11 v3.1 leaves them to a token: what C_GetTokenInfo tells of them is 3.2's CK_TOKEN_INFO.
use Rattle.std.specs.Prelude.{ℕ}

-- the lengths of a PIN, in bytes (ulMinPinLen and ulMaxPinLen)
abbrev pub shortest_pin : ℕ
shortest_pin = 4

abbrev pub longest_pin : ℕ
longest_pin = 64

-- the most sessions and session objects of an application (ulMaxSessionCount)
abbrev pub most_sessions : ℕ
most_sessions = 64

abbrev pub most_session_objects : ℕ
most_session_objects = 256

-- the most entries of a template, and attributes of a query
abbrev pub most_entries : ℕ
most_entries = 32

-- the longest secret key, in bytes
abbrev pub longest_secret : ℕ
longest_secret = 512

-- the most random bytes of a C_GenerateRandom
abbrev pub most_random_bytes : ℕ
most_random_bytes = 32768

-- the random bytes of a CKA_UNIQUE_ID, and of a PIN's salt
abbrev pub unique_id_bytes : ℕ
unique_id_bytes = 16
