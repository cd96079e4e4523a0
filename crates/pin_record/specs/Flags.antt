-- The flags of a token that is seen by its record (PKCS #11 v3.1, 3.2: CK_TOKEN_INFO).
use Rattle.std.specs.Prelude.{ℕ, ◌-◌, ◌==◌, Bool, true, List, [], ◌∷◌, nat_lt, bit_or, if◌then◌else◌}
use Rattle.pin_record.specs.Records.{RecordView, tries_limit}

-- each flag that can be set, and whether it is
abbrev pub record_flags : RecordView → List (ℕ × Bool)
record_flags v =
    -- CKF_RNG, CKF_LOGIN_REQUIRED
    (0x1, true) ∷ (0x4, true) ∷
    -- CKF_USER_PIN_INITIALIZED, CKF_TOKEN_INITIALIZED
    (0x8, v.user_pin_set) ∷ (0x400, v.initialized) ∷
    -- CKF_USER_PIN_COUNT_LOW, CKF_USER_PIN_FINAL_TRY, CKF_USER_PIN_LOCKED
    (0x10000, nat_lt 0 v.user_tries) ∷ (0x20000, v.user_tries == tries_limit - 1) ∷ (0x40000, v.user_tries == tries_limit) ∷
    -- CKF_SO_PIN_COUNT_LOW, CKF_SO_PIN_FINAL_TRY, CKF_SO_PIN_LOCKED
    (0x100000, nat_lt 0 v.so_tries) ∷ (0x200000, v.so_tries == tries_limit - 1) ∷ (0x400000, v.so_tries == tries_limit) ∷ []

-- the flags that are set, as one number
abbrev pub union : List (ℕ × Bool) → ℕ
union [] = 0
union (f ∷ fs) = bit_or (if f.1 then f.0 else 0) (union fs)

abbrev pub token_flags : RecordView → ℕ
token_flags v = union (record_flags v)
