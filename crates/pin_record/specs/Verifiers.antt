-- What a PIN is checked against.
use Rattle.std.specs.Prelude.{◌≡◌, ℕ, ◌==◌, ◌||◌, Bool, true, List, [], length}
use Rattle.std.specs.Str.{bytes_eq}
use Rattle.hmac_sha2.specs.Pbkdf2.{pbkdf2}

-- a salt, a number of rounds, and the key that PBKDF2 makes of the PIN by them
pub record PinVerifier : Type 0 where
  pub salt : List ℕ
  pub rounds : ℕ
  pub key : List ℕ

-- the rounds of PBKDF2 for a new verifier, and those of verifiers that an older token made
abbrev pub new_rounds : ℕ
new_rounds = 20000

abbrev pub old_rounds : ℕ
old_rounds = 10000

-- the rounds that a verifier can have
abbrev pub is_rounds : ℕ → Bool
is_rounds n = (n == old_rounds) || (n == new_rounds)

-- what is true of every verifier
pub record IsVerifier (v : PinVerifier) : Type 0 where
  pub salt : length v.salt ≡ 16
  pub rounds : is_rounds v.rounds ≡ true
  pub key : length v.key ≡ 32

-- the verifier of a PIN
abbrev pub verifier_for : List ℕ → List ℕ → ℕ → PinVerifier
verifier_for pin salt rounds = record { salt = salt; rounds = rounds; key = pbkdf2 pin salt rounds }

-- whether the PIN is the one that the verifier was made of, as far as its key determines it
abbrev pub accepts : PinVerifier → List ℕ → Bool
accepts v pin = bytes_eq v.key (pbkdf2 pin v.salt v.rounds)

-- what stands in the place of a verifier that is masked
abbrev pub hidden_verifier : PinVerifier
hidden_verifier = record { salt = []; rounds = 0; key = [] }
