-- C_GenerateRandom (PKCS #11 v3.1, 5.19).
use Rattle.std.specs.Prelude.{ℕ, Bool, false, not, nat_le, List, is_none}
use Rattle.ck_types.specs.declared.constants.TheConstants.{MAX_RANDOM_LEN}
use Rattle.ck_calls.specs.declared.function.Function.TheVariants.{GenerateRandom}
use Rattle.ck_calls.specs.declared.reply.Reply.TheVariants.{Random}
use Rattle.precede.specs.declared.condition.Condition.TheVariants.{NoSession, RandomLength}
use Rattle.model_views.specs.Calls.{Condition, View, Answer, replies, session_of, checked}

abbrev pub random_row : View → ℕ → ℕ → Condition → Bool
random_row v s len NoSession = is_none (session_of v s)
random_row v s len RandomLength = not (nat_le len MAX_RANDOM_LEN)
random_row v s len _ = false

-- the random bytes of the call
abbrev pub generate_random : View → ℕ → ℕ → List ℕ → Answer
generate_random v s len random = checked GenerateRandom (random_row v s len) v (replies v (Random random))
