-- C_GenerateRandom.
use Rattle.std.proofs.Common.{◌≡◌, ℕ, true, List, refl}
use Rattle.ck_calls.specs.declared.function.Function.TheVariants.{GenerateRandom}
use Rattle.ck_calls.specs.declared.reply.Reply.TheVariants.{Random}
use Rattle.precede.specs.declared.condition.Condition.TheVariants.{NoSession}
use Rattle.model_session_answers.specs.GenerateRandom.{random_row, generate_random}
use Rattle.model_views.proofs.Checks.{Condition, View, mask, replies, IsProper, blind-reply, fair, proper-checked, row-session}

row-mask : (s len : ℕ) (v : View) (row : Condition) → random_row (mask v) s len row ≡ random_row v s len row
row-mask s len v NoSession = row-session v s
row-mask s len v _ = refl

pub proper-generate_random : (s len : ℕ) (random : List ℕ) → IsProper (λ v r. generate_random v s len random) true
proper-generate_random s len random =
    proper-checked GenerateRandom (λ v. random_row v s len) (λ v. replies v (Random random)) (row-mask s len)
    (λ v. blind-reply v (Random random)) (λ v. fair v {a = replies v (Random random)} refl refl refl refl refl)
