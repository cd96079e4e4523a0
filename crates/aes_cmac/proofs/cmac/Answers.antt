use Rattle.std.proofs.Common.{◌≡◌, ◌∙◌, ◌+◌, ◌*◌, ◌/◌, ℕ, ap, refl, drop, arith}
use Rattle.std.proofs.lemmas.List.{take_rest}
use Rattle.aes_cmac.specs.Cmac.{chained}
use Rattle.aes_cmac.proofs.Messages.{blocks_before}
use Rattle.aes_cmac.proofs.cmac.Goals as goal

pub returns : goal.returns
unfolding chained
returns c =
    let key = c.args.key.now in
    let message = c.args.message.now in
    let n : ℕ = c.saturating_sub-before.result / 16 in
    let before = ap (λ l. l / 16) c.saturating_sub-before.ensures ∙ blocks_before message in
    let sum : 0 + n ≡ n = omega arith in
    c.tag_of_end.ensures message
    (c.chained_on-chain.ensures message 0 refl refl ∙ ap (chained key message) (sum ∙ before))
    (take_rest message (16 * n) ∙ ap (λ k. drop (16 * k) message) before)
