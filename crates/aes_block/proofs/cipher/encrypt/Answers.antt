use Rattle.std.proofs.Common.{ap, ◌∙◌, ◌≡◌, ◌+◌, ◌-◌, suc, arith, sym}
use Rattle.fips_197.specs.Cipher.{add_round_key, state_after, round, round_key, last_round, cipher}
use Rattle.aes_block.specs.Words.{words_bytes, state_bytes}
use Rattle.aes_block.proofs.cipher.encrypt.Goals as goal

pub rounds-init : goal.rounds-init
unfolding state_after
rounds-init c = c.add_round_key-s.ensures ∙ ap (add_round_key (state_bytes c.args.state)) c.round_key.ensures

pub rounds-preserved : goal.rounds-preserved
unfolding state_after
rounds-preserved c =
    let w = words_bytes c.args.schedule.now in
    let block = state_bytes c.args.state in
    let next : c.rounds.r + 1 - 1 ≡ suc (c.rounds.r - 1) = omega arith in
    let here : suc (c.rounds.r - 1) ≡ c.rounds.r = omega arith in
    c.round-s.ensures
    ∙ (λ i. round (c.round_key-in-rounds.ensures i) (c.rounds.invariant i))
    ∙ (λ i. round (round_key w (sym here i)) (state_after w block (c.rounds.r - 1)))
    ∙ ap (state_after w block) (sym next)

pub returns : goal.returns
unfolding cipher
returns c =
    let w = words_bytes c.args.schedule.now in
    let end : c.rounds.r ≡ c.args.rounds = omega arith in
    c.last_round.ensures
    ∙ (λ i. last_round (c.round_key-2.ensures i) (c.rounds.invariant i))
    ∙ (λ i. last_round (round_key w c.args.rounds) (state_after w (state_bytes c.args.state) (end i - 1)))
