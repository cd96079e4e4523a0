use Rattle.std.proofs.Common.{ap, ◌∙◌, ◌≡◌, ◌+◌, ◌-◌, suc, arith, sym, subst}
use Rattle.fips_197.specs.Bytes.{IsBlock}
use Rattle.fips_197.specs.Cipher.{add_round_key, round_key}
use Rattle.fips_197.specs.InverseCipher.{inverse_mix_columns, inverse_round, inverse_last_round, inverse_state_after, inverse_cipher}
use Rattle.aes_block.specs.Words.{words_bytes}
use Rattle.aes_block.proofs.RoundWords.{IsBlock-state_bytes}
use Rattle.aes_block.proofs.cipher.decrypt.Goals as goal

pub rounds-init : goal.rounds-init
unfolding inverse_state_after
rounds-init c = c.add_round_key-s.ensures ∙ (λ i. add_round_key (c.from_block.ensures i) (c.round_key.ensures i))

pub rounds-preserved : goal.rounds-preserved
unfolding inverse_state_after
rounds-preserved c =
    let w = words_bytes c.args.schedule.now in
    let next : c.rounds.i + 1 - 1 ≡ suc (c.rounds.i - 1) = omega arith in
    let here : c.args.rounds - c.rounds.i ≡ c.args.rounds - suc (c.rounds.i - 1) = omega arith in
    let key = c.round_key-in-rounds.ensures ∙ c.requires.inverse (c.args.rounds - c.rounds.i) (omega arith) (omega arith)
    ∙ ap (λ r. inverse_mix_columns (round_key w r)) here in
    c.inverse_round-s.ensures
    ∙ (λ t. inverse_round (key t) (c.rounds.invariant t))
    ∙ ap (inverse_state_after w c.args.rounds c.args.block) (sym next)

pub returns-clause-value : goal.returns-clause-value
unfolding inverse_cipher
returns-clause-value c =
    let w = words_bytes c.args.schedule.now in
    let end : c.rounds.i ≡ c.args.rounds = omega arith in
    c.to_block.ensures ∙ c.inverse_last_round.ensures
    ∙ (λ t. inverse_last_round (c.round_key-2.ensures t) (c.rounds.invariant t))
    ∙ (λ t. inverse_last_round (round_key w 0) (inverse_state_after w c.args.rounds c.args.block (end t - 1)))

pub returns-clause-blocks : goal.returns-clause-blocks
returns-clause-blocks c = (
  subst IsBlock c.from_block.ensures (IsBlock-state_bytes c.from_block.result),
  subst IsBlock (sym c.to_block.ensures) (IsBlock-state_bytes c.inverse_last_round.result),
)
