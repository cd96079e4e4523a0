use Rattle.std.proofs.Common.{◌≡◌, ◌+◌, ◌-◌, suc, map, ap, sym, subst, ◌∙◌, arith}
use Rattle.fips_197.specs.Bytes.{IsBlock}
use Rattle.fips_197.specs.Cipher.{round_key, state_after, round, last_round, cipher}
use Rattle.fips_197.proofs.Steps.{IsBlock-add_round_key, IsBlock-round}
use Rattle.aes_vector.specs.Halves.{basis}
use Rattle.aes_vector.proofs.Rounds.{first-of, IsBlock-lanes}
use Rattle.aes_vector.proofs.cipher.enciphered.Goals as goal

pub rounds-init : goal.rounds-init
unfolding state_after
rounds-init c w p =
    let block = IsBlock-lanes c.args.block c.fits-block in
    let key = p.blocks 0 (omega arith) in (
      IsBlock-add_round_key c.args.block (round_key w 0) block key,
      first-of c.args.block (round_key w 0) c.in_tables.result _ block key c.in_tables.ensures (c.round_key.ensures ∙ p.first),
    )

pub rounds-preserved : goal.rounds-preserved
unfolding state_after
rounds-preserved c w p =
    let r = c.rounds.r in
    let before = state_after w c.args.block (r - 1) in
    let known = c.rounds.invariant w p in
    let key = p.blocks r (omega arith) in
    let next : r + 1 - 1 ≡ suc (r - 1) = omega arith in
    let here : suc (r - 1) ≡ r = omega arith in
    let e : round (round_key w r) before ≡ state_after w c.args.block (r + 1 - 1) =
    ap (λ j. round (round_key w j) before) (sym here) ∙ ap (state_after w c.args.block) (sym next) in (
      subst IsBlock e (IsBlock-round (round_key w r) before key known.0),
      c.round-x.ensures before (round_key w r) known.0 key known.1
          (c.round_key-in-rounds.ensures ∙ p.middle r (omega arith) (omega arith)) ∙ ap (map basis) e,
    )

pub returns : goal.returns
unfolding cipher
returns c w p =
    let r = c.rounds.r in
    let end : r ≡ c.args.rounds = omega arith in
    let known = c.rounds.invariant w p in
    c.last_round.ensures (state_after w c.args.block (r - 1)) (round_key w c.args.rounds) known.0
    (p.blocks c.args.rounds (omega arith)) known.1 (c.round_key-2.ensures ∙ p.last)
    ∙ (λ i. last_round (round_key w c.args.rounds) (state_after w c.args.block (end i - 1)))
