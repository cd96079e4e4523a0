use Rattle.std.proofs.Common.{◌∙◌, ◌-◌, ◌/◌, ◌^◌, ◌<◌, bit_and, arith, eq-eqb, le-leb}
use Rattle.std.proofs.lemmas.Bool.{leb-true}
use Rattle.aes_modes.specs.Counter.{counter_start}
use Rattle.aes_modes.proofs.CounterNumbers.{counter_start-below, further}
use Rattle.aes_modes.proofs.counter.has_counters.Goals as goal

pub returns-then-blocks-eq0-clause-answer : goal.returns-then-blocks-eq0-clause-answer
returns-then-blocks-eq0-clause-answer c =
    let below = counter_start-below c.args.bits c.args.start in
    (λ _. omega (arith, c.if-blocks-eq0.true), λ _. eq-eqb c.args.blocks 0 c.if-blocks-eq0.true)

pub returns-else-blocks-eq0-clause-answer : goal.returns-else-blocks-eq0-clause-answer
returns-else-blocks-eq0-clause-answer c =
    let bits = c.args.bits in
    let s = counter_start bits c.args.start in
    let below : s < 2 ^ bits = counter_start-below bits c.args.start in
    let is = (λ t. (2 ^ 128 - 1) / 2 ^ (128 - c.number.ensures.value t)
    - bit_and (c.from_be_bytes.ensures t) ((2 ^ 128 - 1) / 2 ^ (128 - c.number.ensures.value t)))
    ∙ further bits c.args.start (omega (arith, c.number.ensures.value, c.number.ensures.range)) in
    (λ t. omega (arith, is, leb-true _ _ t, c.if-blocks-eq0.false), λ le. le-leb _ _ (omega (arith, is)))
