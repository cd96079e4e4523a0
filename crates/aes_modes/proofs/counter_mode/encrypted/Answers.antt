use Rattle.std.proofs.Common.{◌∙◌, ◌≡◌, ◌+◌, ◌/◌, ◌%◌, ◌^◌, ◌<◌, ◌≤◌, ◌++◌, ap, refl, sym, arith, length, List, [], ℕ, false, ◌==◌}
use Rattle.std.proofs.lemmas.Bool.{eqb-true}
use Rattle.std.proofs.lemmas.Bool.Decides.{nat_tests}
use Rattle.std.specs.Int.{w128, to_be_bytes, from_be_bytes}
use Rattle.fips_197.specs.Bytes.{xor_bytes}
use Rattle.fips_197.specs.Encrypt.{encrypted_block}
use Rattle.fips_197.specs.Texts.{block_of}
use Rattle.aes_modes.specs.Blocks.{first_blocks}
use Rattle.aes_modes.specs.Counter.{counter_start}
use Rattle.aes_modes.specs.Modes.{ctr_blocks, output_block}
use Rattle.aes_modes.proofs.CounterNumbers.{counter-fits, counter_block-sum}
use Rattle.aes_modes.proofs.CounterTexts.{ctr_encrypted-last, ctr_encrypted-whole}
use Rattle.aes_modes.proofs.CountedTexts.{counters-fit, ctr_blocks-counted}
use Rattle.aes_modes.proofs.counter_mode.encrypted.Goals as goal

pub push_counted-requires-clause-counters : goal.push_counted-requires-clause-counters
push_counted-requires-clause-counters c =
    counters-fit c.from_be_bytes-first.result c.args.start c.args.bits (length c.args.text.now / 16) c.requires.bits (omega arith)
    c.from_be_bytes-first.ensures (omega (arith, c.requires.counters))

-- the whole blocks
whole_blocks : (key : List ℕ) (m : ℕ) (start text out none : List ℕ) (v : ℕ) → none ≡ []
    → out ≡ none ++ first_blocks (λ i. xor_bytes (block_of text i) (encrypted_block key (to_be_bytes w128 (v + i)))) (length text / 16)
    → v ≡ from_be_bytes w128 start → counter_start m start + length text / 16 ≤ 2 ^ m
    → out ≡ ctr_blocks key m start text (length text / 16)
whole_blocks key m start text out none v nothing is e within =
    is ∙ ap (λ l. l ++ first_blocks (λ i. xor_bytes (block_of text i) (encrypted_block key (to_be_bytes w128 (v + i))))
    (length text / 16)) nothing
    ∙ ctr_blocks-counted key m start text v (length text / 16) e within

-- a number is above 0 where the test finds that it isn't 0
some : (n : ℕ) → false ≡ (n == 0) → 0 < n
some n test = grind (arith, nat_tests)

pub overflow_add-first : goal.overflow_add-first
overflow_add-first c =
    let more : 0 < length c.args.text.now % 16 = omega (arith, c.rest_of-rest.ensures.size, some _ c.if-is_empty.ensures) in
    let fits = counter-fits c.from_be_bytes-first.result c.args.start c.args.bits (length c.args.text.now / 16) c.requires.bits
    (omega arith)
    c.from_be_bytes-first.ensures (omega (arith, c.requires.counters)) in
    omega (arith, fits)

pub returns-then-is_empty : goal.returns-then-is_empty
returns-then-is_empty c =
    let key = c.args.key.now in
    let text = c.args.text.now in
    let none : length text % 16 ≡ 0 = omega (arith, c.rest_of-rest.ensures.size, eqb-true _ _ (sym c.if-is_empty.ensures)) in
    whole_blocks key c.args.bits c.args.start text c.push_counted.new.out.items _ c.from_be_bytes-first.result c.in_ok-out.ensures.items
    c.in_ok-push_counted.ensures c.from_be_bytes-first.ensures (omega (arith, c.requires.counters))
    ∙ ctr_encrypted-whole key c.args.bits c.args.start text none

pub returns : goal.returns
unfolding output_block
returns c =
    let key = c.args.key.now in
    let bits = c.args.bits in
    let start = c.args.start in
    let text = c.args.text.now in
    let rest = c.rest_of-rest.result.now in
    let block = to_be_bytes w128 c.encrypt_number-output.result in
    let more : 0 < length rest = some _ c.if-is_empty.ensures in
    let within : counter_start bits start + length text / 16 < 2 ^ bits = omega (arith, c.requires.counters, c.rest_of-rest.ensures.size) in
    let counter = ap (λ v. to_be_bytes w128 (v + length text / 16)) c.from_be_bytes-first.ensures
    ∙ counter_block-sum bits start (length text / 16) within in
    let output = c.encrypt_number-output.ensures ∙ ap (encrypted_block key) counter in
    let last = c.to_be_bytes-last.ensures ∙ c.xor_number.ensures ∙ ap (λ b. xor_bytes b block) c.filled_block.ensures in
    let before = whole_blocks key bits start text c.push_counted.new.out.items _ c.from_be_bytes-first.result c.in_ok-out.ensures.items
    c.in_ok-push_counted.ensures c.from_be_bytes-first.ensures (omega (arith, within)) in
    c.in_ok-extend_from_slice.ensures.items
    ∙ ctr_encrypted-last key bits start text c.push_counted.new.out.items rest block c.to_be_bytes-last.result before
    c.rest_of-rest.ensures.value c.rest_of-rest.ensures.size more output refl last
