use Rattle.std.proofs.Common.{◌≡◌, ℕ, ◌+◌, ◌-◌, ◌/◌, ◌<◌, ◌++◌, ◌∙◌, List, ap, refl, arith, length, take, replicate}
use Rattle.std.specs.Int.{w128, to_be_bytes}
use Rattle.std.proofs.lemmas.List.{length-append, length-take-le}
use Rattle.fips_197.specs.Bytes.{xor_bytes}
use Rattle.fips_197.specs.Encrypt.{encrypted_block}
use Rattle.aes_modes.specs.Blocks.{first_blocks, blocks_begun}
use Rattle.streams_model.specs.Countings.{number_block}
use Rattle.streams_model.proofs.CtrLaw.{numbered-last}
use Rattle.streams.proofs.Counted.{IsWholeCounted, whole_counted}
use Rattle.streams.proofs.ctr_stream.joined_counters.Goals as goal
use Rattle.streams.proofs.ctr_stream.joined_counters.Goals.{After-len-3}

count : (c : After-len-3) → (c.len.result + length c.args.piece.now) / 16 ≡ length (c.args.kept.now ++ c.args.piece.now) / 16
count c = omega (arith, c.len.ensures.value, length-append c.args.kept.now c.args.piece.now)

whole : (c : After-len-3)
    → IsWholeCounted c.args.key.now c.args.number (c.args.kept.now ++ c.args.piece.now) c.push_counted.new.out.items c.behind-rest.result
whole c =
    whole_counted c.args.key.now c.args.number _ (c.args.kept.now ++ c.args.piece.now) c.push_counted.new.out.items c.behind-rest.result
    c.size-size.ensures.key (count c)
    (rw (c.as_slice.ensures, c.in_ok-out.ensures.items) at c.in_ok-push_counted.ensures) c.behind-rest.ensures

pub returns-then-len-eq0-clause-size : goal.returns-then-len-eq0-clause-size
returns-then-len-eq0-clause-size c =
    let h = whole (goal.at.returns-then-len-eq0-clause-size c).After-len-3 in
    omega (arith, h.size, h.left, c.len-3.ensures.value, c.if-len-eq0.true, length-append c.args.kept.now c.args.piece.now)

pub returns-then-len-eq0-clause-value : goal.returns-then-len-eq0-clause-value
returns-then-len-eq0-clause-value c =
    let text : List ℕ = c.args.kept.now ++ c.args.piece.now in
    let h = whole (goal.at.returns-then-len-eq0-clause-value c).After-len-3 in
    let begun : length text / 16 ≡ blocks_begun text = omega (arith, h.left, c.len-3.ensures.value, c.if-len-eq0.true) in
    h.is ∙ ap (first_blocks (number_block c.args.key.now c.args.number text)) begun

pub returns-clause-size : goal.returns-clause-size
returns-clause-size c =
    let h = whole (goal.at.returns-clause-size c).After-len-3 in
    let out : List ℕ = c.push_counted.new.out.items in
    let last : List ℕ = c.to_be_bytes-last.result in
    let m : ℕ = c.len-4.result in
    let wide : length last ≡ 16 = omega arith in
    let more : length (take m last) ≡ m = length-take-le m last (omega (arith, wide, h.left, c.len-4.ensures.value)) in
    ap length c.in_ok-extend_from_slice.ensures.items ∙ length-append out (take m last)
    ∙ omega (arith, h.size, more, h.left, c.len-4.ensures.value, length-append c.args.kept.now c.args.piece.now)

pub returns-clause-value : goal.returns-clause-value
returns-clause-value c =
    let h = whole (goal.at.returns-clause-value c).After-len-3 in
    let same = count (goal.at.returns-clause-value c).After-len-3 in
    let key = c.args.key.now in
    let out : List ℕ = c.push_counted.new.out.items in
    let rest : List ℕ = c.behind-rest.result in
    let last = c.to_be_bytes-last.result in
    let output = to_be_bytes w128 c.encrypt_number-output.result in
    let some : 0 < length rest = omega (arith, c.if-len-eq0.false, c.len-3.ensures.value) in
    c.in_ok-extend_from_slice.ensures.items ∙ ap (λ n. out ++ take n last) c.len-4.ensures.value
    ∙ numbered-last key (c.args.kept.now ++ c.args.piece.now) out rest output last c.args.number h.is h.behind some
    (c.encrypt_number-output.ensures ∙ ap (λ n. encrypted_block key (to_be_bytes w128 (c.args.number + n))) same) refl
    (c.to_be_bytes-last.ensures ∙ c.xor_number.ensures
    ∙ ap (λ b. xor_bytes b output) (c.filled_block.ensures ∙ ap (λ r. r ++ replicate (16 - length r) 0) c.as_slice-2.ensures))
