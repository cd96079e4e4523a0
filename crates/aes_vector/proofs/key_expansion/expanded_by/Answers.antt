use Rattle.std.proofs.Common.{◌≡◌, ◌+◌, ◌-◌, ◌*◌, ◌/◌, length, take, ap, ◌∙◌, arith}
use borrow.Rule.Slice.PartMut.{same_len_mid, mid_of}
use Rattle.std.proofs.lemmas.List.{length-take-le, length-drop}
use Rattle.std.proofs.lemmas.Slice.{take-put_mid}
use Rattle.fips_197.specs.Bytes.{xor_bytes}
use Rattle.fips_197.specs.KeyExpansion.{expansion_term, expanded_words}
use Rattle.aes_vector.proofs.ScheduleBytes.{expanded_word-step, key_expansion-end}
use Rattle.aes_vector.proofs.key_expansion.expanded_by.Goals as goal

pub schedule-init : goal.schedule-init
unfolding expanded_words
schedule-init g c =
    let key = c.args.key.now in
    let size : 4 * g.row.NK ≡ length key = omega (arith, c.requires.size) in
    let none : 0 ≡ g.row.NK - g.row.NK = omega arith in
    record {
      size = omega arith;
      so_far = ap (λ n. take n c.begun-schedule.result) size ∙ c.begun-schedule.ensures ∙ ap (expanded_words key g.row.NK) none;
    }

pub schedule-preserved : goal.schedule-preserved
schedule-preserved g c =
    let s = c.schedule.schedule in
    let i = c.schedule.i in
    let w = c.copy_from_slice.new.self in
    let from = 4 * i in
    let k = from + 4 - from in
    let long : length w ≡ 4 = omega (arith, c.copy_from_slice.ensures.len) in
    let next : 4 * (i + 1) ≡ from + length w = omega (arith, long) in
    let part : length (mid_of from k s) ≡ k = length-take-le k _ (omega (arith, length-drop from s, c.schedule.invariant.size)) in
    record {
      size = same_len_mid from k s w (omega (arith, part, long)) ∙ c.schedule.invariant.size;
      so_far = take-put_mid from k s w (4 * (i + 1)) next (omega (arith, c.schedule.invariant.size))
          ∙ expanded_word-step c.args.key.now s g.row.NK i w c.expansion_term-term.result (omega (arith, c.requires))
          (omega arith) c.schedule.invariant.so_far
          (c.copy_from_slice.ensures.after ∙ c.xor_words-next.ensures
          ∙ (λ t. xor_bytes (c.word_at-in-schedule.ensures t) c.expansion_term-term.result))
          (c.expansion_term-term.ensures ∙ ap (expansion_term g.row.NK i) c.word_at.ensures);
    }

pub returns : goal.returns
returns g c =
    let words : g.row.NK ≡ length c.args.key.now / 4 = omega (arith, c.requires.size) in
    key_expansion-end c.args.key.now c.schedule.schedule g.row.NK c.schedule.i words
    (omega (arith, c.requires)) c.schedule.invariant.so_far
