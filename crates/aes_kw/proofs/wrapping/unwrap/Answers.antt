use Rattle.std.proofs.Common.{◌≡◌, ◌+◌, ◌-◌, ◌*◌, ◌/◌, ◌∙◌, ap, sym, arith, length, take, suc}
use Rattle.std.proofs.lemmas.Bool.{false≢true}
use Rattle.aes_kw.specs.KeyWrap.{half, after_steps, wrapped}
use Rattle.aes_kw.proofs.Rows.{written-back, first-dropped}
use Rattle.aes_kw.proofs.Only.{start, back-more, only-more, wrapped-row, row-from-wrapped, first-from-start, rest-from-start}
use Rattle.aes_kw.proofs.wrapping.unwrap.Goals as goal

pub steps-preserved : goal.steps-preserved
steps-preserved c =
    let key = c.args.key.now in
    let n = length c.args.bytes.now / 8 - 1 in
    let next : 6 * n - c.steps.undone ≡ suc (6 * n - (c.steps.undone + 1)) = omega arith in
    let t = 6 * n - c.steps.undone in
    let s = 6 * n - (c.steps.undone + 1) in
    let old = c.steps.registers.items in
    let new = c.step_back.new.registers in
    let row = written-back new old c.steps.registers.len (omega arith) in
    let was = c.deref_mut.ensures.value in
    record {
      size = ap length row ∙ omega (arith, c.steps.invariant.size);
      back = λ x h. c.steps.invariant.back x (back-more key n t s next old new x (c.step_back.ensures.back ∙ was) (h ∙ row));
      only = λ x bytes size is.
          only-more key n t s next old new x c.is_key.ensures (omega arith) bytes size
          (λ y hb hs e. c.step_back.ensures.only y hb hs (e ∙ sym was)) (c.steps.invariant.only x bytes size is)
          ∙ sym row;
    }

pub returns-then-not-same_bytes-clause-bad_check : goal.returns-then-not-same_bytes-clause-bad_check
returns-then-not-same_bytes-clause-bad_check c = λ _ x value is.
    let key = c.args.key.now in
    let bytes = c.args.bytes.now in
    let n = length bytes / 8 - 1 in
    let row = c.steps.registers.items in
    let end : 6 * n - c.steps.undone ≡ 0 = omega arith in
    let first = c.half_at.ensures ∙ ap (λ r. half r 0) c.deref.ensures.value in
    let start_is = row-from-wrapped key row bytes x n c.is_key.ensures (omega arith) value
    (λ y hb hs e. sym (start key n y) ∙ ap (after_steps key n y) (sym end) ∙ c.steps.invariant.only y hb hs e) is in
    false≢true (sym c.if-not-same_bytes.true ∙ c.same_bytes.ensures.same.1 (first ∙ first-from-start row x start_is))

pub returns-clause-value : goal.returns-clause-value
returns-clause-value c =
    let key = c.args.key.now in
    let bytes = c.args.bytes.now in
    let n = length bytes / 8 - 1 in
    let row = c.steps.registers.items in
    let end : 6 * n - c.steps.undone ≡ 0 = omega arith in
    let first = c.half_at.ensures ∙ ap (λ r. half r 0) c.deref.ensures.value in
    let cut = c.truncate.ensures.items ∙ ap (take (8 * n)) c.rotate_left.ensures.items ∙ first-dropped row n c.steps.invariant.size in
    ap (wrapped key) cut
    ∙ wrapped-row key row bytes n c.steps.invariant.size (sym first ∙ c.same_bytes.ensures.same.0 c.if-not-same_bytes.false)
    (c.steps.invariant.back row (ap (after_steps key n row) end ∙ start key n row))

pub returns-clause-only : goal.returns-clause-only
returns-clause-only c = λ x value is.
    let key = c.args.key.now in
    let bytes = c.args.bytes.now in
    let n = length bytes / 8 - 1 in
    let row = c.steps.registers.items in
    let end : 6 * n - c.steps.undone ≡ 0 = omega arith in
    let cut = c.truncate.ensures.items ∙ ap (take (8 * n)) c.rotate_left.ensures.items ∙ first-dropped row n c.steps.invariant.size in
    let start_is = row-from-wrapped key row bytes x n c.is_key.ensures (omega arith) value
    (λ y hb hs e. sym (start key n y) ∙ ap (after_steps key n y) (sym end) ∙ c.steps.invariant.only y hb hs e) is in
    rest-from-start row x start_is ∙ sym cut
