use Rattle.std.proofs.Common.{◌≡◌, ◌+◌, ◌*◌, ◌/◌, ◌++◌, ◌∙◌, ap, sym, arith, length, suc}
use Rattle.aes_kw.specs.KeyWrap.{step, after_steps, initial_value, wrapped}
use Rattle.aes_kw.proofs.Rows.{written-back}
use Rattle.aes_kw.proofs.wrapping.wrap.Goals as goal

pub steps-init : goal.steps-init
unfolding after_steps
steps-init c =
    let value = c.args.value.now in
    let row = c.in_ok-extend_from_slice-2.ensures.items
    ∙ ap (λ r. r ++ value) (c.in_ok-extend_from_slice.ensures.items ∙ ap (λ r. r ++ initial_value) c.in_ok-registers.ensures.items) in
    record { size = ap length row ∙ omega arith; registers = row }

pub steps-preserved : goal.steps-preserved
unfolding after_steps
steps-preserved c =
    let key = c.args.key.now in
    let n = length c.args.value.now / 8 in
    let done = c.steps.done in
    let next : suc done ≡ done + 1 = omega arith in
    let start = initial_value ++ c.args.value.now in
    let row = written-back c.step.new.registers c.steps.registers.items c.steps.registers.len (omega arith) in
    record {
      size = ap length row ∙ omega (arith, c.steps.invariant.size);
      registers = row ∙ c.step.ensures ∙ ap (step key n (done + 1)) (c.deref_mut.ensures.value ∙ c.steps.invariant.registers)
          ∙ ap (λ t. step key n t (after_steps key n start done)) (sym next) ∙ ap (after_steps key n start) next;
    }

pub returns-clause-value : goal.returns-clause-value
unfolding wrapped
returns-clause-value c =
    let n = length c.args.value.now / 8 in
    let end : c.steps.done ≡ 6 * n = omega arith in
    c.steps.invariant.registers ∙ ap (after_steps c.args.key.now n (initial_value ++ c.args.value.now)) end
