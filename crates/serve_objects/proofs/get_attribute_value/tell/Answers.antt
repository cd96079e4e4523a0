use Rattle.std.proofs.Common.{◌∙◌, ap, take, length-take, arith}
use Rattle.serve_objects.proofs.Short.{told-short}
use Rattle.model_answers.proofs.Telling.{codes-more, values-more}
use Rattle.serve_objects.proofs.get_attribute_value.tell.Goals as goal

pub loop-asked-preserved : goal.loop-asked-preserved
loop-asked-preserved c = record {
  code = c.code_of_both-code.ensures
      ∙ codes-more c.args.object.now c.args.query.now c.loop-asked.asked-index _ c.loop-asked-test.true c.loop-asked.code
      c.in_ok-own_code.own_code c.loop-asked.invariant.code (ap (λ t. t.0) c.in_ok-own_code.ensures);
  values = c.in_ok-push.ensures.ok
      ∙ values-more c.args.object.now c.args.query.now c.loop-asked.asked-index _ c.loop-asked-test.true _ c.in_ok-own_code.value
      c.loop-asked.invariant.values (ap (λ t. t.1) c.in_ok-own_code.ensures);
}

pub returns-clause-short : goal.returns-clause-short
returns-clause-short c few =
    let asked = take c.loop-asked.asked-index c.args.query.now in
    let size = length-take c.loop-asked.asked-index c.args.query.now in
    rw (c.loop-asked.invariant.code, c.loop-asked.invariant.values)
    (told-short c.args.object.now c.entries-entries.ensures.object asked (omega (arith, size, few)))
