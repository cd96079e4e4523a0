use Rattle.std.proofs.Common.{◌≡◌, true, false, not, sym, ap, ◌∙◌, arith}
use Rattle.std.proofs.lemmas.Bool.{ne_eqb}
use Rattle.std.proofs.lemmas.Grind.{common_steps}
use Rattle.attrs.specs.Masking.{reveals}
use Rattle.attrs.specs.MaskingLaws.{is_masked-mask, reveals-none}
use Rattle.guard.proofs.masking.reveals_number.Goals as goal

pub returns-then-number-clause-on_mask : goal.returns-then-number-clause-on_mask
returns-then-number-clause-on_mask c = rw (is_masked-mask c.args.object.now) (grind (arith, common_steps))

pub returns-then-number-clause-withheld : goal.returns-then-number-clause-withheld
returns-then-number-clause-withheld c kept_back =
    let no : true ≡ false = sym (ap not (ne_eqb c.args.number c.number.result c.if-number.true)) ∙ kept_back in
    absurd cc

pub returns-else-number-clause-withheld : goal.returns-else-number-clause-withheld
returns-else-number-clause-withheld c kept_back =
    let withheld : reveals c.args.object.now c.args.number ≡ false = grind (arith, common_steps) in
    reveals-none c.args.object.now c.args.number withheld
