use Rattle.std.proofs.Common.{◌∙◌, ap}
use Rattle.find.specs.Codes.{codes_match}
use Rattle.find.specs.CodeLaws.{codes_match-decided}
use Rattle.find.proofs.marks.Mark.is_found.Goals as goal

pub returns-clause-decides : goal.returns-clause-decides
returns-clause-decides c object has decided =
    c.has_codes_of.ensures ∙ ap (λ m. codes_match m.codes c.args.template.now) has
    ∙ codes_match-decided object c.args.template.now decided
