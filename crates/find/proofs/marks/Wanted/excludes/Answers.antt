use Rattle.std.proofs.Common.{ap, sym, ◌∙◌}
use Rattle.find.specs.Marks.{excludes, mark_of}
use Rattle.find.specs.MarkLaws.{template_matches-excluded}
use Rattle.find.proofs.marks.Wanted.excludes.Goals as goal

pub returns-clause-passes_over : goal.returns-clause-passes_over
returns-clause-passes_over c template object wants has excluded =
    template_matches-excluded object template
    (ap (λ w. excludes w (mark_of object)) (sym wants)
    ∙ (ap (excludes c.args.self.now) (sym has) ∙ (sym c.wants_other.ensures ∙ excluded)))
