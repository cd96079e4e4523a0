use Rattle.std.proofs.Common.{sym, ◌∙◌}
use Rattle.find.specs.MatchingLaws.{template_matches-mask}
use Rattle.find.proofs.matching.matches.Goals as goal

pub returns-clause-on_mask : goal.returns-clause-on_mask
returns-clause-on_mask c = (rw c.as_slice.ensures at c.matches_all.ensures)
    ∙ sym (template_matches-mask c.args.template.now c.args.object.now)
