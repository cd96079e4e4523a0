use Rattle.std.proofs.Common.{◌∙◌}
use Rattle.handles.proofs.EntryLemmas.{absent-in, found-in}
use Rattle.handles.proofs.find_id.Goals as goal

pub returns-in-Ok : goal.returns-in-Ok
returns-in-Ok c = c.live.ensures ∙ found-in (λ h. h.id) c.args.id c.args.entries.now c.requires _ (c.in-Ok.ensures.1 _)

pub returns-in-Err : goal.returns-in-Err
returns-in-Err c = absent-in (λ h. h.id) c.args.id c.args.entries.now c.in-Err.ensures.1
