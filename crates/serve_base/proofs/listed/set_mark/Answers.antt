use Rattle.std.proofs.Common.{Some, ap, get_or}
use Rattle.serve_base.specs.Listing.{id_in}
use Rattle.serve_base.proofs.Edits.{absent-left, found-key, written-at}
use Rattle.serve_base.proofs.listed.set_mark.Goals as goal

pub returns-in-Ok : goal.returns-in-Ok
returns-in-Ok c = λ rise.
    let xs = c.args.listed.now in
    let index = c.in-Ok.ensures.index rise in
    written-at id_in (λ e. record {
      id = e.id;
      mark = Some c.args.mark;
      removed = e.removed;
    }) c.args.id xs c.in-Ok.at _ rise index.0 (λ d. found-key id_in c.args.id xs _ (index.1 d))
    (ap (λ d. get_or xs c.in-Ok.at d) c.index-listed-at.is)

pub returns-in_default : goal.returns-in_default
returns-in_default c = λ rise. absent-left id_in
    (λ e. record { id = e.id; mark = Some c.args.mark; removed = e.removed }) c.args.id c.args.listed.now
    (c.in_default.ensures.index rise).1
