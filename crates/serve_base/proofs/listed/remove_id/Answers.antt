use Rattle.std.proofs.Common.{true}
use Rattle.serve_base.specs.Listing.{id_in}
use Rattle.serve_base.proofs.Edits.{absent-left, found-key, written-at}
use Rattle.serve_base.proofs.listed.remove_id.Goals as goal

pub returns-in-Ok : goal.returns-in-Ok
returns-in-Ok c = λ rise.
    let xs = c.args.listed.now.items in
    let index = rw c.deref.ensures.value at (c.in-Ok.ensures.index (rw c.deref.ensures.value rise)) in
    written-at id_in (λ e. record {
      id = e.id;
      mark = e.mark;
      removed = true;
    }) c.args.id xs c.in-Ok.at c.index_mut.result.now rise index.0
    (λ d. found-key id_in c.args.id xs _ (index.1 d)) c.index_mut.ensures.value

pub returns-in_default : goal.returns-in_default
returns-in_default c = λ rise.
    let gap = rw c.deref.ensures.value at (c.in_default.ensures.index (rw c.deref.ensures.value rise)) in
    absent-left id_in (λ e. record { id = e.id; mark = e.mark; removed = true }) c.args.id c.args.listed.now.items gap.1
