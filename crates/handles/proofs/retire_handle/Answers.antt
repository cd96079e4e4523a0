use Rattle.handles.proofs.EntryLemmas.{absent-left, retired-left, retired-numbers}
use Rattle.handles.proofs.retire_handle.Goals as goal

pub returns-in-Ok-clause-left : goal.returns-in-Ok-clause-left
returns-in-Ok-clause-left c =
    let index = rw c.deref.ensures.value at c.in-Ok.ensures in
    retired-left (λ h. h.handle) c.args.handle c.args.entries.now.items c.requires c.in-Ok.at index c.index_mut.result.now
    c.index_mut.ensures.value

pub returns-in-Ok-clause-numbers : goal.returns-in-Ok-clause-numbers
returns-in-Ok-clause-numbers c = λ next numbers.
    let index = rw c.deref.ensures.value at c.in-Ok.ensures in
    retired-numbers (λ h. h.handle) c.args.handle c.args.entries.now.items c.requires c.in-Ok.at index c.index_mut.result.now
    c.index_mut.ensures.value next numbers

pub returns-in_default-clause-left : goal.returns-in_default-clause-left
returns-in_default-clause-left c =
    let gap = rw c.deref.ensures.value at c.in_default.ensures in
    absent-left (λ h. h.handle) c.args.handle c.args.entries.now.items gap.1
