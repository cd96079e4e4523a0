use Rattle.std.proofs.Common.{◌∙◌, Some, ap, sym}
use Rattle.handles.proofs.EntryLemmas.{absent-in, absent-left, found-in, retired-left, retired-rise}
use Rattle.handles.proofs.retire_id.Goals as goal

pub returns-in-Ok-clause-found : goal.returns-in-Ok-clause-found
returns-in-Ok-clause-found c =
    let index = rw c.deref.ensures.value at c.in-Ok.ensures in
    c.live-found.ensures ∙ found-in (λ h. h.id) c.args.id c.args.entries.now.items c.requires c.index.result.now
    (index.1 c.index.result.now ∙ ap Some (sym c.index.ensures))

pub returns-in-Ok-clause-left : goal.returns-in-Ok-clause-left
returns-in-Ok-clause-left c =
    let index = rw c.deref.ensures.value at c.in-Ok.ensures in
    retired-left (λ h. h.id) c.args.id c.args.entries.now.items c.requires c.in-Ok.at index c.index_mut.result.now c.index_mut.ensures.value

pub returns-in-Ok-clause-rise : goal.returns-in-Ok-clause-rise
returns-in-Ok-clause-rise c =
    let index = rw c.deref.ensures.value at c.in-Ok.ensures in
    retired-rise (λ h. h.id) c.args.id c.args.entries.now.items c.requires c.in-Ok.at index c.index_mut.result.now c.index_mut.ensures.value

pub returns-in-Err-clause-found : goal.returns-in-Err-clause-found
returns-in-Err-clause-found c =
    let gap = rw c.deref.ensures.value at c.in-Err.ensures in
    absent-in (λ h. h.id) c.args.id c.args.entries.now.items gap.1

pub returns-in-Err-clause-left : goal.returns-in-Err-clause-left
returns-in-Err-clause-left c =
    let gap = rw c.deref.ensures.value at c.in-Err.ensures in
    absent-left (λ h. h.id) c.args.id c.args.entries.now.items gap.1
