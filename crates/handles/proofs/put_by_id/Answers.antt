use Rattle.std.proofs.Common.{false, refl, sym, subst, ◌∙◌, ap}
use Rattle.lists.specs.Bisection.{KeysRise}
use Rattle.handles.specs.Stored.{handles_in, entry_id}
use Rattle.handles.proofs.EntryLemmas.{put-between, revived, revived-rise}
use Rattle.handles.proofs.LiveLemmas.{KeysRise-placed}
use Rattle.handles.proofs.put_by_id.Goals as goal

pub returns-in-Ok-clause-put : goal.returns-in-Ok-clause-put
returns-in-Ok-clause-put c =
    let index = rw c.deref.ensures.value at c.in-Ok.ensures in
    revived (λ h. h.id) c.args.handle.id c.args.entries.now.items c.requires.rise c.in-Ok.at index c.args.handle refl c.requires.new

pub returns-in-Ok-clause-rise : goal.returns-in-Ok-clause-rise
returns-in-Ok-clause-rise c =
    let index = rw c.deref.ensures.value at c.in-Ok.ensures in
    revived-rise (λ h. h.id) c.args.handle.id c.args.entries.now.items c.requires.rise c.in-Ok.at index c.args.handle refl

pub returns-in-Err-clause-put : goal.returns-in-Err-clause-put
returns-in-Err-clause-put c =
    let gap = rw c.deref.ensures.value at c.in-Err.ensures in
    ap handles_in (c.insert_reserved.ensures.items ∙ sym (gap.2 (record { handle = c.args.handle; retired = false }) refl))
    ∙ put-between (λ h. h.id) c.args.handle c.args.entries.now.items c.requires.rise

pub returns-in-Err-clause-rise : goal.returns-in-Err-clause-rise
returns-in-Err-clause-rise c =
    let gap = rw c.deref.ensures.value at c.in-Err.ensures in
    subst (KeysRise entry_id) (gap.2 (record { handle = c.args.handle; retired = false }) refl ∙ sym c.insert_reserved.ensures.items)
    (KeysRise-placed entry_id (record { handle = c.args.handle; retired = false }) c.args.entries.now.items gap.1 c.requires.rise)
