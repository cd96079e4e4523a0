use Rattle.std.proofs.Common.{◌≡◌, Bool, List, not, ap, ◌∙◌, sym, subst, rules}
use Rattle.std.specs.Prelude.{◌&&◌, filter}
use Rattle.std.proofs.lemmas.Fn.{filter_same}
use Rattle.handles.specs.declared.Entry.{Entry}
use Rattle.handles.specs.Stored.{entry_id, entry_number}
use Rattle.lists.specs.Bisection.{KeysRise}
use Rattle.lists.specs.InOrder.{NumbersRise}
use Rattle.lists.proofs.InOrderLemmas.{NumbersRise-filter}
use Rattle.handles.proofs.LiveLemmas.{KeysRise-filter, live-filter}
use Rattle.handles.proofs.take_out_private.Goals as goal

left : (c : goal.After-retain) → c.retain.new.self.items ≡ filter (λ e. not e.retired && not e.handle.private) c.args.entries.now.items
left c = filter_same _ (λ e. not e.retired && not e.handle.private) _ (λ e keep next called. search rules) _ _ c.retain.ensures.filtered

pub returns-clause-left : goal.returns-clause-left
returns-clause-left c = rw (left c) (live-filter (λ e. e.retired) (λ e. e.handle) (λ h. not h.private) c.args.entries.now.items)

pub returns-clause-numbers : goal.returns-clause-numbers
returns-clause-numbers c = λ next rise. subst (λ xs. NumbersRise entry_number 1 xs next) (sym (left c))
    (NumbersRise-filter entry_number 1 next (λ e. not e.retired && not e.handle.private) c.args.entries.now.items rise)

pub returns-clause-rise : goal.returns-clause-rise
returns-clause-rise c = λ rise. subst (KeysRise entry_id) (sym (left c))
    (KeysRise-filter entry_id (λ e. not e.retired && not e.handle.private) c.args.entries.now.items rise)
