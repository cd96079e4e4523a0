use Rattle.std.proofs.Common.{ℕ, ◌-◌, ◌++◌, drop, sym, ap, ◌∙◌}
use Rattle.line.specs.State.{Outgoing}
use Rattle.line.proofs.Lines.{puts-rest}
use Rattle.line.proofs.outbox.Outbox.send.Goals as goal

pub returns-in-Later-clause-out : goal.returns-in-Later-clause-out
returns-in-Later-clause-out g c =
    ap (λ (k : ℕ). c.put-put.new.written.bytes ++ drop (k - c.put-put.result.lacking) c.self.inside.frame.items)
    (c.len.ensures ∙ sym (rw c.deref.ensures.value at c.deref.ensures.len))
    ∙ puts-rest c.self.inside.frame.items c.split_at.result.1.now c.self.inside.sent c.put-put.result.lacking
    c.self.inside.written.bytes c.put-put.new.written.bytes (rw c.deref.ensures.value at c.split_at.ensures.back) c.put-put.ensures.puts
    ∙ ap (λ (o : Outgoing). o.written ++ o.pending) c.self.view_is

pub returns-in-Failed-clause-out : goal.returns-in-Failed-clause-out
returns-in-Failed-clause-out g c =
    ap (λ (k : ℕ). c.put-put.new.written.bytes ++ drop (k - c.put-put.result.lacking) c.self.inside.frame.items)
    (c.len.ensures ∙ sym (rw c.deref.ensures.value at c.deref.ensures.len))
    ∙ puts-rest c.self.inside.frame.items c.split_at.result.1.now c.self.inside.sent c.put-put.result.lacking
    c.self.inside.written.bytes c.put-put.new.written.bytes (rw c.deref.ensures.value at c.split_at.ensures.back) c.put-put.ensures.puts
    ∙ ap (λ (o : Outgoing). o.written ++ o.pending) c.self.view_is
