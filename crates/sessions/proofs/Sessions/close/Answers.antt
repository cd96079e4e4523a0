use Rattle.std.proofs.Common.{true, false, refl, sym, ap, subst, ◌∙◌}
use Rattle.std.specs.Option.{option_map}
use Rattle.sessions.specs.Sessions.{IsTable}
use Rattle.sessions.proofs.SessionLemmas.{IsTable-without_session, session_at-in_order, found_session, without_absent, closed_table}
use Rattle.sessions.proofs.Sessions.close.Goals.{then-is_empty, else-is_empty}
use Rattle.sessions.proofs.Sessions.close.Goals as goal

pub returns-in_err-key-clause-work : goal.returns-in_err-key-clause-work
returns-in_err-key-clause-work g c =
    let listed = session_at-in_order c.args.handle c.self.inside.next_number c.self.inside.sessions.slots c.self.invariant.rising in
    let absent = sym listed ∙ ap (option_map (λ e. e.1))
    (sym c.find_session.ensures ∙ ap (option_map (λ e. (e.0, e.1.now))) c.in_err-key.was) in
    rw (← c.self.view_is, absent) c.from_residual.ensures

pub returns-in_err-key-clause-closed : goal.returns-in_err-key-clause-closed
returns-in_err-key-clause-closed g c =
    let listed = session_at-in_order c.args.handle c.self.inside.next_number c.self.inside.sessions.slots c.self.invariant.rising in
    let absent = sym listed ∙ ap (option_map (λ e. e.1))
    (sym c.find_session.ensures ∙ ap (option_map (λ e. (e.0, e.1.now))) c.in_err-key.was) in
    rw (← c.self.view_is) (without_absent c.args.handle _ c.self.invariant absent)

pub remove-work-requires : goal.remove-work-requires
remove-work-requires g c =
    let found = found_session c.self.inside.sessions c.args.handle c.self.inside.next_number c.in_ok-key.key
    c.in_ok-key.field-0-1.now c.self.invariant.rising
    (sym c.find_session.ensures ∙ ap (option_map (λ e. (e.0, e.1.now))) c.in_ok-key.was) in
    rw found.here refl

pub invariant_of-self : goal.invariant_of-self
invariant_of-self g c =
    let found = found_session c.self.inside.sessions c.args.handle c.self.inside.next_number c.in_ok-key.key
    c.in_ok-key.field-0-1.now c.self.invariant.rising
    (sym c.find_session.ensures ∙ ap (option_map (λ e. (e.0, e.1.now))) c.in_ok-key.was) in
    subst IsTable (sym (closed_table c.self.inside.sessions c.remove-work.new.self c.self.inside.login c.args.handle
    c.self.inside.next_number c.in_ok-key.key _ true found c.self.invariant.rising c.remove-work.ensures.slots
    (sym c.if-is_empty.true ∙ c.is_empty.ensures))) (IsTable-without_session c.args.handle _ c.self.invariant)

pub invariant_of-self-else-is_empty : goal.invariant_of-self-else-is_empty
invariant_of-self-else-is_empty g c =
    let found = found_session c.self.inside.sessions c.args.handle c.self.inside.next_number c.in_ok-key.key
    c.in_ok-key.field-0-1.now c.self.invariant.rising
    (sym c.find_session.ensures ∙ ap (option_map (λ e. (e.0, e.1.now))) c.in_ok-key.was) in
    subst IsTable (sym (closed_table c.self.inside.sessions c.remove-work.new.self c.self.inside.login c.args.handle
    c.self.inside.next_number c.in_ok-key.key _ false found c.self.invariant.rising c.remove-work.ensures.slots
    (sym c.if-is_empty.false ∙ c.is_empty.ensures))) (IsTable-without_session c.args.handle _ c.self.invariant)

pub returns-clause-work : goal.returns-clause-work
returns-clause-work g c =
    let found = found_session c.self.inside.sessions c.args.handle c.self.inside.next_number c.in_ok-key.key
    c.in_ok-key.field-0-1.now c.self.invariant.rising
    (sym c.find_session.ensures ∙ ap (option_map (λ e. (e.0, e.1.now))) c.in_ok-key.was) in
    rw (← c.self.view_is) (ap (option_map (λ s. s.work)) (sym c.remove-work.ensures.value ∙ found.here ∙ sym found.listed))

pub returns-clause-closed : goal.returns-clause-closed
returns-clause-closed g c =
    let found = found_session c.self.inside.sessions c.args.handle c.self.inside.next_number c.in_ok-key.key
    c.in_ok-key.field-0-1.now c.self.invariant.rising
    (sym c.find_session.ensures ∙ ap (option_map (λ e. (e.0, e.1.now))) c.in_ok-key.was) in
    rw (← c.self.view_is) (elim c.if-is_empty.branch [
      | then-is_empty w ↦ w.self-is
          ∙ (closed_table c.self.inside.sessions c.remove-work.new.self c.self.inside.login c.args.handle c.self.inside.next_number
          c.in_ok-key.key _ true found c.self.invariant.rising c.remove-work.ensures.slots (sym w.if-is_empty.true ∙ c.is_empty.ensures))
      | else-is_empty w ↦ w.self-is
          ∙ (closed_table c.self.inside.sessions c.remove-work.new.self c.self.inside.login c.args.handle c.self.inside.next_number
          c.in_ok-key.key _ false found c.self.invariant.rising c.remove-work.ensures.slots (sym w.if-is_empty.false ∙ c.is_empty.ensures))
    ])
