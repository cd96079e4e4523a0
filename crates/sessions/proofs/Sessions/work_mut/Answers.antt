use Rattle.std.proofs.Common.{refl, sym, ap, subst, ◌∙◌}
use Rattle.std.specs.Option.{option_map}
use Rattle.sessions.specs.Sessions.{IsTable}
use Rattle.sessions.proofs.SessionLemmas.{IsTable-with_work, session_at-in_order, found_session, IsFound-same, lends_same, written_table}
use Rattle.sessions.proofs.Sessions.work_mut.Goals as goal

pub returns-in_err-key : goal.returns-in_err-key
returns-in_err-key g c =
    let listed = session_at-in_order c.args.handle c.self.inside.next_number c.self.inside.sessions.slots c.self.invariant.rising in
    let absent = sym listed ∙ ap (option_map (λ e. e.1))
    (sym c.find_session.ensures ∙ ap (option_map (λ e. (e.0, e.1.now))) c.in_err-key.was) in (
      rw (c.from_residual.ensures, ← c.self.view_is) refl,
      record { writes_back = tt; value = rw (c.from_residual.ensures, ← c.self.view_is, absent) refl },
    )

pub index_mut-requires : goal.index_mut-requires
index_mut-requires g c =
    let found = found_session c.self.inside.sessions c.args.handle c.self.inside.next_number c.in_ok-key.key
    c.in_ok-key.field-0-1.now c.self.invariant.rising
    (sym c.find_session.ensures ∙ ap (option_map (λ e. (e.0, e.1.now))) c.in_ok-key.was) in
    rw found.here refl

pub invariant_of-self-lent : goal.invariant_of-self-lent
invariant_of-self-lent g c w =
    let found = found_session c.self.inside.sessions c.args.handle c.self.inside.next_number c.in_ok-key.key
    c.in_ok-key.field-0-1.now c.self.invariant.rising
    (sym c.find_session.ensures ∙ ap (option_map (λ e. (e.0, e.1.now))) c.in_ok-key.was) in
    let lent = IsFound-same _ _ _ _ c.index_mut.result.now found c.index_mut.ensures.value in
    subst IsTable (sym (written_table c.self.inside.sessions c.self.inside.login c.args.handle c.self.inside.next_number
    c.in_ok-key.key _ w lent c.self.invariant.rising)) (IsTable-with_work c.args.handle w _ c.self.invariant)

pub returns : goal.returns
returns g c =
    let found = found_session c.self.inside.sessions c.args.handle c.self.inside.next_number c.in_ok-key.key
    c.in_ok-key.field-0-1.now c.self.invariant.rising
    (sym c.find_session.ensures ∙ ap (option_map (λ e. (e.0, e.1.now))) c.in_ok-key.was) in
    let lent = IsFound-same _ _ _ _ c.index_mut.result.now found c.index_mut.ensures.value in (
      rw (← c.self.view_is) (lends_same _ _ _
          (λ w. written_table c.self.inside.sessions c.self.inside.login c.args.handle c.self.inside.next_number c.in_ok-key.key _ w
          lent c.self.invariant.rising)),
      record { writes_back = tt; value = rw (← c.self.view_is, lent.listed) refl },
    )
