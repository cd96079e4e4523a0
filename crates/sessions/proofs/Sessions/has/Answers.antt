use Rattle.std.proofs.Common.{ap, ◌∙◌, rules}
use Rattle.std.specs.Option.{option_map}
use Rattle.sessions.proofs.SessionLemmas.{session_at-in_order}
use Rattle.sessions.proofs.Sessions.has.Goals as goal

pub returns : goal.returns
returns g c =
    let found = ap (option_map (λ e. e.1)) c.find_session.ensures
    ∙ session_at-in_order c.args.handle c.self.inside.next_number c.self.inside.sessions.slots c.self.invariant.rising in
    rw (← c.self.view_is, ← found) (search rules)
