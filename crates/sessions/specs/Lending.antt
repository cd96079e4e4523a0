-- What `Sessions` ends as, where a `&mut` to the activity of a session is returned.
use Rattle.std.specs.Prelude.{ℕ, Option}
use Rattle.std.specs.Borrow.{LendsIf, Fml, RattleType, MutBor}
use Rattle.sessions.specs.Sessions.{SessionTable, with_work}
use Rattle.sessions.specs.contracts.Sessions.{the_row}

module _ (W : RattleType) (s : MutBor (SessionTable W.Denot)) (handle : ℕ) where
  -- once the borrow ends, the session has the last activity written through it; where there is no such
  -- session, nothing changes
  abbrev pub lends_work : Option (MutBor W.Denot) → Fml
  lends_work r = LendsIf (the_row W) W s r (with_work s.now handle) s.now
