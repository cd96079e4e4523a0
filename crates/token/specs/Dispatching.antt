-- Which calls are answered before the others, how one that becomes pending is noted, and what a refused one leaves.
use Rattle.std.specs.Prelude.{◌≡◌, ◌⊎◌, Bool, true, false, Result, Ok, Err}
use Rattle.ck_calls.specs.declared.call.Call.{Call}
use Rattle.ck_calls.specs.declared.call.Call.TheVariants as calls
use Rattle.desk.specs.Desks.{DeskState, with_call}
use Rattle.model_views.specs.declared.fault.Fault.{Fault}
use Rattle.model_views.specs.Views.{View}
use Rattle.model_views.specs.Answering.{Answer}
use Rattle.model_views.specs.Refusals.{is_refused}
use Rattle.serve_base.specs.Refusing.{GivesAnyway}
use Rattle.serve_base.specs.Shown.{said_of, ShowsSame}
use Rattle.serve_base.specs.declared.out.Out.{Out}
use Rattle.serve_base.specs.declared.out.Out.TheVariants.{Reply, Ask}

-- those that open sessions, close them, and return the state of one (PKCS #11 v3.1, 5.6)
abbrev pub is_on_sessions : Call → Bool
is_on_sessions (calls.OpenSession slot flags) = true
is_on_sessions (calls.CloseSession session) = true
is_on_sessions (calls.CloseAllSessions slot) = true
is_on_sessions (calls.GetSessionInfo session) = true
is_on_sessions call = false

-- the desk, once it is known what is returned
abbrev pub noted_at : Call → Result Out Fault → DeskState → DeskState
noted_at c (Ok (Ask job)) d = with_call d c
noted_at c (Ok (Reply reply)) d = d
noted_at c (Err fault) d = d

-- a refusal leaves what the desk shows, or what the answer says, whatever is kept
abbrev pub DeskStands : (View → Answer) → DeskState → Result Out Fault → DeskState → Type 0
DeskStands f before (Ok out) desk = is_refused (said_of out) ≡ true → ShowsSame before desk ⊎ GivesAnyway (λ c. f) before (said_of out) desk
DeskStands f before (Err fault) desk = Unit {0}
