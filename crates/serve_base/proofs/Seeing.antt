-- What is seen by who is logged in.
use Rattle.std.proofs.Common.{◌≡◌, Bool, true, false, Option, None, refl}
use Rattle.std.specs.Prelude.{◌||◌}
use Rattle.ck_types.specs.declared.user_type.UserType.{UserType}
use Rattle.guard.specs.Access.{is_public, is_user}
use Rattle.keep.specs.Contents.{Kept}
use Rattle.sessions.specs.Sessions.{state_of}
use Rattle.serve_base.specs.Shown.{sees_kept}

abbrev pub IsLess : Option UserType → Option UserType → Type 0
IsLess now before = (e : Kept) → sees_kept now e ≡ true → sees_kept before e ≡ true

pub less-none : (login : Option UserType) → IsLess None login
less-none login e = step (is_public e.1) where
  step : (b : Bool) → (b || false) ≡ true → (b || is_user (state_of login true)) ≡ true
  step true k = refl
  step false k = absurd cc
