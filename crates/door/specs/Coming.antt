-- How connections come: each is of an application that never came before.
use Rattle.std.specs.Prelude.{◌≡◌, ◌≢◌, ℕ, List, [], ◌∷◌, None}
use Rattle.door.specs.Ends.{Reading, Writing}

-- no connection of this application came
abbrev pub IsFreshApp : ℕ → List ℕ → Type 0
IsFreshApp app [] = Unit {0}
IsFreshApp app (x ∷ xs) = (x ≢ app) × IsFreshApp app xs

-- the ends of an application's new connection
abbrev pub AreEnds : ℕ → Reading × Writing → Type 0
AreEnds app ends = (ends.0 ≡ record { app = app; gave = []; left = None }) × (ends.1 ≡ record { app = app; took = []; holds = None })
