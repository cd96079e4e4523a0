-- What a licence permits of a connection.
use Rattle.std.specs.Prelude.{◌≡◌, ◌⊎◌, ℕ, List, [], ◌++◌}
use Rattle.std.specs.List.{flat_map, AllByRecursion}
use Rattle.wire.specs.Messages.{frame}
use Rattle.door.specs.Ends.{Reading, Writing}
use Rattle.line.specs.Connecting.{IsNoCall, refusal_frame}
use Rattle.line.specs.State.{Connected}

-- any part of these bytes may be written, after what the writer took and the part before it
abbrev pub Permits : (ℕ → List ℕ → List ℕ → Type 0) → Writing → List ℕ → Type 0
Permits allows w out = (front bytes rest : List ℕ) → out ≡ (front ++ bytes) ++ rest → allows w.app (w.took ++ front) bytes

-- these bytes were given, if there are any
abbrev pub IsGiven : (ℕ → List ℕ → Type 0) → Reading → List ℕ → Type 0
IsGiven given r more = (more ≡ []) ⊎ given r.app (r.gave ++ more)

-- what is to be written may be, and so may the refusals of what is no call, as more is given
abbrev pub PermitsOn : (ℕ → List ℕ → Type 0) → (ℕ → List ℕ → List ℕ → Type 0) → Reading → Writing → Connected → Type 0
PermitsOn given allows r w c = (payloads : List (List ℕ)) (more held : List ℕ) → AllByRecursion IsNoCall payloads
    → c.held ++ more ≡ flat_map frame payloads ++ held → IsGiven given r more
    → Permits allows w (c.pending ++ flat_map refusal_frame payloads)

-- a reader gave nothing more, or has given what it gave
abbrev pub Knows : (ℕ → List ℕ → Type 0) → Reading → Reading → Type 0
Knows given old new = (new.gave ≡ old.gave) ⊎ given new.app new.gave
