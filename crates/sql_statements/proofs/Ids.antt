-- What rising ids give, and that each change keeps them.
use Rattle.std.proofs.Common.{ℕ, ◌+◌, ◌<◌, ◌≤◌, ◌==◌, Bool, true, false, cond, not, List, [], ◌∷◌, ◌++◌, map, filter, All, arith}
use Rattle.std.specs.Prelude.{⊤}
use Rattle.std.specs.Map.{keys_of}
use Rattle.std.proofs.lemmas.List.Elements.{All-cons}
use Rattle.sqlite.specs.Tree.{Trees}
use Rattle.sql_statements.specs.Bodies.{Bodies, RowIdsRise, put_at}
use Rattle.sql_statements.specs.Store.{HasRows}

abbrev pub AreUpTo : ℕ → List (ℕ × List ℕ) → Type 0
AreUpTo last objects = All (λ id. id ≤ last) (keys_of objects)

abbrev pub RiseFrom : ℕ → List (ℕ × List ℕ) → Type 0
RiseFrom low [] = ⊤
RiseFrom low (p ∷ more) = (low < p.0) × RiseFrom p.0 more

up_to : (low last : ℕ) (objects : List (ℕ × List ℕ)) → RowIdsRise low objects last → AreUpTo last objects
up_to low last [] ids = λ k d below. absurd (omega arith)
up_to low last (p ∷ more) ids = All-cons (λ id. id ≤ last) p.0 (keys_of more) ids.1 (up_to p.0 last more ids.2)

rises : (low last : ℕ) (objects : List (ℕ × List ℕ)) → RowIdsRise low objects last → RiseFrom low objects
rises low last [] ids = tt
rises low last (p ∷ more) ids = (ids.0, rises p.0 last more ids.2)

pub ups : (trees : Trees) (c : Bodies) → HasRows trees c → AreUpTo c.last_id c.objects
ups trees c it = up_to 0 c.last_id c.objects it.ids

pub rising : (trees : Trees) (c : Bodies) → HasRows trees c → RiseFrom 0 c.objects
rising trees c it = rises 0 c.last_id c.objects it.ids

-- ---- each change

pub rises_more : (low last : ℕ) (es : List (ℕ × List ℕ)) (bytes : List ℕ) → low ≤ last → RowIdsRise low es last
    → RowIdsRise low (es ++ (last + 1, bytes) ∷ []) (last + 1)
rises_more low last [] bytes le ids = (omega arith, omega arith, tt)
rises_more low last (e ∷ es) bytes le ids =
    let most : e.0 ≤ last = ids.1 in
    (ids.0, omega arith, rises_more e.0 last es bytes most ids.2)

rises_lower : (low less last : ℕ) (es : List (ℕ × List ℕ)) → less ≤ low → RowIdsRise low es last → RowIdsRise less es last
rises_lower low less last [] le ids = tt
rises_lower low less last (e ∷ es) le ids = let above : low < e.0 = ids.0 in (omega arith, ids.1, ids.2)

pub rises_less : (low last id : ℕ) (es : List (ℕ × List ℕ)) → RowIdsRise low es last
    → RowIdsRise low (filter (λ (e : ℕ × List ℕ). not (e.0 == id)) es) last
rises_less low last id [] ids = tt
rises_less low last id (e ∷ es) ids = step (not (e.0 == id)) (rises_less e.0 last id es ids.2)
  where
    step : (b : Bool) → RowIdsRise e.0 (filter (λ (e : ℕ × List ℕ). not (e.0 == id)) es) last
        → RowIdsRise low (cond b (e ∷ filter (λ (e : ℕ × List ℕ). not (e.0 == id)) es) (filter (λ (e : ℕ × List ℕ). not (e.0 == id)) es)) last
    step true rest = (ids.0, ids.1, rest)
    step false rest = let above : low < e.0 = ids.0 in
        rises_lower e.0 low last (filter (λ (e : ℕ × List ℕ). not (e.0 == id)) es) (omega arith) rest

pub rises_put : (low last id : ℕ) (bytes : List ℕ) (es : List (ℕ × List ℕ)) → RowIdsRise low es last
    → RowIdsRise low (map (put_at id bytes) es) last
rises_put low last id bytes [] ids = tt
rises_put low last id bytes (e ∷ es) ids = step (e.0 == id) (rises_put e.0 last id bytes es ids.2)
  where
    step : (b : Bool) → RowIdsRise e.0 (map (put_at id bytes) es) last → RowIdsRise low (cond b (e.0, bytes) e ∷ map (put_at id bytes) es) last
    step true rest = (ids.0, ids.1, rest)
    step false rest = (ids.0, ids.1, rest)
