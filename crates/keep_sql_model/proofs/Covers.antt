-- The renewals of rows, as they are read one after the other.
use Rattle.std.proofs.Common.{◌≡◌, inl, inr, ℕ, ◌<◌, ◌≤◌, ◌+◌, List, [], ◌∷◌, ◌++◌, get_or, length, take, All, sym, subst, arith}
use Rattle.std.proofs.lemmas.List.{take_all}
use Rattle.std.proofs.lemmas.List.Elements.{All-more, All-push, All-weaker, Contains-append_left, Contains-push}
use Rattle.sqlite_value.specs.Order.{Row}
use Rattle.sql_tables.specs.declared.renewals.Renewal.{Renewal}
use Rattle.keep_sql_model.specs.Rows.{ShowsObject}
use Rattle.keep_sql_model.specs.Renewals.{IsCovered, IsOfRow, Renews}

pub none_covered : (es : List Renewal) (rows : List Row) → All (IsCovered es) (take 0 rows)
none_covered es rows = λ k d below. absurd (omega (arith, below))

pub none_owned : (es : List Renewal) (rows : List Row) → es ≡ [] → All (IsOfRow rows) es
none_owned es rows is = subst (λ (x : List Renewal). All (IsOfRow rows) x) (sym is) (λ k d below. absurd (omega (arith, below)))

covered_on : (es : List Renewal) (e : Renewal) (row : Row) → IsCovered es row → IsCovered (es ++ e ∷ []) row
covered_on es e row (inl shows) = inl shows
covered_on es e row (inr of) = inr (of.0, Contains-append_left es (e ∷ []) of.0 of.1, of.2)

-- the row at the end is covered too
pub covered_then : (es : List Renewal) (rows : List Row) (n : ℕ) (row : Row) → row ≡ get_or rows n row → n < length rows
    → All (IsCovered es) (take n rows) → IsCovered es row → All (IsCovered es) (take (n + 1) rows)
covered_then es rows n row is low before here = All-more (IsCovered es) rows n row low before (subst (IsCovered es) is here)

pub covered_more : (es : List Renewal) (e : Renewal) (rows : List Row) (n : ℕ) (row : Row) → row ≡ get_or rows n row
    → n < length rows → (more : List Renewal) → more ≡ es ++ e ∷ [] → All (IsCovered es) (take n rows) → Renews row e
    → All (IsCovered more) (take (n + 1) rows)
covered_more es e rows n row is low more same before here =
    subst (λ (x : List Renewal). All (IsCovered x) (take (n + 1) rows)) (sym same)
    (covered_then (es ++ e ∷ []) rows n row is low
    (All-weaker (IsCovered es) (IsCovered (es ++ e ∷ [])) (λ r. covered_on es e r) (take n rows) before)
    (inr (e, Contains-push es e, here)))

pub owned_more : (es : List Renewal) (e : Renewal) (rows : List Row) (n : ℕ) (row : Row) → row ≡ get_or rows n row → n < length rows
    → (more : List Renewal) → more ≡ es ++ e ∷ [] → All (IsOfRow rows) es → Renews row e → All (IsOfRow rows) more
owned_more es e rows n row is low more same before here =
    subst (λ (x : List Renewal). All (IsOfRow rows) x) (sym same) (All-push (IsOfRow rows) es e before (row, (n, low, sym is), here))

pub all_covered : (es : List Renewal) (rows : List Row) (n : ℕ) → length rows ≤ n → All (IsCovered es) (take n rows)
    → All (IsCovered es) rows
all_covered es rows n whole all = subst (λ (rs : List Row). All (IsCovered es) rs) (take_all n rows whole) all

pub same_covered : (es : List Renewal) (rows : List Row) (n : ℕ) (row : Row) → row ≡ get_or rows n row → n < length rows
    → (more : List Renewal) → more ≡ es → All (IsCovered es) (take n rows) × All (IsOfRow rows) es → ShowsObject row
    → All (IsCovered more) (take (n + 1) rows) × All (IsOfRow rows) more
same_covered es rows n row is low more same before here =
    subst (λ (x : List Renewal). All (IsCovered x) (take (n + 1) rows) × All (IsOfRow rows) x) (sym same)
    (covered_then es rows n row is low before.0 (inl here), before.1)
