-- Rows that are put into a tree, one more each time.
use Rattle.std.proofs.Common.{◌≡◌, ◌<◌, ◌≤◌, ◌+◌, ◌==◌, if◌then◌else◌, ℕ, inl, inr, List, Result, Ok, Err, OnOk, take, length, get_or, refl, sym, ap, subst, ◌∙◌, eq-eqb, ne_eqb}
use Rattle.std.proofs.lemmas.Bool.{cases_eq}
use Rattle.std.proofs.lemmas.List.{take_all}
use Rattle.std.proofs.lemmas.List.Sums.{fold_more}
use Rattle.sqlite_value.specs.Order.{Row}
use Rattle.sqlite_trees.specs.Tree.{put_row}
use Rattle.sqlite_trees.specs.View.{SetsTree, View}
use Rattle.sql_vacuum.specs.Copies.{PutsEach, put_rows}

pub puts_none : (v : View) (tree : ℕ) (rows : List Row) → PutsEach v v tree (take 0 rows)
puts_none v tree rows = record {
  writes = refl;
  trees = λ t. elim (cases_eq t tree) [ inl same ↦ rw (eq-eqb t tree same, same) refl | inr other ↦ rw (ne_eqb t tree other) refl ];
}

module _ (old mid new : View) (tree : ℕ) (rows : List Row) (i : ℕ) (row : Row) (low : i < length rows)
    (is : row ≡ get_or rows i row) (one : PutsEach old mid tree (take i rows)) (sets : SetsTree mid new tree (put_row row)) where
  before : mid.trees tree ≡ put_rows (take i rows) (old.trees tree)
  before = rw (eq-eqb tree tree refl) at (one.trees tree)

  grown : put_row row (mid.trees tree) ≡ put_rows (take (i + 1) rows) (old.trees tree)
  grown = ap (put_row row) before ∙ ap (λ (r : Row). put_row r (put_rows (take i rows) (old.trees tree))) is
      ∙ sym (fold_more (λ (xs : List Row) (r : Row). put_row r xs) (old.trees tree) rows i row low)

  changed : (t : ℕ) → new.trees t ≡ (if t == tree then put_row row (mid.trees tree) else mid.trees t)
  changed t = ap (λ (v : View). v.trees t) sets.is

  at : (t : ℕ) → new.trees t ≡ (if t == tree then put_rows (take (i + 1) rows) (old.trees tree) else old.trees t)
  at t = changed t ∙ (elim (cases_eq t tree) [
    | inl same ↦ rw (eq-eqb t tree same) grown
    | inr other ↦ let kept = rw (ne_eqb t tree other) at (one.trees t) in rw (ne_eqb t tree other) kept
  ])

  pub puts_more : PutsEach old new tree (take (i + 1) rows)
  puts_more = record {
    writes = (λ j. record (sets.is j) { trees = new.trees; cursors = new.cursors })
        ∙ (λ j. record (one.writes j) { trees = new.trees; cursors = new.cursors });
    trees = at;
  }

pub puts_all : (old new : View) (tree : ℕ) (rows : List Row) (n : ℕ) → length rows ≤ n → PutsEach old new tree (take n rows)
    → PutsEach old new tree rows
puts_all old new tree rows n whole it = subst (λ (rs : List Row). PutsEach old new tree rs) (take_all n rows whole) it

pub puts_of : {T E : Type 0} (r : Result T E) (old new : View) (tree : ℕ) (rows es : List Row) (A B : Type 0) → (A → rows ≡ es)
    → OnOk r (B → PutsEach old new tree rows) → OnOk r (A → B → PutsEach old new tree es)
puts_of (Ok x) old new tree rows es A B same it = λ a b. subst (λ (rs : List Row). PutsEach old new tree rs) (same a) (it b)
puts_of (Err e) old new tree rows es A B same it = tt
