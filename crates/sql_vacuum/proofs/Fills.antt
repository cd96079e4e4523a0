-- A new store that gets another one's rows.
use Rattle.std.proofs.Common.{◌≡◌, ◌<◌, ◌≤◌, ◌+◌, ℕ, zero, suc, pos, List, [], ◌∷◌, ◌++◌, map, Result, Ok, Err, IfOk, OnOk, refl, sym, ap, subst, ◌∙◌, arith, append-nil, append_assoc, ne_eqb}
use Rattle.std.specs.Prelude.{⊤}
use Rattle.std.proofs.lemmas.Int.{ints}
use Rattle.std.proofs.lemmas.Bool.Decides.{nat_tests}
use Rattle.std.specs.declared.cmp.Ordering.TheVariants.{Equal, Less}
use Rattle.sqlite_value.specs.declared.value.Value.TheVariants.{Int}
use Rattle.sqlite_value.specs.Order.{Row, value_cmp}
use Rattle.sqlite_value.proofs.OrderLemmas.{value_cmp-Int}
use Rattle.sqlite_trees.specs.Objects.{catalog_tree, version_rows, version_tree}
use Rattle.sqlite_trees.specs.Tree.{Trees, put_row, with_tree}
use Rattle.sqlite_trees.specs.View.{Commits, IsClean, SetsTree, View, doubt}
use Rattle.sqlite_catalog.specs.Listing.{AreListed, IsSound}
use Rattle.sqlite.specs.Effect.{Database, IsDatabase}
use Rattle.sqlite.specs.Schema.{Schema}
use Rattle.sqlite.specs.State.{HasCleanDisk, IsLive, Opens, State}
use Rattle.sqlite.specs.Steps.{IsFresh}
use Rattle.sql_statements.specs.Bodies.{Bodies, RowIdsRise, new_bodies}
use Rattle.sql_statements.specs.Store.{HasRows, IsAtRows, body_row, counter_rows}
use Rattle.sql_statements.specs.Tables.{token_schema}
use Rattle.keep_sql_model.proofs.Copies.{one_listed}
use Rattle.sql_vacuum.specs.Copies.{PutsTrees, put_rows}
use Rattle.sql_vacuum.specs.Filled.{IsNewStore, PutsTables}

pub fill_ok : {T E : Type 0} (r : Result T E) (A B C : Type 0) (from old mid late new : View) (version : ℕ) → (B → C)
    → (A → C → PutsTrees from old mid 3) → (B → SetsTree mid late version_tree (λ _. version_rows version)) → OnOk r (B → Commits late new)
    → OnOk r (A → B → PutsTables from old new version)
fill_ok (Ok x) A B C from old mid late new version earlier puts sets commits = λ a b.
    let it = puts a (earlier b) in
    let same : (t : ℕ) → new.trees t ≡ late.trees t = λ t. ap (λ (v : View). v.trees t) (commits b).is in
    let changed : (t : ℕ) → late.trees t ≡ with_tree mid.trees version_tree (version_rows version) t =
    λ t. ap (λ (v : View). v.trees t) (sets b).is in
    record {
      copied = λ t low. same t ∙ changed t ∙ rw (ne_eqb t version_tree (λ is. absurd (omega (arith, is, low)))) (it.copied t low);
      listed = same catalog_tree ∙ changed catalog_tree ∙ it.kept catalog_tree (omega arith);
      version_is = same version_tree ∙ changed version_tree;
    }
fill_ok (Err e) A B C from old mid late new version earlier puts sets commits = tt

-- ---- rows in order, put one after the other

abbrev pub AreBelow : ℕ → List (ℕ × List ℕ) → Type 0
AreBelow id [] = ⊤
AreBelow id (p ∷ ps) = (p.0 < id) × AreBelow id ps

below_up : (low id : ℕ) (ps : List (ℕ × List ℕ)) → low ≤ id → AreBelow low ps → AreBelow id ps
below_up low id [] le all = tt
below_up low id (p ∷ ps) le all = (let h : p.0 < low = all.0 in omega arith, below_up low id ps le all.1)

below_more : (id next : ℕ) (body : List ℕ) (ps : List (ℕ × List ℕ)) → id < next → AreBelow id ps → AreBelow next (ps ++ (id, body) ∷ [])
below_more id next body [] less all = (less, tt)
below_more id next body (p ∷ ps) less all = (let h : p.0 < id = all.0 in omega arith, below_more id next body ps less all.1)

put_end : (id : ℕ) (body : List ℕ) (ps : List (ℕ × List ℕ)) → AreBelow id ps
    → put_row (body_row (id, body)) (map body_row ps) ≡ map body_row (ps ++ (id, body) ∷ [])
put_end id body [] all = refl
put_end id body (p ∷ ps) all =
    let here : p.0 < id = all.0 in
    let less : value_cmp (Int (pos p.0)) (Int (pos id)) ≡ Less = value_cmp-Int (pos p.0) (pos id) ∙ grind (arith, ints, nat_tests) in
    rw less (ap (λ (rows : List Row). body_row p ∷ rows) (put_end id body ps all.1))

puts_rise : (low last : ℕ) (done more : List (ℕ × List ℕ)) → AreBelow (low + 1) done → RowIdsRise low more last
    → put_rows (map body_row more) (map body_row done) ≡ map body_row (done ++ more)
puts_rise low last done [] below rise = ap (map body_row) (sym (append-nil done))
puts_rise low last done (p ∷ more) below rise =
    let above : low < p.0 = rise.0 in
    let under = below_up (low + 1) p.0 done (omega arith) below in
    ap (put_rows (map body_row more)) (put_end p.0 p.1 done under)
    ∙ puts_rise p.0 last (done ++ p ∷ []) more (below_more p.0 (p.0 + 1) p.1 done (omega arith) under) rise.2
    ∙ ap (map body_row) (append_assoc done (p ∷ []) more)

put_count : (n : ℕ) → put_rows (counter_rows n) [] ≡ counter_rows n
put_count zero = refl
put_count (suc n) = refl

put_record : (r was : List ℕ) → put_rows (body_row (1, r) ∷ []) (body_row (1, was) ∷ []) ≡ body_row (1, r) ∷ []
put_record r was =
    let same : value_cmp (Int (pos 1)) (Int (pos 1)) ≡ Equal = value_cmp-Int (pos 1) (pos 1) in rw same refl

pub new_is : (s : State) (v : View) → IsAtRows s (new_bodies []) → IsFresh v → v.trees ≡ s.committed.trees → IsNewStore v
new_is s v at fresh trees =
    let same : v.trees ≡ s.now.trees = trees ∙ ap (λ (d : Database). d.trees) at.settled in
    let in_tree : (t : ℕ) → v.trees t ≡ s.now.trees t = λ t. ap (λ (db : Trees). db t) same in
    let sound : IsSound token_schema s.now.trees = subst (λ (x : Schema). IsSound x s.now.trees) at.schema at.sound in
    record {
      fresh = fresh;
      listed = subst (λ (objects : List Row). AreListed objects token_schema) (sym (in_tree catalog_tree)) sound.lists.listed;
      record_is = in_tree 0 ∙ at.stores.record_is;
      objects_are = in_tree 1 ∙ at.stores.objects_are;
      count_is = in_tree 2 ∙ at.stores.count_is;
    }

pub new_if : {S E : Type 0} (shown : S → View) (r : Result S E) (s : State)
    → IfOk r (λ x. doubt s.is_clean ≤ doubt (shown x).is_clean) → IfOk r (λ x. IsClean (shown x) → IsFresh (shown x))
    → IfOk r (λ x. IsClean (shown x) → (shown x).trees ≡ s.committed.trees) → (HasCleanDisk s → IsAtRows s (new_bodies []))
    → IfOk r (λ x. IsClean (shown x) → IsNewStore (shown x))
new_if shown (Ok x) s clean fresh trees at = λ sure. new_is s (shown x) (at (omega (arith, clean, sure))) (fresh sure) (trees sure)
new_if shown (Err e) s clean fresh trees at = tt

-- ---- the connection to the new store

module _ (from old new : View) (s : State) (b : Bodies) (fresh : IsNewStore old) (version : ℕ)
    (puts : PutsTables from old new version) (trees : s.now.trees ≡ new.trees) (opens : Opens s) (live : IsLive s)
    (has : HasRows from.trees b) where
  in_tree : (t : ℕ) → s.now.trees t ≡ new.trees t
  in_tree t = ap (λ (db : Trees). db t) trees

  listed : AreListed (s.now.trees catalog_tree) token_schema
  listed = subst (λ (objects : List Row). AreListed objects token_schema) (sym (in_tree catalog_tree ∙ puts.listed)) fresh.listed

  sound : IsDatabase s.now
  sound = (live opens.is_open).0

  stores : HasRows s.now.trees b
  stores = record {
    record_is = in_tree 0 ∙ puts.copied 0 (omega arith) ∙ ap (λ (rows : List Row). put_rows rows (old.trees 0)) has.record_is
        ∙ ap (put_rows (body_row (1, b.token_record) ∷ [])) fresh.record_is ∙ put_record b.token_record [];
    objects_are = in_tree 1 ∙ puts.copied 1 (omega arith) ∙ ap (λ (rows : List Row). put_rows rows (old.trees 1)) has.objects_are
        ∙ ap (put_rows (map body_row b.objects)) fresh.objects_are ∙ puts_rise 0 b.last_id [] b.objects tt has.ids;
    count_is = in_tree 2 ∙ puts.copied 2 (omega arith) ∙ ap (λ (rows : List Row). put_rows rows (old.trees 2)) has.count_is
        ∙ ap (put_rows (counter_rows b.last_id)) fresh.count_is ∙ put_count b.last_id;
    ids = has.ids;
  }

  pub at_rows : IsAtRows s b
  at_rows = record {
    schema = one_listed (s.now.trees catalog_tree) s.now.schema listed sound.lists.listed;
    settled = sym opens.clean;
    autocommit = opens.autocommit;
    stores = stores;
    sound = sound;
  }

pub version_of : (from old new : View) (s : State) (version : ℕ) → PutsTables from old new version → s.now.trees ≡ new.trees
    → s.now.trees version_tree ≡ version_rows version
version_of from old new s version puts trees = ap (λ (db : Trees). db version_tree) trees ∙ puts.version_is
