-- What the insert of an object does to the tables.
use Rattle.std.proofs.Common.{◌≡◌, ◌⊎◌, inl, inr, ℕ, zero, suc, pos, ℤ, ◌+◌, ◌<◌, ◌≤◌, ◌+ℤ◌, List, [], ◌∷◌, ◌++◌, map, fold, codes, Bool, true, false, cond, Some, None, Option, Ok, Err, Result, refl, ap, subst, subst₂, add-one, ◌∙◌, arith}
use Rattle.std.proofs.lemmas.Int.{ints}
use Rattle.std.proofs.lemmas.Bool.Decides.{nat_tests}
use Rattle.std.specs.Ordering.{int_cmp, is_lt, is_eq}
use Rattle.std.specs.Map.{keys_of}
use Rattle.std.specs.List.{find}
use Rattle.std.proofs.lemmas.List.Elements.{All-tail}
use Rattle.sqlite_value.specs.declared.value.Value.{Value}
use Rattle.sqlite_value.specs.declared.value.Value.TheVariants.{Null, Int, Text, Blob}
use Rattle.sqlite_value.specs.Order.{Row, column, value_cmp}
use Rattle.sqlite_value.proofs.OrderLemmas.{value_cmp-Int, value_cmp-Text}
use Rattle.sqlite.specs.Tree.{Trees, rowid, put_row}
use Rattle.std.specs.declared.cmp.Ordering.TheVariants.{Less, Equal}
use Rattle.sqlite_sql.specs.Term.{Term, lit, col}
use Rattle.sqlite.specs.Table.{Table}
use Rattle.sqlite_schema.specs.declared.schema.Keys.TheVariants.{Enforced}
use Rattle.sqlite.specs.Source.TheVariants.{Values}
use Rattle.sqlite.specs.Rows.{Task, Written, Inserts, Counts, counter_in, count_of, higher, last_id, sequence, CounterIn, CountsIn, Edited, counting}
use Rattle.sqlite_tied.specs.Compute.{everything}
use Rattle.sqlite.proofs.Callers.{one_step}
use Rattle.sqlite.specs.Edit.{Edit, edit_of, edited, put_all, taken_by}
use Rattle.sqlite_rules.specs.Action.{works}
use Rattle.sqlite.specs.Kind.TheVariants.{Integer}
use Rattle.sqlite.specs.Cast.{cast}
use Rattle.sqlite.specs.Ops.{unary}
use Rattle.sqlite.specs.Edit.{id_in, next_rowid, at_least}
use Rattle.sqlite.specs.Rowids.TheVariants.{Above}
use Rattle.sql_statements.specs.Bodies.{Bodies}
use Rattle.sql_statements.proofs.Ids.{AreUpTo, ups}
use Rattle.sql_statements.specs.Tables.{token_schema, objects_table, sequence_table}
use Rattle.sql_statements.specs.Store.{HasRows, body_row, counter_rows}

either : (b : Bool) (x : Value) → cond b x x ≡ x
either true x = refl
either false x = refl

pub cast_null : cast Integer Null ≡ Null
unfolding unary
cast_null = either _ Null

-- the next rowid is at most one above the last that was given
pub next_is : (k last : ℕ) (objects : List (ℕ × List ℕ)) → k ≤ last + 1 → AreUpTo last objects
    → (n : ℕ) × (fold (λ _ r. id_in (rowid r) +ℤ pos 1) (pos k) (map body_row objects) ≡ pos n) × (n ≤ last + 1)
next_is k last [] low all = (k, refl, low)
next_is k last (p ∷ more) low all =
    let here : p.0 ≤ last = all 0 0 (omega arith) in
    next_is (p.0 + 1) last more (omega arith) (All-tail (λ id. id ≤ last) p.0 (keys_of more) all)

pub chosen_is : (last n : ℕ) → n ≤ last + 1 → at_least (Above (pos last)) (pos n) ≡ pos (last + 1)
chosen_is last n low = grind (arith, ints, nat_tests)

-- a row above all others goes to the end
pub put_last : (last id : ℕ) (body : List ℕ) (objects : List (ℕ × List ℕ)) → AreUpTo last objects → last < id
    → put_row (body_row (id, body)) (map body_row objects) ≡ map body_row (objects ++ (id, body) ∷ [])
put_last last id body [] all low = refl
put_last last id body (p ∷ more) all low =
    let here : p.0 ≤ last = all 0 0 (omega arith) in
    let less : value_cmp (Int (pos p.0)) (Int (pos id)) ≡ Less = value_cmp-Int (pos p.0) (pos id) ∙ grind (arith, ints, nat_tests) in
    rw less (ap (λ (rows : List Row). body_row p ∷ rows) (put_last last id body more (All-tail (λ k. k ≤ last) p.0 (keys_of more) all) low))

abbrev pub terms : List Term
terms = lit Null ∷ lit Null ∷ col 0 0 ∷ []

abbrev pub task_on : Option ℕ → Table → Row → Task
task_on limit table params = record { limit = limit; keys = Enforced; schema = token_schema; table = table; params = params }

-- a part that gave a value did not stop on the way
pub went : {B E R : Type 0} {b : B} {Stops : E → Type 0} → ((stop : E) × Stops stop × (Ok b ≡ Err stop)) ⊎ R → R
went (inl stopped) = absurd (let e = stopped.2 in cc)
went (inr on) = on

pub same_value : {B E : Type 0} {a b : B} → ◌≡◌ {A = Result B E} (Ok a) (Ok b) → a ≡ b
same_value e = cc

-- the row that counts
abbrev pub counter : Trees → Option Row
counter db = counter_in db objects_table sequence_table

pub cast_int : (n : ℤ) → cast Integer (Int n) ≡ Int n
unfolding unary
cast_int n = either _ (Int n)

same_word : is_eq (value_cmp (Text (codes "objects")) (Text (codes "objects"))) ≡ true
same_word = ap is_eq (value_cmp-Text (codes "objects") (codes "objects"))

-- what the row holds
abbrev counter_row : ℕ → Row
counter_row n = Int (pos 1) ∷ Text (codes "objects") ∷ Int (pos n) ∷ []

pub counter_none : (db : Trees) → db 2 ≡ [] → counter db ≡ None
counter_none db is = ap (λ (rows : List Row). find (λ (r : Row). is_eq (value_cmp (column r 1) (Text (codes "objects")))) rows) is

pub counter_some : (db : Trees) (n : ℕ) → db 2 ≡ counter_row n ∷ [] → counter db ≡ Some (counter_row n)
counter_some db n is = ap (λ (rows : List Row). find (λ (r : Row). is_eq (value_cmp (column r 1) (Text (codes "objects")))) rows) is ∙ ap (λ b. cond b (Some (counter_row n)) None) same_word

count_row : (n : ℕ) → count_of (Some (counter_row n)) ≡ pos n
unfolding unary
count_row n = refl

count_none : count_of None ≡ pos 0
unfolding unary
count_none = refl

-- the third table counts
pub sequence_is_there : sequence token_schema ≡ Some sequence_table
unfolding everything
sequence_is_there = refl

pub counter_is : (db : Trees) (last : ℕ) → db 2 ≡ counter_rows last → count_of (counter db) ≡ pos last
counter_is db zero is = ap count_of (counter_none db is) ∙ count_none
counter_is db (suc n) is = ap count_of (counter_some db (suc n) is) ∙ count_row (suc n)

abbrev source : List ℕ → Row
source body = Null ∷ Null ∷ Blob body ∷ []

abbrev pub insert_edit : Trees → ℤ → List Row → Edit
insert_edit db top rows = edit_of db objects_table [] (Above top) 0 rows

pub news_is : (db : Trees) (c : Bodies) (body : List ℕ) → HasRows db c
    → (insert_edit db (pos c.last_id) (source body ∷ [])).news ≡ body_row (c.last_id + 1, body) ∷ []
news_is db c body it =
    let next = next_is 1 c.last_id c.objects (omega arith) (ups db c it) in
    let id : at_least (Above (pos c.last_id)) (next_rowid (db 1)) ≡ pos (c.last_id + 1) =
    ap (λ (rows : List Row). at_least (Above (pos c.last_id)) (next_rowid rows)) it.objects_are
    ∙ ap (at_least (Above (pos c.last_id))) next.1 ∙ chosen_is c.last_id next.0 next.2 in
    rw (cast_null, id)

abbrev task : Option ℕ → List ℕ → Task
task limit body = task_on limit objects_table (Blob body ∷ [])

-- the rows of the count, and nothing else, are edited
pub count_edited : (limit : Option ℕ) (body : List ℕ) (n : ℕ) (mid next : Trees) (ctr : Option Row)
    → edited mid (counting mid objects_table sequence_table (pos (suc n)) ctr) ≡ counter_rows (suc n)
    → works token_schema Enforced 0 2 (taken_by mid (counting mid objects_table sequence_table (pos (suc n)) ctr))
    (counting mid objects_table sequence_table (pos (suc n)) ctr).news ≡ []
    → (counting mid objects_table sequence_table (pos (suc n)) ctr).table ≡ sequence_table
    → Edited token_schema Enforced mid (counting mid objects_table sequence_table (pos (suc n)) ctr) (Ok next)
    → (next 2 ≡ counter_rows (suc n)) × (next 1 ≡ mid 1) × (next 0 ≡ mid 0)
count_edited limit body n mid next None rows none table h =
    let app = one_step token_schema Enforced mid next (counting mid objects_table sequence_table (pos (suc n)) None) none h in
    (app.rows ∙ rows, app.tables.1.0 (λ e. absurd (omega arith)), app.tables.0 (λ e. absurd (omega arith)))
count_edited limit body n mid next (Some ctr) rows none table h =
    let app = one_step token_schema Enforced mid next (counting mid objects_table sequence_table (pos (suc n)) (Some ctr)) none h in
    (app.rows ∙ rows, app.tables.1.0 (λ e. absurd (omega arith)), app.tables.0 (λ e. absurd (omega arith)))

rises_is : (last : ℕ) → is_lt (int_cmp (pos last) (pos (last + 1))) ≡ true
rises_is last = grind (arith, ints, nat_tests)

pub same_id : value_cmp (Int (pos 1)) (Int (pos 1)) ≡ Equal
same_id = value_cmp-Int (pos 1) (pos 1)

first_count : (mid : Trees) (n : ℕ) → mid 2 ≡ []
    → edited mid (counting mid objects_table sequence_table (pos (suc n)) None) ≡ counter_rows (suc n)
first_count mid n is = rw (is, cast_null)

later_count : (mid : Trees) (n m : ℕ) → mid 2 ≡ counter_row m ∷ []
    → edited mid (counting mid objects_table sequence_table (pos (suc n)) (Some (counter_row m))) ≡ counter_rows (suc n)
later_count mid n m is = rw (is, same_id, cast_int (pos 1))

pub counts_is : (limit : Option ℕ) (body : List ℕ) (last : ℕ) (db mid next : Trees) → db 2 ≡ counter_rows last → mid 2 ≡ db 2
    → Counts (task limit body) mid (counter db) (pos (last + 1)) (Ok next)
    → (next 2 ≡ counter_rows (last + 1)) × (next 1 ≡ mid 1) × (next 0 ≡ mid 0)
counts_is limit body last db mid next is kept h =
    let up : is_lt (int_cmp (count_of (counter db)) (pos (last + 1))) ≡ true =
    ap (λ (t : ℤ). is_lt (int_cmp t (pos (last + 1)))) (counter_is db last is) ∙ rises_is last in
    let one : CountsIn (task limit body) mid (counter db) (pos (last + 1)) (Some sequence_table) (Ok next) =
    subst (λ (t : Option Table). CountsIn (task limit body) mid (counter db) (pos (last + 1)) t (Ok next)) sequence_is_there (rw up at h) in
    count_by last is kept (subst (λ (n : ℕ). Edited token_schema Enforced mid
    (counting mid objects_table sequence_table (pos n) (counter db)) (Ok next)) (add-one last) one)
  where
    count_by : (last : ℕ) → db 2 ≡ counter_rows last → mid 2 ≡ db 2
        → Edited token_schema Enforced mid (counting mid objects_table sequence_table (pos (suc last)) (counter db)) (Ok next)
        → (next 2 ≡ counter_rows (last + 1)) × (next 1 ≡ mid 1) × (next 0 ≡ mid 0)
    count_by zero is kept h =
        count_edited limit body 0 mid next None (first_count mid 0 (kept ∙ is)) refl refl
        (subst (λ (ctr : Option Row). Edited token_schema Enforced mid (counting mid objects_table sequence_table (pos 1) ctr)
        (Ok next)) (counter_none db is) h)
    count_by (suc n) is kept h =
        rw add-one (count_edited limit body (suc n) mid next (Some (counter_row (suc n)))
        (later_count mid (suc n) (suc n) (kept ∙ is)) refl refl
        (subst (λ (ctr : Option Row). Edited token_schema Enforced mid
        (counting mid objects_table sequence_table (pos (suc (suc n))) ctr) (Ok next)) (counter_some db (suc n) is) h))

pub inserts : (limit : Option ℕ) (db : Trees) (c : Bodies) (body : List ℕ) (w : Written) → HasRows db c
    → Inserts (task limit body) (Values terms 3) db (Ok w)
    → (w.trees 0 ≡ db 0) × (w.trees 1 ≡ map body_row (c.objects ++ (c.last_id + 1, body) ∷ []))
    × (w.trees 2 ≡ counter_rows (c.last_id + 1)) × (w.last ≡ Some (pos (c.last_id + 1)))
inserts limit db c body w it h =
    let given = went h in
    let count = went given.2 in
    let mid = went count.2 in
    let next = went mid.2 in
    let ctr : count.0 ≡ counter db =
    same_value (subst (λ (t : Option Table). CounterIn (task limit body) db t (Ok count.0)) sequence_is_there count.1) in
    let top : count_of count.0 ≡ pos c.last_id = ap count_of ctr ∙ counter_is db c.last_id it.count_is in
    let edit = insert_edit db (count_of count.0) given.0 in
    let news : edit.news ≡ body_row (c.last_id + 1, body) ∷ [] =
    ap (λ (rs : List Row). (insert_edit db (count_of count.0) rs).news) given.1.1
    ∙ ap (λ (t : ℤ). (insert_edit db t (source body ∷ [])).news) top ∙ news_is db c body it in
    let low : c.last_id < c.last_id + 1 = omega arith in
    let app = one_step token_schema Enforced db mid.0 edit refl mid.1 in
    let here : mid.0 1 ≡ map body_row (c.objects ++ (c.last_id + 1, body) ∷ []) =
    app.rows ∙ ap (λ (ns : List Row). put_all (db 1) ns) news ∙ ap (put_row (body_row (c.last_id + 1, body))) it.objects_are
    ∙ put_last c.last_id (c.last_id + 1) body c.objects (ups db c it) low in
    let top2 : fold higher (count_of count.0) edit.news ≡ pos (c.last_id + 1) =
    ap (λ (t : ℤ). fold higher t edit.news) top ∙ ap (fold higher (pos c.last_id)) news
    ∙ ap (λ b. cond b (pos (c.last_id + 1)) (pos c.last_id)) (rises_is c.last_id) in
    let counted : Counts (task limit body) mid.0 (counter db) (pos (c.last_id + 1)) (Ok next.0) =
    subst₂ (λ (ctr : Option Row) (t : ℤ). Counts (task limit body) mid.0 ctr t (Ok next.0)) ctr top2 next.1 in
    let kept : mid.0 2 ≡ db 2 = app.tables.1.1.0 (λ e. absurd (omega arith)) in
    let all = counts_is limit body c.last_id db mid.0 next.0 it.count_is kept counted in
    let done = same_value next.2 in
    let trees : w.trees ≡ next.0 = ap (λ (it : Written). it.trees) done in (
      ap (λ (t : Trees). t 0) trees ∙ all.2 ∙ app.tables.0 (λ e. absurd (omega arith)),
      ap (λ (t : Trees). t 1) trees ∙ all.1 ∙ here,
      ap (λ (t : Trees). t 2) trees ∙ all.0,
      ap (λ (it : Written). it.last) done ∙ ap last_id news,
    )
