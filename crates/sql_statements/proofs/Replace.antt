-- What UPDATE of one object does.
use Rattle.std.proofs.Common.{◌≡◌, inl, inr, ℕ, pos, ◌<◌, ◌≤◌, ◌==◌, List, [], ◌∷◌, map, filter, if◌then◌else◌, Bool, true, false, None, Option, Ok, refl, sym, ap, subst, ◌∙◌, arith}
use Rattle.std.proofs.lemmas.Bool.{cases_lt}
use Rattle.std.proofs.lemmas.Int.{ints}
use Rattle.std.proofs.lemmas.Bool.Decides.{nat_tests}
use Rattle.std.specs.declared.cmp.Ordering.TheVariants.{Less, Greater}
use Rattle.std.specs.List.Sorted.{IsPermutation}
use Rattle.sql_statements.specs.declared.sql.TheConstants.{REPLACE_OBJECT}
use Rattle.sqlite_value.specs.declared.value.Value.TheVariants.{Null, Int, Blob}
use Rattle.sqlite.specs.Order.{Row}
use Rattle.sqlite_value.specs.Order.{value_cmp}
use Rattle.sqlite_value.proofs.OrderLemmas.{value_cmp-Int}
use Rattle.sqlite.specs.Tree.{Trees, put_row, without_rowid}
use Rattle.sqlite_sql.specs.Term.{lit, col}
use Rattle.sqlite.specs.Query.{Query, IsAnswer, output, page, Output}
use Rattle.sqlite.specs.Program.{overlay}
use Rattle.sqlite_schema.specs.declared.schema.Keys.TheVariants.{Enforced}
use Rattle.sqlite.specs.Schema.{Schema}
use Rattle.sqlite.specs.Command.TheVariants.{Update}
use Rattle.sqlite.specs.Effect.{Database}
use Rattle.sqlite.specs.Does.{Tally, Does}
use Rattle.sqlite.specs.State.{State, mode_of}
use Rattle.sqlite.specs.Rows.{Written, Updates}
use Rattle.sqlite.specs.Edit.{Edit, edit_of, edited, put_all}
use Rattle.sqlite.specs.Rowids.TheVariants.{Given}
use Rattle.sqlite_rules.specs.Calls.{ids_of}
use Rattle.sqlite_tied.specs.Compute.{everything}
use Rattle.sqlite.specs.Listing.{understood}
use Rattle.sqlite.proofs.Callers.{IsPlain, one_step, one_permutation}
use Rattle.sql_statements.specs.Bodies.{Bodies, put_at, with_body_at}
use Rattle.sql_statements.specs.Tables.{token_schema, objects_table}
use Rattle.sql_statements.specs.Store.{HasRows, body_row}
use Rattle.sql_statements.proofs.Ids.{RiseFrom, rises_put, rising}
use Rattle.sql_statements.proofs.Texts.{by_id, plain_query, replace_is}
use Rattle.sql_statements.proofs.Insert.{went, same_value, task_on, cast_null, cast_int}
use Rattle.sql_statements.proofs.Remove.{picks, one_found, none_below, none_permuted, not_there, removed_from, taken_out}
use Rattle.sql_statements.proofs.Steps.{concluded}
use Rattle.sql_statements.proofs.Lift.{IsStep}

abbrev pub replace_text : List ℕ
replace_text = REPLACE_OBJECT.now

abbrev pub replace_params : ℕ → List ℕ → Row
replace_params id bytes = Int (pos id) ∷ Blob bytes ∷ []

abbrev pub replace_query : Query
replace_query = record plain_query { filter = by_id; project = col 1 0 ∷ col 1 0 ∷ lit Null ∷ col 0 1 ∷ [] }

-- ---- the list with one body replaced

none_replaced : (id : ℕ) (o : List ℕ) (objects : List (ℕ × List ℕ)) → filter (λ (p : ℕ × List ℕ). p.0 == id) objects ≡ []
    → map (put_at id o) objects ≡ objects
none_replaced id o [] none = refl
none_replaced id o (p ∷ more) none = go (p.0 == id) refl none (none_replaced id o more)
  where
    go : (t : Bool) → (p.0 == id) ≡ t
        → (if t then p ∷ filter (λ (q : ℕ × List ℕ). q.0 == id) more else filter (λ (q : ℕ × List ℕ). q.0 == id) more) ≡ []
        → (filter (λ (q : ℕ × List ℕ). q.0 == id) more ≡ [] → map (put_at id o) more ≡ more) → map (put_at id o) (p ∷ more) ≡ p ∷ more
    go true is none later = absurd (cc)
    go false is none later = rw is (ap (λ (rest : List (ℕ × List ℕ)). p ∷ rest) (later none))

-- a row below all others goes to the front
put_first : (low id : ℕ) (o : List ℕ) (objects : List (ℕ × List ℕ)) → RiseFrom low objects → id ≤ low
    → put_row (body_row (id, o)) (map body_row objects) ≡ body_row (id, o) ∷ map body_row objects
put_first low id o [] up below = refl
put_first low id o (p ∷ more) up below =
    let over : id < p.0 = let h = up.0 in omega arith in
    let greater : value_cmp (Int (pos p.0)) (Int (pos id)) ≡ Greater = value_cmp-Int (pos p.0) (pos id) ∙ grind (arith, ints, nat_tests) in
    rw greater refl

put_back : (low id : ℕ) (b o : List ℕ) (objects : List (ℕ × List ℕ)) → RiseFrom low objects
    → filter (λ (p : ℕ × List ℕ). p.0 == id) objects ≡ (id, b) ∷ []
    → put_row (body_row (id, o)) (map body_row (removed_from id objects)) ≡ map body_row (map (put_at id o) objects)
put_back low id b o [] up there = absurd (cc)
put_back low id b o (p ∷ more) up there = go (p.0 == id) refl there (put_back p.0 id b o more up.1)
  where
    go : (t : Bool) → (p.0 == id) ≡ t
        → (if t then p ∷ filter (λ (q : ℕ × List ℕ). q.0 == id) more else filter (λ (q : ℕ × List ℕ). q.0 == id) more) ≡ (id, b) ∷ []
        → (filter (λ (q : ℕ × List ℕ). q.0 == id) more ≡ (id, b) ∷ []
        → put_row (body_row (id, o)) (map body_row (removed_from id more)) ≡ map body_row (map (put_at id o) more))
        → put_row (body_row (id, o)) (map body_row (removed_from id (p ∷ more))) ≡ map body_row (map (put_at id o) (p ∷ more))
    go true is there later =
        let key : p.0 ≡ id = grind (arith, nat_tests) in
        let none : filter (λ (q : ℕ × List ℕ). q.0 == id) more ≡ [] = cc in
        rw (is, not_there id more none, none_replaced id o more none)
        (put_first p.0 id o more up.1 (omega arith) ∙ ap (λ (n : ℕ). body_row (n, o) ∷ map body_row more) (sym key))
    go false is there later =
        let low_id : p.0 < id = elim (cases_lt p.0 id) [
          | inl less ↦ less
          | inr below ↦ absurd
              (let none = none_below p.0 id more up.1 below in cc)
        ] in
        let less : value_cmp (Int (pos p.0)) (Int (pos id)) ≡ Less = value_cmp-Int (pos p.0) (pos id) ∙ grind (arith, ints, nat_tests) in
        rw (is, less) (ap (λ (rows : List Row). body_row p ∷ rows) (later there))

-- ---- the rows of the table

abbrev replace_edit : Trees → List Row → Edit
replace_edit db rows = edit_of db objects_table (ids_of rows) Given 1 rows

news_is : (db : Trees) (id : ℕ) (bytes : List ℕ)
    → (replace_edit db ((Int (pos id) ∷ Int (pos id) ∷ Null ∷ Blob bytes ∷ []) ∷ [])).news ≡ (Int (pos id) ∷ Null ∷ Blob bytes ∷ []) ∷ []
news_is db id bytes = rw (cast_null, cast_int (pos id)) refl

module _ (db : Trees) (objects : List (ℕ × List ℕ)) (are : db 1 ≡ map body_row objects) (rise : RiseFrom 0 objects) (id : ℕ)
    (o : List ℕ) where
  staged_is : (rows : List Row) (a : IsAnswer replace_query (overlay db []) (replace_params id o) rows)
      → a.staged ≡ map (λ (p : ℕ × List ℕ). replace_params id o ∷ body_row p ∷ []) (filter (λ (p : ℕ × List ℕ). p.0 == id) objects)
  staged_is rows a = a.grouped ∙ rw are (picks id (Blob o ∷ []) objects)

  rows_by : (rows : List Row) → IsAnswer replace_query (overlay db []) (replace_params id o) rows
      → edited db (replace_edit db rows) ≡ map body_row (map (put_at id o) objects)
  rows_by rows a = elim (one_found 0 id objects rise) [
    | inl none ↦
        let kept : a.kept ≡ [] = a.distinct
        ∙ ap (map (output replace_query))
        (staged_is rows a ∙ ap (map (λ (p : ℕ × List ℕ). replace_params id o ∷ body_row p ∷ [])) none) in
        let ordered = none_permuted a.ordered (subst (λ k. IsPermutation k a.ordered) kept a.same) in
        let found : rows ≡ [] = a.shown ∙ ap (λ xs. page replace_query (replace_params id o) (map (λ (p : Output). p.1) xs)) ordered in
        ap (λ (rs : List Row). edited db (replace_edit db rs)) found ∙ are ∙ ap (map body_row) (sym (none_replaced id o objects none))
    | inr one ↦
        let shown : Row = Int (pos id) ∷ Int (pos id) ∷ Null ∷ Blob o ∷ [] in
        let out : Output = ([], shown) in
        let kept : a.kept ≡ out ∷ [] =
        a.distinct ∙ ap (map (output replace_query))
        (staged_is rows a ∙ ap (map (λ (p : ℕ × List ℕ). replace_params id o ∷ body_row p ∷ [])) one.1) in
        let ordered = one_permutation out a.ordered (subst (λ k. IsPermutation k a.ordered) kept a.same) in
        let found : rows ≡ shown ∷ [] =
        a.shown ∙ ap (λ xs. page replace_query (replace_params id o) (map (λ (p : Output). p.1) xs)) ordered in
        ap (λ (rs : List Row). edited db (replace_edit db rs)) found
        ∙ ap (λ (ns : List Row). put_all (without_rowid (pos id) (db 1)) ns) (news_is db id o)
        ∙ ap (λ (rs : List Row). put_row (body_row (id, o)) (without_rowid (pos id) rs)) are
        ∙ ap (put_row (body_row (id, o))) (taken_out id objects)
        ∙ put_back 0 id one.0 o objects rise one.1
  ]

  replaces : (limit : Option ℕ) (w : Written)
      → Updates (task_on limit objects_table (replace_params id o)) (record { lets = []; body = replace_query })
      (replace_params id o) db (Ok w)
      → (w.trees 0 ≡ db 0) × (w.trees 1 ≡ map body_row (map (put_at id o) objects)) × (w.trees 2 ≡ db 2)
  replaces limit w h =
      let given = went h in
      let next = went given.2 in
      let app = one_step token_schema Enforced db next.0 (replace_edit db given.0) refl next.1 in
      let trees : w.trees ≡ next.0 = ap (λ (it : Written). it.trees) (same_value next.2) in (
        ap (λ (t : Trees). t 0) trees ∙ app.tables.0 (λ e. absurd (omega arith)),
        ap (λ (t : Trees). t 1) trees ∙ app.rows ∙ rows_by given.0 (given.1.answer Null),
        ap (λ (t : Trees). t 2) trees ∙ app.tables.1.1.0 (λ e. absurd (omega arith)),
      )

-- what the statement makes of the tables
pub replace_rows : (s : State) (text : List ℕ) (objects : List (ℕ × List ℕ)) (id : ℕ) (o : List ℕ) (tally : Tally)
    (after : Database) → s.now.schema ≡ token_schema → s.now.trees 1 ≡ map body_row objects
    → RiseFrom 0 objects → Does s.step_limit (mode_of s) (replace_params id o) s.now text None
    (Update 1 (record { lets = []; body = replace_query })) (Ok (tally, after))
    → (after.schema ≡ token_schema) × (after.trees 0 ≡ s.now.trees 0) × (after.trees 1 ≡ map body_row (map (put_at id o) objects))
    × (after.trees 2 ≡ s.now.trees 2)
replace_rows s text objects id o tally after has are rise h =
    let done = went (subst (λ (x : Schema). Does s.step_limit (mode_of s) (replace_params id o)
    (record s.now { schema = x }) text None (Update 1 (record { lets = []; body = replace_query })) (Ok (tally, after))) has h) in
    let end = concluded s.step_limit objects_table (replace_params id o) (mode_of s) done.0 tally after done.2 in
    let all = replaces s.now.trees objects are rise id o s.step_limit done.0 done.1 in (
      ap (λ (d : Database). d.schema) end.0,
      ap (λ (d : Database). d.trees 0) end.0 ∙ all.0,
      ap (λ (d : Database). d.trees 1) end.0
          ∙ all.1,
      ap (λ (d : Database). d.trees 2) end.0 ∙ all.2,
    )

-- ---- as a step of the bodies

pub replace_plain : IsPlain (understood token_schema REPLACE_OBJECT.now)
unfolding understood everything
replace_plain = (refl, refl)

replace_does : (id : ℕ) (o : List ℕ) (s : State) (text : List ℕ) (c : Bodies) (tally : Tally) (after : Database)
    → s.now.schema ≡ token_schema → HasRows s.now.trees c
    → Does s.step_limit (mode_of s) (replace_params id o) s.now text None (Update 1 (record { lets = []; body = replace_query }))
    (Ok (tally, after)) → (after.schema ≡ token_schema) × HasRows after.trees (with_body_at id o c)
replace_does id o s text c tally after has it h =
    let all = replace_rows s text c.objects id o tally after has it.objects_are (rising s.now.trees c it) h in (
      all.0,
      record {
        record_is = all.1 ∙ it.record_is;
        objects_are = all.2;
        count_is = all.3 ∙ it.count_is;
        ids = rises_put 0 c.last_id id o c.objects it.ids;
      },
    )

pub replace_step : (id : ℕ) (o : List ℕ)
    → IsStep REPLACE_OBJECT.now (replace_params id o) (Update 1 (record { lets = []; body = replace_query })) (with_body_at id o)
replace_step id o = record {
  is = replace_is;
  plain = replace_plain;
  writes = λ old new text count h. h;
  no_commit = λ e. absurd (cc);
  no_release = λ name e. absurd (cc);
  does = replace_does id o;
}
