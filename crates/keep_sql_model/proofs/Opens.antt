-- What the reading of a whole store finds, and what its opening makes of a connection.
use Rattle.std.proofs.Common.{◌≡◌, List, All, Contains, Bool, true, false, Ok, Err, Result, IfOk, OnOk, IsErrAnd, IsErrOf, refl, sym, ap, subst, ◌∙◌, arith}
use Rattle.std.specs.List.Sorted.{IsPermutation}
use Rattle.std.proofs.lemmas.List.Sorted.{IsPermutation-sym, All-permutation, Contains-permutation}
use Rattle.std.proofs.lemmas.List.Elements.{All-weaker}
use Rattle.sqlite_value.specs.Order.{Row}
use Rattle.sqlite.specs.Effect.{Database}
use Rattle.sqlite.specs.State.{State, HasCleanDisk}
use Rattle.sqlite.proofs.Callers.{one_permutation}
use Rattle.pin_record.specs.Records.{TokenRecord}
use Rattle.sql_statements.specs.Tables.{no_schema, token_schema}
use Rattle.sql_statements.specs.Store.{OnlyReads}
use Rattle.sql_statements.specs.Rows.{bodies, ids_and_bodies}
use Rattle.sql_tables.specs.declared.renewals.Renewal.{Renewal}
use Rattle.keep_sql_model.specs.Rows.{ShowRecordEither, ShowsEither}
use Rattle.keep_sql_model.specs.Renewals.{FindsRecord, IsCovered, IsOfRow}
use Rattle.keep_sql_model.specs.Opening.{has_tables}

-- ---- the rows of the record's table

pub record_found : (db : Database) (rows slice : List Row) (r : TokenRecord) (old : Bool) → slice ≡ rows
    → IsPermutation (bodies (db.trees 0)) rows → FindsRecord slice r old → FindsRecord (bodies (db.trees 0)) r old
record_found db rows slice r old same listed given =
    let it = subst (λ (k : List Row). FindsRecord k r old) same given in
    let moved = subst (λ (k : List Row). IsPermutation k (bodies (db.trees 0))) it.alone
    (IsPermutation-sym (bodies (db.trees 0)) rows listed) in
    record {
      row = it.row;
      bytes = it.bytes;
      alone = one_permutation it.row (bodies (db.trees 0)) moved;
      body_is = it.body_is;
      stored = it.stored;
    }

pub record_shown : (db : Database) (rows slice : List Row) (r : TokenRecord) → slice ≡ rows
    → IsPermutation (bodies (db.trees 0)) rows → ShowRecordEither (bodies (db.trees 0)) r → ShowRecordEither slice r
record_shown db rows slice r same listed it =
    let moved = subst (λ (k : List Row). IsPermutation k rows) it.alone listed in
    record { row = it.row; bytes = it.bytes; alone = same ∙ one_permutation it.row rows moved; body_is = it.body_is; is_body = it.is_body }

-- ---- the rows of the objects' table

pub objects_covered : (db : Database) (rows slice : List Row) (es : List Renewal) → slice ≡ rows
    → IsPermutation (ids_and_bodies (db.trees 1)) rows → All (IsCovered es) slice → All (IsCovered es) (ids_and_bodies (db.trees 1))
objects_covered db rows slice es same listed all =
    All-permutation (IsCovered es) rows (ids_and_bodies (db.trees 1)) (IsPermutation-sym (ids_and_bodies (db.trees 1)) rows listed)
    (subst (λ (k : List Row). All (IsCovered es) k) same all)

pub objects_owned : (db : Database) (rows slice : List Row) (es : List Renewal) → slice ≡ rows
    → IsPermutation (ids_and_bodies (db.trees 1)) rows → All (IsOfRow slice) es → All (IsOfRow (ids_and_bodies (db.trees 1))) es
objects_owned db rows slice es same listed all =
    All-weaker (IsOfRow slice) (IsOfRow (ids_and_bodies (db.trees 1)))
    (λ e of. (
      of.0,
      Contains-permutation rows (ids_and_bodies (db.trees 1)) of.0
          (IsPermutation-sym (ids_and_bodies (db.trees 1)) rows listed) (subst (λ (k : List Row). Contains k of.0) same of.1),
      of.2,
    )) es all

pub objects_shown : (db : Database) (rows slice : List Row) → slice ≡ rows → IsPermutation (ids_and_bodies (db.trees 1)) rows
    → All ShowsEither (ids_and_bodies (db.trees 1)) → All ShowsEither slice
objects_shown db rows slice same listed all =
    subst (λ (k : List Row). All ShowsEither k) (sym same) (All-permutation ShowsEither (ids_and_bodies (db.trees 1)) rows listed all)

-- ---- which tables there are

pub none_there : has_tables no_schema ≡ false
none_there = refl

pub both_there : has_tables token_schema ≡ true
both_there = refl

pub not_none : (s : State) → has_tables s.now.schema ≡ true → s.now.schema ≡ no_schema → ⊥
not_none s there none = absurd (let no : true ≡ false = sym there ∙ ap has_tables none ∙ none_there in cc)

pub not_both : (s : State) → has_tables s.now.schema ≡ false → s.now.schema ≡ token_schema → ⊥
not_both s none both = absurd (let no : false ≡ true = sym none ∙ ap has_tables both ∙ both_there in cc)

pub if_found : {X E : Type 0} (P Q : X → Type 0) (r : Result X E) → ((x : X) → P x → Q x) → IfOk r P → IfOk r Q
if_found P Q (Ok x) step it = step x it
if_found P Q (Err e) step it = tt

pub on_found : {X E : Type 0} (P Q : Type 0) (r : Result X E) → (P → Q) → OnOk r P → OnOk r Q
on_found P Q (Ok x) step it = step it
on_found P Q (Err e) step it = tt

pub on_ok : {X E : Type 0} (P : Type 0) (r : Result X E) → P → OnOk r P
on_ok P (Ok x) it = it
on_ok P (Err e) it = tt

pub reads_then : (old mid new : State) → OnlyReads old mid → OnlyReads mid new → OnlyReads old new
reads_then old mid new one two = record {
  clean = omega (arith, one.clean, two.clean);
  was_open = λ clean up. let mid_clean : HasCleanDisk mid = omega (arith, two.clean) in one.was_open mid_clean (two.was_open clean up);
  sees = λ db sees. two.sees db (one.sees db sees);
  crash = λ clean db sees left may. let mid_clean : HasCleanDisk mid = omega (arith, two.clean) in
      one.crash mid_clean db sees left (two.crash clean db (one.sees db sees) left may);
}

pub same_fault : {X E : Type 0} (r : Result X E) (e d : E) → IsErrAnd r (λ x. x ≡ e) → IsErrOf r d → e ≡ d
same_fault (Ok x) e d same is = absurd same
same_fault (Err f) e d same is = let told : f ≡ d = cc in sym same ∙ told
