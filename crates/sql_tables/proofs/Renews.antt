-- What the transaction that writes bodies again makes of the tables.
use Rattle.std.proofs.Common.{◌≡◌, ℕ, ℤ, pos, ◌==◌, List, [], ◌∷◌, map, Bool, true, false, cond, None, Ok, refl, sym, ap, subst, ◌∙◌}
use Rattle.sql_statements.specs.declared.sql.TheConstants.{SET_RECORD}
use Rattle.sqlite_value.specs.declared.value.Value.TheVariants.{Blob, Int}
use Rattle.sqlite.specs.Command.TheVariants.{Update}
use Rattle.sqlite.specs.Effect.{Database, IsDatabase}
use Rattle.sqlite.specs.Listing.{understood}
use Rattle.sqlite.specs.Store.{Ghosts}
use Rattle.sqlite.specs.State.{State, Executes, Writes}
use Rattle.sqlite.specs.Held.{Held, state}
use Rattle.sqlite.proofs.Callers.{statement_of, runs_as}
use Rattle.sql_tables.specs.declared.renewals.Renewal.{Renewal}
use Rattle.sql_statements.specs.Tables.{token_schema}
use Rattle.sql_statements.specs.Bodies.{Bodies, RowIdsRise, put_at}
use Rattle.sql_statements.specs.Store.{HasRows, body_row}
use Rattle.sql_statements.specs.Rows.{natural}
use Rattle.sql_tables.specs.RanEach.{RanEach, RanRenewals}
use Rattle.sql_tables.specs.Renewed.{AreNatural, put_each, renewed}
use Rattle.sql_statements.proofs.Ids.{RiseFrom, rises_put, rising}
use Rattle.sql_statements.proofs.Texts.{replace_is, set_is}
use Rattle.sql_statements.proofs.Replace.{replace_params, replace_plain, replace_query, replace_rows}
use Rattle.sql_statements.proofs.Update.{set_query, set_params}
use Rattle.sql_statements.proofs.Set.{set_plain, sets_record}
use Rattle.sql_tables.proofs.Each.{again_text}

put_rises : (low id : ℕ) (bytes : List ℕ) (xs : List (ℕ × List ℕ)) → RiseFrom low xs → RiseFrom low (map (put_at id bytes) xs)
put_rises low id bytes [] up = tt
put_rises low id bytes (x ∷ xs) up = go (x.0 == id) (put_rises x.0 id bytes xs up.1)
  where
    go : (t : Bool) → RiseFrom x.0 (map (put_at id bytes) xs) → RiseFrom low (cond t (x.0, bytes) x ∷ map (put_at id bytes) xs)
    go true later = (up.0, later)
    go false later = (up.0, later)

each_rises : (es : List Renewal) (last : ℕ) (xs : List (ℕ × List ℕ)) → RowIdsRise 0 xs last → RowIdsRise 0 (put_each es xs) last
each_rises [] last xs ids = ids
each_rises (e ∷ es) last xs ids =
    each_rises es last (map (put_at (natural e.id) e.body.items) xs) (rises_put 0 last (natural e.id) e.body.items xs ids)

-- what a run of the statement makes of the tables
one_is : (old new : State) (e : Renewal) (count : ℕ) (xs : List (ℕ × List ℕ)) → e.id ≡ pos (natural e.id)
    → old.now.schema ≡ token_schema → old.now.trees 1 ≡ map body_row xs → RiseFrom 0 xs
    → Executes again_text (Int e.id ∷ Blob e.body.items ∷ []) old new (Ok count)
    → (new.now.schema ≡ token_schema) × (new.now.trees 0 ≡ old.now.trees 0)
    × (new.now.trees 1 ≡ map body_row (map (put_at (natural e.id) e.body.items) xs)) × (new.now.trees 2 ≡ old.now.trees 2)
one_is old new e count xs is has are rise ran =
    let params = replace_params (natural e.id) e.body.items in
    let plain = subst (λ (i : ℤ). Executes again_text (Int i ∷ Blob e.body.items ∷ []) old new (Ok count)) is ran in
    let w : Writes old new None (Update 1 (record { lets = []; body = replace_query }))
    (statement_of again_text (understood token_schema again_text)) params count =
    runs_as again_text params old new token_schema has
    (Update 1 (record { lets = []; body = replace_query })) replace_is replace_plain count plain in
    replace_rows old (statement_of again_text (understood token_schema again_text)) xs
    (natural e.id) e.body.items w.tally new.now has are rise w.changed

each_is : {S : Type 0} (g : Ghosts S) (es : List Renewal) (old new : Held S) (xs : List (ℕ × List ℕ)) → AreNatural es
    → (state g old).now.schema ≡ token_schema → (state g old).now.trees 1 ≡ map body_row xs → RiseFrom 0 xs → RanEach g es old new
    → ((state g new).now.schema ≡ token_schema) × ((state g new).now.trees 0 ≡ (state g old).now.trees 0)
    × ((state g new).now.trees 1 ≡ map body_row (put_each es xs)) × ((state g new).now.trees 2 ≡ (state g old).now.trees 2)
each_is g [] old new xs ids has are rise same =
    subst (λ (h : Held _). ((state g h).now.schema ≡ token_schema) × ((state g h).now.trees 0 ≡ (state g old).now.trees 0)
    × ((state g h).now.trees 1 ≡ map body_row xs) × ((state g h).now.trees 2 ≡ (state g old).now.trees 2)) same
    (has, refl, are, refl)
each_is g (e ∷ es) old new xs ids has are rise ran =
    let one = one_is (state g old) (state g ran.0) e ran.1.0 xs ids.0 has are rise ran.1.1 in
    let rest = each_is g es ran.0 new (map (put_at (natural e.id) e.body.items) xs) ids.1 one.0 one.2
    (put_rises 0 (natural e.id) e.body.items xs rise) ran.2 in
    (rest.0, rest.1 ∙ one.1, rest.2, rest.3 ∙ one.3)

pub renews_is : {S : Type 0} (g : Ghosts S) (es : List Renewal) (old : Held S) (db : Database) (to : List ℕ) (b : Bodies)
    → AreNatural es → (state g old).now.schema ≡ token_schema → HasRows (state g old).now.trees b → RanRenewals g es to old db
    → (db.schema ≡ token_schema) × HasRows db.trees (renewed es to b) × IsDatabase db
renews_is g es old db to b ids has it ran =
    let set_text = SET_RECORD.now in
    let mid = state g ran.mid in
    let last = state g ran.last in
    let each = each_is g es (record old { in_transaction = true }) ran.mid b.objects ids has it.objects_are
    (rising (state g old).now.trees b it) ran.each in
    let w : Writes mid last None (Update 0 (record { lets = []; body = set_query }))
    (statement_of set_text (understood token_schema set_text)) (set_params to) ran.count =
    runs_as set_text (set_params to) mid last token_schema each.0
    (Update 0 (record { lets = []; body = set_query })) set_is set_plain ran.count ran.one in
    let done = sets_record to b.token_record mid (statement_of set_text (understood token_schema set_text)) w.tally last.now each.0
    (each.1 ∙ it.record_is) w.changed in
    let now = ran.is in (
      ap (λ (d : Database). d.schema) now ∙ done.0,
      record {
        record_is = ap (λ (d : Database). d.trees 0) now ∙ done.1;
        objects_are = ap (λ (d : Database). d.trees 1) now ∙ done.2 ∙ each.2;
        count_is = ap (λ (d : Database). d.trees 2) now ∙ done.3 ∙ each.3 ∙ it.count_is;
        ids = each_rises es b.last_id b.objects it.ids;
      },
      subst (λ (d : Database). IsDatabase d) (sym now) w.sound,
    )
