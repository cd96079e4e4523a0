-- Queries, which commit nothing.
use Rattle.std.proofs.Common.{◌≡◌, ◌⊎◌, inl, inr, ℕ, List, [], Ok, Err, Result, OnOk, IfOk, IfErr, IsTrue, refl, ap, subst, ◌∙◌, arith}
use Rattle.sqlite.specs.Order.{Row}
use Rattle.sqlite.specs.declared.error.Error.{Error}
use Rattle.sqlite.specs.Listing.{understood}
use Rattle.sqlite.specs.State.{State, HasCleanDisk, Survives, QueriesRow, FailsToQuery, Shown, CommitsShowing, IsNotRun, IsUnchanged, IsRolledBack}
use Rattle.sqlite.specs.Effect.{Database, Reads}
use Rattle.sqlite.proofs.Callers.{IsPlain, command_of, never_commits, reads_as}
use Rattle.sql_statements.specs.Bodies.{Bodies}
use Rattle.sql_statements.specs.Tables.{token_schema}
use Rattle.sql_statements.specs.Store.{IsAtRows, HoldsRows, IsReady, Unwritten, OnlyReads, ShowsNow, SeesTables, IsQuery, RowsStayed, ShowsBody}
use Rattle.sql_statements.proofs.Lift.{back_to, held_on, sees_on, sees_at, at_again}
use Rattle.sql_statements.proofs.Remove.{id_params}
use Rattle.sql_statements.proofs.Find.{read_text, read_plain, finds_row}

pub kept_stays : (old new : State) → Unwritten old new → RowsStayed old new
kept_stays old new kept = record {
  clean = kept.clean;
  was_open = kept.was_open;
  held = λ c h. held_on old new c kept h;
  crash = λ c h clean left may. kept.crash clean left may;
}

-- a query that was plain leaves the connection unchanged or rolled back
shows_same : (old new : State) (sql : List ℕ) (params : Row) (rows : List Row) → IsPlain (understood old.now.schema sql)
    → Shown sql params old new rows → IsUnchanged old new
unfolding Shown
shows_same old new sql params rows plain h =
    let bare = (subst IsPlain h.1.is plain).0 in
    (rw bare at h.2).3

row_how : (old new : State) (sql : List ℕ) (params : Row) (r : Result Row Error) → IsPlain (understood old.now.schema sql)
    → QueriesRow sql params old new r → IsUnchanged old new ⊎ IsRolledBack old new
unfolding QueriesRow FailsToQuery IsNotRun
row_how old new sql params (Ok row) plain (inl h) = inl h.1
row_how old new sql params (Ok row) plain (inr h) = inl (shows_same old new sql params h.0 plain h.1)
row_how old new sql params (Err e) plain (inl (inl (inl refused))) = inl refused.1
row_how old new sql params (Err e) plain (inl (inl (inr fails))) = inr fails.3
row_how old new sql params (Err e) plain (inl (inr ran)) =
    let bare = (subst IsPlain ran.1.is plain).0 in
    inl (rw bare at ran.2).3
row_how old new sql params (Err e) plain (inr none) = inl (shows_same old new sql params [] plain none.1)

was_open : (old new : State) → IsTrue new.is_open → IsUnchanged old new ⊎ IsRolledBack old new → IsTrue old.is_open
was_open old new up (inl same) = same.0.was_open
was_open old new up (inr undone) = undone.was_open up

module _ (sql : List ℕ) (params : Row) (plain : IsPlain (understood token_schema sql)) (old mid new : State) (r : Result Row Error)
    (kept : Unwritten old mid) (ready : IsReady mid)
    (ran : HasCleanDisk new → QueriesRow sql params mid new r) (lasts : Survives mid new (CommitsShowing sql params mid)) where
  mid_clean : HasCleanDisk new → HasCleanDisk mid
  mid_clean clean = omega (arith, lasts.clean)

  pub at_mid : HasCleanDisk new → (c : Bodies) → HoldsRows old c → IsAtRows mid c
  at_mid clean c h = held_on old mid c kept h (mid_clean clean) (ready (mid_clean clean))

  pub plain_there : (c : Bodies) → IsAtRows mid c → IsPlain (understood mid.now.schema sql)
  plain_there c at = rw at.schema plain

  pub query_stays : RowsStayed old new
  query_stays = record {
    clean = omega (arith, kept.clean, lasts.clean);
    was_open = λ clean up. kept.was_open (mid_clean clean) (ready (mid_clean clean));
    held = λ c h clean up. let at = at_mid clean c h in
        back_to mid new c up (row_how mid new sql params r (plain_there c at) (ran clean)) at;
    crash = λ c h clean left may.
        elim (lasts.crash clean left may) [
          | inl before ↦ kept.crash (mid_clean clean) left before
          | inr commits ↦ absurd (never_commits sql params mid left (plain_there c (at_mid clean c h)) commits)
        ];
  }

module _ (old mid new : State) (id : ℕ) (r : Result Row Error) (kept : Unwritten old mid) (ready : IsReady mid)
    (ran : HasCleanDisk new → QueriesRow read_text (id_params id) mid new r)
    (lasts : Survives mid new (CommitsShowing read_text (id_params id) mid)) where
  pub read_stays : RowsStayed old new
  read_stays = query_stays read_text (id_params id) read_plain old mid new r kept ready ran lasts

  pub read_found : HasCleanDisk new → (c : Bodies) → HoldsRows old c → IfOk r (λ row. ShowsBody c id row)
  read_found clean c h =
      let at = at_mid read_text (id_params id) read_plain old mid new r kept ready ran lasts clean c h in
      shown r (ran clean) at
    where
      shown : (r : Result Row Error) → QueriesRow read_text (id_params id) mid new r → IsAtRows mid c → IfOk r (λ row. ShowsBody c id row)
      shown (Ok row) h at = finds_row mid new id c row at h
      shown (Err e) h at = tt

-- ---- all rows of a result

rows_how : {V : Type 0} (old new : State) (sql : List ℕ) (params : Row) (items : V → List Row) (r : Result V Error)
    → IsPlain (understood old.now.schema sql) → IfOk r (λ rows. Shown sql params old new (items rows))
    → IfErr r (FailsToQuery sql params old new) → IsUnchanged old new ⊎ IsRolledBack old new
unfolding FailsToQuery IsNotRun
rows_how old new sql params items (Ok rows) plain shown fails = inl (shows_same old new sql params (items rows) plain shown)
rows_how old new sql params items (Err e) plain shown (inl (inl refused)) = inl refused.1
rows_how old new sql params items (Err e) plain shown (inl (inr fails)) = inr fails.3
rows_how old new sql params items (Err e) plain shown (inr ran) =
    let bare = (subst IsPlain ran.1.is plain).0 in
    inl (rw bare at ran.2).3

module _ {V : Type 0} (sql : List ℕ) (query : IsQuery sql) (old mid new : State) (items : V → List Row) (r : Result V Error)
    (kept : Unwritten old mid) (ready : IsReady mid)
    (shown : HasCleanDisk new → IfOk r (λ rows. Shown sql [] mid new (items rows)))
    (fails : HasCleanDisk new → IfErr r (FailsToQuery sql [] mid new)) (lasts : Survives mid new (CommitsShowing sql [] mid)) where
  mid_shows : HasCleanDisk new → (db : Database) → SeesTables old db → HasCleanDisk mid × ShowsNow mid db × (db.schema ≡ token_schema)
  mid_shows clean db sees =
      let mid_clean : HasCleanDisk mid = omega (arith, lasts.clean) in
      let old_clean : HasCleanDisk old = omega (arith, kept.clean, mid_clean) in (
        mid_clean,
        kept.sees db (λ cl up. (sees cl up).0) mid_clean (ready mid_clean),
        (sees old_clean (kept.was_open mid_clean (ready mid_clean))).1,
      )

  plain_mid : (db : Database) → ShowsNow mid db → db.schema ≡ token_schema → IsPlain (understood mid.now.schema sql)
  plain_mid db shows ours = rw (ap (λ (d : Database). d.schema) shows.now ∙ ours) query.0

  pub all_reads : OnlyReads old new
  all_reads = record {
    clean = omega (arith, kept.clean, lasts.clean);
    was_open = λ clean up. let mid_clean : HasCleanDisk mid = omega (arith, lasts.clean) in kept.was_open mid_clean (ready mid_clean);
    sees = λ db sees clean up.
        let at = mid_shows clean db sees in (
          sees_on mid new db at.0 up (rows_how mid new sql [] items r (plain_mid db at.1 at.2) (shown clean) (fails clean))
              (λ _ _. at.1),
          at.2,
        );
    crash = λ clean db sees left may.
        let at = mid_shows clean db sees in
        elim (lasts.crash clean left may) [
          | inl before ↦ kept.crash at.0 left before
          | inr commits ↦ absurd (never_commits sql [] mid left (plain_mid db at.1 at.2) commits)
        ];
  }

  -- the rows are a result, and the connection is open
  pub all_shown : HasCleanDisk new → (db : Database) → SeesTables old db
      → IfOk r (λ rows. Reads (command_of (understood token_schema sql)) db [] (items rows) × IsTrue new.is_open)
  all_shown clean db sees = both r (shown clean)
    where
      both : (r : Result V Error) → IfOk r (λ rows. Shown sql [] mid new (items rows))
          → IfOk r (λ rows. Reads (command_of (understood token_schema sql)) db [] (items rows) × IsTrue new.is_open)
      both (Ok rows) h =
          let at = mid_shows clean db sees in
          let schema = ap (λ (d : Database). d.schema) at.1.now ∙ at.2 in (
            subst (λ (d : Database). Reads (command_of (understood token_schema sql)) d [] (items rows)) at.1.now
                (reads_as sql [] mid new token_schema schema (command_of (understood token_schema sql)) refl query.0 query.1
                (items rows) h),
            (shows_same mid new sql [] (items rows) (plain_mid db at.1 at.2) h).0.is_open,
          )
      both (Err e) h = tt

pub reads_kept : (old new : State) → Unwritten old new → OnlyReads old new
reads_kept old new kept = record {
  clean = kept.clean;
  was_open = kept.was_open;
  sees = λ db sees clean up. (
    kept.sees db (λ cl op. (sees cl op).0) clean up,
    (let old_clean : HasCleanDisk old = omega (arith, kept.clean) in (sees old_clean (kept.was_open clean up)).1),
  );
  crash = λ clean db sees left may. kept.crash clean left may;
}

-- ---- reading our tables, where bodies are held

pub sees_held : (s : State) (c : Bodies) → HoldsRows s c → SeesTables s s.now
sees_held s c h = λ clean up. let at = h clean up in (sees_at s c at clean up, at.schema)

pub reads_stay : (old new : State) → OnlyReads old new → RowsStayed old new
reads_stay old new reads = record {
  clean = reads.clean;
  held = λ c h clean up.
      let old_clean : HasCleanDisk old = omega (arith, reads.clean) in
      at_again old new c (h old_clean (reads.was_open clean up)) (reads.sees old.now (sees_held old c h) clean up).0;
  was_open = reads.was_open;
  crash = λ c h clean left may. reads.crash clean old.now (sees_held old c h) left may;
}

pub first_of_both : {V E : Type 0} (P : V → Type 0) (Q : Type 0) (r : Result V E) → IfOk r (λ x. P x × Q) → IfOk r P
first_of_both P Q (Ok x) h = h.0
first_of_both P Q (Err e) h = tt

pub second_of_both : {V E : Type 0} (P : V → Type 0) (Q : Type 0) (r : Result V E) → IfOk r (λ x. P x × Q) → OnOk r Q
second_of_both P Q (Ok x) h = h.1
second_of_both P Q (Err e) h = tt

pub on_ok : {V E : Type 0} (P : Type 0) (r : Result V E) → P → OnOk r P
on_ok P (Ok x) it = it
on_ok P (Err e) it = tt
