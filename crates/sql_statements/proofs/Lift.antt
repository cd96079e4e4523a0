-- From what a statement does to the tables to what it does to a connection.
use Rattle.std.proofs.Common.{◌≡◌, ◌⊎◌, inl, inr, ℕ, List, [], false, if◌then◌else◌, None, Ok, Err, Result, OnOk, OnErr, IfOk, IfErr, IsTrue, refl, sym, ap, subst, ◌∙◌, arith, append-nil}
use Rattle.sqlite.specs.Order.{Row}
use Rattle.sqlite.specs.Tree.{Trees}
use Rattle.sqlite.specs.Effect.{Database, IsDatabase}
use Rattle.sqlite.specs.Does.{Tally, Does}
use Rattle.sqlite.specs.Command.{Command}
use Rattle.sqlite.specs.Command.TheVariants.{Commit, Release}
use Rattle.sqlite.specs.declared.error.Error.{Error}
use Rattle.sqlite.specs.Listing.{understood}
use Rattle.sqlite.specs.State.{State, mode_of, HasCleanDisk, Survives, Executes, ExecutesIn, Runs, Writes, CommitsBy, MayWrite, IsNotRun, IsUnchanged, IsRolledBack, shows_rows, text_of}
use Rattle.sqlite.proofs.Callers.{IsPlain, command_of, runs_as}
use Rattle.std.proofs.lemmas.Bool.{cases_Bool}
use Rattle.sql_statements.specs.Bodies.{Bodies}
use Rattle.sql_statements.specs.Tables.{token_schema}
use Rattle.sqlite.specs.Schema.{Schema}
use Rattle.sql_statements.specs.Store.{HasRows, HasTables, IsAtRows, HoldsRows, IsReady, ShowsNow, Sees, Unwritten, Committed, Uncommitted, RowsChanged, RowsFailed}

-- a database with the two tables
pub tables_in : (db : Database) (b : Bodies) → db.schema ≡ token_schema → HasRows db.trees b → IsDatabase db → HasTables db.trees b
tables_in db b has rows sound =
    record { rows = rows; sound = subst (λ (s : Schema). IsDatabase (record { schema = s; trees = db.trees })) has sound }

-- the text is a write, which makes this of the bodies
pub record IsStep (sql : List ℕ) (params : Row) (command : Command) (step : Bodies → Bodies) : Type 1 where
  pub is : command_of (understood token_schema sql) ≡ command
  pub plain : IsPlain (understood token_schema sql)
  pub writes : (old new : State) (text : List ℕ) (count : ℕ) → Runs old new None command text params count
      → Writes old new None command text params count
  pub no_commit : command ≡ Commit → ⊥
  pub no_release : (name : List ℕ) → command ≡ Release name → ⊥
  pub does : (s : State) (text : List ℕ) (c : Bodies) (tally : Tally) (after : Database) → s.now.schema ≡ token_schema
      → HasRows s.now.trees c
      → Does s.step_limit (mode_of s) params s.now text None command (Ok (tally, after)) → (after.schema ≡ token_schema)
      × HasRows after.trees (step c)

-- a connection that is unchanged or rolled back
pub back_to : (old new : State) (c : Bodies) → IsTrue new.is_open → IsUnchanged old new ⊎ IsRolledBack old new → IsAtRows old c
    → IsAtRows new c
back_to old new c up (inl same) at = record {
  schema = ap (λ (d : Database). d.schema) same.0.now_is ∙ at.schema;
  settled = same.0.committed_is ∙ at.settled ∙ sym same.0.now_is;
  autocommit = same.0.mode ∙ at.autocommit;
  stores = subst (λ (d : Database). HasRows d.trees c) (sym same.0.now_is) at.stores;
  sound = subst (λ (d : Database). IsDatabase d) (sym same.0.now_is) at.sound;
}
back_to old new c up (inr undone) at =
    let now = (undone.undone up).0 ∙ at.settled in record {
      schema = ap (λ (d : Database). d.schema) now ∙ at.schema;
      settled = (undone.undone up).1 ∙ sym (undone.undone up).0;
      autocommit = undone.autocommit;
      stores = subst (λ (d : Database). HasRows d.trees c) (sym now) at.stores;
      sound = subst (λ (d : Database). IsDatabase d) (sym now) at.sound;
    }

module _ (sql : List ℕ) (params : Row) (command : Command) (step : Bodies → Bodies) (it : IsStep sql params command step)
    (old new : State) where
  pub ok_at : (c : Bodies) (count : ℕ) → IsAtRows old c → Executes sql params old new (Ok count) → IsTrue new.is_open
      × IsAtRows new (step c)
  ok_at c count at h =
      let w = it.writes old new _ count (runs_as sql params old new token_schema at.schema command it.is it.plain count h) in
      let d = it.does old _ c w.tally new.now at.schema at.stores w.changed in (
        w.shown.is_open,
        record {
          schema = d.0;
          settled = w.shown.committed_is ∙ ap (λ b. if b then old.committed else new.now) at.autocommit;
          autocommit = w.shown.mode ∙ at.autocommit;
          stores = d.1;
          sound = w.sound;
        },
      )

  pub commit_at : (c : Bodies) (db : Trees) → IsAtRows old c → CommitsBy sql params old db → HasTables db (step c)
  unfolding CommitsBy
  commit_at c db at h =
      let known = sym h.1.is ∙ ap (λ s. understood s sql) at.schema in
      let bare = subst IsPlain (sym known) it.plain in
      let same : h.0.command ≡ command = ap command_of known ∙ it.is in
      elim h.2 [
        | inl ends ↦ absurd (elim ends.0 [ inl e ↦ it.no_commit (sym same ∙ e) | inr e ↦ it.no_release e.0 (sym same ∙ e.2) ])
        | inr made ↦
            let one = subst (λ (k : Command). MayWrite old None k (text_of sql h.0) params db) same
            (rw (bare.0, bare.1, append-nil params) at made) in
            let d = it.does old (text_of sql h.0) c one.1 one.2 at.schema at.stores one.3 in
            subst (λ (t : Trees). HasTables t (step c)) (sym one.5) (tables_in one.2 (step c) d.0 d.1 one.4)
      ]

  pub err_at : (e : Error) → Executes sql params old new (Err e) → IsUnchanged old new ⊎ IsRolledBack old new
  unfolding ExecutesIn IsNotRun
  err_at e (inl (inl refused)) = inl refused.1
  err_at e (inl (inr fails)) = inr fails.3
  err_at e (inr ran) = elim (cases_Bool (shows_rows false ran.0)) [
    | inl shows ↦ inl (rw shows at ran.2).1
    | inr runs ↦ elim (rw runs at ran.2) [ inl refused ↦ inl refused.1 | inr fails ↦ inr fails.3 ]
  ]

  pub was_open : IsTrue new.is_open → IsUnchanged old new ⊎ IsRolledBack old new → IsTrue old.is_open
  was_open up (inl same) = same.0.was_open
  was_open up (inr undone) = undone.was_open up

  pub done : (count : ℕ) → (HasCleanDisk new → Executes sql params old new (Ok count)) → Survives old new (CommitsBy sql params old)
      → ((db : Trees) → IsTrue new.is_open → new.may_leave db → db ≡ new.committed.trees) → Committed old new step
  done count ran lasts settled = record {
    clean = lasts.clean;
    held = λ c ready at clean up. (ok_at c count (at (before clean) (ready (before clean))) (ran clean)).1;
    crash = λ c ready at clean left may.
        let now = ok_at c count (at (before clean) (ready (before clean))) (ran clean) in
        let trees : left ≡ new.now.trees = settled left now.0 may ∙ ap (λ (d : Database). d.trees) now.1.settled in
        subst (λ (t : Trees). HasTables t (step c)) (sym trees) (tables_in new.now (step c) now.1.schema now.1.stores now.1.sound);
  }
    where
      before : HasCleanDisk new → HasCleanDisk old
      before clean = omega (arith, lasts.clean)

  pub undone : (e : Error) → (HasCleanDisk new → Executes sql params old new (Err e)) → Survives old new (CommitsBy sql params old)
      → Uncommitted old new step
  undone e ran lasts = record {
    clean = lasts.clean;
    held = λ c ready at clean up.
        let old_clean : HasCleanDisk old = omega (arith, lasts.clean) in
        let how = err_at e (ran clean) in back_to old new c up how (at old_clean (was_open up how));
    crash = λ c ready at clean left may.
        let old_clean : HasCleanDisk old = omega (arith, lasts.clean) in
        elim (lasts.crash clean left may) [
          | inl before ↦ inl before
          | inr made ↦ inr
              (commit_at c left (at old_clean (ready old_clean)) made)
        ];
  }

  pub ends : (r : Result ℕ Error) → (HasCleanDisk new → Executes sql params old new r) → Survives old new (CommitsBy sql params old)
      → ((db : Trees) → IsTrue new.is_open → new.may_leave db → db ≡ new.committed.trees) → OnOk r (Committed old new step)
      × OnErr r (Uncommitted old new step)
  ends (Ok count) ran lasts settled = (done count ran lasts settled, tt)
  ends (Err e) ran lasts settled = (tt, undone e ran lasts)

-- a connection that is unchanged or rolled back sees what it saw
pub sees_on : (old new : State) (db : Database) → HasCleanDisk old → IsTrue new.is_open → IsUnchanged old new ⊎ IsRolledBack old new
    → Sees old db → ShowsNow new db
sees_on old new db clean up (inl same) sees = let at = sees clean same.0.was_open in
    record { now = same.0.now_is ∙ at.now; settled = same.0.committed_is ∙ at.settled; autocommit = same.0.mode ∙ at.autocommit }
sees_on old new db clean up (inr undone) sees =
    let at = sees clean (undone.was_open up) in
    let both = undone.undone up in
    record { now = both.0 ∙ at.settled; settled = both.1 ∙ at.settled; autocommit = undone.autocommit }

pub opened : (old new : State) → IsTrue new.is_open → IsUnchanged old new ⊎ IsRolledBack old new → IsTrue old.is_open
opened old new up (inl same) = same.0.was_open
opened old new up (inr undone) = undone.was_open up

-- a call that commits nothing, and leaves the connection unchanged or rolled back
pub kept : (old new : State) → (HasCleanDisk new → IsUnchanged old new ⊎ IsRolledBack old new) → Survives old new (λ _. ⊥)
    → Unwritten old new
kept old new how lasts = record {
  clean = lasts.clean;
  was_open = λ clean up. opened old new up (how clean);
  sees = λ db sees clean up. let old_clean : HasCleanDisk old = omega (arith, lasts.clean) in
      sees_on old new db old_clean up (how clean) sees;
  crash = λ clean left may. elim (lasts.crash clean left may) [ inl before ↦ before | inr none ↦ absurd none ];
}

-- what an open connection that is at bodies sees
pub sees_at : (s : State) (c : Bodies) → IsAtRows s c → Sees s s.now
sees_at s c at = λ _ _. record { now = refl; settled = at.settled; autocommit = at.autocommit }

pub at_again : (old new : State) (c : Bodies) → IsAtRows old c → ShowsNow new old.now → IsAtRows new c
at_again old new c at shows = record {
  schema = ap (λ (d : Database). d.schema) shows.now ∙ at.schema;
  settled = shows.settled ∙ sym shows.now;
  autocommit = shows.autocommit;
  stores = subst (λ (d : Database). HasRows d.trees c) (sym shows.now) at.stores;
  sound = subst (λ (d : Database). IsDatabase d) (sym shows.now) at.sound;
}

-- nothing was written, so what it holds is held
pub held_on : (old new : State) (c : Bodies) → Unwritten old new → HoldsRows old c → HoldsRows new c
held_on old new c kept h clean up =
    let old_clean : HasCleanDisk old = omega (arith, kept.clean) in
    let at = h old_clean (kept.was_open clean up) in
    at_again old new c at (kept.sees old.now (sees_at old c at) clean up)

pub prepared : {T : Type 0} (old new : State) (sql : List ℕ) (r : Result T Error) (P : T → Type 0)
    → IfOk r (λ s. P s × IsUnchanged old new) → IfErr r (λ e. (params : Row) → IsNotRun old new sql params e) → IsUnchanged old new
    ⊎ IsRolledBack old new
unfolding IsNotRun
prepared old new sql (Ok s) P ok err = inl ok.1
prepared old new sql (Err e) P ok err = elim (err []) [ inl refused ↦ inl refused.1 | inr fails ↦ inr fails.3 ]

-- ---- a call that finds the connection open, and then a statement

pub then_done : (old mid new : State) (step : Bodies → Bodies) → Unwritten old mid → IsReady mid → Committed mid new step
    → RowsChanged old new step
then_done old mid new step kept ready done = record {
  clean = omega (arith, kept.clean, done.clean);
  was_open = λ clean. let mid_clean : HasCleanDisk mid = omega (arith, done.clean) in kept.was_open mid_clean (ready mid_clean);
  held = λ c h. done.held c ready (held_on old mid c kept h);
  crash = λ c h. done.crash c ready (held_on old mid c kept h);
}

pub then_undone : (old mid new : State) (step : Bodies → Bodies) → Unwritten old mid → IsReady mid → Uncommitted mid new step
    → RowsFailed old new step
then_undone old mid new step kept ready undone = record {
  clean = omega (arith, kept.clean, undone.clean);
  was_open = λ clean up. found clean;
  held = λ c h. undone.held c ready (held_on old mid c kept h);
  crash = λ c h clean left may.
      elim (undone.crash c ready (held_on old mid c kept h) clean left may) [
        | inl before ↦ inl
            (kept.crash (let mid_clean : HasCleanDisk mid = omega (arith, undone.clean) in mid_clean) left before)
        | inr made ↦ inr
            (found clean, made)
      ];
}
  where
    found : HasCleanDisk new → IsTrue old.is_open
    found clean = let mid_clean : HasCleanDisk mid = omega (arith, undone.clean) in kept.was_open mid_clean (ready mid_clean)

pub not_sent : (old new : State) (step : Bodies → Bodies) → Unwritten old new → RowsFailed old new step
not_sent old new step kept = record {
  clean = kept.clean;
  was_open = kept.was_open;
  held = λ c h. held_on old new c kept h;
  crash = λ c h clean left may. inl (kept.crash clean left may);
}

pub not_sent_if : {T : Type 0} (old new : State) (step : Bodies → Bodies) (r : Result T Error) → Unwritten old new
    → OnErr r (RowsFailed old new step)
not_sent_if old new step (Ok x) kept = tt
not_sent_if old new step (Err e) kept = not_sent old new step kept

pub failed_if : {T : Type 0} (old new : State) (step : Bodies → Bodies) (r : Result T Error) → RowsFailed old new step
    → OnErr r (RowsFailed old new step)
failed_if old new step (Ok x) it = tt
failed_if old new step (Err e) it = it
