-- What the opening of a store makes of a connection, from its steps.
use Rattle.std.proofs.Common.{◌≡◌, ◌≢◌, ◌⊎◌, inl, inr, Bool, true, false, not, Ok, Err, Result, IfOk, IfErr, OnOk, OnErr, IsErrAnd, IsErrOf, IsTrue, refl, sym, ap, subst, ◌∙◌, arith, ◌≤◌}
use Rattle.sqlite_trees.specs.View.{doubt}
use Rattle.sqlite.specs.Tree.{Trees}
use Rattle.sqlite.specs.Effect.{Database, IsDatabase}
use Rattle.sqlite.specs.Store.{Ghosts}
use Rattle.sqlite.specs.State.{State, HasCleanDisk}
use Rattle.sqlite.specs.Held.{state}
use Rattle.pin_record.specs.Records.{TokenRecord, new_record}
use Rattle.keep.specs.Contents.{Contents, new_contents}
use Rattle.keep.specs.declared.keep.KeepFault.{KeepFault}
use Rattle.keep.specs.declared.keep.KeepFault.TheVariants.{Damaged}
use Rattle.sql_statements.specs.Tables.{no_schema, token_schema}
use Rattle.sql_statements.specs.Store.{IsReady, OnlyReads, Sees, SeesTables, ShowsNow, Unwritten}
use Rattle.keep_sql_model.specs.Store.{IsStore, IsAt, Holds, ReadsAs}
use Rattle.keep_sql_model.specs.SqlState.{SqlState, sql_terms}
use Rattle.keep_sql.specs.declared.taking.Found.{Found}
use Rattle.keep_sql_model.specs.Formats.{HoldsEither, IsAtEither, StoresEither}
use Rattle.keep_sql.specs.Found.{TablesFind, is_current}
use Rattle.keep_sql_model.specs.Opening.{Adopts, AllDecode, HasOld, IsOurs, NotOpened, Opened, has_tables}
use Rattle.keep_sql_model.proofs.Held.{at_again, held_on, one_contents, reads_one, reads_stay, sees_held, store_at}
use Rattle.keep_sql_model.proofs.Opens.{not_both, not_none}
use Rattle.keep_sql_model.proofs.Reopened.{stored_either}
use Rattle.keep_sql.proofs.Taken.{either_decodes, found_decodes, has_old, none_old, same_record}

-- ---- in either format

pub either_held : (s : State) (c : Contents) → Holds s c → HoldsEither s c
either_held s c h = λ clean up. let at = h clean up in
    record {
      schema = at.schema;
      settled = at.settled;
      autocommit = at.autocommit;
      stores = stored_either s.now.trees c at.stores;
      sound = at.sound;
    }

either_sees : (s : State) (c : Contents) → HoldsEither s c → SeesTables s s.now
either_sees s c h = λ clean up. let at = h clean up in (record { now = refl; settled = at.settled; autocommit = at.autocommit }, at.schema)

either_again : (old new : State) (c : Contents) → IsAtEither old c → ShowsNow new old.now → IsAtEither new c
either_again old new c at shows = record {
  schema = ap (λ (d : Database). d.schema) shows.now ∙ at.schema;
  settled = shows.settled ∙ sym shows.now;
  autocommit = shows.autocommit;
  stores = subst (λ (d : Database). StoresEither d.trees c) (sym shows.now) at.stores;
  sound = subst (λ (d : Database). IsDatabase d) (sym shows.now) at.sound;
}

either_on : (old new : State) (c : Contents) → Unwritten old new → HoldsEither old c → HoldsEither new c
either_on old new c kept h clean up =
    let old_clean : HasCleanDisk old = omega (arith, kept.clean) in
    let at = h old_clean (kept.was_open clean up) in
    either_again old new c at (kept.sees old.now (λ clean up. (either_sees old c h clean up).0) clean up)

-- ---- a store that has tables is read

module _ (old mid : State) (ready : IsReady old) (sees : Sees old old.now) (there : has_tables old.now.schema ≡ true)
    (reads : OnlyReads old mid) where
  ours_read : old.now.schema ≡ token_schema → SeesTables old old.now
  ours_read both = λ clean up. (sees clean up, both)

  was_clean : HasCleanDisk mid → HasCleanDisk old
  was_clean clean = omega (arith, reads.clean)

  -- what isn't read through
  not_read : (fault : KeepFault)
      → (HasCleanDisk mid → (db : Database) → SeesTables old db → (r : TokenRecord) → AllDecode db.trees r → fault ≢ Damaged)
      → NotOpened old mid fault
  not_read fault undamaged = record {
    clean = reads.clean;
    same = λ ours clean up. elim ours [
      | inl none ↦ absurd (not_none old there none)
      | inr both ↦
          let at = sees (was_clean clean) (ready (was_clean clean)) in
          let shows = (reads.sees old.now (ours_read both) clean up).0 in
          (shows.now, shows.settled ∙ sym at.settled, shows.autocommit ∙ sym at.autocommit)
    ];
    crash = λ ours new clean left may. elim ours [
      | inl none ↦ absurd (not_none old there none)
      | inr both ↦ inl
          (reads.crash clean old.now (ours_read both) left may)
    ];
    unwritten = λ damaged ours clean left may. elim ours [
      | inl none ↦ absurd
          (not_none old there none)
      | inr both ↦ reads.crash clean old.now (ours_read both) left may
    ];
    held = (reads_stay old mid reads).held;
    held_either = λ c h clean up. either_again old mid c (h (was_clean clean) (reads.was_open clean up))
        (reads.sees old.now (either_sees old c h) clean up).0;
    left = λ c h clean left may. reads.crash clean old.now (sees_held old c h) left may;
    left_either = λ c h clean left may. inl (reads.crash clean old.now (either_sees old c h) left may);
    undamaged = λ c h clean. undamaged clean old.now (either_sees old c h) c.token_record
        (either_decodes old.now.trees c (h (was_clean clean) (ready (was_clean clean))).stores);
    fresh = λ none clean. absurd (not_none old there none);
  }

  pub not_taken : (X : Type 0) (r : Result X KeepFault) (q : Result TokenRecord KeepFault) (fault : KeepFault) → r ≡ Err fault
      → IsErrAnd q (λ e. e ≡ fault)
      → (HasCleanDisk mid → (db : Database) → SeesTables old db → (x : TokenRecord) → AllDecode db.trees x → IsErrOf r Damaged → ⊥)
      → IfErr q (NotOpened old mid)
  not_taken X r (Ok x) fault is told undamaged = tt
  not_taken X r (Err e) fault is told undamaged =
      subst (NotOpened old mid) (sym told)
      (not_read fault (λ clean db tables x all damage. undamaged clean db tables x all (is ∙ ap (λ (d : KeepFault). Err d) damage)))

  -- and what is read is made current
  module _ (f : Found) (read : HasCleanDisk mid → (db : Database) → SeesTables old db → IsTrue mid.is_open × TablesFind db.trees f)
      (new : State) (clean_on : doubt mid.is_clean ≤ doubt new.is_clean) where
    mid_clean : HasCleanDisk new → HasCleanDisk mid
    mid_clean clean = omega (arith, clean_on)

    mid_shows : (clean : HasCleanDisk mid) → SeesTables old old.now → ShowsNow mid old.now
    mid_shows clean tables = (reads.sees old.now tables clean (read clean old.now tables).0).0

    -- as it was read
    record Read (c : Contents) : Type 0 where
      at : IsAtEither old c
      at_mid : IsAtEither mid c
      found : TablesFind old.now.trees f
      found_mid : TablesFind mid.now.trees f

    read_at : (c : Contents) → HoldsEither old c → HasCleanDisk mid → Read c
    read_at c h clean =
        let at = h (was_clean clean) (ready (was_clean clean)) in
        let tables = either_sees old c h in
        let shows = mid_shows clean tables in
        let found = (read clean old.now tables).1 in
        record {
          at = at;
          at_mid = either_again old mid c at shows;
          found = found;
          found_mid = subst (λ (d : Database). TablesFind d.trees f) (sym shows.now) found;
        }

    read_ready : SeesTables old old.now → IsReady mid
    read_ready tables = λ clean. (read clean old.now tables).0

    taken_ok : (made : (c : Contents) → IsReady mid → IsAtEither mid c → TablesFind mid.now.trees f → HasCleanDisk new
        → IsTrue new.is_open × IsAt new c) (up : IsReady mid → HasCleanDisk new → IsTrue new.is_open) → Opened old new f.token_record
    taken_ok made up = record {
      clean = omega (arith, reads.clean, clean_on);
      held = λ c h clean.
          let it = read_at c h (mid_clean clean) in
          let done = made c (read_ready (either_sees old c h)) it.at_mid it.found_mid clean in
          (done.0, done.1, same_record old.now.trees c f it.at.stores it.found);
      fresh = λ none clean. absurd (not_none old there none);
      decodes = λ both clean. (
        up (read_ready (ours_read both)) clean,
        found_decodes old.now.trees f (read (mid_clean clean) old.now (ours_read both)).1,
      );
    }

    taken_err : (fault : KeepFault) → fault ≢ Damaged → is_current f ≡ false
        → (same : (db : Database) → IsReady mid → Sees mid db → HasCleanDisk new → IsTrue new.is_open → ShowsNow new db)
        → (crash : (c : Contents) → IsAtEither mid c → TablesFind mid.now.trees f → HasCleanDisk new → (left : Trees)
        → new.may_leave left → mid.may_leave left ⊎ IsStore left c) → NotOpened old new fault
    taken_err fault sound old_one same crash = record {
      clean = omega (arith, reads.clean, clean_on);
      same = λ ours clean up. elim ours [
        | inl none ↦ absurd (not_none old there none)
        | inr both ↦
            let at = sees (was_clean (mid_clean clean)) (ready (was_clean (mid_clean clean))) in
            let shows = stays (ours_read both) clean up in
            (shows.now, shows.settled ∙ sym at.settled, shows.autocommit ∙ sym at.autocommit)
      ];
      crash = λ ours all_new clean left may. elim ours [
        | inl none ↦ absurd (not_none old there none)
        | inr both ↦ absurd (all_new (has_old old.now.trees f (read (mid_clean clean) old.now (ours_read both)).1 old_one))
      ];
      unwritten = λ damaged ours clean left may. absurd (sound damaged);
      held = λ c h clean up. at_again old new c (h (was_clean (mid_clean clean)) (ready (was_clean (mid_clean clean))))
          (stays (sees_held old c h) clean up);
      held_either = λ c h clean up. either_again old new c (h (was_clean (mid_clean clean)) (ready (was_clean (mid_clean clean))))
          (stays (either_sees old c h) clean up);
      left = λ c h clean left may.
          let stores = (h (was_clean (mid_clean clean)) (ready (was_clean (mid_clean clean)))).stores in
          absurd (none_old old.now.trees c stores (has_old old.now.trees f (read (mid_clean clean) old.now (sees_held old c h)).1 old_one));
      left_either = λ c h clean left may.
          let it = read_at c h (mid_clean clean) in
          elim (crash c it.at_mid it.found_mid clean left may) [
            | inl before ↦ inl
                (reads.crash (mid_clean clean) old.now (either_sees old c h) left before)
            | inr whole ↦ inr whole
          ];
      undamaged = λ c h clean. sound;
      fresh = λ none clean. sound;
    }
      where
        stays : SeesTables old old.now → HasCleanDisk new → IsTrue new.is_open → ShowsNow new old.now
        stays tables clean up = same old.now (read_ready tables) (λ clean up. (reads.sees old.now tables clean up).0) clean up

    pub taken : (r : Result TokenRecord KeepFault) → IfOk r (λ x. x ≡ f.token_record)
        → ((c : Contents) → IsReady mid → IsAtEither mid c → TablesFind mid.now.trees f → HasCleanDisk new
        → OnOk r (IsTrue new.is_open × IsAt new c))
        → (IsReady mid → HasCleanDisk new → OnOk r (IsTrue new.is_open))
        → ((db : Database) → IsReady mid → Sees mid db → HasCleanDisk new → IsTrue new.is_open → OnErr r (ShowsNow new db))
        → ((c : Contents) → IsAtEither mid c → TablesFind mid.now.trees f → HasCleanDisk new → (left : Trees) → new.may_leave left
        → mid.may_leave left ⊎ IsStore left c) → OnErr r (is_current f ≡ false) → (IsErrOf r Damaged → ⊥)
        → IfOk r (Opened old new) × IfErr r (NotOpened old new)
    taken (Ok x) is made up same crash old_one undamaged = (subst (Opened old new) (sym is) (taken_ok made up), tt)
    taken (Err fault) is made up same crash old_one undamaged =
        (tt, taken_err fault (λ damage. undamaged (ap (λ (d : KeepFault). Err d) damage)) old_one same crash)

-- ---- a store that has none is made

module _ (old new : State) (ready : IsReady old) (sees : Sees old old.now) (there : has_tables old.now.schema ≡ false)
    (clean_on : doubt old.is_clean ≤ doubt new.is_clean) where
  still_clean : HasCleanDisk new → HasCleanDisk old
  still_clean clean = omega (arith, clean_on)

  -- then no contents were held
  none_held : (c : Contents) → HoldsEither old c → HasCleanDisk new → ⊥
  none_held c h clean = not_both old there (h (still_clean clean) (ready (still_clean clean))).schema

  pub made : (r : Result TokenRecord KeepFault)
      → (old.now.schema ≡ no_schema → HasCleanDisk new
      → IfOk r (λ x. IsTrue new.is_open × IsAt new (new_contents new_record) × (x ≡ new_record)))
      → ((db : Database) → IsReady old → Sees old db → HasCleanDisk new → IsTrue new.is_open → OnErr r (ShowsNow new db))
      → (old.now.schema ≡ no_schema → HasCleanDisk new → (left : Trees) → new.may_leave left → old.may_leave left
      ⊎ IsStore left (new_contents new_record))
      → (old.now.schema ≡ no_schema → IsErrOf r Damaged → ⊥) → IfOk r (Opened old new) × IfErr r (NotOpened old new)
  made (Ok x) fresh same crash undamaged = (
    record {
      clean = clean_on;
      held = λ c h clean. absurd (none_held c h clean);
      fresh = fresh;
      decodes = λ both clean. absurd (not_both old there both);
    },
    tt,
  )
  made (Err fault) fresh same crash undamaged = (
    tt,
    record {
      clean = clean_on;
      same = λ ours clean up.
          let at = sees (still_clean clean) (ready (still_clean clean)) in
          let shows = same old.now ready sees clean up in
          (shows.now, shows.settled ∙ sym at.settled, shows.autocommit ∙ sym at.autocommit);
      crash = λ ours new clean left may. elim ours [
        | inl none ↦ elim (crash none clean left may) [ inl before ↦ inl before | inr whole ↦ inr (none, whole) ]
        | inr both ↦ absurd (not_both old there both)
      ];
      unwritten = λ damaged ours clean left may. elim ours [
        | inl none ↦ absurd (undamaged none (ap Err damaged))
        | inr both ↦ absurd
            (not_both old there both)
      ];
      held = λ c h clean up. absurd (none_held c (either_held old c h) clean);
      held_either = λ c h clean up. absurd (none_held c h clean);
      left = λ c h clean left may. absurd (none_held c (either_held old c h) clean);
      left_either = λ c h clean left may. absurd (none_held c h clean);
      undamaged = λ c h clean. absurd (none_held c h clean);
      fresh = λ none clean is. undamaged none (ap Err is);
    },
  )

-- ---- after a call that found the connection open

module _ (old mid new : State) (kept : Unwritten old mid) (ready : IsReady mid) (sees : Sees old old.now) where
  mid_sees : Sees mid old.now
  mid_sees = kept.sees old.now sees

  pub seen_again : Sees mid mid.now
  seen_again clean up = let at = mid_sees clean up in record { now = refl; settled = at.settled ∙ sym at.now; autocommit = at.autocommit }

  same_now : HasCleanDisk mid → mid.now ≡ old.now
  same_now clean = (mid_sees clean (ready clean)).now

  opened_on : (r : TokenRecord) → Opened mid new r → Opened old new r
  opened_on r it = record {
    clean = omega (arith, kept.clean, it.clean);
    held = λ c h clean. it.held c (either_on old mid c kept h) clean;
    fresh = λ none clean. it.fresh (ap (λ (d : Database). d.schema) (same_now (mid_clean clean)) ∙ none) clean;
    decodes = λ both clean. subst (λ (d : Database). IsTrue new.is_open × AllDecode d.trees r) (same_now (mid_clean clean))
        (it.decodes (ap (λ (d : Database). d.schema) (same_now (mid_clean clean)) ∙ both) clean);
  }
    where
      mid_clean : HasCleanDisk new → HasCleanDisk mid
      mid_clean clean = omega (arith, it.clean)

  not_opened_on : (fault : KeepFault) → NotOpened mid new fault → NotOpened old new fault
  not_opened_on fault it = record {
    clean = omega (arith, kept.clean, it.clean);
    same = λ ours clean up.
        let both = it.same (still_ours clean ours) clean up in
        let was = sees (old_clean clean) (kept.was_open (mid_clean clean) (ready (mid_clean clean))) in
        let at = mid_sees (mid_clean clean) (ready (mid_clean clean)) in
        (both.0 ∙ at.now, both.1 ∙ at.settled ∙ sym was.settled, both.2 ∙ at.autocommit ∙ sym was.autocommit);
    crash = λ ours all_new clean left may. elim
        (it.crash (still_ours clean ours)
        (subst (λ (d : Database). ¬ HasOld d.trees) (sym (same_now (mid_clean clean))) all_new) clean left may) [
          | inl before ↦ inl (kept.crash (mid_clean clean) left before)
          | inr whole ↦ inr (sym (ap (λ (d : Database). d.schema) (same_now (mid_clean clean))) ∙ whole.0, whole.1)
        ];
    unwritten = λ damaged ours clean left may. kept.crash (mid_clean clean) left
        (it.unwritten damaged (still_ours clean ours) clean left may);
    held = λ c h. it.held c (held_on old mid c kept h);
    held_either = λ c h. it.held_either c (either_on old mid c kept h);
    left = λ c h clean left may. kept.crash (mid_clean clean) left (it.left c (held_on old mid c kept h) clean left may);
    left_either = λ c h clean left may. elim
        (it.left_either c (either_on old mid c kept h) clean left may) [
          | inl before ↦ inl
              (kept.crash (mid_clean clean) left before)
          | inr whole ↦ inr whole
        ];
    undamaged = λ c h clean. it.undamaged c (either_on old mid c kept h) clean;
    fresh = λ none clean. it.fresh (ap (λ (d : Database). d.schema) (same_now (mid_clean clean)) ∙ none) clean;
  }
    where
      mid_clean : HasCleanDisk new → HasCleanDisk mid
      mid_clean clean = omega (arith, it.clean)

      old_clean : HasCleanDisk new → HasCleanDisk old
      old_clean clean = omega (arith, kept.clean, it.clean)

      still_ours : HasCleanDisk new → IsOurs old.now.schema → IsOurs mid.now.schema
      still_ours clean ours = subst (λ (d : Database). IsOurs d.schema) (sym (same_now (mid_clean clean))) ours

  pub then_opened : (r : Result TokenRecord KeepFault) → IfOk r (Opened mid new) → IfOk r (Opened old new)
  then_opened (Ok x) it = opened_on x it
  then_opened (Err fault) it = tt

  pub then_not_opened : (r : Result TokenRecord KeepFault) → IfErr r (NotOpened mid new) → IfErr r (NotOpened old new)
  then_not_opened (Ok x) it = tt
  then_not_opened (Err fault) it = not_opened_on fault it

-- ---- a refusal before anything was done

pub not_tried : (old new : State) (fault : KeepFault) → Unwritten old new → Sees old old.now → fault ≢ Damaged → NotOpened old new fault
not_tried old new fault kept sees sound = record {
  clean = kept.clean;
  same = λ ours clean up.
      let old_clean : HasCleanDisk old = omega (arith, kept.clean) in
      let was = sees old_clean (kept.was_open clean up) in
      let at = kept.sees old.now sees clean up in
      (at.now, at.settled ∙ sym was.settled, at.autocommit ∙ sym was.autocommit);
  crash = λ ours all_new clean left may. inl (kept.crash clean left may);
  unwritten = λ damaged ours clean left may. kept.crash clean left may;
  held = λ c h. held_on old new c kept h;
  held_either = λ c h. either_on old new c kept h;
  left = λ c h clean left may. kept.crash clean left may;
  left_either = λ c h clean left may. inl (kept.crash clean left may);
  undamaged = λ c h clean. sound;
  fresh = λ none clean. sound;
}

pub not_touched : (s : State) (fault : KeepFault) → fault ≢ Damaged → NotOpened s s fault
not_touched s fault sound = record {
  clean = omega arith;
  same = λ ours clean up. (refl, refl, refl);
  crash = λ ours all_new clean left may. inl may;
  unwritten = λ damaged ours clean left may. may;
  held = λ c h. h;
  held_either = λ c h. h;
  left = λ c h clean left may. may;
  left_either = λ c h clean left may. inl may;
  undamaged = λ c h clean. sound;
  fresh = λ none clean. sound;
}

not_is : (b : Bool) → true ≡ not b → b ≡ false
not_is true is = absurd (cc)
not_is false is = refl

-- an open connection with no transaction
pub autocommits : (s : State) → true ≡ not s.in_transaction → (IsTrue s.is_open → s.now ≡ s.committed) → Sees s s.now
autocommits s mode settled = λ clean up. record { now = refl; settled = sym (settled up); autocommit = not_is s.in_transaction mode }

-- ---- the keeper that is made

module _ {S : Type 0} (g : Ghosts S) (k : SqlState S) (c : Contents) (clean : HasCleanDisk (state g k.conn))
    (up : IsTrue (state g k.conn).is_open) (at : IsAt (state g k.conn) c) (same : k.token_record ≡ c.token_record)
    (alone : (db : Trees) → IsTrue (state g k.conn).is_open → (state g k.conn).may_leave db → db ≡ (state g k.conn).committed.trees) where
  pub adopts : Adopts (sql_terms g) k c
  adopts = record {
    held = (λ _ _. at, same);
    only = λ d h. one_contents (state g k.conn).now.trees d c (h.0 clean up).stores at.stores;
    alone = λ left may.
        let trees : may.1.0 ≡ (state g k.conn).now.trees = alone may.1.0 up may.1.1 ∙ ap (λ (d : Database). d.trees) at.settled in
        reads_one (state g k.conn).now.trees c left (store_at (state g k.conn) c at) (subst (λ (t : Trees). ReadsAs t left) trees may.1.2);
  }
