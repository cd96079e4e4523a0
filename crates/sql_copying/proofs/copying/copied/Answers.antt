use Rattle.std.proofs.Common.{◌≡◌, IsTrue, sym, ap, subst, ◌∙◌, arith, inl, inr}
use Rattle.sqlite_trees.specs.declared.error.StoreError.TheVariants.{Full}
use Rattle.sqlite_trees.specs.View.{View, IsClean, Tells}
use Rattle.sqlite_store.specs.FileStore.{blamed}
use Rattle.sqlite.specs.Files.{ExcusesClose}
use Rattle.sqlite.specs.Steps.{IsFresh}
use Rattle.sqlite.specs.Closing.{HoldsAlone}
use Rattle.sqlite_trees.specs.Tree.{Trees}
use Rattle.sqlite_catalog.specs.Listing.{IsSound}
use Rattle.sqlite.proofs.Theorems.{copied}
use Rattle.sqlite_store.specs.Laws.{stays_at}
use Rattle.sqlite_store.specs.FileStore.{view}
use Rattle.sql_copying.proofs.Uncopied.{excused, excused_again, shuts}
use Rattle.sql_copying.proofs.copying.copied.Goals as goal

pub over-requires : goal.over-requires
over-requires g c = λ none.
    let back = c.into_store-store.result in
    let before = c.rollback.new.self in
    let clean : IsClean (view before) = omega (arith, c.checkpoint.ensures.quiet.clean, none) in
    let early : IsClean (view back) = omega (arith, c.rollback.ensures.quiet.clean, clean) in
    let on = c.in-Ok.ensures.open none in
    let same = c.checkpoint.ensures.same on in
    let up : IsTrue (view before).is_open = subst (λ (v : View). IsTrue v.is_open) same on in
    let kept = c.rollback.ensures.undone.kept clean in
    let undone = c.rollback.ensures.undone.undone up in
    subst IsFresh (sym same) (record {
      sound = undone.1;
      numbered = subst (λ b. IsTrue b) (sym kept.numbered) (c.into_store-store.ensures.numbered early);
      clean = undone.0 ∙ sym (kept.committed up);
      unmarked = kept.marks up;
    })

pub returns-in-Ok-over-clause-ok : goal.returns-in-Ok-over-clause-ok
returns-in-Ok-over-clause-ok g c =
    let back = c.into_store-store.result in
    let before = c.rollback.new.self in
    let made = c.in-Ok-over.ensures in
    let first_clean = c.into_store-store.ensures.quiet.clean in record {
      clean = omega (arith, first_clean, c.rollback.ensures.quiet.clean, c.checkpoint.ensures.quiet.clean, made.clean);
      was_open = λ sure.
          let none : IsClean (view c.checkpoint.new.self) = omega (arith, made.clean, sure) in
          let clean : IsClean (view before) = omega (arith, c.checkpoint.ensures.quiet.clean, none) in
          let early : IsClean (view back) = omega (arith, c.rollback.ensures.quiet.clean, clean) in
          let on = c.in-Ok.ensures.open none in
          let up : IsTrue (view before).is_open = subst (λ (v : View). IsTrue v.is_open) (c.checkpoint.ensures.same on) on in
          (c.into_store-store.ensures.undone.kept early).was_open ((c.rollback.ensures.undone.kept clean).was_open up);
      opens = made.opens;
      trees = λ sure.
          let none : IsClean (view c.checkpoint.new.self) = omega (arith, made.clean, sure) in
          let clean : IsClean (view before) = omega (arith, c.checkpoint.ensures.quiet.clean, none) in
          let early : IsClean (view back) = omega (arith, c.rollback.ensures.quiet.clean, clean) in
          let on = c.in-Ok.ensures.open none in
          let same = c.checkpoint.ensures.same on in
          let up : IsTrue (view before).is_open = subst (λ (v : View). IsTrue v.is_open) same on in
          let was_up = (c.rollback.ensures.undone.kept clean).was_open up in
          made.trees sure ∙ ap (λ (v : View). v.trees) same ∙ (c.rollback.ensures.undone.undone up).0
          ∙ (c.into_store-store.ensures.undone.kept early).committed was_up;
    }

pub returns-in-Ok-over-clause-file : goal.returns-in-Ok-over-clause-file
returns-in-Ok-over-clause-file g c =
    let back = c.into_store-store.result in
    let before = c.rollback.new.self in
    let last = c.checkpoint.new.self in
    let made = c.in-Ok-over.ensures in inl (record {
      over = last;
      clean = made.clean;
      empty = λ sure.
          let none : IsClean (view last) = omega (arith, made.clean, sure) in
          let clean : IsClean (view before) = omega (arith, c.checkpoint.ensures.quiet.clean, none) in
          let on = c.in-Ok.ensures.open none in
          let up : IsTrue (view before).is_open = subst (λ (v : View). IsTrue v.is_open) (c.checkpoint.ensures.same on) on in
          c.in-Ok.ensures.moved (c.rollback.ensures.logged ((c.rollback.ensures.undone.kept clean).was_open up));
      alone = λ sure image may.
          let none : IsClean (view last) = omega (arith, made.clean, sure) in
          let clean : IsClean (view before) = omega (arith, c.checkpoint.ensures.quiet.clean, none) in
          let early : IsClean (view back) = omega (arith, c.rollback.ensures.quiet.clean, clean) in
          let on = c.in-Ok.ensures.open none in
          let same = c.checkpoint.ensures.same on in
          let up : IsTrue (view before).is_open = subst (λ (v : View). IsTrue v.is_open) same on in
          let kept = c.rollback.ensures.undone.kept clean in
          let numbered : IsTrue (view last).is_numbered =
          subst (λ b. IsTrue b) (sym (ap (λ (v : View). v.is_numbered) same ∙ kept.numbered))
          (c.into_store-store.ensures.numbered early) in
          let trees : (view last).committed ≡ (view last).trees =
          ap (λ (v : View). v.committed) same ∙ kept.committed up ∙ sym (c.rollback.ensures.undone.undone up).0
          ∙ sym (ap (λ (v : View). v.trees) same) in
          subst (HoldsAlone image) (trees ∙ sym (made.trees sure))
          (copied last g.met.D.Disk.seen_may_stay on numbered
          (λ db found. c.into_store-store.ensures.sound early db
          (c.rollback.ensures.quiet.outcomes db (c.checkpoint.ensures.quiet.outcomes db found)))
          (c.in-Ok.ensures.moved (c.rollback.ensures.logged (kept.was_open up))) image may);
    })

pub returns-in-Err-over-clause-left : goal.returns-in-Err-over-clause-left
returns-in-Err-over-clause-left g c = λ trees may.
    c.into_store-store.ensures.quiet.outcomes trees
    (c.rollback.ensures.quiet.outcomes trees
    (c.checkpoint.ensures.quiet.outcomes trees (c.in-Err-over.ensures.unharmed.outcomes trees may)))

pub returns-in-Err-clause-left : goal.returns-in-Err-clause-left
returns-in-Err-clause-left g c = λ trees may.
    c.into_store-store.ensures.quiet.outcomes trees
    (c.rollback.ensures.quiet.outcomes trees (c.checkpoint.ensures.quiet.outcomes trees may))

pub returns-in-Err-clause-cause : goal.returns-in-Err-clause-cause
returns-in-Err-clause-cause g c = λ none.
    let back = c.into_store-store.result in
    let before = c.rollback.new.self in
    let last = c.checkpoint.new.self in
    let one = c.into_store-store.ensures.quiet in
    let two = c.rollback.ensures.quiet in
    let three = c.checkpoint.ensures.quiet in
    let clean : IsClean (view before) = omega (arith, three.clean, none) in
    let early : IsClean (view back) = omega (arith, two.clean, clean) in (
      c.in-Err.error,
      c.error_of.ensures,
      excused c.args.conn before last c.in-Err.error (omega (arith, one.counts, two.counts)) three.counts
          (shuts c.args.conn back before two.counts (one.closes early) (two.closes clean) one.counts)
          (λ up. (c.rollback.ensures.undone.undone up).1) (c.in-Err.ensures.cause none),
    )

pub returns-in-Err-over-clause-cause : goal.returns-in-Err-over-clause-cause
returns-in-Err-over-clause-cause g c = λ none.
    let back = c.into_store-store.result in
    let before = c.rollback.new.self in
    let last = c.checkpoint.new.self in
    let one = c.into_store-store.ensures.quiet in
    let two = c.rollback.ensures.quiet in
    let three = c.checkpoint.ensures.quiet in
    let late : IsClean (view last) = omega (arith, c.in-Err-over.ensures.unharmed.clean, none) in
    let clean : IsClean (view before) = omega (arith, three.clean, late) in
    let early : IsClean (view back) = omega (arith, two.clean, clean) in
    let on = c.in-Ok.ensures.open late in
    let same = c.checkpoint.ensures.same on in
    let up : IsTrue (view before).is_open = subst (λ (v : View). IsTrue v.is_open) same on in
    let trees : (view last).committed ≡ (view last).trees =
    ap (λ (v : View). v.committed) same ∙ (c.rollback.ensures.undone.kept clean).committed up
    ∙ sym (c.rollback.ensures.undone.undone up).0 ∙ sym (ap (λ (v : View). v.trees) same) in
    let sound = c.into_store-store.ensures.sound early (view last).committed
    (two.outcomes _ (three.outcomes _ (stays_at last g.met.D.Disk.seen_may_stay on))) in
    excused_again c.args.conn last c.in-Err-over.store c.in-Err-over.error (view last).trees
    (omega (arith, one.counts, two.counts, three.counts)) c.in-Err-over.ensures.unharmed.counts
    (sound.0, subst (λ (t : Trees). IsSound sound.0 t) trees sound.1) (c.in-Err-over.ensures.err none)

pub uncopied-requires : goal.uncopied-requires
uncopied-requires g c = λ none on.
    let back = c.into_store-store.result in
    let before = c.rollback.new.self in
    let clean : IsClean (view before) = omega (arith, c.checkpoint.ensures.quiet.clean, none) in
    let early : IsClean (view back) = omega (arith, c.rollback.ensures.quiet.clean, clean) in
    let same = c.checkpoint.ensures.same on in
    let up : IsTrue (view before).is_open = subst (λ (v : View). IsTrue v.is_open) same on in
    let kept = c.rollback.ensures.undone.kept clean in
    let undone = c.rollback.ensures.undone.undone up in
    subst IsFresh (sym same) (record {
      sound = undone.1;
      numbered = subst (λ b. IsTrue b) (sym kept.numbered) (c.into_store-store.ensures.numbered early);
      clean = undone.0 ∙ sym (kept.committed up);
      unmarked = kept.marks up;
    })

pub returns-in-Ok-uncopied-clause-ok : goal.returns-in-Ok-uncopied-clause-ok
returns-in-Ok-uncopied-clause-ok g c =
    let back = c.into_store-store.result in
    let before = c.rollback.new.self in
    let made = c.in-Ok-uncopied.ensures in
    let first_clean = c.into_store-store.ensures.quiet.clean in record {
      clean = omega (arith, first_clean, c.rollback.ensures.quiet.clean, c.checkpoint.ensures.quiet.clean, made.clean);
      was_open = λ sure.
          let none : IsClean (view c.checkpoint.new.self) = omega (arith, made.clean, sure) in
          let clean : IsClean (view before) = omega (arith, c.checkpoint.ensures.quiet.clean, none) in
          let early : IsClean (view back) = omega (arith, c.rollback.ensures.quiet.clean, clean) in
          let on = made.open sure in
          let up : IsTrue (view before).is_open = subst (λ (v : View). IsTrue v.is_open) (c.checkpoint.ensures.same on) on in
          (c.into_store-store.ensures.undone.kept early).was_open ((c.rollback.ensures.undone.kept clean).was_open up);
      opens = made.opens;
      trees = λ sure.
          let none : IsClean (view c.checkpoint.new.self) = omega (arith, made.clean, sure) in
          let clean : IsClean (view before) = omega (arith, c.checkpoint.ensures.quiet.clean, none) in
          let early : IsClean (view back) = omega (arith, c.rollback.ensures.quiet.clean, clean) in
          let on = made.open sure in
          let same = c.checkpoint.ensures.same on in
          let up : IsTrue (view before).is_open = subst (λ (v : View). IsTrue v.is_open) same on in
          let was_up = (c.rollback.ensures.undone.kept clean).was_open up in
          made.trees sure ∙ ap (λ (v : View). v.trees) same ∙ (c.rollback.ensures.undone.undone up).0
          ∙ (c.into_store-store.ensures.undone.kept early).committed was_up;
    }

pub returns-in-Ok-uncopied-clause-file : goal.returns-in-Ok-uncopied-clause-file
returns-in-Ok-uncopied-clause-file g c =
    let back = c.into_store-store.result in
    let before = c.rollback.new.self in
    let last = c.checkpoint.new.self in
    let made = c.in-Ok-uncopied.ensures in
    let one = c.into_store-store.ensures.quiet in
    let two = c.rollback.ensures.quiet in
    let three = c.checkpoint.ensures.quiet in inr (record {
      was = c.args.conn;
      copy = returns-in-Ok-uncopied-clause-ok g c;
      over = last;
      clean = made.clean;
      told = subst (Tells (blamed last)) c.in-Err-Full.field-0-is c.in-Err-Full.ensures.told;
      full = λ sure.
          let none : IsClean (view last) = omega (arith, made.clean, sure) in
          let clean : IsClean (view before) = omega (arith, three.clean, none) in
          let early : IsClean (view back) = omega (arith, two.clean, clean) in
          subst (ExcusesClose c.args.conn last) c.in-Err-Full.field-0-is
          (excused c.args.conn before last c.in-Err-Full.field-0 (omega (arith, one.counts, two.counts)) three.counts
          (shuts c.args.conn back before two.counts (one.closes early) (two.closes clean) one.counts)
          (λ up. (c.rollback.ensures.undone.undone up).1) (c.in-Err-Full.ensures.cause none));
    })

pub returns-in-Err-uncopied-clause-cause : goal.returns-in-Err-uncopied-clause-cause
returns-in-Err-uncopied-clause-cause g c = λ late.
    let back = c.into_store-store.result in
    let before = c.rollback.new.self in
    let last = c.checkpoint.new.self in
    let one = c.into_store-store.ensures.quiet in
    let two = c.rollback.ensures.quiet in
    let three = c.checkpoint.ensures.quiet in
    let none : IsClean (view last) = omega (arith, c.in-Err-uncopied.ensures.doubts, late) in
    let clean : IsClean (view before) = omega (arith, three.clean, none) in
    let early : IsClean (view back) = omega (arith, two.clean, clean) in
    let full = subst (ExcusesClose c.args.conn last) c.in-Err-Full.field-0-is
    (excused c.args.conn before last c.in-Err-Full.field-0 (omega (arith, one.counts, two.counts)) three.counts
    (shuts c.args.conn back before two.counts (one.closes early) (two.closes clean) one.counts)
    (λ up. (c.rollback.ensures.undone.undone up).1) (c.in-Err-Full.ensures.cause none)) in (
      Full,
      c.in-Err-uncopied.ensures.full,
      omega (arith, full, c.in-Err-uncopied.ensures.counts),
    )

pub returns-in-Err-uncopied-clause-left : goal.returns-in-Err-uncopied-clause-left
returns-in-Err-uncopied-clause-left g c = λ trees may.
    c.into_store-store.ensures.quiet.outcomes trees
    (c.rollback.ensures.quiet.outcomes trees (c.checkpoint.ensures.quiet.outcomes trees (c.in-Err-uncopied.ensures.left trees may)))
