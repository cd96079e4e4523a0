use Rattle.std.proofs.Common.{◌∙◌, IsTrue, List, length, Result, Ok, Err, OnOk, sym, subst}
use Rattle.sqlite_disk.specs.Disk.{Cut, Only}
use Rattle.sql_log.proofs.Written.{begins_cut, begins_torn, cut_is, written_is}
use Rattle.sql_log.proofs.reading.write_from.Goals.{then-same-bytes+in_ok-write_at, else-same-bytes}
use Rattle.sql_log.proofs.reading.write_from.Goals as goal

on_ok : {T E P : Type 0} (r : Result T E) → P → OnOk r P
on_ok (Ok x) it = it
on_ok (Err e) it = tt

pub returns : goal.returns
returns g c = record {
  bytes = on_ok c.sync.result (λ clean.
      let shown = c.sync.ensures.seen in
      let before = c.set_len.ensures.clean (c.sync.ensures.clean clean) in
      let len = c.in_ok-set_len.ensures.len in
      elim c.if-same-bytes.branch [
        | then-same-bytes+in_ok-write_at w ↦
            let alike = c.requires.alike (w.write_at.ensures.clean (subst (λ d. IsTrue (g.D.Disk.is_clean d)) w.disk-is before)) in
            shown ∙ written_is c.args.bytes.now _ _ _ c.args.same alike w.if-same-bytes.true w.write_at.ensures.others
            w.in_ok-write_at.ensures.written
            (subst (λ d. Cut (length c.args.bytes.now) (g.D.Disk.seen d)
            (g.D.Disk.seen c.set_len.new.self)) w.disk-is c.set_len.ensures.others) len
        | else-same-bytes w ↦
            let alike = c.requires.alike (subst (λ d. IsTrue (g.D.Disk.is_clean d)) w.disk-is before) in
            shown ∙ cut_is c.args.bytes.now _ _ c.args.same alike w.if-same-bytes.false
            (subst (λ d. Cut (length c.args.bytes.now) (g.D.Disk.seen d)
            (g.D.Disk.seen c.set_len.new.self)) w.disk-is c.set_len.ensures.others) len
      ]);
  synced = subst (λ (file : List _). OnOk c.sync.result (Only file (g.D.Disk.may_leave c.sync.new.self)))
      (sym c.sync.ensures.seen) c.sync.ensures.durable;
  clean = λ clean.
      let before = c.set_len.ensures.clean (c.sync.ensures.clean clean) in
      elim c.if-same-bytes.branch [
        | then-same-bytes+in_ok-write_at w ↦ w.write_at.ensures.clean (subst (λ d. IsTrue (g.D.Disk.is_clean d)) w.disk-is before)
        | else-same-bytes w ↦ subst (λ d. IsTrue (g.D.Disk.is_clean d)) w.disk-is before
      ];
  crash = λ x may.
      let (d, was, cut) = c.set_len.ensures.crash x (c.sync.ensures.crash x may) in
      elim c.if-same-bytes.branch [
        | then-same-bytes+in_ok-write_at w ↦
            let (e, first, torn) = w.write_at.ensures.crash d (subst (λ disk. g.D.Disk.may_leave disk d) w.disk-is was) in
            (e, first, begins_torn c.args.same _ _ e d x c.requires.within torn cut)
        | else-same-bytes w ↦ (
          d,
          subst (λ disk. g.D.Disk.may_leave disk d) w.disk-is was,
          begins_cut c.args.same _ d x c.requires.within cut,
        )
      ];
}
