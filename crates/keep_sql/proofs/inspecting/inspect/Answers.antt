use Rattle.std.proofs.Common.{◌≡◌, inl, inr, List, ℕ, length, Err, ap, sym, subst, ◌∙◌}
use Rattle.sqlite_disk.specs.declared.Files.{Files}
use Rattle.sql_log.specs.Damage.{IsDamaged, IsFirst, IsPlainlyDamaged}
use Rattle.keep_sql.specs.Reasons.{ExcusesReading}
use Rattle.keep_sql.specs.declared.refusal.OpenFault.{OpenFault}
use Rattle.keep_sql.proofs.Refusals.{both_clean}
use Rattle.keep_sql.proofs.inspecting.inspect.Goals as goal

pub returns-in-Ok-is_first-clause-sound : goal.returns-in-Ok-is_first-clause-sound
returns-in-Ok-is_first-clause-sound g c = λ clean bad.
    let read : c.as_slice.result.now ≡ g.D.Disk.seen c.args.files.now.log =
    c.as_slice.ensures.value ∙ c.in-Ok.ensures.value (both_clean _ _ clean).0 in
    c.in-Ok-is_first.ensures.sound (subst IsPlainlyDamaged (sym read) bad)

pub returns-in-Err-is_first-clause-cause : goal.returns-in-Err-is_first-clause-cause
returns-in-Err-is_first-clause-cause g c = λ clean.
    let sure = both_clean _ _ clean in
    let left : Files _ = record { log = c.bytes_of.new.disk; db = c.len.new.self } in
    let file = g.D.Disk.seen c.args.files.now.db in
    let read : c.as_slice.result.now ≡ g.D.Disk.seen c.args.files.now.log = c.as_slice.ensures.value ∙ c.in-Ok.ensures.value sure.0 in
    let len : length file ≡ c.in-Ok-len.len = sym (c.in-Ok-len.ensures.len sure.1) in
    elim c.in-Err-is_first.ensures.only [
      | inl is ↦
          let lost = c.in-Err-is_first.ensures.lost (ap Err is) file len in
          subst (λ (f : OpenFault). ExcusesReading g.D.Disk c.args.files.now left f) (sym is)
          (lost.0, λ first. lost.1 (subst (λ (log : List ℕ). IsFirst (record { log = log; db = file })) (sym read) first))
      | inr is ↦ subst (λ (f : OpenFault). ExcusesReading g.D.Disk c.args.files.now left f) (sym is)
          (subst IsDamaged read (c.in-Err-is_first.ensures.damaged (ap Err is)))
    ]
