use Rattle.std.proofs.Common.{◌∙◌}
use Rattle.sqlite.specs.Held.{state}
use Rattle.keep_sql_model.proofs.Bytes.{record_bytes}
use Rattle.keep_sql.proofs.Takes.{at_old_rows, natural_ids, old_rows, renewed_at, renewed_left}
use Rattle.keep_sql.proofs.taking.renew.Goals as goal

pub returns-in-Ok-true-clause-made : goal.returns-in-Ok-true-clause-made
returns-in-Ok-true-clause-made g c = λ d at found clean.
    let old = state g.S.Store c.args.conn.now in
    let made = (rw c.as_slice.ensures.value at c.in-Ok-true.ensures.made) (old_rows old c.args.found.now d at found)
    (at_old_rows old c.args.found.now d at found) (natural_ids old c.args.found.now d at found) clean c.in-Ok-true.field-0-test in (
      made.0,
      renewed_at old c.args.found.now d at found c.in_ok-bytes.ensures.fits c.as_slice-2.result.now
          (record_bytes c.args.found.now.token_record _ (c.as_slice-2.ensures.value ∙ c.in_ok-bytes.ensures.bytes))
          (state g.S.Store c.renew_bodies.new.conn) made.1,
    )

pub returns-in-Ok-false-clause-same : goal.returns-in-Ok-false-clause-same
returns-in-Ok-false-clause-same g c = λ db ready sees clean up. c.in-Ok-false.ensures.refused db ready sees clean c.in-Ok-false.field-0-test

pub returns-in-Ok-true-clause-crash : goal.returns-in-Ok-true-clause-crash
returns-in-Ok-true-clause-crash g c = λ d at found clean left may.
    let old = state g.S.Store c.args.conn.now in
    renewed_left old c.args.found.now d at found c.in_ok-bytes.ensures.fits c.as_slice-2.result.now
    (record_bytes c.args.found.now.token_record _ (c.as_slice-2.ensures.value ∙ c.in_ok-bytes.ensures.bytes)) left
    ((rw c.as_slice.ensures.value at c.renew_bodies.ensures.crash) (old_rows old c.args.found.now d at found)
    (at_old_rows old c.args.found.now d at found) (natural_ids old c.args.found.now d at found) clean left may)

pub returns-in-Ok-false-clause-crash : goal.returns-in-Ok-false-clause-crash
returns-in-Ok-false-clause-crash g c = λ d at found clean left may.
    let old = state g.S.Store c.args.conn.now in
    renewed_left old c.args.found.now d at found c.in_ok-bytes.ensures.fits c.as_slice-2.result.now
    (record_bytes c.args.found.now.token_record _ (c.as_slice-2.ensures.value ∙ c.in_ok-bytes.ensures.bytes)) left
    ((rw c.as_slice.ensures.value at c.renew_bodies.ensures.crash) (old_rows old c.args.found.now d at found)
    (at_old_rows old c.args.found.now d at found) (natural_ids old c.args.found.now d at found) clean left may)

pub returns-clause-crash : goal.returns-clause-crash
returns-clause-crash g c = λ d at found clean left may.
    let old = state g.S.Store c.args.conn.now in
    renewed_left old c.args.found.now d at found c.in_ok-bytes.ensures.fits c.as_slice-2.result.now
    (record_bytes c.args.found.now.token_record _ (c.as_slice-2.ensures.value ∙ c.in_ok-bytes.ensures.bytes)) left
    ((rw c.as_slice.ensures.value at c.renew_bodies.ensures.crash) (old_rows old c.args.found.now d at found)
    (at_old_rows old c.args.found.now d at found) (natural_ids old c.args.found.now d at found) clean left may)
