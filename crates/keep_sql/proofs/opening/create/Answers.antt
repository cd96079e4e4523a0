use Rattle.std.proofs.Common.{◌∙◌}
use Rattle.sqlite.specs.Held.{state}
use Rattle.keep_sql_model.proofs.Bytes.{record_bytes}
use Rattle.keep_sql_model.proofs.Lifts.{created, left_new}
use Rattle.keep_sql.proofs.opening.create.Goals as goal

pub returns-in-Ok-true-clause-made : goal.returns-in-Ok-true-clause-made
returns-in-Ok-true-clause-made g c = λ has clean.
    let token = c.new-record.result in
    let made = c.in-Ok-true.ensures.made has clean c.in-Ok-true.field-0-test in (
      made.0,
      created token c.in_ok-bytes.ensures.fits c.as_slice.result.now
          (record_bytes token _ (c.as_slice.ensures.value ∙ c.in_ok-bytes.ensures.bytes)) c.new-record.ensures
          (state g.S.Store c.make_tables.new.conn) made.1,
      c.new-record.ensures,
    )

pub returns-in-Ok-false-clause-same : goal.returns-in-Ok-false-clause-same
returns-in-Ok-false-clause-same g c = λ db ready sees clean up. c.in-Ok-false.ensures.refused db ready sees clean c.in-Ok-false.field-0-test

pub returns-in-Ok-true-clause-crash : goal.returns-in-Ok-true-clause-crash
returns-in-Ok-true-clause-crash g c = λ has clean left may.
    let token = c.new-record.result in
    left_new token c.in_ok-bytes.ensures.fits c.as_slice.result.now
    (record_bytes token _ (c.as_slice.ensures.value ∙ c.in_ok-bytes.ensures.bytes)) c.new-record.ensures left
    (c.make_tables.ensures.crash has clean left may)

pub returns-in-Ok-false-clause-crash : goal.returns-in-Ok-false-clause-crash
returns-in-Ok-false-clause-crash g c = λ has clean left may.
    let token = c.new-record.result in
    left_new token c.in_ok-bytes.ensures.fits c.as_slice.result.now
    (record_bytes token _ (c.as_slice.ensures.value ∙ c.in_ok-bytes.ensures.bytes)) c.new-record.ensures left
    (c.make_tables.ensures.crash has clean left may)

pub returns-clause-crash : goal.returns-clause-crash
returns-clause-crash g c = λ has clean left may.
    let token = c.new-record.result in
    left_new token c.in_ok-bytes.ensures.fits c.as_slice.result.now
    (record_bytes token _ (c.as_slice.ensures.value ∙ c.in_ok-bytes.ensures.bytes)) c.new-record.ensures left
    (c.make_tables.ensures.crash has clean left may)
