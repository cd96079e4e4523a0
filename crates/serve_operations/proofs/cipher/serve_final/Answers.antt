use Rattle.std.proofs.Common.{◌≡◌, rules, Some, [], length, sym, ◌∙◌}
use Rattle.std.specs.Prelude.{is_some, ◌&&◌}
use Rattle.std.specs.Option.{unwrap_or}
use Rattle.streams.specs.declared.part.Part.TheVariants.{Last}
use Rattle.streams.specs.Lengths.{wanted}
use Rattle.precede.specs.declared.condition.Condition.TheVariants.{DataTaken}
use Rattle.sessions.specs.Sessions.{session_at}
use Rattle.ops.specs.declared.place.Kind.TheVariants.{Cipher}
use Rattle.ops.specs.Operations.{operation_in, operation_of}
use Rattle.model_views.specs.Views.{Ciphers}
use Rattle.model_answers.specs.CipherInit.{place_for}
use Rattle.model_answers.specs.Cipher.{has_taken, last_function}
use Rattle.serve_base.specs.Shown.{view_of}
use Rattle.serve_base.specs.Asking.{asks_within}
use Rattle.serve_operations.specs.Steps.{refused_row}
use Rattle.serve_operations.proofs.Bounds.{ending-short, not-late}
use Rattle.serve_operations.proofs.Ciphering.{under-way, IsTested, fault_in, tested, last-late, last-refused, last-asks}
use Rattle.serve_operations.proofs.Ending.{ended-for, gives-is}
use Rattle.serve_operations.proofs.cipher.serve_final.Goals as goal
use Rattle.serve_operations.proofs.cipher.serve_final.Goals.{After-is_late, After-output_len}

-- an operation is in progress
going : (c : After-is_late)
    → operation_in (session_at c.args.desk.now.sessions.sessions c.args.session) (place_for c.args.direction)
    ≡ Some (operation_of c.in_ok-operation.operation.now)
going c = under-way c.operation.result _ c.in_ok-operation.operation
    (rw c.place_for.ensures at c.operation.ensures) c.in_ok-operation.ensures.ok_part

-- and whether the data is late
late : (c : After-is_late)
    → (is_some c.args.all && has_taken (operation_of c.in_ok-operation.operation.now)) ≡ c.is_late.result
late c = rw c.has_taken.ensures at (sym c.is_late.ensures)

asked : (c : After-output_len)
    → IsTested (fault_in c.output_len.result) c.in_ok-operation.operation.now Last (unwrap_or c.args.all [])
asked c = rw (c.as_slice.ensures, c.or_empty-input.ensures) at (tested c.in_ok-operation.operation.now Last c.as_slice.result.now c.output_len.result
    c.output_len.ensures.len_range c.output_len.ensures.counter_end c.output_len.ensures.faults)

pub returns-then-is_late-clause-serves : goal.returns-then-is_late-clause-serves
returns-then-is_late-clause-serves c =
    let met = (goal.at.returns-then-is_late-clause-serves c).After-is_late in
    rw (c.end.ensures.reply, c.end.ensures.ended)
    (ended-for c.args.desk.now c.args.session DataTaken _ _ (Cipher c.args.direction)
    (λ k. last-late (view_of k c.args.desk.now) c.args.session c.args.direction c.in_ok-operation.operation.now (going met)
    c.args.all c.args.buffer_len (late met ∙ c.if-is_late.true)))

pub returns-in-Err-clause-serves : goal.returns-in-Err-clause-serves
returns-in-Err-clause-serves c =
    let met = goal.at.returns-in-Err-clause-serves c in
    rw (c.end-in-Err.ensures.reply, c.end-in-Err.ensures.ended, c.refused_row-row.ensures)
    (ended-for c.args.desk.now c.args.session (refused_row c.args.direction c.in-Err.fault) _ _ (Cipher c.args.direction)
    (λ k. last-refused (view_of k c.args.desk.now) c.args.session c.args.direction c.in_ok-operation.operation.now
    (going met.After-is_late) c.args.all c.args.buffer_len (late met.After-is_late ∙ c.if-is_late.false) c.in-Err.fault
    (rw c.in-Err.is at (asked met.After-output_len))))

pub returns-clause-serves : goal.returns-clause-serves
returns-clause-serves c = record {
  serves = λ k fits.
      let met = goal.at.returns-clause-serves c in
      let v = view_of k c.args.desk.now in
      let s = c.in_ok-operation.operation.now in
      let input = unwrap_or c.args.all [] in
      let room : c.in-Ok.wanted ≡ wanted Last s (length input) = rw (c.as_slice.ensures, c.or_empty-input.ensures) at c.in-Ok.ensures.room in
      gives-is _ (asks_within (last_function c.args.direction c.args.all) c.args.session (Ciphers Last (operation_of s) input)
      (wanted Last s (length input)) c.args.buffer_len v) k c.args.desk.now _ _
      (last-asks v c.args.session c.args.direction s (going met.After-is_late) c.args.all c.args.buffer_len
      (late met.After-is_late ∙ c.if-is_late.false) (rw c.in-Ok.is at (asked met.After-output_len)))
      (rw (c.last_function-function.ensures, c.copied-stream.ensures, c.or_empty-input.ensures, room) at (c.in_ok-ask_within.ensures.gives k fits));
  cause = search rules;
  short = λ few. c.in_ok-ask_within.ensures.short (λ n is.
      let met = goal.at.returns-clause-serves c in
      let s = c.in_ok-operation.operation.now in
      rw (c.copied-stream.ensures, c.or_empty-input.ensures) (ending-short s.mechanism s.direction (length s.taken) c.args.all c.args.buffer_len
      (not-late c.args.all (length s.taken) (late met.After-is_late ∙ c.if-is_late.false)) few n is));
}
