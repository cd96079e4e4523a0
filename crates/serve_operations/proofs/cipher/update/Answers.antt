use Rattle.std.proofs.Common.{◌≡◌, rules, Some, length}
use Rattle.streams.specs.declared.part.Part.TheVariants.{Update}
use Rattle.streams.specs.Lengths.{wanted}
use Rattle.sessions.specs.Sessions.{session_at}
use Rattle.ops.specs.Operations.{operation_in, operation_of}
use Rattle.model_views.specs.Views.{Ciphers}
use Rattle.model_answers.specs.CipherInit.{place_for}
use Rattle.model_answers.specs.Cipher.{update_function}
use Rattle.serve_base.specs.Shown.{view_of}
use Rattle.serve_base.specs.Asking.{asks_within}
use Rattle.serve_operations.proofs.Bounds.{buffer_len-short, update-short}
use Rattle.serve_operations.proofs.Ciphering.{under-way, tested, update-asks}
use Rattle.serve_operations.proofs.Ending.{gives-is}
use Rattle.serve_operations.proofs.cipher.update.Goals as goal

pub returns-clause-serves : goal.returns-clause-serves
returns-clause-serves c = record {
  serves = λ k fits.
      let d = c.args.desk.now in
      let v = view_of k d in
      let s = c.in_ok-operation.operation.now in
      let way : operation_in (session_at d.sessions.sessions c.args.session) (place_for c.args.direction) ≡ Some (operation_of s) =
      under-way c.operation.result _ c.in_ok-operation.operation
      (rw c.place_for.ensures at c.operation.ensures) c.in_ok-operation.ensures.ok_part in
      let told = rw c.as_slice.ensures at
      (tested s Update c.as_slice.result.now c.output_len.result c.output_len.ensures.len_range c.output_len.ensures.counter_end
      c.output_len.ensures.faults) in
      let buffer_len : c.in-Ok.wanted ≡ wanted Update s (length c.args.input) = rw c.as_slice.ensures at c.in-Ok.ensures.room in
      gives-is _ (asks_within (update_function c.args.direction) c.args.session (Ciphers Update (operation_of s) c.args.input)
      (wanted Update s (length c.args.input)) c.args.buffer_len v) k d _ _
      (update-asks v c.args.session c.args.direction s way c.args.input c.args.buffer_len (rw c.in-Ok.is at told))
      (rw (c.update_function.ensures, c.copied-stream.ensures, buffer_len) at (c.in_ok-ask_within.ensures.gives k fits));
  cause = search rules;
  short = λ few. c.in_ok-ask_within.ensures.short (λ n is.
      rw c.copied-stream.ensures (update-short c.in_ok-operation.operation.now.mechanism c.in_ok-operation.operation.now.direction
      (length c.in_ok-operation.operation.now.taken) (length c.args.input) (buffer_len-short c.args.input c.args.buffer_len few n is)));
}
