use Rattle.std.proofs.Common.{◌≡◌, ◌+◌, rules, Some, length, is_none, sym, ◌∙◌, ap}
use Rattle.ck_calls.specs.declared.function.Function.TheVariants as functions
use Rattle.model_views.specs.Views.{WrapsKey}
use Rattle.model_answers.specs.WrapKey.{wraps}
use Rattle.serve_base.specs.Asking.{asks_within}
use Rattle.serve_base.specs.Shown.{view_of}
use Rattle.serve_base.proofs.InSession.{in_session}
use Rattle.serve_keys.specs.Objects.{object_in}
use Rattle.serve_keys.proofs.Reading.{gives-is}
use Rattle.serve_keys.proofs.Wrapping.{MayWrap, wraps-asks}
use Rattle.serve_keys.proofs.wrap_key.ask_wrapped.Goals as goal

pub returns-clause-serves : goal.returns-clause-serves
returns-clause-serves c = record {
  serves = λ x fits.
      let d = c.args.desk.now in
      let v = view_of x d in
      let s = in_session _ _ c.state.result _ c.state.ensures c.in_ok-ok_or.ensures.ok_part in
      let w = c.key_in-wrapping_key.result.now in
      let k = c.key_in-key.result.now in
      let value = c.value_of-value.result.now in
      let may : MayWrap w k = record {
        wrapping = c.key_in-wrapping_key.ensures.key;
        key = c.key_in-key.ensures.key;
        aes = sym c.is_aes.ensures ∙ c.if-not-is_aes.false;
        permitted = sym c.may_wrap.ensures ∙ c.if-not-may_wrap.false;
        extractable = sym c.is_extractable.ensures ∙ c.if-not-is_extractable.false;
        trusted = sym c.lacks_trust.ensures ∙ c.if-lacks_trust.false;
      } in
      let found : wraps v c.args.session c.args.mechanism.now (object_in c.args.wrapping_key.now)
      (object_in c.args.key.now) c.args.buffer_len ≡ wraps v c.args.session c.args.mechanism.now (Some w) (Some k) c.args.buffer_len =
      ap (λ o. wraps v c.args.session c.args.mechanism.now o
      (object_in c.args.key.now) c.args.buffer_len) c.key_in-wrapping_key.ensures.found
      ∙ ap (λ o. wraps v c.args.session c.args.mechanism.now (Some w) o c.args.buffer_len) c.key_in-key.ensures.found in
      gives-is _ (asks_within functions.WrapKey c.args.session (WrapsKey (Some c.aes_key.result) (Some value))
      (length value + 8) c.args.buffer_len v) x d _ _
      (found ∙ wraps-asks v c.args.session c.args.mechanism.now c.args.buffer_len (ap is_none s.1) c.in_ok-ok_or-2.field-0
      (sym c.find_for.ensures ∙ c.in_ok-ok_or-2.ensures.ok_part)
      (sym c.is_empty.ensures ∙ c.if-not-is_empty.false) w k may c.aes_key.result value c.aes_key.ensures
      c.value_of-value.ensures.value c.value_of-value.ensures.length (sym c.is_value_length.ensures ∙ c.if-not-is_value_length.false))
      (rw (c.in_ok-from_slice.ensures, c.wrapped_len-wanted.ensures) at (c.in_ok-ask_within.ensures.gives x fits));
  cause = search rules;
  short = λ _. c.in_ok-ask_within.ensures.short (λ n is. rw (c.in_ok-from_slice.ensures) c.value_of-value.ensures.within);
}
