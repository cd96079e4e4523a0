-- C_WrapKey.
use Rattle.std.proofs.Common.{◌≡◌, ◌+◌, ℕ, true, not, List, [], Option, Some, None, refl, ◌∙◌, ap, arith}
use Rattle.std.specs.Option.{unwrap_or, option_map}
use Rattle.ck_types.specs.declared.attr_type.AttrType.TheVariants as attr
use Rattle.ck_calls.specs.declared.fields.Mechanism.{Mechanism}
use Rattle.ck_calls.specs.declared.function.Function.TheVariants as functions
use Rattle.ck_calls.specs.declared.reply.Output.TheVariants as output
use Rattle.ck_calls.specs.declared.reply.Reply.TheVariants as replied
use Rattle.ck_types.specs.declared.rv.Rv.TheVariants.{FunctionFailed}
use Rattle.attrs.specs.Objects.{attribute_of}
use Rattle.mech.specs.Wrappings.{is_value_length}
use Rattle.precede.specs.declared.condition.Condition.TheVariants.{NoSession, NoWrappingKey, NoKey, WrongWrappingKeyType, KeyNotPermitted, KeyUnextractable, KeyNotWrappable, KeyLength, NoBuffer, SmallBuffer}
use Rattle.model_views.specs.Changes.{Stays}
use Rattle.model_views.specs.TaskResults.{TaskResult, Output}
use Rattle.model_views.specs.Views.{WrapsKey}
use Rattle.model_views.specs.Answering.{asks, answered}
use Rattle.model_views.specs.Checked.{checked_by, is_aes}
use Rattle.model_views.proofs.Blind.{blind-asks}
use Rattle.model_answers.specs.WrapKey.{is_no_key, key_len, wrapped_len, wrap_row, wrap_says, wraps, wrap_key, wrapped_result}
use Rattle.model_session_answers.proofs.Over.{IsOver, over-refused}
use Rattle.model_answers.proofs.Sizes.{value_len-mask}
use Rattle.model_answers.proofs.Proper.OperationInit.{class-masked, type-masked}
use Rattle.model_views.proofs.Checks.{Entry, mask_object, Condition, View, mask, shown, replies, object_at, object-mask, IsProper, IsFair, blind-reply, blind-refusal, fair, blind-row, fair-row, blind-checked_by, fair-checked_by, row-session, none-masked, flag-masked}

pub no_key-mask : (o : Option (List Entry)) → is_no_key (option_map mask_object o) ≡ is_no_key o
no_key-mask o = rw (none-masked o, class-masked o) refl

key_len-mask : (o : Option (List Entry)) → key_len (option_map mask_object o) ≡ key_len o
key_len-mask None = refl
key_len-mask (Some o) = value_len-mask o

module _ (v : View) (s : ℕ) (m : Mechanism) where
  row-mask : (wrapping key : Option (List Entry)) (buffer_len : Option ℕ) (row : Condition)
      → wrap_row (mask v) s m (option_map mask_object wrapping) (option_map mask_object key) buffer_len row
      ≡ wrap_row v s m wrapping key buffer_len row
  row-mask wrapping key buffer_len NoSession = row-session v s
  row-mask wrapping key buffer_len NoWrappingKey = no_key-mask wrapping
  row-mask wrapping key buffer_len NoKey = no_key-mask key
  row-mask wrapping key buffer_len WrongWrappingKeyType = ap (λ t. not (is_aes t)) (type-masked wrapping)
  row-mask wrapping key buffer_len KeyNotPermitted = ap not (flag-masked wrapping attr.Wrap (λ e. absurd (omega (arith, e))))
  row-mask wrapping key buffer_len KeyUnextractable = ap not (flag-masked key attr.Extractable (λ e. absurd (omega (arith, e))))
  row-mask wrapping key buffer_len KeyNotWrappable =
      rw (
        flag-masked key attr.WrapWithTrusted (λ e. absurd (omega (arith, e))),
        flag-masked wrapping attr.Trusted (λ e. absurd (omega (arith, e))),
      ) refl
  row-mask wrapping key buffer_len KeyLength = ap (λ n. not (is_value_length n)) (key_len-mask key)
  row-mask wrapping key buffer_len SmallBuffer = rw (key_len-mask key) refl
  row-mask wrapping key buffer_len _ = refl

  blind-says : (n : ℕ) (row : Condition) → shown (wrap_says (mask v) n row) ≡ shown (wrap_says v n row)
  blind-says n NoBuffer = blind-reply v (replied.Output (output.Length n))
  blind-says n SmallBuffer = blind-reply v (replied.BufferTooSmall n)
  blind-says n row = blind-row v row

  -- the pending call is revealed without the values of both keys
  blind-wraps : (wrapping key : Option (List Entry)) (buffer_len : Option ℕ)
      → shown (wraps (mask v) s m (option_map mask_object wrapping) (option_map mask_object key) buffer_len)
      ≡ shown (wraps v s m wrapping key buffer_len)
  blind-wraps wrapping key buffer_len =
      let task = WrapsKey (attribute_of (unwrap_or wrapping []) attr.Value) (attribute_of (unwrap_or key []) attr.Value) in
      let masked = WrapsKey (attribute_of (unwrap_or (option_map mask_object wrapping) []) attr.Value)
      (attribute_of (unwrap_or (option_map mask_object key) []) attr.Value) in
      ap (λ n. shown (checked_by functions.WrapKey
      (wrap_row (mask v) s m (option_map mask_object wrapping) (option_map mask_object key) buffer_len)
      (wrap_says (mask v) (n + 8)) (asks (mask v) functions.WrapKey s masked))) (key_len-mask key)
      ∙ blind-checked_by functions.WrapKey
      (wrap_row (mask v) s m (option_map mask_object wrapping) (option_map mask_object key) buffer_len)
      (wrap_row v s m wrapping key buffer_len) (wrap_says (mask v) (wrapped_len key)) (wrap_says v (wrapped_len key))
      (asks (mask v) functions.WrapKey s masked) (asks v functions.WrapKey s task)
      (row-mask wrapping key buffer_len) (blind-says (wrapped_len key)) (blind-asks v functions.WrapKey s masked task refl)

  fair-says : (n : ℕ) (row : Condition) → IsFair true v (wrap_says v n row)
  fair-says n NoBuffer = fair v {a = replies v (replied.Output (output.Length n))} refl refl refl refl refl
  fair-says n SmallBuffer = fair v {a = replies v (replied.BufferTooSmall n)} refl refl refl refl refl
  fair-says n row = fair-row v row

pub fair-wraps : (v : View) (s : ℕ) (m : Mechanism) (wrapping key : Option (List Entry)) (buffer_len : Option ℕ)
    → IsFair true v (wraps v s m wrapping key buffer_len)
fair-wraps v s m wrapping key buffer_len =
    let a = asks v functions.WrapKey s
    (WrapsKey (attribute_of (unwrap_or wrapping []) attr.Value) (attribute_of (unwrap_or key []) attr.Value)) in
    fair-checked_by functions.WrapKey v (wrap_row v s m wrapping key buffer_len) (wrap_says v (wrapped_len key)) a
    (fair-says v s m (wrapped_len key)) (fair v {a = a} refl refl refl refl refl)

pub proper-wrap_key : (s : ℕ) (m : Mechanism) (wrapping key : ℕ) (buffer_len : Option ℕ)
    → IsProper (λ v r. wrap_key v s m wrapping key buffer_len) true
proper-wrap_key s m wrapping key buffer_len = record {
  blind = λ v r.
      ap (λ o. shown (wraps (mask v) s m o (object_at (mask v) key) buffer_len)) (object-mask v wrapping)
      ∙ ap (λ o. shown (wraps (mask v) s m (option_map mask_object (object_at v wrapping)) o buffer_len)) (object-mask v key)
      ∙ blind-wraps v s m (object_at v wrapping) (object_at v key) buffer_len;
  fair = λ v r. fair-wraps v s m (object_at v wrapping) (object_at v key) buffer_len;
}

-- ---- the result

pub blind-wrapped : (v : View) (outcome : TaskResult) → shown (wrapped_result (mask v) outcome) ≡ shown (wrapped_result v outcome)
blind-wrapped v (Output bytes) = blind-reply v (replied.Output (output.Data bytes))
blind-wrapped v _ = blind-refusal v FunctionFailed

pub over-wrapped : (v : View) (outcome : TaskResult) → IsOver v (wrapped_result (answered v) outcome)
over-wrapped v (Output bytes) = record { plain = refl; unasking = refl; over = refl; shows = refl }
over-wrapped v _ = over-refused v FunctionFailed refl

pub still-wrapped : (v : View) (outcome : TaskResult) → (wrapped_result v outcome).change ≡ Stays
still-wrapped v (Output bytes) = refl
still-wrapped v _ = refl
