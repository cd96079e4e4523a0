-- The calls that encrypt and decrypt.
use Rattle.std.specs.Option.{option_map, unwrap_or}
use Rattle.std.proofs.Common.{length, ◌≡◌, ℕ, true, List, [], Option, Some, None, refl, ◌∙◌, ap}
use Rattle.ck_calls.specs.declared.function.Function.{Function}
use Rattle.ck_calls.specs.declared.reply.Output.TheVariants as output
use Rattle.ck_calls.specs.declared.reply.Reply.TheVariants as replied
use Rattle.aes_modes.specs.declared.direction.Direction.{Direction}
use Rattle.streams.specs.declared.part.Part.{Part}
use Rattle.streams.specs.declared.part.Part.TheVariants.{Update, Last}
use Rattle.streams.specs.Lengths.{wanted}
use Rattle.precede.specs.declared.condition.Condition.TheVariants.{NoSession, DataTaken, DataLength, CounterEnd, EncryptedDataLength, NoBuffer, SmallBuffer}
use Rattle.ops.specs.declared.place.Place.{Place}
use Rattle.ops.specs.Operations.{Operation, mask_operation, text_of, operation_in}
use Rattle.model_views.specs.TaskResults.{TaskResult, Output, BadPadding}
use Rattle.model_views.specs.Views.{Ciphers}
use Rattle.model_views.specs.Refusals.{resource_error}
use Rattle.model_views.specs.Answering.{asks, answered, with_operation}
use Rattle.model_answers.specs.CipherInit.{cipher_ends, place_for}
use Rattle.model_answers.specs.Cipher.{further_by, update_function, last_function, operation_or, cipher_refused, cipher_row, cipher_says, ciphers, cipher, cipher_update, cipher_last, ciphered_reply, operation_after, ciphered}
use Rattle.model_answers.proofs.Proper.CipherInit.{with_operation-mask, operation-mask, blind-ends}
use Rattle.model_views.proofs.Checks.{Condition, View, mask, shown, replies, session_of, tokens-twice, own-twice, sessions-twice, record-twice, IsProper, IsFair, blind-reply, blind-becomes, fair, blind-row, fair-row, blind-checked_by, fair-checked_by, row-session}

-- the buffer length that is needed is known without the key
wanted-mask : (o : Option Operation) (part : Part) (n : ℕ)
    → wanted part (text_of (operation_or (option_map mask_operation o))) n ≡ wanted part (text_of (operation_or o)) n
wanted-mask None part n = refl
wanted-mask (Some o) Update n = refl
wanted-mask (Some o) Last n = refl

-- and so is what is refused
refused-mask : (o : Operation) (part : Part) (input : List ℕ) → cipher_refused (mask_operation o) part input ≡ cipher_refused o part input
refused-mask o Update input = refl
refused-mask o Last input = refl

module _ (d : Direction) (v : View) (s : ℕ) (part : Part) (input : List ℕ) where
  abbrev place : Place
  place = place_for d

  row-mask : (o : Option Operation) (buffer_len : Option ℕ) (row : Condition)
      → cipher_row d (mask v) s (option_map mask_operation o) part input buffer_len row ≡ cipher_row d v s o part input buffer_len row
  row-mask None buffer_len NoSession = row-session v s
  row-mask (Some o) buffer_len NoSession = row-session v s
  row-mask (Some o) buffer_len DataLength = rw (refused-mask o part input) refl
  row-mask (Some o) buffer_len EncryptedDataLength = rw (refused-mask o part input) refl
  row-mask (Some o) buffer_len SmallBuffer = rw (wanted-mask (Some o) part (length input)) refl
  row-mask None buffer_len _ = refl
  row-mask (Some o) buffer_len _ = refl

  blind-says : (n : ℕ) (row : Condition) → shown (cipher_says (mask v) s place n row) ≡ shown (cipher_says v s place n row)
  blind-says n DataTaken = blind-ends v s place DataTaken
  blind-says n CounterEnd = blind-ends v s place CounterEnd
  blind-says n DataLength = blind-ends v s place DataLength
  blind-says n EncryptedDataLength = blind-ends v s place EncryptedDataLength
  blind-says n NoBuffer = blind-reply v (replied.Output (output.Length n))
  blind-says n SmallBuffer = blind-reply v (replied.BufferTooSmall n)
  blind-says n row = blind-row v row

  -- a pending call is revealed without the value of its key
  blind-asks : (f : Function) (o : Option Operation)
      → shown (asks (mask v) f s (Ciphers part (operation_or (option_map mask_operation o)) input))
      ≡ shown (asks v f s (Ciphers part (operation_or o) input))
  blind-asks f None = rw (tokens-twice v.tokens, own-twice v.own, sessions-twice v.sessions.sessions, record-twice v.token_record) refl
  blind-asks f (Some o) = rw (tokens-twice v.tokens, own-twice v.own, sessions-twice v.sessions.sessions, record-twice v.token_record) refl

  blind-ciphers : (f : Function) (o : Option Operation) (buffer_len : Option ℕ)
      → shown (ciphers f d part (mask v) s (option_map mask_operation o) input buffer_len) ≡ shown (ciphers f d part v s o input buffer_len)
  blind-ciphers f o buffer_len =
      let n : ℕ = wanted part (text_of (operation_or o)) (length input) in
      let a = asks (mask v) f s (Ciphers part (operation_or (option_map mask_operation o)) input) in
      rw (wanted-mask o part (length input))
      (blind-checked_by f (cipher_row d (mask v) s (option_map mask_operation o) part input buffer_len)
      (cipher_row d v s o part input buffer_len) (cipher_says (mask v) s place n) (cipher_says v s place n) a
      (asks v f s (Ciphers part (operation_or o) input))
      (row-mask o buffer_len) (blind-says n) (blind-asks f o))

  fair-says : (n : ℕ) (row : Condition) → IsFair true v (cipher_says v s place n row)
  fair-says n DataTaken = fair v {a = cipher_ends v s place DataTaken} refl refl refl refl refl
  fair-says n CounterEnd = fair v {a = cipher_ends v s place CounterEnd} refl refl refl refl refl
  fair-says n DataLength = fair v {a = cipher_ends v s place DataLength} refl refl refl refl refl
  fair-says n EncryptedDataLength = fair v {a = cipher_ends v s place EncryptedDataLength} refl refl refl refl refl
  fair-says n NoBuffer = fair v {a = replies v (replied.Output (output.Length n))} refl refl refl refl refl
  fair-says n SmallBuffer = fair v {a = replies v (replied.BufferTooSmall n)} refl refl refl refl refl
  fair-says n row = fair-row v row

proper-cipher : (f : Function) (d : Direction) (part : Part) (s : ℕ) (input : List ℕ) (buffer_len : Option ℕ)
    → IsProper (λ v r. cipher f d part v s input buffer_len) true
proper-cipher f d part s input buffer_len = record {
  blind = λ v r. ap (λ o. shown (ciphers f d part (mask v) s o input buffer_len)) (operation-mask v s (place_for d))
      ∙ blind-ciphers d v s part input f (operation_in (session_of v s) (place_for d)) buffer_len;
  fair = λ v r.
      let o = operation_in (session_of v s) (place_for d) in
      let a = asks v f s (Ciphers part (operation_or o) input) in
      fair-checked_by f v (cipher_row d v s o part input buffer_len)
      (cipher_says v s (place_for d) (wanted part (text_of (operation_or o)) (length input))) a
      (fair-says d v s part input (wanted part (text_of (operation_or o)) (length input))) (fair v {a = a} refl refl refl refl refl);
}

pub proper-update : (d : Direction) (s : ℕ) (input : List ℕ) (buffer_len : Option ℕ)
    → IsProper (λ v r. cipher_update d v s input buffer_len) true
proper-update d s input buffer_len = proper-cipher (update_function d) d Update s input buffer_len

pub proper-last : (d : Direction) (s : ℕ) (all : Option (List ℕ)) (buffer_len : Option ℕ)
    → IsProper (λ v r. cipher_last d v s all buffer_len) true
proper-last d s all buffer_len = proper-cipher (last_function d all) d Last s (unwrap_or all []) buffer_len

-- ---- the result

-- an operation goes on without its key being seen
further-mask : (o : Operation) (input : List ℕ) (outcome : TaskResult)
    → option_map mask_operation (further_by (mask_operation o) input outcome) ≡ option_map mask_operation (further_by o input outcome)
further-mask o input (Output bytes) = refl
further-mask o input _ = refl

after-mask : (part : Part) (o : Operation) (input : List ℕ) (outcome : TaskResult)
    → option_map mask_operation (operation_after part (mask_operation o) input outcome)
    ≡ option_map mask_operation (operation_after part o input outcome)
after-mask Update o input outcome = further-mask o input outcome
after-mask Last o input outcome = refl

pub blind-ciphered : (v : View) (s : ℕ) (place : Place) (part : Part) (o : Operation) (input : List ℕ) (outcome : TaskResult)
    → shown (ciphered (mask v) s place part (mask_operation o) input outcome) ≡ shown (ciphered v s place part o input outcome)
blind-ciphered v s place part o input outcome =
    let x = operation_after part (mask_operation o) input outcome in
    let y = operation_after part o input outcome in
    blind-becomes (ciphered_reply outcome) (with_operation (answered (mask v)) s place x) (with_operation (answered v) s place y)
    (with_operation-mask (answered v) s place x y (after-mask part o input outcome))

pub plain-ciphered : (outcome : TaskResult) → resource_error (ciphered_reply outcome) ≡ None
plain-ciphered (Output bytes) = refl
plain-ciphered BadPadding = refl
plain-ciphered _ = refl
