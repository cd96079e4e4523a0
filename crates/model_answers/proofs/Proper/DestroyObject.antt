-- C_DestroyObject.
use Rattle.std.proofs.Common.{◌≡◌, ℕ, false, not, Option, Some, None, refl, ap, arith}
use Rattle.std.specs.Prelude.{filter, ◌==◌}
use Rattle.std.specs.List.{remove}
use Rattle.std.proofs.lemmas.Bool.{false≢true}
use Rattle.ck_types.specs.declared.attr_type.AttrType.TheVariants as attr
use Rattle.ck_calls.specs.declared.function.Function.TheVariants.{DestroyObject}
use Rattle.precede.specs.declared.condition.Condition.TheVariants.{NoSession, NoObject, TokenObjectReadOnly, NotDestroyable}
use Rattle.lists.proofs.ListLemmas.{filter-map, map-remove}
use Rattle.model_views.specs.Views.{SessionObject}
use Rattle.model_answers.specs.DestroyObject.{destroy_row, destroyed, destroy_object}
use Rattle.model_views.proofs.Checks.{Condition, View, mask, mask_token_object, mask_session_object, shown, index_of, tokens-twice, own-twice, sessions-twice, question-twice, record-twice, IsProper, IsFair, blind-index, fair, proper-checked, row-session, row-object, row-flag, row-writes}

row-mask : (s handle : ℕ) (v : View) (row : Condition) → destroy_row (mask v) s handle row ≡ destroy_row v s handle row
row-mask s handle v NoSession = row-session v s
row-mask s handle v NoObject = row-object v handle
row-mask s handle v TokenObjectReadOnly = rw (row-flag v handle attr.Token (λ e. absurd (omega (arith, e))), row-writes v s) refl
row-mask s handle v NotDestroyable = ap not (row-flag v handle attr.Destroyable (λ e. absurd (omega (arith, e))))
row-mask s handle v _ = refl

blind-destroyed : (handle : ℕ) (v : View) (index : Option ℕ) → shown (destroyed (mask v) handle index) ≡ shown (destroyed v handle index)
blind-destroyed handle v None =
    rw (
      tokens-twice v.tokens,
      sessions-twice v.sessions.sessions,
      question-twice v.question,
      record-twice v.token_record,
      filter-map (λ (e : SessionObject). not (e.handle == handle)) mask_session_object v.own,
      own-twice (filter (λ e. not (e.handle == handle)) v.own),
    ) refl
blind-destroyed handle v (Some index) =
    rw (
      own-twice v.own,
      sessions-twice v.sessions.sessions,
      question-twice v.question,
      record-twice v.token_record,
      ← map-remove mask_token_object v.tokens index,
      tokens-twice (remove v.tokens index),
    ) refl

fair-destroyed : (handle : ℕ) (v : View) (index : Option ℕ) → IsFair false v (destroyed v handle index)
fair-destroyed handle v None = fair v {a = destroyed v handle None} refl refl refl refl refl
fair-destroyed handle v (Some index) =
    record { plain = refl; still = λ q. absurd (false≢true q); asks = refl; shows = refl; charges = refl; seats = λ k. cc }

pub proper-destroy_object : (s handle : ℕ) → IsProper (λ v r. destroy_object v s handle) false
proper-destroy_object s handle =
    proper-checked DestroyObject (λ v. destroy_row v s handle) (λ v. destroyed v handle (index_of v.tokens handle)) (row-mask s handle)
    (λ v. blind-index (λ u p. destroyed u handle p) v handle (blind-destroyed handle v))
    (λ v. fair-destroyed handle v (index_of v.tokens handle))
