-- What a reader or a writer counted of several calls.
use Rattle.std.proofs.Common.{◌≡◌, ℕ, ◌+◌, Bool, true, IsTrue, refl, ◌∙◌, subst, arith, inl, inr}
use Rattle.std.specs.declared.io.Error.{Error}
use Rattle.keep.specs.Keeping.{Rises}
use Rattle.watched.specs.Noting.{Noting, IsInterruption, Passes, Slips, Unfailing, Settles, HasFailed}

-- so many calls, none of which failed
pub record Made {T : Type 0} (turns : ℕ) (old new : Noting T) : Type 0 where
  pub calls : new.calls ≡ old.calls + turns
  pub failures : new.failures ≡ old.failures

pub made-none : {T : Type 0} (a : Noting T) → Made 0 a a
made-none a = record { calls = omega arith; failures = refl }

pub made-more : {T : Type 0} (n : ℕ) (a b c : Noting T) → Made n a b → Passes b c → Made (n + 1) a c
made-more n a b c p q = record { calls = omega (arith, p.calls, q.calls); failures = q.failures ∙ p.failures }

pub unfailing-none : {T : Type 0} (a : Noting T) → Unfailing a a
unfailing-none a = record { calls = omega arith; failures = refl }

pub unfailing-then : {T : Type 0} (a b c : Noting T) → Unfailing a b → Unfailing b c → Unfailing a c
unfailing-then a b c p q = record { calls = omega (arith, p.calls, q.calls); failures = q.failures ∙ p.failures }

pub failed-after : {T : Type 0} (a b c : Noting T) → Unfailing a b → HasFailed b c → HasFailed a c
failed-after a b c p (inl rises) = inl (subst (λ (f : ℕ). Rises f c.failures) p.failures rises)
failed-after a b c p (inr many) = inr (omega (arith, p.calls, many))

-- ---- a call that may be made again

pub passed : {T : Type 0} (a b : Noting T) (error : Error) (told : Bool) → (IsTrue told → IsInterruption error)
    × (IsInterruption error → IsTrue told) → told ≡ true → (IsInterruption error → Passes a b)
    × ((¬ IsInterruption error) → Slips a b) → Passes a b
passed a b error told says is n = n.0 (says.0 is)

pub settles-none : {T : Type 0} (a : Noting T) → Settles a a
settles-none a = record { calls = omega arith; failures = refl; flushed = λ none. none }

pub settles-then : {T : Type 0} (a b c : Noting T) → Settles a b → Settles b c → Settles a c
settles-then a b c p q = record {
  calls = omega (arith, p.calls, q.calls);
  failures = q.failures ∙ p.failures;
  flushed = λ none. q.flushed (p.flushed none);
}

pub settles-unfailing : {T : Type 0} (a b : Noting T) → Settles a b → Unfailing a b
settles-unfailing a b p = record { calls = p.calls; failures = p.failures }
