-- Return codes and session states as numbers of 64 bits.
use Rattle.std.proofs.Common.{◌≡◌, ℕ, Bool, true, false, cond, eqb, List, [], ◌∷◌, Option, Some, None, refl, sym, ap, ◌∙◌}
use Rattle.std.proofs.lemmas.Bool.{eqb-true, ne_eqb}
use Rattle.ck_types.specs.declared.rv.Rv.{Rv}
use Rattle.ck_types.specs.declared.rv.Rv.TheVariants as rv
use Rattle.ck_types.specs.declared.session_state.SessionState.{SessionState}
use Rattle.ck_types.specs.declared.session_state.SessionState.TheVariants as session_state
use Rattle.ck_types.specs.Numbers.{IsInverse, first_with, rv_number, rv_all, rv_at, session_state_number, session_state_all, session_state_at}
use Rattle.ck_types.specs.Format.{Format, number64, narrowed}
use Rattle.ck_types.specs.Canonical.{IsCanonical, number64_canonical, narrowed_canonical}

-- the values that first_with finds have the number
pub first_with-number : {A : Type 0} (number : A → ℕ) (vs : List A) (n : ℕ) (v : A) → first_with number vs n ≡ Some v → number v ≡ n
first_with-number number [] n v e = absurd cc
first_with-number {A} number (w ∷ vs) n v e =
    let step : (b : Bool) → eqb (number w) n ≡ b → cond b (Some w) (first_with number vs n) ≡ Some v → number v ≡ n =
    λ b t h. elim b as (λ c. eqb (number w) n ≡ c → cond c (Some w) (first_with number vs n) ≡ Some v → number v ≡ n) [
      | true ↦ λ u k. let same : w ≡ v = cc in ap number (sym same) ∙ eqb-true _ _ u
      | false ↦ λ u k. first_with-number number vs n v k
    ] t h in
    step (eqb (number w) n) refl e

first_with-none : {A : Type 0} (number : A → ℕ) (vs : List A) (n : ℕ) → ((v : A) → number v ≡ n → ⊥) → first_with number vs n ≡ None
first_with-none number [] n h = refl
first_with-none number (v ∷ vs) n h = rw (ne_eqb (number v) n (h v)) (first_with-none number vs n h)

-- what the inverse of a numbering returns is what first_with finds
pub first_with-inverse : {A : Type 0} (number : A → ℕ) (vs : List A) → ((v : A) → first_with number vs (number v) ≡ Some v)
    → (n : ℕ) (r : Option A) → IsInverse number n r → first_with number vs n ≡ r
first_with-inverse number vs all n (Some v) h = ap (first_with number vs) (sym h) ∙ all v
first_with-inverse number vs all n None h = first_with-none number vs n h

-- ---- a return code

all_rv : (v : Rv) → first_with rv_number rv_all (rv_number v) ≡ Some v
all_rv rv.Ok = refl
all_rv rv.HostMemory = refl
all_rv rv.SlotIdInvalid = refl
all_rv rv.FunctionFailed = refl
all_rv rv.ArgumentsBad = refl
all_rv rv.AttributeReadOnly = refl
all_rv rv.AttributeSensitive = refl
all_rv rv.AttributeTypeInvalid = refl
all_rv rv.AttributeValueInvalid = refl
all_rv rv.ActionProhibited = refl
all_rv rv.DataLenRange = refl
all_rv rv.DeviceError = refl
all_rv rv.DeviceMemory = refl
all_rv rv.EncryptedDataInvalid = refl
all_rv rv.EncryptedDataLenRange = refl
all_rv rv.FunctionNotSupported = refl
all_rv rv.KeyHandleInvalid = refl
all_rv rv.KeySizeRange = refl
all_rv rv.KeyTypeInconsistent = refl
all_rv rv.KeyFunctionNotPermitted = refl
all_rv rv.KeyNotWrappable = refl
all_rv rv.KeyUnextractable = refl
all_rv rv.MechanismInvalid = refl
all_rv rv.MechanismParamInvalid = refl
all_rv rv.ObjectHandleInvalid = refl
all_rv rv.OperationActive = refl
all_rv rv.OperationNotInitialized = refl
all_rv rv.PinIncorrect = refl
all_rv rv.PinLenRange = refl
all_rv rv.PinLocked = refl
all_rv rv.SessionCount = refl
all_rv rv.SessionHandleInvalid = refl
all_rv rv.SessionParallelNotSupported = refl
all_rv rv.SessionReadOnly = refl
all_rv rv.SessionExists = refl
all_rv rv.SessionReadOnlyExists = refl
all_rv rv.SessionReadWriteSoExists = refl
all_rv rv.SignatureInvalid = refl
all_rv rv.SignatureLenRange = refl
all_rv rv.TemplateIncomplete = refl
all_rv rv.TemplateInconsistent = refl
all_rv rv.UnwrappingKeyHandleInvalid = refl
all_rv rv.UnwrappingKeyTypeInconsistent = refl
all_rv rv.UserAlreadyLoggedIn = refl
all_rv rv.UserNotLoggedIn = refl
all_rv rv.UserPinNotInitialized = refl
all_rv rv.UserTypeInvalid = refl
all_rv rv.UserAnotherAlreadyLoggedIn = refl
all_rv rv.WrappedKeyInvalid = refl
all_rv rv.WrappedKeyLenRange = refl
all_rv rv.WrappingKeyHandleInvalid = refl
all_rv rv.WrappingKeyTypeInconsistent = refl
all_rv rv.BufferTooSmall = refl

abbrev pub return_code : Format Rv
return_code = narrowed number64 rv_at rv_number

pub rv_at-inverse : (n : ℕ) (r : Option Rv) → IsInverse rv_number n r → rv_at n ≡ r
unfolding rv_at
rv_at-inverse = first_with-inverse rv_number rv_all all_rv

rv_at-number : (n : ℕ) (v : Rv) → rv_at n ≡ Some v → rv_number v ≡ n
unfolding rv_at
rv_at-number n v e = first_with-number rv_number rv_all n v e

rv_at-again : (v : Rv) → rv_at (rv_number v) ≡ Some v
unfolding rv_at
rv_at-again = all_rv

pub return_code_canonical : IsCanonical return_code
return_code_canonical = narrowed_canonical number64 rv_at rv_number rv_at-number rv_at-again number64_canonical

-- ---- a session state

all_session_state : (v : SessionState) → first_with session_state_number session_state_all (session_state_number v) ≡ Some v
all_session_state session_state.RoPublic = refl
all_session_state session_state.RoUser = refl
all_session_state session_state.RwPublic = refl
all_session_state session_state.RwUser = refl
all_session_state session_state.RwSo = refl

abbrev pub state : Format SessionState
state = narrowed number64 session_state_at session_state_number

pub session_state_at-inverse : (n : ℕ) (r : Option SessionState) → IsInverse session_state_number n r → session_state_at n ≡ r
unfolding session_state_at
session_state_at-inverse = first_with-inverse session_state_number session_state_all all_session_state

session_state_at-number : (n : ℕ) (v : SessionState) → session_state_at n ≡ Some v → session_state_number v ≡ n
unfolding session_state_at
session_state_at-number n v e = first_with-number session_state_number session_state_all n v e

session_state_at-again : (v : SessionState) → session_state_at (session_state_number v) ≡ Some v
unfolding session_state_at
session_state_at-again = all_session_state

pub state_canonical : IsCanonical state
state_canonical = narrowed_canonical number64 session_state_at session_state_number session_state_at-number session_state_at-again
    number64_canonical
