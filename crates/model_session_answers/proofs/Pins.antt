-- What the calls of PINs test and check against, but for what is masked.
use Rattle.std.proofs.Common.{◌≡◌, ℕ, not, refl, ◌∙◌, ap}
use Rattle.std.specs.Prelude.{nat_lt, is_some}
use Rattle.ck_types.specs.declared.user_type.UserType.{UserType}
use Rattle.pin_record.specs.Records.{TokenRecord, is_initialized, is_locked, tries_limit, verifier_of}
use Rattle.model_views.specs.Views.{mask_record, mask_verifier}
use Rattle.model_views.proofs.Masks.{set-masked, tries-masked, verifier-masked}
use Rattle.model_session_answers.specs.Pins.{is_set, verifier_or, is_charged}

pub row-set : (r : TokenRecord) (who : UserType) → is_set (mask_record r) who ≡ is_set r who
row-set r who = ap is_some (verifier-masked r who) ∙ set-masked (verifier_of r who)

pub row-locked : (r : TokenRecord) (who : UserType) → is_locked (mask_record r) who ≡ is_locked r who
row-locked r who = ap (λ n. not (nat_lt n tries_limit)) (tries-masked r who)

pub row-initialized : (r : TokenRecord) → is_initialized (mask_record r) ≡ is_initialized r
row-initialized r = set-masked r.so.verifier

pub charged-mask : (r : TokenRecord) (who : UserType) (n : ℕ) → is_charged (mask_record r) who n ≡ is_charged r who n
charged-mask r who n = ap (nat_lt n) (tries-masked r who)

pub verifier-mask : (r : TokenRecord) (who : UserType) → mask_verifier (verifier_or (mask_record r) who) ≡ mask_verifier (verifier_or r who)
verifier-mask r who = refl
