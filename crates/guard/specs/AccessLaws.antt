-- Access does not depend on a value that is masked.
use Rattle.std.proofs.Common.{◌≡◌, ◌||◌, not, Bool, List, ap, arith}
use Rattle.ck_types.specs.declared.entry.Entry.{Entry}
use Rattle.ck_types.specs.declared.attr_type.AttrType.TheVariants as attr
use Rattle.ck_types.specs.declared.session_state.SessionState.{SessionState}
use Rattle.attrs.specs.Masking.{mask}
use Rattle.attrs.specs.MaskingLaws.{flag-mask}
use Rattle.guard.specs.Access.{is_visible, is_user}

pub is_visible-mask : (state : SessionState) (es : List Entry) → is_visible state (mask es) ≡ is_visible state es
is_visible-mask state es = ap (λ (b : Bool). not b || is_user state) (flag-mask es attr.Private (λ e. absurd (omega (arith, e))))
