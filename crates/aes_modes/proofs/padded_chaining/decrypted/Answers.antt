use Rattle.std.proofs.Common.{◌∙◌, ap, refl, sym, take}
use Rattle.aes_modes.specs.Padding.{padded}
use Rattle.aes_modes.proofs.Paddings.{AreBytes-padded, IsWhole-padded, padded-only}
use Rattle.aes_modes.proofs.padded_chaining.decrypted.Goals as goal

pub returns-in_default-clause-bad_pad : goal.returns-in_default-clause-bad_pad
returns-in_default-clause-bad_pad c = λ _ x bytes e.
    c.in_default.ensures.none refl x
    (c.in_ok-out.ensures.only (padded x) (AreBytes-padded x bytes) (IsWhole-padded x) e ∙ sym c.deref.ensures.value)

pub returns-clause-only : goal.returns-clause-only
returns-clause-only c = λ x bytes e.
    let text = ap padded c.truncate.ensures.items
    ∙ ap (λ o. padded (take c.in-Some.len o)) (sym c.deref.ensures.value) ∙ c.in-Some.ensures.found ∙ c.deref.ensures.value in
    padded-only x c.truncate.new.self.items
    (c.in_ok-out.ensures.only (padded x) (AreBytes-padded x bytes) (IsWhole-padded x) e ∙ sym text)
