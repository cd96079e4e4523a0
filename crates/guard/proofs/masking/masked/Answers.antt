use Rattle.std.proofs.Common.{rules, ◌≡◌, not, sym, ◌∙◌}
use Rattle.attrs.specs.Masking.{is_masked}
use Rattle.attrs.specs.MaskingLaws.{is_masked-mask}
use Rattle.guard.proofs.masking.masked.Goals as goal

pub returns-then-flag-clause-on_mask : goal.returns-then-flag-clause-on_mask
returns-then-flag-clause-on_mask c =
    let here : c.flag.result ≡ is_masked c.args.object.now = search rules in
    here ∙ sym (is_masked-mask c.args.object.now)

pub returns-else-flag-clause-on_mask : goal.returns-else-flag-clause-on_mask
returns-else-flag-clause-on_mask c =
    let here : not c.flag-else-flag.result ≡ is_masked c.args.object.now = search rules in
    here ∙ sym (is_masked-mask c.args.object.now)
