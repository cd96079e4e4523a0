use Rattle.std.proofs.Common.{rules, ◌≡◌, not, sym, ◌∙◌}
use Rattle.guard.specs.Access.{is_visible}
use Rattle.guard.specs.AccessLaws.{is_visible-mask}
use Rattle.guard.proofs.access.visible.Goals as goal

pub returns-else-is_user-clause-on_mask : goal.returns-else-is_user-clause-on_mask
returns-else-is_user-clause-on_mask c =
    let here : not c.flag.result ≡ is_visible c.args.state c.args.object.now = search rules in
    here ∙ sym (is_visible-mask c.args.state c.args.object.now)
