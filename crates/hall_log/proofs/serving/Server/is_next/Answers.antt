use Rattle.std.proofs.Common.{◌≡◌, sym, ◌∙◌, subst, List}
use mathlib.Core.List.{IsPrefix}
use Rattle.hall_log.specs.Lists.{of}
use Rattle.hall_log.specs.Histories.{Exchange}
use Rattle.hall_log.specs.Log.{served}
use Rattle.hall_log.specs.Putting.{MayPut}
use Rattle.hall_log.proofs.Beginnings.{prefix_same}
use Rattle.hall_log.proofs.Logs.{of_prefix, served_prefix}
use Rattle.hall_log.proofs.serving.Server.is_next.Goals as goal

pub returns : goal.returns
returns g c is =
    let post = c.args.post.now in
    let s = post.seat in
    let u = c.self.inside.told in
    let both = c.with-both.result in
    let pu : IsPrefix u both = subst (λ w. IsPrefix w both) c.reached-ours.ensures c.with-both.ensures.this in
    let pt : IsPrefix post.told both = subst (λ w. IsPrefix w both) c.reached-theirs.ensures c.with-both.ensures.that in
    let k = c.is_counted.ensures is in
    let same : of s (served post.told) ≡ of s (served u) =
    prefix_same (of s (served post.told)) (of s (served u)) (of s (served both))
    (of_prefix s (served post.told) (served both) (served_prefix post.told both pt))
    (of_prefix s (served u) (served both) (served_prefix u both pu)) (post.count ∙ sym (rw c.self.view_is k.1)) in (
      k.0,
      k.1,
      rw (← c.self.view_is)
          (subst (λ (xs : List Exchange). Prim.∥◌∥₁ (MayPut g.J.Naming.was_read s xs post.event.value)) same post.may),
    )
