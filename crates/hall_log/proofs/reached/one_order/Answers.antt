use Rattle.std.proofs.Common.{subst}
use mathlib.Core.List.{IsPrefix}
use Rattle.hall_log.specs.Log.{served}
use Rattle.hall_log.proofs.Beginnings.{prefix_either}
use Rattle.hall_log.proofs.Logs.{served_prefix}
use Rattle.hall_log.proofs.reached.one_order.Goals as goal

pub returns : goal.returns
returns g c =
    let a = c.args.first.now in
    let b = c.args.second.now in
    let both = c.with-both.result in
    let pa : IsPrefix a both = subst (λ w. IsPrefix w both) c.reached-first.ensures c.with-both.ensures.this in
    let pb : IsPrefix b both = subst (λ w. IsPrefix w both) c.reached-second.ensures c.with-both.ensures.that in
    prefix_either (served a) (served b) (served both) (served_prefix a both pa) (served_prefix b both pb)
