use Rattle.std.proofs.Common.{◌++◌, ◌∙◌, ap, sym}
use Rattle.std.specs.Prelude.{map}
use Rattle.std.proofs.lemmas.List.{append_assoc, drop_more}
use Rattle.ck_types.specs.Numbers.{mech_type_number}
use Rattle.ck_mechanisms.specs.Table.{listed}
use Rattle.serve_sessions.proofs.get_mechanism_list.numbers.Goals as goal

pub loop-mechanism-preserved : goal.loop-mechanism-preserved
loop-mechanism-preserved c =
    rw (c.in_ok-push.ensures.ok, c.number.ensures) (
    append_assoc c.loop-mechanism.numbers _ _
    ∙ ap (λ ms. c.loop-mechanism.numbers ++ map mech_type_number ms)
    (sym (drop_more listed c.loop-mechanism.mechanism-index _ c.loop-mechanism-test.true))
    ∙ c.loop-mechanism.invariant)
