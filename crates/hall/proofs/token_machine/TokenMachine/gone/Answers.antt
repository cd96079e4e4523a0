use Rattle.std.proofs.Common.{arith, refl, subst, sym}
use Rattle.serve_base.specs.Stores.{StoreState}
use Rattle.hall.proofs.token_machine.TokenMachine.gone.Goals as goal

pub returns-clause-spends : goal.returns-clause-spends
returns-clause-spends g c = λ w count has.
    let room = has.ids in
    let next = c.gone.ensures.ids w has.shows in
    let none = next.1 in (
      refl,
      record {
        steady = subst (λ (s : StoreState _). g.K.Keep.terms.is_steady s.keep) (sym c.gone.ensures.keep) has.steady;
        shows = next.0;
        ids = omega (arith, none, room);
      },
    )
