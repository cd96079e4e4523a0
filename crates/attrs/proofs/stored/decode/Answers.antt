use Rattle.std.proofs.Common.{ap, subst, ◌∙◌, arith}
use Rattle.attrs.specs.Stored.{DecodesObject, object_stored}
use Rattle.attrs.specs.StoredLaws.{is_found, object_stored-complete}
use Rattle.attrs.proofs.stored.decode.Goals as goal

pub returns-clause-found : goal.returns-clause-found
returns-clause-found c = is_found c.args.bytes.now c.decoded.result (λ i. omega (arith, c.type_inv.bytes i)) c.decoded.ensures

pub returns-clause-only : goal.returns-clause-only
returns-clause-only c = λ o is e. subst (λ f. DecodesObject c.decoded.result f)
    (ap object_stored e ∙ object_stored-complete o is) c.decoded.ensures
