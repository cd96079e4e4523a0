use Rattle.std.proofs.Common.{ap, subst, ◌∙◌, arith}
use Rattle.attrs.specs.Stored.{DecodesObject}
use Rattle.attrs.specs.OldStored.{object_old_stored}
use Rattle.attrs.specs.OldStoredLaws.{is_old_found, object_old_stored-complete}
use Rattle.attrs.proofs.old_stored.decode_old.Goals as goal

pub returns-clause-found : goal.returns-clause-found
returns-clause-found c = is_old_found c.args.bytes.now c.decoded.result (λ i. omega (arith, c.type_inv.bytes i)) c.decoded.ensures

pub returns-clause-only : goal.returns-clause-only
returns-clause-only c = λ o is old e. subst (λ f. DecodesObject c.decoded.result f)
    (ap object_old_stored e ∙ object_old_stored-complete o is old) c.decoded.ensures
