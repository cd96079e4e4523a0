use Rattle.std.proofs.Common.{ap, subst, ◌∙◌, arith}
use Rattle.pin_record.specs.Stored.{DecodesRecord, record_stored}
use Rattle.pin_record.proofs.StoredLaws.{record_stored-sound, record_stored-complete}
use Rattle.pin_record.proofs.stored.decode.Goals as goal

pub returns-clause-found : goal.returns-clause-found
returns-clause-found c = record_stored-sound c.args.bytes.now (λ i. omega (arith, c.type_inv.bytes i)) c.decoded.result c.decoded.ensures

pub returns-clause-only : goal.returns-clause-only
returns-clause-only c = λ r is e. subst (λ found. DecodesRecord c.decoded.result found)
    (ap record_stored e ∙ record_stored-complete r is) c.decoded.ensures
