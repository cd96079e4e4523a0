use Rattle.std.proofs.Common.{◌∙◌, ap, ◌-◌, length}
use Rattle.streams_model.proofs.Pieces.{waiting-held}
use Rattle.streams.proofs.cbc_decryption.CbcDecryption.waiting.Goals as goal

pub returns-clause-value : goal.returns-clause-value
returns-clause-value c =
    let s = c.self.inside in
    let h = c.self.invariant in
    c.len.ensures.value ∙ waiting-held s.held s.passed.taken.bytes s.passed.given.bytes s.passed.kept h.given.size h.kept
    ∙ ap (λ f. length f.taken - length f.given) c.self.view_is
