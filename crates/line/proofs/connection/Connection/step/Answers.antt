use Rattle.std.proofs.Common.{refl, ap, subst, sym, ◌∙◌}
use Rattle.line.specs.declared.ending.Ending.TheVariants as endings
use Rattle.line.specs.State.{Connected}
use Rattle.serve_base.specs.Short.{IsShort}
use Rattle.line.proofs.Framing.{short-refusal}
use Rattle.line.proofs.Permitting.{on-refused}
use Rattle.line.proofs.Advancing.{comes-gives, comes-ends, comes-refused}
use Rattle.line.proofs.connection.Connection.step.Goals as goal

pub returns-in-Call-clause-comes : goal.returns-in-Call-clause-comes
returns-in-Call-clause-comes g c =
    comes-gives g.R.Source.reading g.W.Taker.writing c.args.reader.now c.args.writer.now c.args.self.now _ _ _ _ _ _ _ _ _
    c.in-Call.call c.self.view_is c.requires.going c.requires.clear c.in-Call.ensures.asks

pub returns-in-Refused-clause-comes : goal.returns-in-Refused-clause-comes
returns-in-Refused-clause-comes g c =
    comes-refused g.R.Source.reading g.W.Taker.writing c.args.reader.now c.args.writer.now c.answer.new.writer c.args.self.now
    c.answer.new.self _ _ _ _ _ _ _ _ _ c.in-Refused.reply c.standing.result c.self.view_is c.requires.clear
    c.in-Refused.ensures.asks c.answer.ensures c.standing.ensures

pub returns-in-TooLong-clause-comes : goal.returns-in-TooLong-clause-comes
returns-in-TooLong-clause-comes g c =
    comes-ends g.R.Source.reading g.W.Taker.writing c.args.reader.now c.args.writer.now c.args.self.now c.end.new.self _ _ _ _ _ _ _
    _ _ endings.TooLong c.self.view_is c.in-TooLong.ensures.asks.0 c.end.ensures
    (c.in-TooLong.ensures.asks.1, refl, (ap (λ (s : Connected). s.pending) c.self.view_is ∙ c.requires.clear)) tt

pub returns-in-Memory-clause-comes : goal.returns-in-Memory-clause-comes
returns-in-Memory-clause-comes g c =
    comes-ends g.R.Source.reading g.W.Taker.writing c.args.reader.now c.args.writer.now c.args.self.now c.end-in-Memory.new.self _ _
    _ _ _ _ _ _ _ endings.Memory c.self.view_is c.in-Memory.ensures.asks c.end-in-Memory.ensures
    (ap (λ (s : Connected). s.pending) c.self.view_is ∙ c.requires.clear) tt

pub answer-requires-clause-may : goal.answer-requires-clause-may
answer-requires-clause-may g c =
    let given = g.R.Source.given in
    let allows = g.L.Licence.allows c.args.licence.now in
    let r = g.R.Source.reading c.args.reader.now.inner in
    let w = g.W.Taker.writing c.args.writer.now.inner in
    on-refused allows given r w c.args.self.now _ _ c.in-Refused.reply _ _ _ c.requires.on
    (ap (λ (s : Connected). s.held) c.self.view_is) (ap (λ (s : Connected). s.pending) c.self.view_is) c.in-Refused.ensures.asks

pub answer-requires-clause-short : goal.answer-requires-clause-short
answer-requires-clause-short g c =
    subst IsShort (sym c.in-Refused.ensures.asks.is.reply_is) (short-refusal c.in-Refused.ensures.asks.is.fault)
