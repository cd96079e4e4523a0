use Rattle.std.proofs.Common.{[], ◌∷◌, refl, sym, ap}
use Rattle.wire.specs.Messages.{call_in}
use Rattle.line.specs.State.{Connected}
use Rattle.stdio_line.specs.Lines.{Leads}
use Rattle.stdio_line.proofs.Leading.{leads-call}
use Rattle.line.proofs.Framing.{short-call, short-framed}
use Rattle.stdio_line.proofs.Serving.{serving-none, serving-told, ends-told, ends-waits, ends-ended, ends-memory}
use Rattle.stdio_line.proofs.serve.serve_calls.Goals as goal
use Rattle.stdio_line.proofs.serve.serve_calls.Goals.{After-answer_call-reply}

pub calls-init : goal.calls-init
calls-init g c = serving-none g.K.Keep.terms c.args.app c.args.token.now c.args.connection.now.words g.R.Source.reading
    g.W.Taker.writing c.args.reader.now c.args.writer.now c.args.connection.now refl c.requires

pub answer_call-reply-requires : goal.answer_call-reply-requires
answer_call-reply-requires g c = (c.in-Call.ensures.comes c.calls.invariant.going).does.call.is.count

pub reply-requires-clause-short : goal.reply-requires-clause-short
reply-requires-clause-short g c =
    λ going. c.answer_call-reply.ensures.short
    (short-call c.in-Call.asked.call (c.in-Call.ensures.comes c.calls.invariant.going).does.call.is.framed)

-- the token becomes by the call what its history says
led : (g : _) (c : After-answer_call-reply g)
    → let gives = (c.in-Call.ensures.comes c.calls.invariant.going).does in
    Leads g.K.Keep.terms c.args.app c.calls.token c.answer_call-reply.new.token gives.mid.words c.next_call.new.self.words
    (call_in gives.call.payload ∷ []) (c.answer_call-reply.result ∷ [])
led g c =
    let gives = (c.in-Call.ensures.comes c.calls.invariant.going).does in
    leads-call g.K.Keep.terms c.args.app c.calls.token c.answer_call-reply.new.token gives.mid.words
    c.next_call.new.self.words (call_in gives.call.payload) c.in-Call.asked.call c.in-Call.asked.random.items
    c.answer_call-reply.result gives.call.is.is gives.call.is.took
    c.answer_call-reply.ensures.doubt c.answer_call-reply.ensures.failures c.answer_call-reply.ensures.accounts
    c.answer_call-reply.ensures.ids c.answer_call-reply.ensures.moved

pub returns-in-Some : goal.returns-in-Some
returns-in-Some g c =
    let comes = c.in-Call.ensures.comes c.calls.invariant.going in
    let gives = comes.does in
    let sends = c.reply.ensures.sends (ap (λ (x : Connected). x.ended) gives.same) in
    ends-told g.K.Keep.terms c.args.app c.args.token.now c.args.connection.now.words g.R.Source.reading g.W.Taker.writing
    c.args.reader.now c.args.writer.now c.calls.token c.answer_call-reply.new.token c.calls.reader c.next_call.new.reader
    c.calls.writer c.next_call.new.writer c.reply.new.writer
    c.calls.connection c.next_call.new.self c.reply.new.self c.in-Call.asked c.answer_call-reply.result c.calls.invariant gives
    comes sends (led g (goal.at.returns-in-Some g c).After-answer_call-reply)
    (short-framed c.answer_call-reply.result sends.fits
    (c.answer_call-reply.ensures.short (short-call c.in-Call.asked.call gives.call.is.framed))) c.in-Some.fault (sym c.in-Some.ensures)

pub calls-preserved : goal.calls-preserved
calls-preserved g c =
    let comes = c.in-Call.ensures.comes c.calls.invariant.going in
    let gives = comes.does in
    let sends = c.reply.ensures.sends (ap (λ (x : Connected). x.ended) gives.same) in
    serving-told g.K.Keep.terms c.args.app c.args.token.now c.args.connection.now.words g.R.Source.reading g.W.Taker.writing
    c.args.reader.now c.args.writer.now c.calls.token c.answer_call-reply.new.token c.calls.reader c.next_call.new.reader
    c.calls.writer c.next_call.new.writer c.reply.new.writer
    c.calls.connection c.next_call.new.self c.reply.new.self c.in-Call.asked c.answer_call-reply.result c.calls.invariant gives
    comes sends (led g (goal.at.calls-preserved g c).After-answer_call-reply) (sym c.in_default.ensures)

pub returns-in-Nothing : goal.returns-in-Nothing
returns-in-Nothing g c = rw c.block_of.ensures
    (ends-waits g.K.Keep.terms c.args.app c.args.token.now c.args.connection.now.words g.R.Source.reading g.W.Taker.writing
    c.args.reader.now c.args.writer.now c.calls.token c.calls.reader c.next_call.new.reader c.calls.writer c.next_call.new.writer
    c.calls.connection c.next_call.new.self c.calls.invariant (c.in-Nothing.ensures.comes c.calls.invariant.going))

pub returns-in-Ended : goal.returns-in-Ended
returns-in-Ended g c = rw c.outcome.ensures
    (ends-ended g.K.Keep.terms c.args.app c.args.token.now c.args.connection.now.words g.R.Source.reading g.W.Taker.writing
    c.args.reader.now c.args.writer.now c.calls.token c.calls.reader c.next_call.new.reader c.calls.writer c.next_call.new.writer
    c.calls.connection c.next_call.new.self c.calls.invariant c.in-Ended.ending c.answered.result
    (c.in-Ended.ensures.comes c.calls.invariant.going) c.answered.ensures)

pub returns : goal.returns
returns g c = ends-memory g.K.Keep.terms c.args.app c.args.token.now c.args.connection.now.words g.R.Source.reading
    g.W.Taker.writing c.args.reader.now c.args.writer.now c.calls.token c.calls.reader c.calls.writer c.calls.connection c.calls.invariant
