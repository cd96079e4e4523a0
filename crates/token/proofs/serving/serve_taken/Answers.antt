use Rattle.std.proofs.Common.{refl}
use Rattle.ck_calls.specs.declared.call.Call.TheVariants as call
use Rattle.model_answers.specs.Answers.{answer_to}
use Rattle.token.proofs.Memory.{at-once}
use Rattle.token.proofs.Dispatching.{call-at-desk}
use Rattle.token.proofs.serving.serve_taken.Goals as goal

pub returns-in-OpenSession-clause-served : goal.returns-in-OpenSession-clause-served
unfolding answer_to
returns-in-OpenSession-clause-served g c =
    call-at-desk g.K.Keep.terms c.args.app c.args.others_have_sessions c.args.call
    (call.OpenSession c.in-OpenSession.slot c.in-OpenSession.flags) c.args.random.now c.in-OpenSession.is c.args.store.now
    c.args.desk.now _ c.serve.result c.settle.result refl c.settle.ensures c.serve.ensures

pub returns-in-CloseSession-clause-served : goal.returns-in-CloseSession-clause-served
unfolding answer_to
returns-in-CloseSession-clause-served g c =
    call-at-desk g.K.Keep.terms c.args.app c.args.others_have_sessions c.args.call
    (call.CloseSession c.in-CloseSession.session) c.args.random.now c.in-CloseSession.is c.args.store.now c.args.desk.now _
    c.serve-in-CloseSession.result c.settle-in-CloseSession.result refl c.settle-in-CloseSession.ensures
    c.serve-in-CloseSession.ensures.serves

pub returns-in-CloseAllSessions-clause-served : goal.returns-in-CloseAllSessions-clause-served
unfolding answer_to
returns-in-CloseAllSessions-clause-served g c =
    call-at-desk g.K.Keep.terms c.args.app c.args.others_have_sessions c.args.call
    (call.CloseAllSessions c.in-CloseAllSessions.slot) c.args.random.now c.in-CloseAllSessions.is c.args.store.now
    c.args.desk.now _ c.serve_all.result c.settle-in-CloseAllSessions.result refl c.settle-in-CloseAllSessions.ensures
    c.serve_all.ensures.serves

pub returns-in-GetSessionInfo-clause-served : goal.returns-in-GetSessionInfo-clause-served
unfolding answer_to
returns-in-GetSessionInfo-clause-served g c =
    call-at-desk g.K.Keep.terms c.args.app c.args.others_have_sessions c.args.call
    (call.GetSessionInfo c.in-GetSessionInfo.session) c.args.random.now c.in-GetSessionInfo.is c.args.store.now c.args.desk.now
    _ c.serve-in-GetSessionInfo.result c.settle-in-GetSessionInfo.result refl c.settle-in-GetSessionInfo.ensures
    c.serve-in-GetSessionInfo.ensures.serves

-- ---- the calls that take no memory

pub returns-in-CloseSession-clause-small : goal.returns-in-CloseSession-clause-small
returns-in-CloseSession-clause-small g c =
    λ small. at-once c.serve-in-CloseSession.result c.settle-in-CloseSession.result c.settle-in-CloseSession.ensures
    c.serve-in-CloseSession.ensures.small

pub returns-in-CloseAllSessions-clause-small : goal.returns-in-CloseAllSessions-clause-small
returns-in-CloseAllSessions-clause-small g c =
    λ small. at-once c.serve_all.result c.settle-in-CloseAllSessions.result c.settle-in-CloseAllSessions.ensures c.serve_all.ensures.small

pub returns-in-GetSessionInfo-clause-small : goal.returns-in-GetSessionInfo-clause-small
returns-in-GetSessionInfo-clause-small g c =
    λ small. at-once c.serve-in-GetSessionInfo.result c.settle-in-GetSessionInfo.result c.settle-in-GetSessionInfo.ensures
    c.serve-in-GetSessionInfo.ensures.small
