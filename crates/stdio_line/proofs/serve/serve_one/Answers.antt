use Rattle.std.proofs.Common.{◌≤◌, ℕ, ap, sym, subst}
use Rattle.serve_base.specs.Stores.{StoreState}
use Rattle.line.specs.Turns.{messages}
use Rattle.stdio_line.proofs.Serving.{serves-as}
use Rattle.stdio_line.proofs.Going.{leads-away, idle-after}
use Rattle.stdio_line.proofs.serve.serve_one.Goals as goal

pub returns-clause-serves : goal.returns-clause-serves
returns-clause-serves g c =
    serves-as _ _ _ _ _ _ _ c.serve_frames-ended.ensures.serves
    (λ ms rs led. leads-away g.K.Keep.terms c.app-app.result c.args.token.now c.serve_frames-ended.new.token c.gone.new.self
    c.args.words.now c.serve_frames-ended.new.words ms rs led c.gone.ensures.world c.gone.ensures.ids c.gone.ensures.keep
    c.requires c.args.words.now.stream c.app-app.ensures)

pub returns-clause-idle : goal.returns-clause-idle
returns-clause-idle g c =
    let s = c.serve_frames-ended.ensures.serves in
    idle-after g.K.Keep.terms c.app-app.result c.args.token.now c.serve_frames-ended.new.token c.gone.new.self c.args.words.now
    c.serve_frames-ended.new.words
    (messages s.payloads) s.said s.led c.gone.ensures.world c.gone.ensures.ids c.gone.ensures.keep c.requires

pub returns-clause-doubt : goal.returns-clause-doubt
returns-clause-doubt g c =
    subst (λ (t : ℕ). g.K.Keep.terms.doubt c.args.token.now.store.keep ≤ t)
    (ap (λ (t : StoreState g.row.K.Denot). g.K.Keep.terms.doubt t.keep)
    (sym c.gone.ensures.keep)) c.serve_frames-ended.ensures.serves.led.remembers
