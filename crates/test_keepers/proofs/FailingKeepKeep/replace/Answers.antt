use Rattle.std.proofs.Common.{◌≡◌, sym, ◌∙◌, ap, subst}
use Rattle.test_keepers.proofs.FailingKeepKeep.replace.Goals as goal

pub returns-in-Ok-clause-ok : goal.returns-in-Ok-clause-ok
returns-in-Ok-clause-ok g c =
    let same : c.self-2.inside.keep ≡ c.args.self.now.keep =
    ap (λ f. f.keep) c.self-2.view_is ∙ c.pass.ensures.keep ∙ ap (λ f. f.keep) c.self.view_is in
    record {
      held = λ k h. c.in-Ok.ensures.ok.held k (subst (λ x. g.K.Keep.terms.holds x k) (sym same) h);
      crash = λ k left h may. c.in-Ok.ensures.ok.crash k left (subst (λ x. g.K.Keep.terms.holds x k) (sym same) h) may;
    }
