use Rattle.std.proofs.Common.{inl, refl, rules, sym, ◌∙◌}
use Rattle.model_worlds.specs.Worlds.{reveal_by_call}
use Rattle.serve_base.proofs.Gaves.{gave-reply}
use Rattle.token.proofs.Dispatching.{busy-is, taken}
use Rattle.token.proofs.serving.serve.Goals as goal

pub returns-then-is_busy-clause-served : goal.returns-then-is_busy-clause-served
returns-then-is_busy-clause-served g c = rw (c.code.ensures) (record {
  serves = λ sure k h fits. gave-reply _ _ k _ _ c.args.desk.now _ h (λ d may. may) fits
      (busy-is k c.args.desk.now c.args.call c.args.random.now (reveal_by_call c.args.call c.args.others_have_sessions)
      (sym c.is_busy.ensures ∙ c.if-is_busy.true));
  says = search rules;
  counts = search rules;
  cause = search rules;
  steady = search rules;
  plain = refl;
  stays = tt;
  refused = λ is. inl (λ k fits. refl);
  short = λ few. tt;
})

pub returns-clause-served : goal.returns-clause-served
returns-clause-served g c =
    taken g.K.Keep.terms c.args.app c.args.others_have_sessions c.args.call c.args.random.now c.args.store.now _ c.args.desk.now
    c.serve_taken-outcome.new.desk _ _ (sym c.is_busy.ensures ∙ c.if-is_busy.false)
    (rw c.of-asked.ensures at c.note_pending.ensures) c.serve_taken-outcome.ensures.served
