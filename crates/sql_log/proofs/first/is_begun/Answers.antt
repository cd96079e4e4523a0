use Rattle.std.proofs.Common.{rules, sym, refl, ◌∙◌, eq-eqb, eqb-true}
use Rattle.std.proofs.lemmas.Bool.{and_parts, and_from}
use Rattle.sql_log.proofs.FrameLemmas.{head_is}
use Rattle.sql_log.proofs.first.is_begun.Goals as goal

pub returns-then-not-is_signed : goal.returns-then-not-is_signed
returns-then-not-is_signed c = let head = head_is c.args.log.now in
    (λ h. absurd (cc), λ begun. c.if-not-is_signed.ensures.1 (rw (sym head) at begun.1.signed))

pub returns : goal.returns
returns c =
    let head = head_is c.args.log.now in
    let version = c.number_at-version.ensures in
    let size = c.number_at-size.ensures in
    let round = c.number_at-round.ensures in (
      λ h.
          let outer = and_parts _ _ h in
          let inner = and_parts _ _ outer.0 in (
            search rules,
            rw (sym head) (record {
              signed = c.if-not-is_signed.ensures.0 refl;
              version = sym version ∙ eqb-true _ _ inner.0;
              size = sym size ∙ eqb-true _ _ inner.1;
            }),
            rw (sym head) (sym round ∙ eqb-true _ _ outer.1),
          ),
      λ begun. and_from _ _ (and_from _ _ (eq-eqb _ _ (version ∙ rw (sym head) at begun.1.version))
          (eq-eqb _ _ (size ∙ rw (sym head) at begun.1.size))) (eq-eqb _ _ (round ∙ rw (sym head) at begun.2)),
    )
