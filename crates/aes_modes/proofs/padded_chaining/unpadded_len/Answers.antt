use Rattle.std.proofs.Common.{◌≡◌, ◌-◌, ◌<◌, length, get_or, ap, sym, ◌∙◌, arith, inl, inr, below_more}
use Rattle.std.proofs.lemmas.Bool.{cases_eq}
use Rattle.aes_modes.proofs.Paddings.{last-padded, each-padded, padded-from}
use Rattle.aes_modes.proofs.padded_chaining.unpadded_len.Goals as goal

pub pad-init : goal.pad-init
pad-init c =
    let text = c.args.text.now in
    let wrong = c.wrong_count-wrong.ensures in
    record {
      within = omega (arith, wrong.within);
      count = wrong.right;
      right = λ _ j lt. absurd (omega (arith, lt));
      none = λ ne x e. omega (arith, last-padded x text e, wrong.wrong ne);
    }

pub pad-preserved : goal.pad-preserved
pad-preserved c =
    let text = c.args.text.now in
    let end = length text - 1 in
    let count = get_or text end 0 in
    let before = c.pad.invariant in
    let wrong = c.wrong_byte-wrong.ensures in
    record {
      within = omega (arith, before.within, wrong.within);
      count = λ none. before.count (omega (arith, none));
      right = λ none. below_more (λ j. j < count → get_or text (end - j) 0 ≡ count) c.pad.i (before.right (omega (arith, none)))
          (wrong.right (omega (arith, none)));
      none = λ some x e. elim (cases_eq c.pad.wrong 0) [
        | inl none ↦
            let here = wrong.wrong (omega (arith, some, none)) in
            let last = last-padded x text e in
            here.1 (each-padded x text (end - c.pad.i) e (omega (arith, here.0, last)) (omega arith) ∙ sym last.0)
        | inr earlier ↦ before.none earlier x e
      ];
    }

pub returns-clause-found : goal.returns-clause-found
returns-clause-found c =
    let text = c.args.text.now in
    let end = length text - 1 in
    let count = get_or text end 0 in
    let none : c.pad.wrong ≡ 0 = omega arith in
    let bounds = c.pad.invariant.count none in
    padded-from text count (length text - count) c.requires.whole bounds.0 bounds.1 (omega (arith, bounds))
    (λ j low high.
    let back : end - (end - j) ≡ j = omega (arith, low, high) in
    ap (λ k. get_or text k 0) (sym back) ∙ c.pad.invariant.right none (end - j) (omega (arith, bounds)) (omega (arith, low)))
