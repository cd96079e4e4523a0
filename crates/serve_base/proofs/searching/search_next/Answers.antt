use Rattle.std.proofs.Common.{◌∙◌, ap, sym, subst}
use Rattle.keep.specs.Contents.{object_at}
use Rattle.serve_base.specs.Listing.{IsMarkOf}
use Rattle.serve_base.specs.Searching.{passes_over}
use Rattle.serve_base.proofs.Searched.{found-passed}
use Rattle.serve_base.proofs.Decided.{found-decided}
use Rattle.serve_base.proofs.searching.search_next.Goals as goal

pub returns-then-passes_over-clause-found : goal.returns-then-passes_over-clause-found
returns-then-passes_over-clause-found g c = λ sure k held marked there.
    let passes = ap (λ w. passes_over c.args.login w c.in-Some.mark) (sym c.requires) ∙ sym c.passes_over.ensures ∙ c.if-passes_over.true in
    found-passed c.args.login c.args.template.now
    (object_at k) c.args.entry.now c.args.found.now.items c.in-Some.mark c.if-entry.false passes
    (subst (IsMarkOf (object_at k c.args.entry.now.id)) c.in-Some.is marked)

pub returns-then-is_decided-clause-found : goal.returns-then-is_decided-clause-found
returns-then-is_decided-clause-found g c = λ sure k held marked there.
    let shown = ap (λ w. passes_over c.args.login w c.in-Some.mark) (sym c.requires) ∙ sym c.passes_over.ensures ∙ c.if-passes_over.false in
    let decided = ap (λ w. w.is_decided) (sym c.requires) ∙ sym c.is_decided.ensures ∙ c.if-is_decided.true in
    c.in_ok-find_by_mark.ensures.found
    ∙ found-decided c.args.login c.args.template.now (object_at k) c.args.entry.now c.args.found.now.items c.in-Some.mark c.if-entry.false shown
    decided (there c.if-entry.false) (subst (IsMarkOf (object_at k c.args.entry.now.id)) c.in-Some.is marked)
