use Rattle.std.proofs.Common.{◌≡◌, ◌∙◌, true, false, ap, get_or, is_some, sym, subst, rules, arith}
use Rattle.std.specs.Prelude.{IsErrOf, IsSome}
use Rattle.std.specs.List.{AllByRecursion}
use Rattle.keep.specs.Contents.{object_at}
use Rattle.keep.specs.declared.keep.KeepFault.TheVariants.{Device}
use Rattle.serve_base.proofs.Searched.{all-noted, each-id, ids-noted, marks-noted, walked}
use Rattle.serve_base.proofs.searching.search_kept.Goals as goal

pub returns-in_err-search_next-clause-ids : goal.returns-in_err-search_next-clause-ids
returns-in_err-search_next-clause-ids g c =
    ids-noted c.loop-entry.listed c.loop-entry.entry-index c.entry-item.result c.search_next.new.entry
    (omega arith) c.search_next.ensures.id c.search_next.ensures.removed ∙ c.loop-entry.invariant.ids

pub returns-in_err-search_next-clause-all : goal.returns-in_err-search_next-clause-all
returns-in_err-search_next-clause-all g c =
    all-noted c.loop-entry.listed c.loop-entry.entry-index c.entry-item.result c.search_next.new.entry
    (omega arith) c.search_next.ensures.id ∙ c.loop-entry.invariant.all

pub returns-in_err-search_next-clause-marks : goal.returns-in_err-search_next-clause-marks
returns-in_err-search_next-clause-marks g c = λ sure k held known.
    let inv = c.loop-entry.invariant in
    let clean : g.K.Keep.terms.doubt c.loop-entry.keep ≡ 0 = omega (arith, c.search_next.ensures.counts.doubt, sure) in
    let marks = inv.marks clean k held known in
    marks-noted k c.loop-entry.listed c.loop-entry.entry-index c.entry-item.result c.search_next.new.entry c.search_next.ensures.id marks
    (c.search_next.ensures.mark sure k (inv.same.held k held) (marks c.loop-entry.entry-index c.entry-item.result (omega arith)))

pub returns-in_err-search_next-clause-steady : goal.returns-in_err-search_next-clause-steady
returns-in_err-search_next-clause-steady g c = λ steady device k held there.
    let inv = c.loop-entry.invariant in
    let id = (get_or c.loop-entry.listed c.loop-entry.entry-index c.entry-item.result).id in
    let some : (get_or c.loop-entry.listed c.loop-entry.entry-index c.entry-item.result).removed ≡ false
    → is_some (object_at k id) ≡ true =
    λ live. each-id (λ i. IsSome (object_at k i)) c.loop-entry.listed c.loop-entry.entry-index c.entry-item.result
    (omega arith) live (subst (AllByRecursion (λ i. IsSome (object_at k i))) (sym inv.ids) there) in
    let never : IsErrOf c.search_next.result Device → ⊥ = λ e.
    (let absent = c.search_next.ensures.steady (inv.counts.steady steady) e k (inv.same.held k held) in
    let none : is_some (object_at k id) ≡ false = ap is_some absent.1 in let here = some absent.0 in cc) in
    search (rules, never)

pub loop-entry-preserved : goal.loop-entry-preserved
loop-entry-preserved g c =
    let inv = c.loop-entry.invariant in
    let xs = c.loop-entry.listed in
    let at = c.loop-entry.entry-index in
    let d = c.entry-item.result in
    record {
      same = search rules;
      counts = search rules;
      failures = search rules;
      ids = ids-noted xs at d c.search_next.new.entry (omega arith) c.search_next.ensures.id c.search_next.ensures.removed ∙ inv.ids;
      all = all-noted xs at d c.search_next.new.entry (omega arith) c.search_next.ensures.id ∙ inv.all;
      marks = λ sure k held known.
          let clean : g.K.Keep.terms.doubt c.loop-entry.keep ≡ 0 = omega (arith, c.search_next.ensures.counts.doubt, sure) in
          let marks = inv.marks clean k held known in
          marks-noted k xs at d c.search_next.new.entry c.search_next.ensures.id marks
          (c.search_next.ensures.mark sure k (inv.same.held k held) (marks at d (omega arith)));
      found = λ sure k held known there.
          let clean : g.K.Keep.terms.doubt c.loop-entry.keep ≡ 0 = omega (arith, c.search_next.ensures.counts.doubt, sure) in
          let marks = inv.marks clean k held known in
          walked c.args.login c.args.template.now
          (object_at k) xs at d c.search_next.new.entry c.loop-entry.found.items c.search_next.new.found.items _ (omega arith)
          (inv.found clean k held known there)
          (c.in_ok-search_next.ensures.found sure k (inv.same.held k held) (marks at d (omega arith))
          (λ live. each-id (λ i. IsSome (object_at k i)) xs at d (omega arith) live
          (subst (AllByRecursion (λ i. IsSome (object_at k i))) (sym inv.ids) there)));
      may = search rules;
    }
