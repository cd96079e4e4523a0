use Rattle.std.proofs.Common.{◌≡◌, ◌∙◌, ap, subst, sym, arith}
use Rattle.std.specs.Prelude.{IsSome}
use Rattle.std.specs.List.{AllByRecursion}
use Rattle.keep.specs.Contents.{object_at}
use Rattle.serve_base.specs.Listing.{AreListed, AreMarks, all_ids, listed_ids}
use Rattle.serve_base.specs.Searching.{found_at}
use Rattle.serve_base.proofs.Edits.{written-back}
use Rattle.serve_base.proofs.Marking.{ids-taken, marks-taken, order-same, order-taken}
use Rattle.serve_base.proofs.Searched.{found-objects}
use Rattle.serve_base.proofs.Storing.{all-there, has-taken}
use Rattle.serve_base.proofs.store.Store.search.Goals as goal

pub returns-clause-found : goal.returns-clause-found
returns-clause-found g c = λ sure k h.
    let t = has-taken _ c.self.inside.keep c.self.inside.listed.items c.compact.new.listed.items k c.compact.ensures
    (rw (← c.self.view_is) at h) in
    let clean : g.K.Keep.terms.doubt c.self.inside.keep ≡ 0 = omega (arith, c.search_kept.ensures.counts.doubt, sure) in
    rw (ap (λ xs. found_at c.args.login c.args.template.now (object_at k) (listed_ids xs)) c.deref_mut.ensures.value
    ∙ ap (found_at c.args.login c.args.template.now (object_at k)) t.ids ∙ found-objects c.args.login c.args.template.now k h.sound) at
    (c.search_kept.ensures.found sure k t.held (subst (AreMarks k) (sym c.deref_mut.ensures.value) (t.marks.right clean))
    (subst (AllByRecursion (λ id. IsSome (object_at k id))) (sym (ap listed_ids c.deref_mut.ensures.value ∙ t.ids)) (all-there k)))

pub returns-clause-ids : goal.returns-clause-ids
returns-clause-ids g c =
    let left = c.compact.new.listed in
    let back = written-back c.search_kept.new.listed left.items left.len
    (omega (arith, c.search_kept.auto.listed, c.deref_mut.ensures.len)) in
    let was = c.deref_mut.ensures.value in
    let taken = c.compact.ensures in
    rw (← c.self.view_is) (record {
      ids = ap listed_ids back ∙ c.search_kept.ensures.ids ∙ ap listed_ids was ∙ ids-taken c.self.inside.listed.items left.items taken;
      marks = λ k held knows. record {
        order = subst (AreListed k.last_id) (sym back)
            (order-same k.last_id left.items c.search_kept.new.listed (c.search_kept.ensures.all ∙ ap all_ids was)
            (order-taken k.last_id c.self.inside.listed.items left.items taken knows.order));
        right = λ sure. subst (AreMarks k) (sym back)
            (c.search_kept.ensures.marks sure k held
            (subst (AreMarks k) (sym was)
            (marks-taken k c.self.inside.listed.items left.items taken
            (knows.right (omega (arith, c.search_kept.ensures.counts.doubt, sure))))));
      };
    })

pub returns-clause-steady : goal.returns-clause-steady
returns-clause-steady g c = λ steady device k h.
    let t = has-taken _ c.self.inside.keep c.self.inside.listed.items c.compact.new.listed.items k c.compact.ensures
    (rw (← c.self.view_is) at h) in
    let was = rw (← c.self.view_is) at steady in
    c.search_kept.ensures.steady was device k t.held
    (subst (AllByRecursion (λ id. IsSome (object_at k id))) (sym (ap listed_ids c.deref_mut.ensures.value ∙ t.ids)) (all-there k))
