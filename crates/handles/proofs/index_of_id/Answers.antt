use Rattle.std.proofs.Common.{rules}
use Rattle.std.proofs.lemmas.List.Sorted.{answers_always}
use Rattle.lists.proofs.BisectionLemmas.{searched}
use Rattle.handles.proofs.index_of_id.Goals as goal

pub returns : goal.returns
returns c =
    let facts = c.binary_search_by_key.ensures in
    let by_key = facts.position (λ h. h.handle.id) (answers_always _ _ _ (λ f a r g called. search rules)) in
    searched (λ h. h.handle.id) c.args.id _ _ c.requires facts.bound by_key
