use Rattle.std.proofs.Common.{rules}
use Rattle.std.proofs.lemmas.List.Sorted.{answers_always}
use Rattle.lists.proofs.BisectionLemmas.{searched}
use Rattle.serve_base.specs.Listing.{id_in}
use Rattle.serve_base.proofs.listed.index_of_id.Goals as goal

pub returns-clause-index : goal.returns-clause-index
returns-clause-index c = λ rise.
    let facts = c.binary_search_by_key.ensures in
    let by_key = facts.position id_in (answers_always _ _ _ (λ f a r g called. search rules)) in
    searched id_in c.args.id _ _ rise facts.bound by_key
