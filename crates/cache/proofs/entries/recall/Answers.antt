use Rattle.std.proofs.Common.{ℕ, List, Contains, nat_eq, subst, sym}
use Rattle.ck_types.specs.declared.entry.Entry.{Entry}
use Rattle.lru.specs.LruCache.{LruCache}
use Rattle.lru.proofs.CallerLemmas.{Contains-promoted}
use Rattle.cache.proofs.Remembered.{Contains-found}
use Rattle.cache.proofs.entries.recall.Goals as goal

pub returns-in-Ok-clause-found : goal.returns-in-Ok-clause-found
returns-in-Ok-clause-found c =
    Contains-found c.args.entries.now.entries c.args.id c.in_ok-found.found.now c.in-Ok.copy c.in-Ok.ensures.cases
    (sym c.in_ok-found.ensures)

pub returns-in-Ok-clause-kept : goal.returns-in-Ok-clause-kept
returns-in-Ok-clause-kept c =
    λ e h. Contains-promoted (nat_eq c.args.id) c.args.entries.now.entries e
    (subst (λ (x : LruCache ℕ (List Entry)). Contains x.entries e) c.promote.ensures.entries h)
