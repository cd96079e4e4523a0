use Rattle.std.proofs.Common.{ℕ, List, Contains, subst}
use Rattle.ck_types.specs.declared.entry.Entry.{Entry}
use Rattle.lru.specs.LruCache.{LruCache}
use Rattle.cache.proofs.Remembered.{Contains-without}
use Rattle.cache.proofs.entries.forget.Goals as goal

pub returns : goal.returns
returns c = λ e h. Contains-without c.args.entries.now.entries c.args.id e c.len-len.ensures.valid.0
    (subst (λ (x : LruCache ℕ (List Entry)). Contains x.entries e) c.pop.ensures.entries h)
