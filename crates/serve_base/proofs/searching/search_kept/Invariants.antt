use Rattle.std.proofs.Common.{◌≡◌, ◌++◌, drop}
use Rattle.std.specs.Prelude.{IsSome}
use Rattle.std.specs.List.{AllByRecursion}
use Rattle.keep.specs.Contents.{Contents, object_at}
use Rattle.keep.specs.Keeping.{Counted, Stays}
use Rattle.serve_base.specs.Listing.{AreMarks, all_ids, listed_ids}
use Rattle.serve_base.specs.Searching.{found_at, MayFind}
use Rattle.serve_base.proofs.searching.search_kept.Given as goal

abbrev pub invariant-loop-entry : goal.invariant-loop-entry
invariant-loop-entry g l = record {
  same : Stays g.K.Keep.terms l.fn.keep l.keep;
  counts : Counted g.K.Keep.terms l.fn.keep l.keep 0 0;
  failures : g.K.Keep.terms.failures l.keep ≡ g.K.Keep.terms.failures l.fn.keep;
  ids : listed_ids l.listed ≡ listed_ids l.fn.listed;
  all : all_ids l.listed ≡ all_ids l.fn.listed;
  marks : g.K.Keep.terms.doubt l.keep ≡ 0 → (c : Contents) → g.K.Keep.terms.holds l.fn.keep c → AreMarks c l.fn.listed
      → AreMarks c l.listed;
  found : g.K.Keep.terms.doubt l.keep ≡ 0 → (c : Contents) → g.K.Keep.terms.holds l.fn.keep c → AreMarks c l.fn.listed
      → AllByRecursion (λ id. IsSome (object_at c id)) (listed_ids l.fn.listed)
      → l.found.items ++ found_at l.login l.template (object_at c) (listed_ids (drop l.entry-index l.listed))
      ≡ l.fn.found.items ++ found_at l.login l.template (object_at c) (listed_ids l.fn.listed);
  may : AllByRecursion (MayFind l.login) l.fn.found.items → AllByRecursion (MayFind l.login) l.found.items;
}
