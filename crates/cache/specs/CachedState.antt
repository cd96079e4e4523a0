-- What contracts see of a keeper behind a cache.
use Rattle.std.specs.Prelude.{◌≡◌, ℕ, List, Some, Option, Contains}
use Rattle.ck_types.specs.declared.entry.Entry.{Entry}
use Rattle.keep.specs.Contents.{Contents, Kept, object_at}
use Rattle.keep.specs.Keeping.{Terms}

pub record CachedState (K : Type 0) : Type 0 where
  -- the keeper behind the cache
  pub keep : K
  -- the objects that are remembered, under their ids
  pub entries : List Kept

-- each object that is remembered is the one of its id
abbrev pub Agrees : List Kept → Contents → Type 0
Agrees entries c = (id : ℕ) (object : List Entry) → Contains entries (id, object) → object_at c id ≡ Some object

-- all is said of the keeper behind the cache, and the cache agrees with what that keeper holds as long as the disk is faithful
abbrev pub cached_terms : {K : Type 0} → Terms K → Terms (CachedState K)
cached_terms terms = record {
  holds = λ k c. terms.holds k.keep c × (terms.doubt k.keep ≡ 0 → Agrees k.entries c);
  may_leave = λ k left. terms.may_leave k.keep left;
  is_steady = λ k. terms.is_steady k.keep;
  doubt = λ k. terms.doubt k.keep;
  failures = λ k. terms.failures k.keep;
  tried = λ k. terms.tried k.keep;
}

-- one keeper stands in the place of another: what was held it holds, a crash leaves no more, and its counts are the same
pub record Inherits {K L : Type 0} (before : Terms K) (old : K) (after : Terms L) (new : L) : Type 0 where
  pub held : (c : Contents) → before.holds old c → after.holds new c
  pub crash : (left : Option Contents) → after.may_leave new left → before.may_leave old left
  pub steady : before.is_steady old → after.is_steady new
  pub doubt : after.doubt new ≡ before.doubt old
  pub failures : after.failures new ≡ before.failures old
  pub tried : after.tried new ≡ before.tried old
