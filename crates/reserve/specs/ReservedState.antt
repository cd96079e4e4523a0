-- What contracts see of a keeper with room that is set aside.
use Rattle.std.specs.Prelude.{ℕ}
use Rattle.keep.specs.Keeping.{Terms}

pub record ReservedState (K R : Type 0) : Type 0 where
  -- the keeper behind it
  pub keep : K
  -- the room
  pub room : R
  -- how many calls failed by the device
  pub failed : ℕ
  -- how many writes were asked for
  pub tried : ℕ

-- It holds what the keeper behind it holds, and a crash leaves the same. It counts what it was asked for, and what it refused: a change
-- that it tried twice is one. Such a keeper is not steady.
abbrev pub reserved_terms : {K R : Type 0} → Terms K → Terms (ReservedState K R)
reserved_terms terms = record {
  holds = λ k c. terms.holds k.keep c;
  may_leave = λ k left. terms.may_leave k.keep left;
  is_steady = λ k. ⊥;
  doubt = λ k. terms.doubt k.keep;
  failures = λ k. k.failed;
  tried = λ k. k.tried;
}
