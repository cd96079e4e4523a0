-- What contracts see of a keeper that fails.
use Rattle.std.specs.Prelude.{ℕ}
use Rattle.test_keepers.specs.declared.Failure.{Failure}

pub record FailingState (K : Type 0) : Type 0 where
  -- the keeper that calls are passed on to
  pub keep : K
  -- how many calls there are up to the one that fails, 0 where no further one does
  pub left : ℕ
  pub failure : Failure
  pub failures : ℕ
  -- how many writes were tried
  pub tried : ℕ

pub record UnreadState (K : Type 0) : Type 0 where
  -- the keeper that calls are passed on to
  pub keep : K
  pub failures : ℕ
