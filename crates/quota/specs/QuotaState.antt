-- What contracts see of a keeper with a limit of objects.
use Rattle.std.specs.Prelude.{◌≡◌, ◌+◌, ◌-◌, ◌<◌, ◌≤◌, ◌^◌, ℕ, length, if◌then◌else◌, nat_lt}
use Rattle.keep.specs.Contents.{Contents}
use Rattle.keep.specs.Keeping.{Terms}

pub record QuotaState (K : Type 0) : Type 0 where
  -- the keeper behind it
  pub keep : K
  -- how many objects there are
  pub count : ℕ
  -- how many there may be
  pub most : ℕ
  -- how many objects were refused
  pub refused : ℕ
  -- the writes that were tried of these
  pub tried : ℕ

-- the sum of two counters of 64 bits; at its greatest value it stays
abbrev pub sum_of : ℕ → ℕ → ℕ
sum_of a b = if nat_lt (a + b) (2 ^ 64) then a + b else 2 ^ 64 - 1

-- There are no more objects than are counted, as long as the disk is faithful. All else is said of the keeper behind it. What is refused
-- for the limit is one failure and one write more. Such a keeper is not steady.
abbrev pub quota_terms : {K : Type 0} → Terms K → Terms (QuotaState K)
quota_terms terms = record {
  holds = λ k c. terms.holds k.keep c × (terms.doubt k.keep ≡ 0 → length c.objects ≤ k.count);
  may_leave = λ k left. terms.may_leave k.keep left;
  is_steady = λ k. ⊥;
  doubt = λ k. terms.doubt k.keep;
  failures = λ k. sum_of (terms.failures k.keep) k.refused;
  tried = λ k. terms.tried k.keep + k.tried;
}
