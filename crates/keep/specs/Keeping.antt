-- What a keeper's call makes of what it holds and of what a crash may leave, and what it counts.
use Rattle.std.specs.Prelude.{◌≡◌, ◌⊎◌, ℕ, ◌+◌, ◌-◌, ◌<◌, ◌≤◌, ◌^◌, Option, Some, Result, IsErrOf, OnOk}
use Rattle.keep.specs.declared.keep.KeepFault.{KeepFault}
use Rattle.keep.specs.declared.keep.KeepFault.TheVariants.{Memory, Device, Damaged}
use Rattle.keep.specs.Contents.{Contents}

-- What is said of a keeper. What it holds and what a crash leaves are relations: a keeper that is shut, or whose disk was
-- faulty, may hold anything.
pub record Terms (K : Type 0) : Type 1 where
  -- it holds these contents
  pub holds : K → Contents → Type 0
  -- a crash at this moment may leave contents, or `None`: what is then left is no token's store
  pub may_leave : K → Option Contents → Type 0
  -- it refuses by `Device` only an id that isn't there, and an insert past the greatest id
  pub is_steady : K → Type 0
  -- 0 as long as the disk is faithful: it has returned what was written
  pub doubt : K → ℕ
  -- how often the device has failed
  pub failures : K → ℕ
  -- how many writes were tried
  pub tried : K → ℕ

module _ {K : Type 0} (terms : Terms K) (old new : K) where
  -- what it held it holds, and a crash leaves no more than it could leave before
  pub record Stays : Type 0 where
    pub held : (c : Contents) → terms.holds old c → terms.holds new c
    pub crash : (c : Contents) (left : Option Contents) → terms.holds old c → terms.may_leave new left → terms.may_leave old left

  -- the change is made, and a crash leaves it alone
  pub record Changes (step : Contents → Contents) : Type 0 where
    pub held : (c : Contents) → terms.holds old c → terms.holds new (step c)
    pub crash : (c : Contents) (left : Option Contents) → terms.holds old c → terms.may_leave new left → left ≡ Some (step c)

  -- the change isn't made, and a crash leaves what it could leave before, or the whole change
  pub record Fails (step : Contents → Contents) : Type 0 where
    pub held : (c : Contents) → terms.holds old c → terms.holds new c
    pub crash : (c : Contents) (left : Option Contents) → terms.holds old c → terms.may_leave new left → terms.may_leave old left
        ⊎ (left ≡ Some (step c))

  -- No fault of the disk and no failure is forgotten, and a keeper that is steady stays so. At least and at most so many writes
  -- were tried.
  pub record Counted (least most : ℕ) : Type 0 where
    pub steady : terms.is_steady old → terms.is_steady new
    pub doubt : terms.doubt old ≤ terms.doubt new
    pub failures : terms.failures old ≤ terms.failures new
    pub tried : terms.tried old + least ≤ terms.tried new
    pub bounded : terms.tried new ≤ terms.tried old + most

-- something fulfils it
abbrev pub LeavesSome : {A : Type 0} → (A → Type 0) → Type 0
LeavesSome {A} may_leave = ¬ ((left : A) → ¬ may_leave left)

-- a keeper as it is made: what it holds is known, a crash leaves just that, and nothing is counted
pub record Begins {K : Type 0} (terms : Terms K) (k : K) (c : Contents) : Type 0 where
  pub held : terms.holds k c
  pub only : (d : Contents) → terms.holds k d → d ≡ c
  pub left : terms.may_leave k (Some c)
  pub alone : (left : Option Contents) → terms.may_leave k left → left ≡ Some c
  pub sure : terms.doubt k ≡ 0
  pub failures : terms.failures k ≡ 0
  pub tried : terms.tried k ≡ 0

-- a counter of 64 bits has risen; at its greatest value it stays
abbrev pub Rises : ℕ → ℕ → Type 0
Rises before now = (before < now) ⊎ ((before ≡ 2 ^ 64 - 1) × (now ≡ before))

-- A failure of the device was counted, once, and nothing else was: at success, and where an allocation failed, the count stays. A
-- store that is open is never found damaged.
pub record HasCause {T : Type 0} (failures_before failures_now : ℕ) (result : Result T KeepFault) : Type 0 where
  pub device : IsErrOf result Device → Rises failures_before failures_now
  pub once : failures_now ≤ failures_before + 1
  pub ok : OnOk result (failures_now ≡ failures_before)
  pub memory : IsErrOf result Memory → failures_now ≡ failures_before
  pub damaged : IsErrOf result Damaged → ⊥
