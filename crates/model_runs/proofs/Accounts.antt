-- For each reply that blames the device a failure was counted.
use Rattle.std.proofs.Common.{◌≡◌, ℕ, ◌+◌, ◌≤◌, arith, List, [], ◌∷◌, ◌++◌, Option, Some, None, inl, inr, refl}
use Rattle.ck_types.specs.declared.rv.Rv.TheVariants.{DeviceError, HostMemory}
use Rattle.ck_calls.specs.declared.reply.Reply.{Reply}
use Rattle.ck_calls.specs.declared.reply.Reply.TheVariants.{Code}
use Rattle.keep.specs.Keeping.{Rises}
use Rattle.model_views.specs.declared.fault.Fault.{Fault}
use Rattle.model_views.specs.declared.fault.Fault.TheVariants.{Memory, Device}
use Rattle.model_views.specs.Refusals.{resource_error}
use Rattle.model_runs.specs.Runs.{blames, AccountsFor}

pub blames-append : (xs ys : List Reply) → blames (xs ++ ys) ≡ blames xs + blames ys
blames-append [] ys = omega arith
blames-append (x ∷ xs) ys = let k = blames-append xs ys in omega (arith, k)

pub accounts-more : (before mid now : ℕ) (xs ys : List Reply) → AccountsFor before mid xs → AccountsFor mid now ys → mid ≤ now
    → AccountsFor before now (xs ++ ys)
accounts-more before mid now xs ys (inr most) more rises = inr (omega (arith, most, rises))
accounts-more before mid now xs ys (inl few) (inr most) rises = inr most
accounts-more before mid now xs ys (inl few) (inl more) rises = inl (let k = blames-append xs ys in omega (arith, k, few, more))

pub accounts-none : (before now : ℕ) → before ≤ now → AccountsFor before now []
accounts-none before now rises = inl (omega (arith, rises))

pub device-is : (reply : Reply) → resource_error reply ≡ Some Device → reply ≡ Code DeviceError
device-is (Code DeviceError) is = refl
device-is (Code HostMemory) is = let k : Some Memory ≡ Some Device = is in cc
device-is _ is = let k : None ≡ Some Device = is in cc

-- one reply, which blames the device only where a failure was counted
pub accounts-one : (before now : ℕ) (reply : Reply) → before ≤ now → (reply ≡ Code DeviceError → Rises before now)
    → AccountsFor before now (reply ∷ [])
accounts-one before now reply rises cause = by (resource_error reply) refl where
  by : (o : Option Fault) → resource_error reply ≡ o → AccountsFor before now (reply ∷ [])
  by None is = rw is (inl (omega (arith, rises)))
  by (Some Memory) is = rw is (inl (omega (arith, rises)))
  by (Some Device) is = rw is (elim (cause (device-is reply is)) [
    | inl risen ↦ inl (omega (arith, risen))
    | inr stuck ↦ inr (let k = stuck.0 in let m = stuck.1 in omega (arith, k, m))
  ])

pub accounts-plain : (count : ℕ) (reply : Reply) → resource_error reply ≡ None → AccountsFor count count (reply ∷ [])
accounts-plain count reply plain = rw plain (inl (omega arith))
