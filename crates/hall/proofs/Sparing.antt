-- While there are ids, the device is not blamed.
use Rattle.std.proofs.Common.{◌≡◌, ℕ, ap, refl}
use Rattle.ck_types.specs.declared.rv.Rv.TheVariants.{DeviceError}
use Rattle.ck_calls.specs.declared.reply.Reply.TheVariants.{Code}
use Rattle.serve_base.specs.declared.out.Out.{Out}
use Rattle.serve_base.specs.declared.out.Out.TheVariants.{Reply, Ask}
use Rattle.token.specs.States.{blames}
use Rattle.token.proofs.States.{blames-none}
use Rattle.hall.specs.Histories.{replies_in, told_out}

-- a reply to a call that is not CKR_DEVICE_ERROR, or a job
pub not_blamed : (app : ℕ) (out : Out) → (out ≡ Reply (Code DeviceError) → ⊥) → blames (replies_in (told_out app out)) ≡ 0
not_blamed app (Reply reply) not_so = blames-none reply (λ is. not_so (ap Reply is))
not_blamed app (Ask job) not_so = refl
