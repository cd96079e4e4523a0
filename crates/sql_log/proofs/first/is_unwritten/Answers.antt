use Rattle.std.proofs.Common.{rules, arith, ◌≡◌, inl, inr, sym, refl, true, false, Bool, not, IsTrue, subst}
use Rattle.sqlite_wal.specs.Format.{IsSigned}
use Rattle.sql_log.proofs.FrameLemmas.{head_is}
use Rattle.sql_log.proofs.first.is_unwritten.Goals as goal

if_not : (b : Bool) (P : Type 0) → (P → IsTrue b) → IsTrue (not b) → ¬ P
if_not true P from is p = absurd (cc)
if_not false P from is p = absurd (let h : false ≡ true = from p in cc)

is_not : (b : Bool) (P : Type 0) → (IsTrue b → P) → ¬ P → IsTrue (not b)
is_not true P to none = absurd (none (to refl))
is_not false P to none = refl

pub returns : goal.returns
returns c =
    let head = head_is c.args.log.now in (
      λ h. (search rules, inr (λ signed. if_not _ _ c.is_signed.ensures.1 h (subst IsSigned (sym head) signed))),
      λ it. elim it.1 [
        | inl short ↦ absurd (omega (arith, short, c.if-log-lt-HEADER_LEN.false))
        | inr none ↦ is_not _ _ c.is_signed.ensures.0 (λ signed. none (subst IsSigned head signed))
      ],
    )
