-- What a call returns, by what it makes.
use Rattle.std.proofs.Common.{◌≡◌, List, Option, Some, None, Result, Ok, Err, refl, sym, subst, ◌∙◌}
use Rattle.std.specs.Prelude.{MatchResult, IfOk}
use Rattle.ck_types.specs.declared.entry.Entry.{Entry}
use Rattle.ck_types.specs.declared.rv.Rv.{Rv}
use Rattle.templates.specs.declared.fault.MakeFault.{MakeFault}
use Rattle.templates.specs.declared.fault.MakeFault.TheVariants.{Memory}
use Rattle.templates.specs.Made.{Answers}

pub ok_so : (P : List Entry → Type 0) (r : Result (List Entry) MakeFault) (made : List Entry)
    → MatchResult r (λ o. o ≡ made) (λ fault. fault ≡ Memory) → P made → IfOk r (λ o. P o)
ok_so P (Ok o) made e p = subst P (sym e) p
ok_so P (Err fault) made e p = tt

-- where no condition holds, it is the object, or memory ran out
pub answers_so : (r : Result (List Entry) MakeFault) (f : Option Rv) (made whole : List Entry) → f ≡ None → made ≡ whole
    → MatchResult r (λ o. o ≡ made) (λ fault. fault ≡ Memory) → Answers r f whole
answers_so (Ok o) None made whole none same is = is ∙ same
answers_so (Ok o) (Some code) made whole none same is = absurd cc
answers_so (Err fault) None made whole none same is = is
answers_so (Err fault) (Some code) made whole none same is = absurd cc

pub made-object : (fault : Option Rv) (made o : List Entry) → Answers (Ok o) fault made → (fault ≡ None) × (made ≡ o)
made-object (Some code) made o a = absurd a
made-object None made o a = (refl, sym a)
