use Rattle.std.proofs.Common.{[], ◌∷◌}
use Rattle.find.proofs.codes.codes_of.Goals as goal

pub returns : goal.returns
returns c = λ i.
    c.code_at.ensures i ∷ c.code_at-2.ensures i ∷ c.code_at-3.ensures i ∷ c.code_at-4.ensures i ∷ c.code_at-5.ensures i ∷
    c.code_at-6.ensures i ∷ c.code_at-7.ensures i ∷ c.code_at-8.ensures i ∷ c.code_at-9.ensures i ∷ c.code_at-10.ensures i ∷
    c.code_at-11.ensures i ∷ c.code_at-12.ensures i ∷ c.code_at-13.ensures i ∷ c.code_at-14.ensures i ∷ c.code_at-15.ensures i ∷
    c.code_at-16.ensures i ∷ c.code_at-17.ensures i ∷ c.code_at-18.ensures i ∷ c.code_at-19.ensures i ∷ c.code_at-20.ensures i ∷ []
