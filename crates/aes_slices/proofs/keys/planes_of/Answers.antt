use Rattle.std.proofs.Common.{◌≡◌, ℕ, ◌<◌, List, subst}
use Rattle.aes_planes.specs.declared.planes.Eight.{Eight}
use Rattle.aes_planes.specs.Planes.{vector_of, IsSliced}
use Rattle.aes_planes.proofs.Bits.{each_of_eight}
use Rattle.aes_slices.proofs.keys.planes_of.Goals as goal

-- each of eight times the same vector
each_same : (s : Eight) (x : List ℕ) → s ≡ record { v0 = x; v1 = x; v2 = x; v3 = x; v4 = x; v5 = x; v6 = x; v7 = x } → (j : ℕ)
    → j < 8 → vector_of s j ≡ x
unfolding vector_of
each_same s x e = each_of_eight (λ j. vector_of s j ≡ x) (λ t. (e t).v0) (λ t. (e t).v1) (λ t. (e t).v2) (λ t. (e t).v3)
    (λ t. (e t).v4) (λ t. (e t).v5) (λ t. (e t).v6) (λ t. (e t).v7)

pub returns : goal.returns
returns c j lt =
    subst (IsSliced c.transposed.result j) (each_same c.eightfold.result c.args.x c.eightfold.ensures j lt) (c.transposed.ensures j lt)
