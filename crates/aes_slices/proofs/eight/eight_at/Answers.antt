use Rattle.aes_slices.specs.Slices.{eight_at}
use Rattle.aes_slices.proofs.eight.eight_at.Goals as goal

pub returns : goal.returns
unfolding eight_at
returns c = λ t. record {
  v0 = c.vector_at.ensures t;
  v1 = c.vector_at-2.ensures t;
  v2 = c.vector_at-3.ensures t;
  v3 = c.vector_at-4.ensures t;
  v4 = c.vector_at-5.ensures t;
  v5 = c.vector_at-6.ensures t;
  v6 = c.vector_at-7.ensures t;
  v7 = c.vector_at-8.ensures t;
}
