use Rattle.std.proofs.Common.{ℕ, ◌+◌, ◌*◌, ◌<◌, ◌∙◌, arith}
use Rattle.aes_slices.specs.Slices.{eight_at}
use Rattle.aes_slices.proofs.eight.store_eight.Goals as goal

pub returns-clause-here : goal.returns-clause-here
unfolding eight_at
returns-clause-here c =
    let at = 8 * c.args.n in
    let e0 = c.store-8.ensures.others at (omega arith) ∙ c.store-7.ensures.others at (omega arith)
    ∙ c.store-6.ensures.others at (omega arith) ∙ c.store-5.ensures.others at (omega arith)
    ∙ c.store-4.ensures.others at (omega arith) ∙ c.store-3.ensures.others at (omega arith)
    ∙ c.store-2.ensures.others at (omega arith) ∙ c.store.ensures.here in
    let e1 = c.store-8.ensures.others (at + 1) (omega arith) ∙ c.store-7.ensures.others (at + 1) (omega arith)
    ∙ c.store-6.ensures.others (at + 1) (omega arith) ∙ c.store-5.ensures.others (at + 1) (omega arith)
    ∙ c.store-4.ensures.others (at + 1) (omega arith) ∙ c.store-3.ensures.others (at + 1) (omega arith) ∙ c.store-2.ensures.here in
    let e2 = c.store-8.ensures.others (at + 2) (omega arith) ∙ c.store-7.ensures.others (at + 2) (omega arith)
    ∙ c.store-6.ensures.others (at + 2) (omega arith) ∙ c.store-5.ensures.others (at + 2) (omega arith)
    ∙ c.store-4.ensures.others (at + 2) (omega arith) ∙ c.store-3.ensures.here in
    let e3 = c.store-8.ensures.others (at + 3) (omega arith) ∙ c.store-7.ensures.others (at + 3) (omega arith)
    ∙ c.store-6.ensures.others (at + 3) (omega arith) ∙ c.store-5.ensures.others (at + 3) (omega arith) ∙ c.store-4.ensures.here in
    let e4 = c.store-8.ensures.others (at + 4) (omega arith) ∙ c.store-7.ensures.others (at + 4) (omega arith)
    ∙ c.store-6.ensures.others (at + 4) (omega arith) ∙ c.store-5.ensures.here in
    let e5 = c.store-8.ensures.others (at + 5) (omega arith) ∙ c.store-7.ensures.others (at + 5) (omega arith) ∙ c.store-6.ensures.here in
    let e6 = c.store-8.ensures.others (at + 6) (omega arith) ∙ c.store-7.ensures.here in
    let e7 = c.store-8.ensures.here in
    λ t. record { v0 = e0 t; v1 = e1 t; v2 = e2 t; v3 = e3 t; v4 = e4 t; v5 = e5 t; v6 = e6 t; v7 = e7 t }

pub returns-clause-others : goal.returns-clause-others
unfolding eight_at
returns-clause-others c k lt =
    let at = 8 * k in
    let low = λ (i : ℕ) (h : i < 8 * c.args.n).
    c.store-8.ensures.others i (omega (arith, h)) ∙ c.store-7.ensures.others i (omega (arith, h))
    ∙ c.store-6.ensures.others i (omega (arith, h)) ∙ c.store-5.ensures.others i (omega (arith, h))
    ∙ c.store-4.ensures.others i (omega (arith, h)) ∙ c.store-3.ensures.others i (omega (arith, h))
    ∙ c.store-2.ensures.others i (omega (arith, h)) ∙ c.store.ensures.others i (omega (arith, h)) in
    let e0 = low at (omega (arith, lt)) in
    let e1 = low (at + 1) (omega (arith, lt)) in
    let e2 = low (at + 2) (omega (arith, lt)) in
    let e3 = low (at + 3) (omega (arith, lt)) in
    let e4 = low (at + 4) (omega (arith, lt)) in
    let e5 = low (at + 5) (omega (arith, lt)) in
    let e6 = low (at + 6) (omega (arith, lt)) in
    let e7 = low (at + 7) (omega (arith, lt)) in
    λ t. record { v0 = e0 t; v1 = e1 t; v2 = e2 t; v3 = e3 t; v4 = e4 t; v5 = e5 t; v6 = e6 t; v7 = e7 t }
