use Rattle.std.proofs.Common.{◌≡◌, ℕ, ◌+◌, ◌*◌, List, drop}
use Rattle.aes_cmac.specs.Cmac.{chained}
use Rattle.aes_cmac.proofs.chained_on.Given as goal

abbrev pub invariant-turns : goal.invariant-turns
invariant-turns l = (message : List ℕ) (q : ℕ) → l.text ≡ drop (16 * q) message
    → l.fn.chain ≡ chained l.key message q → l.chained ≡ chained l.key message (q + l.i)
