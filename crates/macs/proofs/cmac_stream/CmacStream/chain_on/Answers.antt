use Rattle.std.proofs.Common.{◌≡◌, ◌-◌, ◌*◌, ◌/◌, ◌%◌, ◌++◌, ◌≤◌, ◌∙◌, ap, subst, sym, length, take, drop, refl, arith}
use Rattle.std.proofs.lemmas.List.{take_all, take_at, take_rest}
use Rattle.macs.proofs.CmacLaw.{last-whole, chain_further, last_further, size_further, fits_further}
use Rattle.macs.proofs.cmac_stream.CmacStream.chain_on.Goals as goal

pub invariant_of-self : goal.invariant_of-self
invariant_of-self c =
    let s = c.self.inside in
    let h = c.self.invariant in
    let taken = s.taken.bytes in
    let bytes = c.args.bytes.now in
    let seen = sym (ap (λ m. m.taken) c.self.view_is) in
    let before = subst (λ t. 1 ≤ length t) seen c.requires.taken in
    let full = subst (λ t. length t % 16 ≡ 0) seen c.requires.whole in
    let is = c.push.ensures in
    let n = (length bytes - 1) / 16 in
    let rest = take (length bytes - 16 * n) (drop (16 * n) bytes) in
    let last : s.last_len ≡ 16 = last-whole taken bytes _ c.requires.some before full is s.last_len h.size in
    let block : s.last ≡ take s.last_len s.last = sym (take_all s.last_len s.last (omega arith)) in
    let behind : rest ≡ drop (16 * n) bytes = take_rest bytes (16 * n) in
    record {
      chain = chain_further taken bytes _ c.requires.some before full is s.key s.chain s.last _ _ h.chain (block ∙ h.last)
          c.chained_on-chain.ensures c.chained_on-self-inside.ensures;
      last = last_further taken bytes _ c.requires.some before full is _
          (ap (λ b. take (length rest) (b ++ drop (length rest) s.last)) c.copy_from_slice.ensures.after
          ∙ take_at rest _ (length rest) refl ∙ behind);
      size = size_further taken bytes _ c.requires.some before full is rest behind;
      fits = fits_further taken bytes _ c.requires.some before full is rest behind;
    }
