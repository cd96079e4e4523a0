use Rattle.std.proofs.Common.{◌+◌, ◌*◌, ◌≤◌, ap, length, refl, subst, sym, arith}
use Rattle.aes_cmac.specs.Cmac.{count_before_last}
use Rattle.macs.proofs.CmacLaw.{written, chain_filled, last_filled, size_filled}
use Rattle.macs.proofs.cmac_stream.CmacStream.fill.Goals as goal

pub invariant_of-self : goal.invariant_of-self
invariant_of-self c =
    let s = c.self.inside in
    let h = c.self.invariant in
    let taken = s.taken.bytes in
    let bytes = c.args.bytes.now in
    let room = subst (λ t. length t + length bytes ≤ 16 * count_before_last t + 16) (sym (ap (λ m. m.taken) c.self.view_is)) c.requires in
    let len : s.last_len ≤ length s.last = omega arith in
    let is = c.push.ensures in
    record {
      chain = chain_filled taken bytes _ room is s.key s.chain h.chain;
      last = last_filled taken bytes _ room is _ _ h.last
          (written s.last bytes _ s.last_len (s.last_len + length bytes) len refl c.copy_from_slice.ensures.after);
      size = size_filled taken bytes _ room is s.last_len h.size;
      fits = omega arith;
    }
