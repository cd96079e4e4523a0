use Rattle.std.proofs.Common.{◌≡◌, ◌+◌, ◌++◌, ◌*◌, ◌≤◌, ◌∙◌, ap, sym, arith, length, take}
use Rattle.std.proofs.lemmas.List.{length-take-le}
use Rattle.fips_197.specs.Texts.{block_of}
use Rattle.streams_model.proofs.Pieces.{block_of-first, block_of-past}
use Rattle.streams.proofs.kept.Kept.block.Goals as goal

pub returns-then-i-eq0 : goal.returns-then-i-eq0
returns-then-i-eq0 c =
    let s = c.self.inside in
    let le = c.self.invariant in
    let n : length (take s.count s.block) ≡ s.count = length-take-le s.count s.block (omega arith) in
    let size : s.count ≡ length c.args.self.now = sym n ∙ ap length c.self.view_is in
    let enough : 16 ≤ s.count + length c.args.piece.now = omega arith in
    block_of-first s.block c.args.piece.now c.copy_from_slice.new.self s.count (omega arith) le enough c.copy_from_slice.ensures.after
    ∙ (λ t. block_of (c.self.view_is t ++ c.args.piece.now) (sym c.if-i-eq0.true t))

pub returns-else-i-eq0 : goal.returns-else-i-eq0
returns-else-i-eq0 c =
    let s = c.self.inside in
    let le = c.self.invariant in
    let ne = c.if-i-eq0.false in
    let n : length (take s.count s.block) ≡ s.count = length-take-le s.count s.block (omega arith) in
    let past : s.count ≤ 16 * c.args.i = omega arith in
    c.copy_from_slice-else-i-eq0.ensures.after ∙ block_of-past (take s.count s.block) c.args.piece.now s.count c.args.i n past
    ∙ ap (λ l. block_of (l ++ c.args.piece.now) c.args.i) c.self.view_is
