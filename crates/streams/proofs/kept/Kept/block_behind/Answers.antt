use Rattle.std.proofs.Common.{◌≡◌, ◌++◌, ◌*◌, ◌≤◌, ◌∙◌, ap, sym, arith, length, take}
use Rattle.std.proofs.lemmas.List.{length-take-le}
use Rattle.fips_197.specs.Texts.{block_of}
use Rattle.streams_model.proofs.Pieces.{block_of-past}
use Rattle.streams.proofs.kept.Kept.block_behind.Goals as goal

pub returns-else-i-ne0 : goal.returns-else-i-ne0
returns-else-i-ne0 c = c.requires.first ∙ ap (block_of (c.args.self.now ++ c.args.piece.now)) (sym c.if-i-ne0.false)

pub returns-then-i-ne0 : goal.returns-then-i-ne0
returns-then-i-ne0 c =
    let s = c.self.inside in
    let le = c.self.invariant in
    let ne = c.if-i-ne0.true in
    let n : length (take s.count s.block) ≡ s.count = length-take-le s.count s.block (omega arith) in
    let past : s.count ≤ 16 * c.args.i = omega arith in
    c.copy_from_slice.ensures.after ∙ block_of-past (take s.count s.block) c.args.piece.now s.count c.args.i n past
    ∙ ap (λ l. block_of (l ++ c.args.piece.now) c.args.i) c.self.view_is
