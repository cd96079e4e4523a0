use Rattle.std.proofs.Common.{ap}
use Rattle.wire.specs.Stream.{Held}
use Rattle.line.proofs.Advancing.{hears-more, hears-nothing, hears-end}
use Rattle.line.proofs.connection.Connection.read_piece.Goals as goal

pub returns-in-More-clause-hears : goal.returns-in-More-clause-hears
returns-in-More-clause-hears g c =
    hears-more g.R.Source.reading c.args.reader.now c.take_piece.new.reader c.args.self.now _ _ _ _ _ _ _ _ _ _ c.self.view_is
    (ap (λ (x : Held). x.bytes) c.give_back.ensures) c.requires.going c.requires.clear c.in-More.ensures.gave
    c.in-More.ensures.takes c.in-More.ensures.by

pub returns-in-Nothing-clause-hears : goal.returns-in-Nothing-clause-hears
returns-in-Nothing-clause-hears g c =
    hears-nothing g.R.Source.reading c.args.reader.now c.take_piece.new.reader c.args.self.now _ _ _ _ _ _ _ _ _ _ c.self.view_is
    (ap (λ (x : Held). x.bytes) c.give_back.ensures) c.requires.going c.requires.clear c.in-Nothing.ensures.gave c.requires.partial
    c.in-Nothing.ensures.takes c.in-Nothing.ensures.by

pub returns-in-Ended-clause-hears : goal.returns-in-Ended-clause-hears
returns-in-Ended-clause-hears g c =
    hears-end g.R.Source.reading c.args.reader.now c.take_piece.new.reader c.args.self.now _ _ _ _ _ _ _ _ _ _ c.self.view_is
    (ap (λ (x : Held). x.bytes) c.give_back.ensures) c.requires.going c.requires.clear c.in-Ended.ensures.gave c.requires.partial
    c.end.new.self c.in-Ended.ending c.end.ensures c.in-Ended.ensures.takes c.in-Ended.ensures.by
