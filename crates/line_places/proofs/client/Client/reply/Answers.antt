use Rattle.std.proofs.Common.{false, subst, sym, ◌∙◌}
use Rattle.std.proofs.Math.Logic.{∥∥₁_map}
use Rattle.line_places.specs.Standing.{Stands}
use Rattle.line_places.proofs.Standing.{owes-going, reply-app, stands-as, stands-told}
use Rattle.line_places.proofs.client.Client.reply.Goals as goal

pub invariant_of-self : goal.invariant_of-self
invariant_of-self g c = record {
  stands = ∥∥₁_map c.args.self.now.stands (λ h.
      let first = c.args.self.now.first.value in
      let owed = stands-as first _ _ _ _ _ c.requires.owed h in
      subst (λ l. Stands first c.reply.new.self false c.args.self.now.asked.items l) (sym c.push.ensures)
      (stands-told first c.accounts.ensures.turn c.accounts.ensures.cut c.args.self.now.connection c.reply.new.self c.args.reply.now
      c.args.self.now.asked.items c.args.self.now.told.items owed
      (c.reply.ensures.sends (owes-going first c.args.self.now.connection c.args.self.now.asked.items c.args.self.now.told.items
      owed)).tells));
  named = reply-app c.args.self.now.connection c.reply.new.self c.args.reply.now (λ why is. (c.reply.ensures.over why is).0)
      (λ going. (c.reply.ensures.sends going).tells) ∙ c.args.self.now.named;
}

pub reply-requires-clause-short : goal.reply-requires-clause-short
reply-requires-clause-short g c = λ going. (c.requires.may going).0

pub reply-requires-clause-may : goal.reply-requires-clause-may
reply-requires-clause-may g c = λ going. (c.requires.may going).1
