use Rattle.std.proofs.Common.{◌≡◌, true, false, refl, sym, ◌∙◌, Option, Some, None}
use Rattle.std.proofs.Math.Logic.{∥∥₁_map}
use Rattle.serve_base.specs.Short.{IsShortCall}
use Rattle.line.specs.declared.ending.Ending.{Ending}
use Rattle.line.specs.declared.next.Next.TheVariants as next
use Rattle.line.proofs.Framing.{short-call}
use Rattle.line_places.proofs.Standing.{call-app, came-call, came-nothing, came-ended, next-app, stands-as}
use Rattle.line_places.proofs.client.Client.next_call.Goals as goal

pub invariant_of-self : goal.invariant_of-self
invariant_of-self g c = record {
  stands = ∥∥₁_map c.args.self.now.stands (λ h.
      came-call c.args.self.now.first.value c.accounts.ensures.call c.args.self.now.connection c.next_call.new.self c.in-Call.call
      c.args.self.now.asked.items c.push.new.self.items c.args.self.now.told.items
      (λ why is. (c.in-Call.ensures.over why is).0) (λ is. (c.in-Call.ensures.comes is).does)
      (stands-as _ _ _ _ _ _ c.if-self.false h) c.push.ensures);
  named = next-app c.args.self.now.connection c.next_call.new.self (next.Call c.in-Call.call)
      (λ why is. (c.in-Call.ensures.over why is).1) (λ is. (c.in-Call.ensures.comes is).does) ∙ c.args.self.now.named;
}

pub invariant_of-self-in-Nothing : goal.invariant_of-self-in-Nothing
invariant_of-self-in-Nothing g c = record {
  stands = ∥∥₁_map c.args.self.now.stands (λ h.
      stands-as _ _ _ _ _ _ (λ i. sym c.if-self.false i)
      (came-nothing c.args.self.now.first.value c.accounts.ensures.nothing c.args.self.now.connection c.next_call.new.self
      c.args.self.now.asked.items c.args.self.now.told.items
      (λ why is. (c.in-Nothing.ensures.over why is).0) (λ is. (c.in-Nothing.ensures.comes is).does)
      (stands-as _ _ _ _ _ _ c.if-self.false h)));
  named = next-app c.args.self.now.connection c.next_call.new.self next.Nothing (λ why is. (c.in-Nothing.ensures.over why is).1)
      (λ is. (c.in-Nothing.ensures.comes is).does) ∙ c.args.self.now.named;
}

pub invariant_of-self-in-Ended-1 : goal.invariant_of-self-in-Ended-1
invariant_of-self-in-Ended-1 g c = record {
  stands = ∥∥₁_map c.args.self.now.stands (λ h.
      stands-as _ _ _ _ _ _ (λ i. sym c.if-self.false i)
      (came-ended c.args.self.now.first.value c.accounts.ensures.ended c.args.self.now.connection c.next_call.new.self
      c.in-Ended.ending c.args.self.now.asked.items c.args.self.now.told.items
      (λ why is. (c.in-Ended.ensures.over why is).1) (λ is. (c.in-Ended.ensures.comes is).does) (stands-as _ _ _ _ _ _ c.if-self.false h)));
  named = next-app c.args.self.now.connection c.next_call.new.self (next.Ended c.in-Ended.ending)
      (λ why is. (c.in-Ended.ensures.over why is).1) (λ is. (c.in-Ended.ensures.comes is).does) ∙ c.args.self.now.named;
}

pub returns-in-Nothing-clause-went : goal.returns-in-Nothing-clause-went
returns-in-Nothing-clause-went g c = record {
  goes = λ owed is. c.in-Nothing.ensures.comes is;
  over = λ why owed is. absurd (let clash : next.Nothing ≡ next.Ended why = (c.in-Nothing.ensures.over why is).0 in cc);
  owes = λ owes. absurd (let clash : true ≡ false = sym owes ∙ c.if-self.false in cc);
}

pub returns-in-Call-clause-short : goal.returns-in-Call-clause-short
returns-in-Call-clause-short g c = by c.args.self.now.connection.ended refl where
  by : (e : Option Ending) → c.args.self.now.connection.ended ≡ e → IsShortCall c.in-Call.call.call
  by None going = short-call c.in-Call.call.call (c.in-Call.ensures.comes going).does.call.is.framed
  by (Some why) is = absurd (let clash : next.Call c.in-Call.call ≡ next.Ended why = (c.in-Call.ensures.over why is).0 in cc)
