use Rattle.std.proofs.Common.{◌≡◌, [], Some, None, sym, ap, subst, ◌∙◌}
use Rattle.templates.specs.declared.making.Making.{Making}
use Rattle.templates.specs.Faults.{template_fault}
use Rattle.templates.specs.Guarded.{IsAsGuarded, StaysPlaced}
use Rattle.templates.specs.Made.{made_class, made_entries, made_of}
use Rattle.templates.proofs.NoFault.{IsFaultless, faultless}
use Rattle.templates.proofs.Masked.{altered_guarded}
use Rattle.templates.proofs.Changes.{altered_is_object, changed_placed, made_class-altered}
use Rattle.templates.proofs.Results.{answers_so, ok_so}
use Rattle.templates.proofs.make.altered.Goals as goal

pub make-requires-clause-object : goal.make-requires-clause-object
make-requires-clause-object c =
    let none : template_fault c.args.making c.args.state c.args.original.now c.args.template.now ≡ None =
    rw c.entries.ensures.entries at (sym c.in_default.ensures) in
    let ok = faultless c.args.making c.args.state c.args.original.now c.args.template.now none in
    rw c.entries-2.ensures.entries
    (altered_is_object c.args.making c.requires.making c.args.state c.args.original.now c.args.template.now c.args.random.now ok
    c.class.result c.class.ensures c.entries.ensures.object)

pub returns-clause-made : goal.returns-clause-made
returns-clause-made c =
    let none : template_fault c.args.making c.args.state c.args.original.now c.args.template.now ≡ None =
    rw c.entries.ensures.entries at (sym c.in_default.ensures) in
    let class : made_class c.args.making c.args.original.now c.args.template.now ≡ Some c.class.result =
    made_class-altered c.args.making c.requires.making c.args.original.now c.args.template.now ∙ c.class.ensures in
    answers_so c.make.result (template_fault c.args.making c.args.state c.args.original.now c.args.template.now)
    (made_entries c.args.making c.class.result c.args.original.now c.args.template.now c.args.random.now []) _ none
    (sym (ap (λ k. made_of k c.args.making c.args.original.now c.args.template.now c.args.random.now []) class))
    (rw c.entries-2.ensures.entries at c.make.ensures)

pub returns-clause-guarded : goal.returns-clause-guarded
returns-clause-guarded c =
    let none : template_fault c.args.making c.args.state c.args.original.now c.args.template.now ≡ None =
    rw c.entries.ensures.entries at (sym c.in_default.ensures) in
    let ok = faultless c.args.making c.args.state c.args.original.now c.args.template.now none in
    ok_so (λ o. IsAsGuarded c.args.state c.args.original.now o) c.make.result
    (made_entries c.args.making c.class.result c.args.original.now c.args.template.now c.args.random.now [])
    (rw c.entries-2.ensures.entries at c.make.ensures)
    (altered_guarded c.args.making c.requires.making c.args.state c.args.original.now c.args.template.now c.args.random.now ok
    c.class.result c.class.ensures c.entries.ensures.object)

pub returns-clause-placed : goal.returns-clause-placed
returns-clause-placed c set =
    let none : template_fault c.args.making c.args.state c.args.original.now c.args.template.now ≡ None =
    rw c.entries.ensures.entries at (sym c.in_default.ensures) in
    let ok = faultless c.args.making c.args.state c.args.original.now c.args.template.now none in
    ok_so (λ o. StaysPlaced c.args.original.now o) c.make.result
    (made_entries c.args.making c.class.result c.args.original.now c.args.template.now c.args.random.now [])
    (rw c.entries-2.ensures.entries at c.make.ensures)
    (subst (λ (k : Making). IsFaultless k c.args.state c.args.original.now c.args.template.now
    → StaysPlaced c.args.original.now
    (made_entries k c.class.result c.args.original.now c.args.template.now c.args.random.now [])) (sym set)
    (changed_placed c.args.state c.args.original.now c.args.template.now c.args.random.now c.class.result c.class.ensures) ok)
