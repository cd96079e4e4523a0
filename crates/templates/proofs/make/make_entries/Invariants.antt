use Rattle.std.proofs.Common.{◌≡◌, take}
use Rattle.std.specs.Prelude.{map, filter}
use Rattle.attrs.specs.Table.{is_held_by}
use Rattle.templates.specs.Made.{made_entry}
use Rattle.templates.proofs.make.make_entries.Given as goal

abbrev pub invariant-loop-row : goal.invariant-loop-row
invariant-loop-row l =
    l.entries ≡ map (made_entry l.recipe.making l.recipe.class l.recipe.original.now l.recipe.template.now l.recipe.random.now
    l.recipe.value.now) (filter (is_held_by l.recipe.class) (take l.row-index l.row-items))
