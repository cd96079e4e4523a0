use Rattle.std.proofs.Common.{◌≡◌, Bool, true, false, List, refl}
use Rattle.ck_types.specs.declared.entry.Entry.{Entry}
use Rattle.find.specs.Matching.{template_matches}
use Rattle.find.specs.Marks.{excludes, mark_of, wanted_of}
use Rattle.find.specs.MarkLaws.{template_matches-excluded}
use Rattle.find.proofs.laws.marks_pass_over.Goals as goal

-- what is found isn't excluded
not_excluded : (o template : List Entry) → template_matches template o ≡ true → excludes (wanted_of template) (mark_of o) ≡ false
not_excluded o template h =
    let step : (b : Bool) → excludes (wanted_of template) (mark_of o) ≡ b → b ≡ false =
    λ b. elim b as (λ c. excludes (wanted_of template) (mark_of o) ≡ c → c ≡ false) [
      | true ↦ λ k. let no = template_matches-excluded o template k in absurd cc
      | false ↦ λ k. refl
    ] in
    step (excludes (wanted_of template) (mark_of o)) refl

pub returns : goal.returns
returns c = record { excluded = template_matches-excluded; found = not_excluded }
