use Rattle.std.proofs.Common.{ℕ, List, Option, option_map, Vec, Global, sym, subst}
use Rattle.keep_sql.specs.Refusal.{GivesBack, GivesBackLeft}
use Rattle.keep_sql.proofs.refusal.Refused.given_back.Goals as goal

pub returns-in-Some-into_files-clause-files : goal.returns-in-Some-into_files-clause-files
returns-in-Some-into_files-clause-files g c =
    let now = c.give_back-is_whole.new.files in
    let is_whole = c.give_back-is_whole.result in
    let given = subst (λ (bytes : List ℕ). GivesBack g.D.Disk c.in-Some-into_files.files now bytes is_whole)
    c.as_slice.ensures.value c.give_back-is_whole.ensures in
    subst (λ (log : Option (Vec ℕ Global)). GivesBackLeft c.args.self.left (option_map (λ bytes. bytes.items) log) now is_whole)
    (sym c.in-Some.is)
    (c.in-Some-into_files.files, c.in-Some-into_files.ensures.files, given)
