use Rattle.std.proofs.Common.{◌≡◌, ◌++◌, drop}
use Rattle.serve_objects.specs.Giving.{own_matches}
use Rattle.serve_objects.proofs.find_objects_init.search_own.Given as goal

abbrev pub invariant-loop-own : goal.invariant-loop-own
invariant-loop-own l = l.found.items ++ own_matches l.template (drop l.own-index l.objects) ≡ l.fn.found.items
    ++ own_matches l.template l.objects
