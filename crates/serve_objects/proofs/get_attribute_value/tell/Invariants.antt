use Rattle.std.proofs.Common.{◌≡◌, take}
use Rattle.std.specs.Prelude.{map}
use Rattle.model_answers.specs.GetAttributeValue.{attribute_told, code_of_all}
use Rattle.serve_objects.proofs.get_attribute_value.tell.Given as goal

abbrev pub invariant-loop-asked : goal.invariant-loop-asked
invariant-loop-asked l = record {
  code : l.code ≡ code_of_all (map (λ q. (attribute_told l.object q).0) (take l.asked-index l.query));
  values : l.values ≡ map (λ q. (attribute_told l.object q).1) (take l.asked-index l.query);
}
