use Rattle.std.proofs.Common.{◌≡◌, ◌++◌, take}
use Rattle.std.specs.List.{flat_map, AllByRecursion}
use Rattle.ck_types.proofs.list.encode_many.Given as goal

abbrev pub invariant-loop-value : goal.invariant-loop-value
invariant-loop-value g l = record {
  spelled : l.out.items ≡ l.fn.out.items ++ flat_map g.T.Codec.format.encode (take l.value-index l.values);
  fits : AllByRecursion g.T.Codec.format.Fits (take l.value-index l.values);
}
