use Rattle.std.proofs.Common.{◌≡◌, ◌+◌, ◌<◌, ◌≤◌, ◌^◌, ◌++◌, drop, length, vec_len, vec_capacity}
use Rattle.std.specs.List.{AllByRecursion}
use Rattle.handles.specs.Handles.{HasRoomFor}
use Rattle.serve_base.specs.Searching.{MayFind}
use Rattle.serve_objects.specs.Giving.{given, numbers}
use Rattle.serve_objects.proofs.giving.give_handles.Given as goal

abbrev pub invariant-loop-found : goal.invariant-loop-found
invariant-loop-found l = record {
  below : l.desk.handles.next_number + length (drop l.found-index l.matches) < 2 ^ 64;
  room : HasRoomFor l.desk.handles (length (drop l.found-index l.matches));
  free : vec_len l.handles + length (drop l.found-index l.matches) ≤ vec_capacity l.handles;
  may : AllByRecursion (MayFind l.desk.sessions.login) (drop l.found-index l.matches);
  given : record l.desk { handles = given l.desk.handles (drop l.found-index l.matches) }
      ≡ record l.fn.desk { handles = given l.fn.desk.handles l.matches };
  numbers : l.handles.items ++ numbers l.desk.handles (drop l.found-index l.matches) ≡ l.fn.handles.items
      ++ numbers l.fn.desk.handles l.matches;
}
