use Rattle.std.proofs.Common.{◌≡◌, List, ℕ, sym, subst, ◌∙◌}
use Rattle.sql_log.specs.Bytes.{IsAlike}
use Rattle.sql_log.proofs.Written.{begins_less}
use Rattle.sql_log.proofs.reading.put_back.Goals as goal

pub returns-clause-crash : goal.returns-clause-crash
returns-clause-crash g c = λ clean x may.
    let (d, was, begins) = c.write_from.ensures.crash x may in
    let read : c.as_slice.result.now ≡ g.D.Disk.seen c.args.disk.now =
    c.as_slice.ensures.value ∙ c.in_ok-now.ensures.value (c.write_from.ensures.clean clean) in (
      d,
      c.bytes_of.ensures.same.crash d was,
      λ n alike. begins_less n _ d x
          (c.alike-same.ensures.longest n (subst (λ (file : List ℕ). IsAlike n file c.args.bytes.now) (sym read) alike)) begins,
    )
