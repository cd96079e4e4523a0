use Rattle.serve_base.specs.Searching.{MayFind}
use Rattle.serve_objects.proofs.Numbering.{own-handles, all-own}
use Rattle.serve_objects.proofs.find_objects_init.find_all.Goals as goal

pub returns-clause-may : goal.returns-clause-may
returns-clause-may g c =
    rw (c.in_ok-search_own.ensures, own-handles c.args.template.now c.own_objects.result.now) (
    all-own (MayFind c.args.desk.now.sessions.login) _ _ (λ h. tt)
    ((rw (c.new-found.ensures.items, c.logged_in.ensures.login) at c.in_ok-search.ensures.may) tt))
