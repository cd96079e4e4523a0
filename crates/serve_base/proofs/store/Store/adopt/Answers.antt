use Rattle.std.proofs.Common.{◌∙◌, ap, map}
use Rattle.serve_base.specs.Listing.{unread}
use Rattle.serve_base.proofs.Storing.{has-adopted}
use Rattle.serve_base.proofs.store.Store.adopt.Goals as goal

pub returns-in-Ok-list_unread-clause-has : goal.returns-in-Ok-list_unread-clause-has
returns-in-Ok-list_unread-clause-has g c = λ k held sure.
    has-adopted _ _ k c.in-Ok.ids.items (c.ids.ensures.same.held k held) (c.in-Ok.ensures.sound sure k held)
    (c.in-Ok.ensures.ids sure k held) (c.in-Ok-list_unread.ensures ∙ ap (map unread) c.deref.ensures.value)
