-- Laws of histories.
use Rattle.std.proofs.Common.{◌≡◌, ℕ, ◌%◌, [], ◌∷◌, ◌++◌, refl, ap, ◌∙◌}
use Rattle.model_views.specs.Views.{mask}
use Rattle.model_worlds.specs.Worlds.{World, happens, after}
use Rattle.model_worlds.specs.Traces.{replies_to, replies_told, trace}
use Rattle.model_worlds.proofs.Told.{is_told}
use Rattle.hall_log.specs.Lists.{of}
use Rattle.hall_log.proofs.Lists.{of-append, of-one}
use Rattle.hall_log.specs.Histories.{Exchange, event_app, History}
use Rattle.hall.specs.Histories.{AllProper, TellsEvent, Unfolds, move_in, moves_in, told_in}
use Rattle.hall.proofs.MoreHistory.{replied_is}

pub unfolds_at : (w : World) (before : History) (x : ℕ × Exchange) (rest : History) → Unfolds w (before ++ x ∷ rest)
    → TellsEvent (after w (moves_in before)) x.1.0 x.1.1
unfolds_at w [] x rest u = u.0
unfolds_at w (b ∷ bs) x rest u = unfolds_at (happens w (move_in b.1)) bs x rest u.1

pub unfolds_before : (w : World) (before rest : History) → Unfolds w (before ++ rest) → Unfolds w before
unfolds_before w [] rest u = tt
unfolds_before w (x ∷ xs) rest u = (u.0, unfolds_before (happens w (move_in x.1)) xs rest u.1)

pub told_trace : (w : World) (history : History) (app : ℕ) → Unfolds w history
    → replies_to app (told_in history) ≡ replies_told (mask (w.views app)) (trace app w (moves_in history))
told_trace w history app u = ap (replies_to app) (replied_is w history u) ∙ (is_told app w (moves_in history)).told

pub own_seat : (before : History) (x : ℕ × Exchange) (rest : History) → AllProper (before ++ x ∷ rest) → event_app x.1.0 % 4 ≡ x.0
own_seat before x rest proper =
    let here : of x.0 (x ∷ rest) ≡ x.1 ∷ of x.0 rest = of-append x.0 (x ∷ []) rest ∙ ap (λ l. l ++ of x.0 rest) (of-one x.0 x.0 x.1 refl) in
    let parts : of x.0 (before ++ x ∷ rest) ≡ of x.0 before ++ x.1 ∷ of x.0 rest =
    of-append x.0 before (x ∷ rest) ∙ ap (λ l. of x.0 before ++ l) here in
    (proper x.0 (of x.0 before) x.1 (of x.0 rest) parts).1
