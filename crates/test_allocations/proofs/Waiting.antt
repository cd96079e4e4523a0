-- What is left of events has its random bytes.
use Rattle.std.proofs.Common.{◌≡◌, List, [], ◌∷◌, ◌++◌, All, sym, subst}
use Rattle.std.proofs.lemmas.List.Elements.{All-tail}
use Rattle.model_worlds.specs.declared.event.Event.{Event}
use Rattle.model_worlds.specs.Events.{HasRandom}

random-in-rest : (xs ys : List Event) → All HasRandom (xs ++ ys) → All HasRandom ys
random-in-rest [] ys h = h
random-in-rest (x ∷ xs) ys h = random-in-rest xs ys (All-tail HasRandom x (xs ++ ys) h)

pub random-left : (xs ys events : List Event) → xs ++ ys ≡ events → All HasRandom events → All HasRandom ys
random-left xs ys events is h = random-in-rest xs ys (subst (All HasRandom) (sym is) h)
