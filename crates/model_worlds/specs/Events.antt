-- Which events are taken.
use Rattle.std.specs.Prelude.{◌≡◌, length}
use Rattle.ck_calls.specs.Need.{random_bytes}
use Rattle.model_worlds.specs.declared.event.Event.{Event}
use Rattle.model_worlds.specs.declared.event.Event.TheVariants.{Call, Finish, Gone}

-- a call comes with the random bytes that it takes
abbrev pub HasRandom : Event → Type 0
HasRandom (Call app call random) = length random.items ≡ random_bytes call
HasRandom (Finish app) = Unit {0}
HasRandom (Gone app) = Unit {0}
