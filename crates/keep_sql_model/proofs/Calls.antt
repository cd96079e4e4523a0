-- A call that reads or sends nothing, and then a statement.
use Rattle.std.proofs.Common.{inl, inr, Ok, Err, Result, OnErr, arith}
use Rattle.sqlite.specs.State.{State}
use Rattle.keep.specs.Contents.{Contents}
use Rattle.keep_sql_model.specs.Store.{Stayed, Changed, Failed}

-- nothing was called
pub unsent_if : {T E : Type 0} (s : State) (step : Contents → Contents) (r : Result T E) → OnErr r (Failed s s step)
unsent_if s step (Ok x) = tt
unsent_if s step (Err e) = record { clean = omega arith; held = λ c h. h; crash = λ c left h may. inl may }

-- a read, and then a change
pub stayed_then : (old mid new : State) (step : Contents → Contents) → Stayed old mid → Changed mid new step → Changed old new step
stayed_then old mid new step stayed changed = record {
  clean = omega (arith, stayed.clean, changed.clean);
  held = λ c h. changed.held c (stayed.held c h);
  crash = λ c left h may. changed.crash c left (stayed.held c h) may;
}

pub stayed_fails : (old mid new : State) (step : Contents → Contents) → Stayed old mid → Failed mid new step → Failed old new step
stayed_fails old mid new step stayed failed = record {
  clean = omega (arith, stayed.clean, failed.clean);
  held = λ c h. failed.held c (stayed.held c h);
  crash = λ c left h may. elim (failed.crash c left (stayed.held c h) may) [
    | inl before ↦ inl
        (stayed.crash c left h before)
    | inr made ↦ inr made
  ];
}

pub only_read : (old new : State) (step : Contents → Contents) → Stayed old new → Failed old new step
only_read old new step stayed = record { clean = stayed.clean; held = stayed.held; crash = λ c left h may. inl (stayed.crash c left h may) }
