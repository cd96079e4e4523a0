-- A connection that returns `Closed` was shut.
use Rattle.std.proofs.Common.{◌≡◌, inl, inr, false, List, ℕ, [], sym, ◌∙◌}
use Rattle.sqlite.specs.State.{HasCause, IsNotRun, State, store_error}
use Rattle.sqlite_value.specs.Order.{Row}
use Rattle.sqlite.specs.declared.error.Error.{Error}
use Rattle.sqlite.specs.declared.error.Error.TheVariants.{SqliteFailure}
use Rattle.sqlite.specs.declared.error.ErrorCode.TheVariants.{Closed}
use Rattle.sqlite_trees.specs.declared.error.StoreError.{StoreError}
use Rattle.sqlite_trees.specs.declared.error.StoreError.TheVariants.{OutOfMemory, Io, Corrupt, Full, Broken, Unstorable}

of_cause : (old new : State) (cause : StoreError) → store_error cause ≡ SqliteFailure Closed → HasCause old new ⊥ cause
    → old.is_open ≡ false
of_cause old new OutOfMemory is it = absurd (cc)
of_cause old new Io is it = absurd (cc)
of_cause old new Corrupt is it = absurd (cc)
of_cause old new Full is it = absurd (cc)
of_cause old new Broken is it = it
of_cause old new Unstorable is it = absurd it

pub shut_if_closed : (old new : State) (sql : List ℕ) (e : Error) → ((params : Row) → IsNotRun old new sql params e)
    → e ≡ SqliteFailure Closed → old.is_open ≡ false
unfolding IsNotRun
shut_if_closed old new sql e it is = elim (it []) [
  | inl miss ↦ elim miss.0 [
    | inl fault ↦ absurd (let f = fault.2 in cc)
    | inr other ↦ elim other.2 [
      | inl several ↦ absurd (let f = several.1 in cc)
      | inr rest ↦ elim rest [
        | inl params ↦ absurd (let f = params.1 in cc)
        | inr clock ↦ absurd (let f = clock.1 in cc)
      ]
    ]
  ]
  | inr fails ↦ of_cause old new fails.0 (sym fails.1 ∙ is) fails.2
]
