-- What is said of a keeper over a connection, and what its laws rest on.
use Rattle.std.specs.Prelude.{◌≡◌, ℕ, Bool, Some, None}
use Rattle.std.proofs.Math.Logic.{∥∥₁_elim}
use Rattle.sqlite.specs.Tree.{Trees}
use Rattle.sqlite.specs.State.{State}
use Rattle.sqlite_trees.specs.View.{doubt}
use Rattle.pin_record.specs.Records.{TokenRecord}
use Rattle.keep.specs.Contents.{Contents}
use Rattle.keep.specs.Keeping.{LeavesSome, Terms}
use Rattle.keep_sql_model.specs.Store.{Holds, IsStore, StateMayLeave, ReadsAs}

-- It holds what its connection holds, and the record that it has at hand is that of the store. It isn't steady: sqlite may refuse
-- any statement because an allocation failed.
abbrev pub terms_by : {K : Type 0} → (K → State) → (K → TokenRecord) → (K → ℕ) → (K → ℕ) → Terms K
terms_by state_of record_of failures tried = record {
  holds = λ k c. Holds (state_of k) c × (record_of k ≡ c.token_record);
  may_leave = λ k left. StateMayLeave (state_of k) left;
  is_steady = λ _. ⊥;
  doubt = λ k. doubt (state_of k).is_clean;
  failures = failures;
  tried = tried;
}

-- where a crash leaves trees, it leaves contents, or what is no token's store
pub some_left : (is_clean : Bool) (may_leave : Trees → Type 0) → doubt is_clean ≡ 0 → ∥ ((db : Trees) × may_leave db) ∥₁
    → LeavesSome (λ left. (doubt is_clean ≡ 0) × ((trees : Trees) × may_leave trees × ReadsAs trees left))
some_left is_clean may_leave clean there none =
    ∥∥₁_elim there (λ x y. absurd x)
    (λ it. none None (clean, (it.0, it.1, λ (c : Contents) (stands : IsStore it.0 c). none (Some c) (clean, (it.0, it.1, stands)))))
