-- Ids for objects to come, over a steady keeper.
use Rattle.std.specs.Prelude.{ℕ, ◌+◌, ◌≤◌}
use Rattle.keep.specs.Contents.{greatest_id}
use Rattle.keep.specs.Keeping.{Terms}
use Rattle.model_worlds.specs.Worlds.{World}
use Rattle.token.specs.States.{Shows, TokenState}

-- The token refines this world. Its keeper is steady, as one in memory is, and has an id for each of so many token objects to
-- come (PKCS #11 v3.1, 4.4).
pub record HasSpareIds {K : Type 0} (terms : Terms K) (t : TokenState K) (w : World) (count : ℕ) : Type 0 where
  pub steady : terms.is_steady t.store.keep
  pub shows : Shows terms t w
  pub ids : shows.contents.last_id + count ≤ greatest_id
