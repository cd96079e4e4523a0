-- What a read by id finds.
use Rattle.std.proofs.Common.{◌≡◌, inl, inr, ℕ, ◌==◌, List, [], ◌∷◌, map, filter, if◌then◌else◌, Bool, true, false, Some, Option, Ok, refl, ap, subst, ◌∙◌}
use Rattle.std.specs.List.Sorted.{IsPermutation}
use Rattle.std.specs.Prelude.{find}
use Rattle.std.specs.Option.{option_map}
use Rattle.sql_statements.specs.declared.sql.TheConstants.{READ_OBJECT}
use Rattle.sqlite_value.specs.declared.value.Value.TheVariants.{Null, Blob}
use Rattle.sqlite.specs.Order.{Row}
use Rattle.sqlite_sql.specs.Term.{col}
use Rattle.sqlite.specs.Query.{Query, IsAnswer, output, page, Output}
use Rattle.sqlite.specs.Program.{overlay}
use Rattle.sqlite.specs.State.{State, QueriesRow}
use Rattle.sqlite_tied.specs.Compute.{everything}
use Rattle.sqlite.specs.Listing.{understood, reads_listing}
use Rattle.sqlite.proofs.Callers.{IsPlain, first_as, one_permutation}
use Rattle.sql_statements.specs.Bodies.{Bodies, body_at}
use Rattle.sql_statements.proofs.Ids.{rising}
use Rattle.sql_statements.specs.Tables.{token_schema}
use Rattle.sql_statements.specs.Store.{IsAtRows, body_row}
use Rattle.sql_statements.proofs.Texts.{by_id, plain_query, read_is}
use Rattle.sql_statements.proofs.Remove.{id_params, picks, one_found, none_permuted}

abbrev pub read_text : List ℕ
read_text = READ_OBJECT.now

abbrev pub read_query : Query
read_query = record plain_query { filter = by_id; project = col 1 2 ∷ [] }

pub read_plain : IsPlain (understood token_schema read_text)
unfolding understood everything
read_plain = (refl, refl)

read_unlisted : reads_listing token_schema read_text ≡ false
unfolding understood everything
read_unlisted = refl

abbrev under : ℕ → List (ℕ × List ℕ) → Option (List ℕ)
under id objects = option_map (λ (e : ℕ × List ℕ). e.1) (find (λ (e : ℕ × List ℕ). e.0 == id) objects)

looked_up : (id : ℕ) (b : List ℕ) (objects : List (ℕ × List ℕ)) → filter (λ (p : ℕ × List ℕ). p.0 == id) objects ≡ (id, b) ∷ []
    → under id objects ≡ Some b
looked_up id b [] h = absurd (cc)
looked_up id b (p ∷ more) h = go (p.0 == id) refl h (looked_up id b more)
  where
    go : (t : Bool) → (p.0 == id) ≡ t
        → (if t then p ∷ filter (λ (q : ℕ × List ℕ). q.0 == id) more else filter (λ (q : ℕ × List ℕ). q.0 == id) more) ≡ (id, b) ∷ []
        → (filter (λ (q : ℕ × List ℕ). q.0 == id) more ≡ (id, b) ∷ [] → under id more ≡ Some b) → under id (p ∷ more) ≡ Some b
    go true is h later = let same : p ≡ (id, b) = cc in rw is (ap (λ (q : ℕ × List ℕ). Some q.1) same)
    go false is h later = rw is (later h)

pub finds_row : (old new : State) (id : ℕ) (c : Bodies) (row : Row) → IsAtRows old c → QueriesRow read_text (id_params id) old new (Ok row)
    → (b : List ℕ) × (body_at c id ≡ Some b) × (row ≡ Blob b ∷ [])
finds_row old new id c row at h =
    let it = at.stores in
    let got = (first_as read_text (id_params id) old new token_schema at.schema _ read_is read_plain read_unlisted row h).1 in
    let a : IsAnswer read_query (overlay old.now.trees []) (id_params id) (row ∷ got.0) = got.1 Null in
    let staged : a.staged ≡ map (λ (p : ℕ × List ℕ). id_params id ∷ body_row p ∷ [])
    (filter (λ (p : ℕ × List ℕ). p.0 == id) c.objects) = a.grouped ∙ rw it.objects_are (picks id [] c.objects) in
    elim (one_found 0 id c.objects (rising old.now.trees c it)) [
      | inl none ↦
          let kept : a.kept ≡ [] = a.distinct
          ∙ ap (map (output read_query)) (staged ∙ ap (map (λ (p : ℕ × List ℕ). id_params id ∷ body_row p ∷ [])) none) in
          let ordered = none_permuted a.ordered (subst (λ k. IsPermutation k a.ordered) kept a.same) in
          let found : row ∷ got.0 ≡ [] = a.shown ∙ ap (λ xs. page read_query (id_params id) (map (λ (p : Output). p.1) xs)) ordered in
          absurd (cc)
      | inr one ↦
          let o : Output = ([], Blob one.0 ∷ []) in
          let kept : a.kept ≡ o ∷ [] = a.distinct
          ∙ ap (map (output read_query)) (staged ∙ ap (map (λ (p : ℕ × List ℕ). id_params id ∷ body_row p ∷ [])) one.1) in
          let ordered = one_permutation o a.ordered (subst (λ k. IsPermutation k a.ordered) kept a.same) in
          let found : row ∷ got.0 ≡ (Blob one.0 ∷ []) ∷ [] =
          a.shown ∙ ap (λ xs. page read_query (id_params id) (map (λ (p : Output). p.1) xs)) ordered in
          let first : row ≡ Blob one.0 ∷ [] = cc in
          (one.0, looked_up id one.0 c.objects one.1, first)
    ]
