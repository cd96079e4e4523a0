-- Tables hold one contents, and calls that write nothing leave them.
use Rattle.std.proofs.Common.{◌≡◌, ℕ, zero, suc, List, [], ◌∷◌, map, Some, None, Option, refl, sym, ap, subst, ◌∙◌, arith}
use Rattle.sqlite.specs.Tree.{Trees}
use Rattle.sqlite.specs.Effect.{Database, IsDatabase}
use Rattle.sqlite.specs.State.{State, HasCleanDisk}
use Rattle.sqlite.specs.Schema.{Schema}
use Rattle.attrs.specs.Objects.{IsObject}
use Rattle.attrs.specs.Stored.{object_stored}
use Rattle.attrs.specs.StoredLaws.{object_stored-complete}
use Rattle.pin_record.specs.Records.{TokenRecord}
use Rattle.pin_record.specs.Stored.{IsRecord, record_stored}
use Rattle.pin_record.proofs.StoredLaws.{record_stored-complete}
use Rattle.keep.specs.Contents.{Contents}
use Rattle.sql_statements.specs.Store.{counter_rows, OnlyReads, Sees, SeesTables, ShowsNow, Unwritten}
use Rattle.keep_sql_model.specs.Store.{AreObjects, Body, Holds, IsAt, IsStore, ReadsAs, Stayed, Stores, encoded, encoded_record, row_of_object, record_row}

object_of : (a b : Body) → IsObject a → IsObject b → encoded a ≡ encoded b → a ≡ b
unfolding encoded
object_of a b one two same =
    let both : Some a ≡ Some b = sym (object_stored-complete a one) ∙ ap object_stored same ∙ object_stored-complete b two in cc

pub record_of : (r q : TokenRecord) → IsRecord r → IsRecord q → encoded_record r ≡ encoded_record q → r ≡ q
unfolding encoded_record
record_of r q one two same =
    let both : Some r ≡ Some q = sym (record_stored-complete r one) ∙ ap record_stored same ∙ record_stored-complete q two in cc

one_list : (xs ys : List (ℕ × Body)) → AreObjects xs → AreObjects ys → map row_of_object xs ≡ map row_of_object ys → xs ≡ ys
one_list [] [] these those h = refl
one_list [] (y ∷ ys) these those h = absurd (cc)
one_list (x ∷ xs) [] these those h = absurd (cc)
one_list (x ∷ xs) (y ∷ ys) these those h =
    let id : x.0 ≡ y.0 = cc in
    let bytes : encoded x.1 ≡ encoded y.1 = cc in
    let body : x.1 ≡ y.1 = object_of x.1 y.1 these.0 those.0 bytes in
    let more : map row_of_object xs ≡ map row_of_object ys = cc in
    let rest : xs ≡ ys = one_list xs ys these.1 those.1 more in
    let first : x ≡ y = ap (λ (a : ℕ). (a, x.1)) id ∙ ap (λ (b : Body). (y.0, b)) body in
    cc

one_count : (m n : ℕ) → counter_rows m ≡ counter_rows n → m ≡ n
one_count zero zero h = refl
one_count zero (suc n) h = absurd (cc)
one_count (suc m) zero h = absurd (cc)
one_count (suc m) (suc n) h = cc

pub one_contents : (trees : Trees) (c d : Contents) → Stores trees c → Stores trees d → c ≡ d
one_contents trees c d one two =
    let objects : c.objects ≡ d.objects = one_list _ _ one.are_objects two.are_objects (sym one.objects_are ∙ two.objects_are) in
    let last : c.last_id ≡ d.last_id = one_count _ _ (sym one.count_is ∙ two.count_is) in
    let rows : record_row c.token_record ∷ [] ≡ record_row d.token_record ∷ [] = sym one.record_is ∙ two.record_is in
    let bytes : encoded_record c.token_record ≡ encoded_record d.token_record = cc in
    let token : c.token_record ≡ d.token_record = record_of _ _ one.is_record two.is_record bytes in
    ap (λ (xs : List (ℕ × Body)). record c { objects = xs }) objects
    ∙ ap (λ (r : TokenRecord). record c { objects = d.objects; token_record = r }) token ∙ ap (λ (n : ℕ). record d { last_id = n }) last

-- what tables read as, where they hold contents
pub reads_one : (trees : Trees) (c : Contents) (left : Option Contents) → IsStore trees c → ReadsAs trees left → left ≡ Some c
reads_one trees c None it reads = absurd (reads c it)
reads_one trees c (Some d) it reads = ap (λ (x : Contents). Some x) (one_contents trees d c reads.stores it.stores)

-- an open connection that is at contents has their store
pub store_at : (s : State) (c : Contents) → IsAt s c → IsStore s.now.trees c
store_at s c at = record {
  stores = at.stores;
  sound = subst (λ (x : Schema). IsDatabase (record { schema = x; trees = s.now.trees })) at.schema at.sound;
}

-- what an open connection that is at contents sees
pub sees_at : (s : State) (c : Contents) → IsAt s c → Sees s s.now
sees_at s c at = λ _ _. record { now = refl; settled = at.settled; autocommit = at.autocommit }

pub at_again : (old new : State) (c : Contents) → IsAt old c → ShowsNow new old.now → IsAt new c
at_again old new c at shows = record {
  schema = ap (λ (d : Database). d.schema) shows.now ∙ at.schema;
  settled = shows.settled ∙ sym shows.now;
  autocommit = shows.autocommit;
  stores = subst (λ (d : Database). Stores d.trees c) (sym shows.now) at.stores;
  sound = subst (λ (d : Database). IsDatabase d) (sym shows.now) at.sound;
}

-- nothing was written, so what it holds is held
pub held_on : (old new : State) (c : Contents) → Unwritten old new → Holds old c → Holds new c
held_on old new c kept h clean up =
    let old_clean : HasCleanDisk old = omega (arith, kept.clean) in
    let at = h old_clean (kept.was_open clean up) in
    at_again old new c at (kept.sees old.now (sees_at old c at) clean up)

pub sees_held : (s : State) (c : Contents) → Holds s c → SeesTables s s.now
sees_held s c h = λ clean up. let at = h clean up in (sees_at s c at clean up, at.schema)

pub reads_stay : (old new : State) → OnlyReads old new → Stayed old new
reads_stay old new reads = record {
  clean = reads.clean;
  held = λ c h clean up.
      let old_clean : HasCleanDisk old = omega (arith, reads.clean) in
      at_again old new c (h old_clean (reads.was_open clean up)) (reads.sees old.now (sees_held old c h) clean up).0;
  crash = λ c left h may.
      let clean = may.0 in
      let old_clean : HasCleanDisk old = omega (arith, reads.clean) in
      (old_clean, (may.1.0, reads.crash clean old.now (sees_held old c h) may.1.0 may.1.1, may.1.2));
}
