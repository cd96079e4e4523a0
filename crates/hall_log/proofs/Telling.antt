-- What is known of what was put and served, by beginnings of the log.
use Rattle.std.proofs.Common.{Option, Bool, true, false, ◌≡◌, ℕ, zero, suc, ◌+◌, ◌<◌, nat_eq, true, false, List, [], ◌∷◌, ◌++◌, length, Some, slice_get, refl, ap, sym, ◌∙◌, subst, arith, length-append}
use Rattle.std.proofs.lemmas.Bool.Decides.{nat_tests}
use mathlib.Core.List.{IsPrefix}
use Rattle.serve_base.specs.declared.out.Out.{Out}
use Rattle.hall_log.specs.declared.event.Event.{Event}
use Rattle.hall_log.specs.declared.entry.Entry.{Entry}
use Rattle.hall_log.specs.Lists.{of}
use Rattle.hall_log.specs.Histories.{Exchange, events, answered}
use Rattle.hall_log.specs.Log.{puts, served, Orderly, HasPut, HasGot}
use Rattle.hall_log.specs.declared.serving.Counts.{Counts}
use Rattle.hall_log.specs.Counting.{AreCounts, SeatCounted, count_of}
use Rattle.hall_log.proofs.Beginnings.{prefix_trans, prefix_front, prefix_whole, prefix_same}
use Rattle.hall_log.proofs.Lists.{of_here, of_else}
use Rattle.hall_log.proofs.Logs.{events-append, puts_prefix, served_prefix, of_prefix, events_prefix, events_length}

-- what stands at a place stands after as many others
pub split_get : {A : Type 0} (xs : List A) (n : ℕ) (x : A) → slice_get xs n ≡ Some x → (before : List A) × (length before ≡ n)
    × IsPrefix (before ++ x ∷ []) xs
split_get [] n x h = absurd cc
split_get (y ∷ xs) zero x h = ([], refl, (xs, cc h))
split_get (y ∷ xs) (suc n) x h = let r = split_get xs n x h in (y ∷ r.0, omega (arith, r.1), (r.2.0, ap (λ w. y ∷ w) r.2.1))

-- the last of a list of exchanges
pub split_got : (xs : List Exchange) (n : ℕ) (a : Option Out) → length xs ≡ n + 1 → slice_get (answered xs) n ≡ Some a
    → (before : List Exchange) × (c : Event) × (length before ≡ n) × (xs ≡ before ++ (c, a) ∷ [])
split_got [] n a len h = absurd cc
split_got (x ∷ []) zero a len h = let e : x.1 ≡ a = cc h in ([], x.0, refl, ap (λ w. (x.0, w) ∷ []) e)
split_got (x ∷ []) (suc n) a len h = absurd cc
split_got (x ∷ y ∷ xs) zero a len h = absurd (omega (arith, len))
split_got (x ∷ y ∷ xs) (suc n) a len h = let r = split_got (y ∷ xs) n a (omega (arith, len)) h in
    (x ∷ r.0, r.1, omega (arith, r.2), ap (λ w. x ∷ w) r.3)

-- where two lists are the same, so are their last elements
pub snoc_last : {A : Type 0} (xs : List A) (x y : A) → xs ++ x ∷ [] ≡ xs ++ y ∷ [] → x ≡ y
snoc_last [] x y e = cc e
snoc_last (z ∷ xs) x y e = snoc_last xs x y (cc e)

pub get_last : {A : Type 0} (xs : List A) (x : A) (n : ℕ) → length xs ≡ n → slice_get (xs ++ x ∷ []) n ≡ Some x
get_last [] x zero len = refl
get_last [] x (suc n) len = absurd (omega (arith, len))
get_last (y ∷ xs) x zero len = absurd (omega (arith, len))
get_last (y ∷ xs) x (suc n) len = get_last xs x n (omega (arith, len))

answered-append : (xs ys : List Exchange) → answered (xs ++ ys) ≡ answered xs ++ answered ys
answered-append [] ys = refl
answered-append (x ∷ xs) ys = ap (λ w. x.1 ∷ w) (answered-append xs ys)

answered_length : (xs : List Exchange) → length (answered xs) ≡ length xs
answered_length [] = refl
answered_length (x ∷ xs) = omega (arith, answered_length xs)

-- what was put is what stands at its place
pub has_put : (old new : List Entry) (s : ℕ) (c : Event) (n : ℕ) → length (puts s old) ≡ n → puts s new ≡ puts s old ++ c ∷ []
    → HasPut new s c n
has_put old new s c n len is = rw is (get_last (puts s old) c n len)

-- ---- the token's side

-- A call that a seat put after as many as were served of it is the next one.
pub next_is : (u all put : List Entry) (s : ℕ) (c : Event) (n : ℕ) → IsPrefix u all → IsPrefix put all → Orderly all
    → HasPut put s c n → length (of s (served u)) ≡ n
    → IsPrefix (events (of s (served u)) ++ c ∷ []) (puts s all)
next_is u all put s c n front there so has len =
    let at = split_get (puts s put) n c has in
    let here : IsPrefix (at.0 ++ c ∷ []) (puts s all) =
    prefix_trans (at.0 ++ c ∷ []) (puts s put) (puts s all) at.2 (puts_prefix s put all there) in
    let before : IsPrefix at.0 (puts s all) = prefix_trans at.0 (at.0 ++ c ∷ []) (puts s all) (prefix_front at.0 (c ∷ [])) here in
    let done : IsPrefix (events (of s (served u))) (puts s all) =
    prefix_trans (events (of s (served u))) (events (of s (served all))) (puts s all)
    (events_prefix (of s (served u)) (of s (served all)) (of_prefix s (served u) (served all) (served_prefix u all front))) (so s) in
    let same : at.0 ≡ events (of s (served u)) =
    prefix_same at.0 (events (of s (served u))) (puts s all) before done (at.1 ∙ sym (events_length (of s (served u)) ∙ len)) in
    subst (λ w. IsPrefix (w ++ c ∷ []) (puts s all)) same here

-- and then just this one more is served
pub serves_one : (u all new : List Entry) (x : ℕ × Exchange) → IsPrefix u all → length (served all) ≡ length (served u)
    → served new ≡ served all ++ x ∷ [] → served new ≡ served u ++ x ∷ []
serves_one u all new x front len is =
    let same : served u ≡ served all = prefix_whole (served u) (served all) (served_prefix u all front) (omega (arith, len)) in
    is ∙ ap (λ w. w ++ x ∷ []) (sym same)

pub one_more_of : (u new : List Entry) (s : ℕ) (x : Exchange) → served new ≡ served u ++ (s, x) ∷ []
    → of s (served new) ≡ of s (served u) ++ x ∷ []
one_more_of u new s x is = ap (of s) is ∙ of_here (served u) s x

pub none_more_of : (u new : List Entry) (t s : ℕ) (x : Exchange) → nat_eq s t ≡ false → served new ≡ served u ++ (s, x) ∷ []
    → of t (served new) ≡ of t (served u)
none_more_of u new t s x other is = ap (of t) is ∙ of_else (served u) t s x (λ e. absurd (grind (arith, nat_tests)))

pub has_got : (u new : List Entry) (s : ℕ) (c : Event) (a : Option Out) (n : ℕ) → length (of s (served u)) ≡ n
    → of s (served new) ≡ of s (served u) ++ (c, a) ∷ [] → HasGot new s a n
has_got u new s c a n len is =
    let xs = of s (served u) in
    let count : length (answered xs) ≡ n = answered_length xs ∙ len in (
      rw is (omega (arith, length-append xs ((c, a) ∷ []), len)),
      rw (is, answered-append xs ((c, a) ∷ [])) (get_last (answered xs) a n count),
    )

counts_at : (u new : List Entry) (s : ℕ) (x : Exchange) (old now : Counts) → served new ≡ served u ++ (s, x) ∷ []
    → AreCounts old (served u) → SeatCounted s old now → s < 4
    → (t : ℕ) → t < 4 → (b : Bool) → nat_eq s t ≡ b → count_of now t ≡ length (of t (served new))
counts_at u new s x old now is are counted below t lt true e =
    let same : s ≡ t = grind (arith, nat_tests) in
    let own : count_of now s ≡ length (of s (served new)) =
    omega (arith, counted.own, are s below, ap length (one_more_of u new s x is), length-append (of s (served u)) (x ∷ [])) in
    subst (λ k. count_of now k ≡ length (of k (served new))) same own
counts_at u new s x old now is are counted below t lt false e =
    counted.others t lt e ∙ (are t lt ∙ sym (ap length (none_more_of u new t s x e is)))

-- the counts after it
pub counts_after : (u new : List Entry) (s n : ℕ) (x : Exchange) (old now : Counts) → s < 4 → served new ≡ served u ++ (s, x) ∷ []
    → n ≡ length (served u) → AreCounts old (served u) → SeatCounted s old now → (n + 1 ≡ length (served new)) × AreCounts now (served new)
counts_after u new s n x old now below is en are counted = (
  omega (arith, ap length is, length-append (served u) ((s, x) ∷ []), en),
  λ t lt. counts_at u new s x old now is are counted below t lt (nat_eq s t) refl,
)

-- ---- a seat's side

-- The answer that a seat is told is that to its last call, after all that it was told before.
pub got_is : (mine told h all : List Entry) (s : ℕ) (c : Event) (a : Option Out) (n : ℕ) → IsPrefix mine all → IsPrefix told all
    → IsPrefix h all → Orderly all
    → puts s mine ≡ events (of s (served told)) ++ c ∷ [] → length (puts s mine) ≡ n + 1 → HasGot h s a n
    → of s (served h) ≡ of s (served told) ++ (c, a) ∷ []
got_is mine told h all s c a n pm pt ph so put count got =
    let xs = of s (served told) in
    let at = split_got (of s (served h)) n a got.0 got.1 in
    let len : length xs ≡ n = omega (arith, ap length put, length-append (events xs) (c ∷ []), events_length xs, count) in
    let whole = of s (served all) in
    let px : IsPrefix xs whole = of_prefix s (served told) (served all) (served_prefix told all pt) in
    let py : IsPrefix (of s (served h)) whole = of_prefix s (served h) (served all) (served_prefix h all ph) in
    let pb : IsPrefix at.0 whole =
    prefix_trans at.0 (of s (served h)) whole (subst (λ w. IsPrefix at.0 w) (sym at.3) (prefix_front at.0 ((at.1, a) ∷ []))) py in
    let same : at.0 ≡ xs = prefix_same at.0 xs whole pb px (at.2 ∙ sym len) in
    let theirs : IsPrefix (events (of s (served h))) (puts s all) =
    prefix_trans (events (of s (served h))) (events whole) (puts s all) (events_prefix (of s (served h)) whole py) (so s) in
    let as_long : length (events (of s (served h))) ≡ length (puts s mine) = omega (arith, events_length (of s (served h)), got.0, count) in
    let equal : events (of s (served h)) ≡ puts s mine =
    prefix_same (events (of s (served h))) (puts s mine) (puts s all) theirs (puts_prefix s mine all pm) as_long in
    let is : of s (served h) ≡ xs ++ (at.1, a) ∷ [] = at.3 ∙ ap (λ w. w ++ (at.1, a) ∷ []) same in
    let last : events xs ++ at.1 ∷ [] ≡ events xs ++ c ∷ [] =
    sym (events-append xs ((at.1, a) ∷ [])) ∙ (sym (ap events is) ∙ (equal ∙ put)) in
    is ∙ ap (λ w. xs ++ (w, a) ∷ []) (snoc_last (events xs) at.1 c last)
