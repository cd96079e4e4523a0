-- The steps keep the rule.
use Rattle.std.proofs.Common.{Option, ◌≡◌, ℕ, zero, suc, ◌+◌, ◌<◌, ◌==◌, Bool, true, false, nat_eq, List, [], ◌∷◌, ◌++◌, length, slice_set, refl, ap, sym, ◌∙◌, subst, arith, inl, length-append, None}
use Rattle.std.proofs.lemmas.List.{append-nil}
use Rattle.std.proofs.lemmas.Bool.Decides.{nat_tests}
use mathlib.Core.List.{IsPrefix}
use prog.Atomic.{either}
use Rattle.logbook.specs.Pages.{Cell, cell, keeps, no_nib, step, Moves, Goes}
use Rattle.serve_base.specs.declared.out.Out.{Out}
use Rattle.hall_log.specs.declared.event.Event.{Event}
use Rattle.hall_log.specs.declared.entry.Entry.{Entry}
use Rattle.hall_log.specs.declared.entry.Entry.TheVariants.{Put, Served}
use Rattle.hall_log.specs.Lists.{of}
use Rattle.hall_log.specs.Histories.{events}
use Rattle.hall_log.specs.Log.{puts, served, Orderly, words_of, IsKept, PutSays, ServeSays}
use Rattle.hall_log.proofs.Beginnings.{prefix_trans, prefix_front, prefix_whole, prefix_length}
use Rattle.hall_log.proofs.Lists.{of_here, of_else}
use Rattle.hall_log.proofs.Logs.{events-append, puts-append, served-append, puts_prefix, served_prefix}

abbrev pub shown : List Entry → List Entry
shown log = []

abbrev pub moved : List Entry → List Entry → ℕ → Type 0
moved xs ys n = Unit {0}

-- ---- what a seat puts

-- more may be put at any time
orderly_put : (log : List Entry) (t : ℕ) (c : Event) → Orderly log → Orderly (log ++ Put t c ∷ [])
orderly_put log t c so s =
    let same : served (log ++ Put t c ∷ []) ≡ served log = served-append log (Put t c ∷ []) ∙ append-nil (served log) in
    subst (λ h. IsPrefix (events (of s h)) (puts s (log ++ Put t c ∷ []))) (sym same)
    (prefix_trans (events (of s (served log))) (puts s log) (puts s (log ++ Put t c ∷ [])) (so s)
    (puts_prefix s log (log ++ Put t c ∷ []) (prefix_front log (Put t c ∷ []))))

one_more : {A : Type 0} (xs : List A) (x : A) (n : ℕ) → length xs ≡ n → length (xs ++ x ∷ []) ≡ n + 1
one_more xs x n e = omega (arith, length-append xs (x ∷ []), e)

put_words : (s : ℕ) (log : List Entry) (c : Event) (n : ℕ) → s < 4 → length (puts s log) ≡ n
    → slice_set (words_of log) s (n + 1, true) ≡ words_of (log ++ Put s c ∷ [])
put_words zero log c n below e =
    rw (
      puts-append 0 log (Put 0 c ∷ []),
      puts-append 1 log (Put 0 c ∷ []),
      puts-append 2 log (Put 0 c ∷ []),
      puts-append 3 log (Put 0 c ∷ []),
      served-append log (Put 0 c ∷ []),
      append-nil (puts 1 log),
      append-nil (puts 2 log),
      append-nil (puts 3 log),
      append-nil (served log),
      one_more (puts 0 log) c n e,
    ) refl
put_words (suc zero) log c n below e =
    rw (
      puts-append 0 log (Put 1 c ∷ []),
      puts-append 1 log (Put 1 c ∷ []),
      puts-append 2 log (Put 1 c ∷ []),
      puts-append 3 log (Put 1 c ∷ []),
      served-append log (Put 1 c ∷ []),
      append-nil (puts 0 log),
      append-nil (puts 2 log),
      append-nil (puts 3 log),
      append-nil (served log),
      one_more (puts 1 log) c n e,
    ) refl
put_words (suc (suc zero)) log c n below e =
    rw (
      puts-append 0 log (Put 2 c ∷ []),
      puts-append 1 log (Put 2 c ∷ []),
      puts-append 2 log (Put 2 c ∷ []),
      puts-append 3 log (Put 2 c ∷ []),
      served-append log (Put 2 c ∷ []),
      append-nil (puts 0 log),
      append-nil (puts 1 log),
      append-nil (puts 3 log),
      append-nil (served log),
      one_more (puts 2 log) c n e,
    ) refl
put_words (suc (suc (suc zero))) log c n below e =
    rw (
      puts-append 0 log (Put 3 c ∷ []),
      puts-append 1 log (Put 3 c ∷ []),
      puts-append 2 log (Put 3 c ∷ []),
      puts-append 3 log (Put 3 c ∷ []),
      served-append log (Put 3 c ∷ []),
      append-nil (puts 0 log),
      append-nil (puts 1 log),
      append-nil (puts 2 log),
      append-nil (served log),
      one_more (puts 3 log) c n e,
    ) refl
put_words (suc (suc (suc (suc s)))) log c n below e = absurd (omega arith)

word_is : (s : ℕ) (log : List Entry) → s < 4 → cell (words_of log) s ≡ (length (puts s log), true)
word_is zero log below = refl
word_is (suc zero) log below = refl
word_is (suc (suc zero)) log below = refl
word_is (suc (suc (suc zero))) log below = refl
word_is (suc (suc (suc (suc s)))) log below = absurd (omega arith)

same_words : (s : ℕ) (log : List Entry) → s < 5 → slice_set (words_of log) s ((cell (words_of log) s).0, true) ≡ words_of (log ++ [])
same_words zero log below = rw (append-nil log) refl
same_words (suc zero) log below = rw (append-nil log) refl
same_words (suc (suc zero)) log below = rw (append-nil log) refl
same_words (suc (suc (suc zero))) log below = rw (append-nil log) refl
same_words (suc (suc (suc (suc zero)))) log below = rw (append-nil log) refl
same_words (suc (suc (suc (suc (suc s))))) log below = absurd (omega arith)

put_own : (s : ℕ) (c : Event) → puts s (Put s c ∷ []) ≡ c ∷ []
put_own s c = let e : nat_eq s s ≡ true = grind (arith, nat_tests) in rw e refl

put_goes : (log v : List Entry) (s : ℕ) (c : Event) (old : ℕ) → s < 4 → length (puts s v) ≡ old → Orderly log → IsPrefix v log
    → (b : Bool) → ((cell (words_of log) s).0 == old) ≡ b
    → Goes IsKept shown moved s (v, (no_nib, None)) (λ n. either (n == old) (old + 1) n)
    (PutSays (step s old (old + 1) (Put s c)) (v, (no_nib, None))) (words_of log) log
put_goes log v s c old below len so pre true is =
    let here : (cell (words_of log) s).0 ≡ old = grind (arith, nat_tests) in
    let count : length (puts s log) ≡ old = sym (ap (λ x. x.0) (word_is s log below)) ∙ here in
    let same : puts s v ≡ puts s log = prefix_whole (puts s v) (puts s log) (puts_prefix s v log pre) (omega (arith, count, len)) in
    let put : puts s (log ++ Put s c ∷ []) ≡ puts s v ++ c ∷ [] =
    puts-append s log (Put s c ∷ []) ∙ (ap (λ w. puts s log ++ w) (put_own s c) ∙ ap (λ w. w ++ c ∷ []) (sym same)) in (
      keeps,
      Put s c ∷ [],
      None,
      tt,
      record { words = rw is (put_words s log c old below count); orderly = orderly_put log s c so },
      inl (refl, refl),
      (λ e. (put, orderly_put log s c so)),
    )
put_goes log v s c old below len so pre false is =
    let all : log ++ [] ≡ log = append-nil log in (
      keeps,
      [],
      None,
      tt,
      record { words = rw is (same_words s log (omega arith)); orderly = subst Orderly (sym all) so },
      inl (refl, refl),
      (λ e. absurd (grind (arith, nat_tests))),
    )

word_home : (s : ℕ) (log : List Entry) → s < 5 → (s < length (words_of log)) × ((cell (words_of log) s).1 ≡ true)
word_home zero log below = (omega arith, refl)
word_home (suc zero) log below = (omega arith, refl)
word_home (suc (suc zero)) log below = (omega arith, refl)
word_home (suc (suc (suc zero))) log below = (omega arith, refl)
word_home (suc (suc (suc (suc zero)))) log below = (omega arith, refl)
word_home (suc (suc (suc (suc (suc s))))) log below = absurd (omega arith)

-- whatever the book is, the exchange adds the call to all that the seat has put, or finds another count
pub put_moves : (v : List Entry) (s : ℕ) (c : Event) (old : ℕ) → s < 4 → length (puts s v) ≡ old
    → Moves IsKept shown moved s (v, (no_nib, None)) (λ n. either (n == old) (old + 1) n)
    (PutSays (step s old (old + 1) (Put s c)) (v, (no_nib, None)))
put_moves v s c old below len cs log kept pre away =
    let P : List Cell → Type 0 = λ k. (s < length k) × ((cell k s).1 ≡ true)
    × Goes IsKept shown moved s (v, (no_nib, None)) (λ n. either (n == old) (old + 1) n)
    (PutSays (step s old (old + 1) (Put s c)) (v, (no_nib, None))) k log in
    let home = word_home s log (omega arith) in
    subst P (sym kept.words) (home.0, home.1, put_goes log v s c old below len kept.orderly pre ((cell (words_of log) s).0 == old) refl)

-- ---- what is served

orderly_served_at : (log : List Entry) (s : ℕ) (c : Event) (a : Option Out) (t : ℕ) → Orderly log
    → IsPrefix (events (of s (served log)) ++ c ∷ []) (puts s log)
    → (b : Bool) → nat_eq s t ≡ b → IsPrefix (events (of t (served log ++ (s, (c, a)) ∷ []))) (puts t (log ++ Served s c a ∷ []))
orderly_served_at log s c a t so next true is =
    let same : s ≡ t = grind (arith, nat_tests) in
    let P : ℕ → Type 0 = λ u. IsPrefix (events (of u (served log ++ (s, (c, a)) ∷ []))) (puts u (log ++ Served s c a ∷ [])) in
    let all : events (of s (served log ++ (s, (c, a)) ∷ [])) ≡ events (of s (served log)) ++ c ∷ [] =
    ap events (of_here (served log) s (c, a)) ∙ events-append (of s (served log)) ((c, a) ∷ []) in
    subst P same (subst (λ w. IsPrefix w (puts s (log ++ Served s c a ∷ []))) (sym all)
    (prefix_trans (events (of s (served log)) ++ c ∷ []) (puts s log) (puts s (log ++ Served s c a ∷ [])) next
    (puts_prefix s log (log ++ Served s c a ∷ []) (prefix_front log (Served s c a ∷ [])))))
orderly_served_at log s c a t so next false is =
    let all : events (of t (served log ++ (s, (c, a)) ∷ [])) ≡ events (of t (served log)) =
    ap events (of_else (served log) t s (c, a) (λ e. absurd (grind (arith, nat_tests)))) in
    subst (λ w. IsPrefix w (puts t (log ++ Served s c a ∷ []))) (sym all)
    (prefix_trans (events (of t (served log))) (puts t log) (puts t (log ++ Served s c a ∷ [])) (so t)
    (puts_prefix t log (log ++ Served s c a ∷ []) (prefix_front log (Served s c a ∷ []))))

orderly_served : (log : List Entry) (s : ℕ) (c : Event) (a : Option Out) → Orderly log
    → IsPrefix (events (of s (served log)) ++ c ∷ []) (puts s log) → Orderly (log ++ Served s c a ∷ [])
orderly_served log s c a so next t =
    subst (λ h. IsPrefix (events (of t h)) (puts t (log ++ Served s c a ∷ []))) (sym (served-append log (Served s c a ∷ [])))
    (orderly_served_at log s c a t so next (nat_eq s t) refl)

served_words : (log : List Entry) (s : ℕ) (c : Event) (a : Option Out) (n : ℕ) → length (served log) ≡ n
    → slice_set (words_of log) 4 (n + 1, true) ≡ words_of (log ++ Served s c a ∷ [])
served_words log s c a n e =
    rw (
      puts-append 0 log (Served s c a ∷ []),
      puts-append 1 log (Served s c a ∷ []),
      puts-append 2 log (Served s c a ∷ []),
      puts-append 3 log (Served s c a ∷ []),
      served-append log (Served s c a ∷ []),
      append-nil (puts 0 log),
      append-nil (puts 1 log),
      append-nil (puts 2 log),
      append-nil (puts 3 log),
      one_more (served log) (s, (c, a)) n e,
    ) refl

serve_goes : (log u v : List Entry) (s : ℕ) (c : Event) (a : Option Out) (old : ℕ) → IsPrefix u v → length (served u) ≡ old
    → IsPrefix (events (of s (served u)) ++ c ∷ []) (puts s v) → Orderly log → IsPrefix v log
    → (b : Bool) → (length (served log) == old) ≡ b
    → Goes IsKept shown moved 4 (v, (no_nib, None)) (λ n. either (n == old) (old + 1) n)
    (ServeSays (step 4 old (old + 1) (Served s c a)) (v, (no_nib, None))) (words_of log) log
serve_goes log u v s c a old front len next so pre true is =
    let here : length (served log) ≡ old = grind (arith, nat_tests) in
    let same : served u ≡ served log =
    prefix_whole (served u) (served log) (served_prefix u log (prefix_trans u v log front pre)) (omega (arith, here, len)) in
    let middle : served v ≡ served log =
    prefix_whole (served v) (served log) (served_prefix v log pre)
    (omega (arith, here, len, prefix_length (served u) (served v) (served_prefix u v front))) in
    let next' : IsPrefix (events (of s (served log)) ++ c ∷ []) (puts s log) =
    subst (λ h. IsPrefix (events (of s h) ++ c ∷ []) (puts s log)) same
    (prefix_trans (events (of s (served u)) ++ c ∷ []) (puts s v) (puts s log) next (puts_prefix s v log pre)) in
    let more : served (log ++ Served s c a ∷ []) ≡ served v ++ (s, (c, a)) ∷ [] =
    served-append log (Served s c a ∷ []) ∙ ap (λ w. w ++ (s, (c, a)) ∷ []) (sym middle) in
    let so' = orderly_served log s c a so next' in (
      keeps,
      Served s c a ∷ [],
      None,
      tt,
      record { words = rw is (served_words log s c a old here); orderly = so' },
      inl (refl, refl),
      (λ e. (more, ap length middle ∙ here, so')),
    )
serve_goes log u v s c a old front len next so pre false is =
    let all : log ++ [] ≡ log = append-nil log in (
      keeps,
      [],
      None,
      tt,
      record { words = rw is (same_words 4 log (omega arith)); orderly = subst Orderly (sym all) so },
      inl (refl, refl),
      (λ e. absurd (grind (arith, nat_tests))),
    )

-- whatever the book is, the exchange serves one call more than were served, or finds another count
pub serve_moves : (u v : List Entry) (s : ℕ) (c : Event) (a : Option Out) (old : ℕ) → IsPrefix u v → length (served u) ≡ old
    → IsPrefix (events (of s (served u)) ++ c ∷ []) (puts s v)
    → Moves IsKept shown moved 4 (v, (no_nib, None)) (λ n. either (n == old) (old + 1) n)
    (ServeSays (step 4 old (old + 1) (Served s c a)) (v, (no_nib, None)))
serve_moves u v s c a old front len next cs log kept pre away =
    let P : List Cell → Type 0 = λ k. (4 < length k) × ((cell k 4).1 ≡ true)
    × Goes IsKept shown moved 4 (v, (no_nib, None)) (λ n. either (n == old) (old + 1) n)
    (ServeSays (step 4 old (old + 1) (Served s c a)) (v, (no_nib, None))) k log in
    let home = word_home 4 log (omega arith) in
    subst P (sym kept.words) (
      home.0,
      home.1,
      serve_goes log u v s c a old front len next kept.orderly pre (length (served log) == old) refl,
    )
