-- What `first_text` gives: a text of bytes that passes the test, wherever there is one of at most so many.
use Rattle.std.proofs.Common.{◌≡◌, ℕ, zero, suc, ◌<◌, ◌≤◌, Bool, true, List, [], ◌∷◌, length, Option, Some, None, is_some, IfSome, option_map, ap, refl, sym, ◌∙◌, subst, arith, ⊎_elim, true≢false}
use Rattle.std.proofs.lemmas.Bool.{cond_both, cases_lt}
use Rattle.std.proofs.lemmas.List.Elements.{All-nil, All-cons, All-head, All-tail}
use Rattle.fips_197.specs.Bytes.{AreBytes}
use Rattle.streams.specs.Outputs.{or_else, first_below, first_text}

abbrev pub Passes : (List ℕ → Bool) → List ℕ → Type 0
Passes test x = (test x ≡ true) × AreBytes x

-- ---- the first number below n for which something is

either : (o other : Option (List ℕ)) (P : List ℕ → Type 0) → IfSome o P → IfSome other P → IfSome (or_else o other) P
either None other P p q = q
either (Some x) other P p q = p

earlier : (o other : Option (List ℕ)) → is_some o ≡ true → is_some (or_else o other) ≡ true
earlier None other e = absurd (true≢false (sym e))
earlier (Some x) other e = e

later : (o other : Option (List ℕ)) → is_some other ≡ true → is_some (or_else o other) ≡ true
later None other e = e
later (Some x) other e = refl

below_sound : (n : ℕ) (f : ℕ → Option (List ℕ)) (P : List ℕ → Type 0) → ((b : ℕ) → b < n → IfSome (f b) P) → IfSome (first_below n f) P
unfolding first_below
below_sound zero f P h = tt
below_sound (suc n) f P h = either (first_below n f) (f n) P (below_sound n f P (λ b lt. h b (omega arith))) (h n (omega arith))

below_complete : (n : ℕ) (f : ℕ → Option (List ℕ)) (b : ℕ) → b < n → is_some (f b) ≡ true → is_some (first_below n f) ≡ true
unfolding first_below
below_complete zero f b lt some = absurd (omega arith)
below_complete (suc n) f b lt some =
    ⊎_elim (λ under. earlier (first_below n f) (f n) (below_complete n f b under some))
    (λ over. let at : b ≡ n = omega arith in later (first_below n f) (f n) (subst (λ k. is_some (f k) ≡ true) at some))
    (cases_lt b n)

-- ---- texts

begun_by : (test : List ℕ → Bool) (b : ℕ) → b < 256 → (o : Option (List ℕ)) → IfSome o (Passes (λ bytes. test (b ∷ bytes)))
    → IfSome (option_map (λ bytes. b ∷ bytes) o) (Passes test)
begun_by test b lt None h = tt
begun_by test b lt (Some x) h = (h.0, All-cons (λ y. y < 256) b x lt h.1)

begun_some : (b : ℕ) (o : Option (List ℕ)) → is_some o ≡ true → is_some (option_map (λ bytes. b ∷ bytes) o) ≡ true
begun_some b None e = e
begun_some b (Some x) e = refl

first_text-sound : (n : ℕ) (test : List ℕ → Bool) → IfSome (first_text n test) (Passes test)
unfolding first_text
first_text-sound zero test = cond_both (test []) (Some []) None (λ o. IfSome o (Passes test)) (λ e. (e, All-nil (λ y. y < 256))) (λ _. tt)
first_text-sound (suc n) test =
    cond_both (test []) (Some []) (first_below 256 (λ b. option_map (λ bytes. b ∷ bytes) (first_text n (λ bytes. test (b ∷ bytes)))))
    (λ o. IfSome o (Passes test)) (λ e. (e, All-nil (λ y. y < 256)))
    (λ _. below_sound 256 (λ b. option_map (λ bytes. b ∷ bytes) (first_text n (λ bytes. test (b ∷ bytes)))) (Passes test)
    (λ b lt. begun_by test b lt (first_text n (λ bytes. test (b ∷ bytes))) (first_text-sound n (λ bytes. test (b ∷ bytes)))))

first_text-complete : (n : ℕ) (test : List ℕ → Bool) (x : List ℕ) → AreBytes x → length x ≤ n → test x ≡ true
    → is_some (first_text n test) ≡ true
unfolding first_text
first_text-complete zero test [] bytes le e =
    cond_both (test []) (Some []) None (λ o. is_some o ≡ true) (λ _. refl) (λ not. absurd (true≢false (sym e ∙ not)))
first_text-complete zero test (b ∷ x) bytes le e = absurd (omega arith)
first_text-complete (suc n) test [] bytes le e =
    cond_both (test []) (Some []) (first_below 256 (λ b. option_map (λ bytes. b ∷ bytes) (first_text n (λ bytes. test (b ∷ bytes)))))
    (λ o. is_some o ≡ true) (λ _. refl) (λ not. absurd (true≢false (sym e ∙ not)))
first_text-complete (suc n) test (b ∷ x) bytes le e =
    cond_both (test []) (Some []) (first_below 256 (λ c. option_map (λ bytes. c ∷ bytes) (first_text n (λ bytes. test (c ∷ bytes)))))
    (λ o. is_some o ≡ true) (λ _. refl)
    (λ _. below_complete 256 (λ c. option_map (λ bytes. c ∷ bytes) (first_text n (λ bytes. test (c ∷ bytes)))) b
    (All-head (λ y. y < 256) b x bytes)
    (begun_some b (first_text n (λ bytes. test (b ∷ bytes)))
    (first_text-complete n (λ bytes. test (b ∷ bytes)) x (All-tail (λ y. y < 256) b x bytes) (omega arith) e)))

-- ---- what it is

one_passes : (o : Option (List ℕ)) (test : List ℕ → Bool) (y : List ℕ) → ((x : List ℕ) → AreBytes x → test x ≡ true → x ≡ y)
    → is_some o ≡ true → IfSome o (Passes test) → o ≡ Some y
one_passes None test y only e h = absurd (true≢false (sym e))
one_passes (Some x) test y only e h = ap Some (only x h.1 h.0)

none_passes : (o : Option (List ℕ)) (test : List ℕ → Bool) → ((x : List ℕ) → AreBytes x → test x ≡ true → ⊥)
    → IfSome o (Passes test) → o ≡ None
none_passes None test none h = refl
none_passes (Some x) test none h = absurd (none x h.1 h.0)

pub first_text-only : (n : ℕ) (test : List ℕ → Bool) (y : List ℕ) → AreBytes y → length y ≤ n → test y ≡ true
    → ((x : List ℕ) → AreBytes x → test x ≡ true → x ≡ y) → first_text n test ≡ Some y
first_text-only n test y bytes le e only =
    one_passes (first_text n test) test y only (first_text-complete n test y bytes le e) (first_text-sound n test)

pub first_text-none : (n : ℕ) (test : List ℕ → Bool) → ((x : List ℕ) → AreBytes x → test x ≡ true → ⊥) → first_text n test ≡ None
first_text-none n test none = none_passes (first_text n test) test none (first_text-sound n test)
