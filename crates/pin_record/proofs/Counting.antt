-- Tries, charges and checks in progress.
use Rattle.std.proofs.Common.{◌≡◌, ℕ, ◌+◌, ◌≤◌, ◌<◌, Bool, true, false, cond, not, List, [], ◌∷◌, ◌++◌, length, refl, sym, ◌∙◌, ap, arith, inl, inr, is_some}
use Rattle.std.specs.Prelude.{◌==◌, ◌&&◌, nat_lt}
use Rattle.std.proofs.lemmas.Bool.{and_parts, cases_Bool, cases_eq, eq-eqb, ne_eqb, eqb-true, ltb-true}
use Rattle.ck_types.specs.declared.user_type.UserType.{UserType}
use Rattle.ck_types.specs.declared.user_type.UserType.TheVariants.{So, User}
use Rattle.pin_record.specs.Records.{TokenRecord, charged, checked, initialized_record, is_initialized, tries_limit, tries_of, verifier_of, with_pin}
use Rattle.pin_record.specs.Charges.{Charges, Event, Begins, EndsRight, EndsOtherwise, SetsPin, Initializes, Restarts, charges_opened, charged_checks, with_checks, with_stored, is_under_way, without, may_begin, has_no_user_check, happens, after, spent_after, spent, Once, IsCounted, IsCharged}

length-push : (ns : List ℕ) (n : ℕ) → length (ns ++ n ∷ []) ≡ length ns + 1
length-push [] n = refl
length-push (m ∷ ns) n = let h = length-push ns n in omega (arith, h)

under_way-push : (ns : List ℕ) (n number : ℕ) → is_under_way ns number ≡ false → (n == number) ≡ false
    → is_under_way (ns ++ n ∷ []) number ≡ false
under_way-push [] n number none differ = rw differ refl
under_way-push (m ∷ ns) n number none differ = elim (cases_Bool (m == number)) [
  | inl e ↦ let k : true ≡ false = rw e at none in cc
  | inr e ↦ rw e (under_way-push ns n number (rw e at none) differ)
]

once-push : (ns : List ℕ) (n : ℕ) → Once ns → is_under_way ns n ≡ false → Once (ns ++ n ∷ [])
once-push [] n once none = (refl, tt)
once-push (m ∷ ns) n once none = elim (cases_eq m n) [
  | inl e ↦ let k : true ≡ false = rw (eq-eqb m n e) at none in cc
  | inr d ↦ (under_way-push ns n m once.0 (ne_eqb n m (λ e. d (sym e))), once-push ns n once.1 (rw (ne_eqb m n d) at none))
]

under_way-without : (ns : List ℕ) (number n : ℕ) → is_under_way ns n ≡ false → is_under_way (without ns number) n ≡ false
under_way-without [] number n none = refl
under_way-without (m ∷ ns) number n none = elim (cases_Bool (m == n)) [
  | inl e ↦ let k : true ≡ false = rw e at none in cc
  | inr e ↦ elim (cases_Bool (m == number)) [
    | inl f ↦ rw f (under_way-without ns number n (rw e at none))
    | inr f ↦ rw (f, e) (under_way-without ns number n (rw e at none))
  ]
]

once-without : (ns : List ℕ) (number : ℕ) → Once ns → Once (without ns number)
once-without [] number once = tt
once-without (m ∷ ns) number once = elim (cases_Bool (m == number)) [
  | inl f ↦ rw f (once-without ns number once.1)
  | inr f ↦ rw f (under_way-without ns number m once.0, once-without ns number once.1)
]

-- where it isn't in progress, none ends
pub without-none : (ns : List ℕ) (number : ℕ) → is_under_way ns number ≡ false → without ns number ≡ ns
without-none [] number none = refl
without-none (m ∷ ns) number none = elim (cases_Bool (m == number)) [
  | inl e ↦ let k : true ≡ false = rw e at none in cc
  | inr e ↦ rw e (ap (λ ms. m ∷ ms) (without-none ns number (rw e at none)))
]

-- and where it is, one
without-one : (ns : List ℕ) (number : ℕ) → Once ns → is_under_way ns number ≡ true → length ns ≡ length (without ns number) + 1
without-one [] number once some = let k : false ≡ true = some in cc
without-one (m ∷ ns) number once some = elim (cases_eq m number) [
  | inl e ↦ rw (eq-eqb m number e)
      (let h : length (without ns number) ≡ length ns =
      ap length (without-none ns number (ap (is_under_way ns) (sym e) ∙ once.0)) in omega (arith, h))
  | inr d ↦ rw (ne_eqb m number d) (let h = without-one ns number once.1 (rw (ne_eqb m number d) at some) in omega (arith, h))
]

-- ---- the tries of one PIN

counted-begin : (s tries : ℕ) (checks : List ℕ) (number : ℕ) → IsCounted s tries checks → tries < 10
    → is_under_way checks number ≡ false → IsCounted s (tries + 1) (checks ++ number ∷ [])
counted-begin s tries checks number is low new = record {
  sum = (let h = length-push checks number in let k = is.sum in omega (arith, h, k));
  most = omega (arith, low);
  once = once-push checks number is.once new;
}

counted-right : (s tries : ℕ) (checks : List ℕ) (number : ℕ) → IsCounted s tries checks → is_under_way checks number ≡ true
    → IsCounted 0 (length (without checks number)) (without checks number)
counted-right s tries checks number is e = record {
  sum = omega arith;
  most = (let h = without-one checks number is.once e in let k = is.sum in let m = is.most in omega (arith, h, k, m));
  once = once-without checks number is.once;
}

counted-otherwise : (s tries : ℕ) (checks : List ℕ) (number : ℕ) → IsCounted s tries checks
    → IsCounted (cond (is_under_way checks number) (s + 1) s) tries (without checks number)
counted-otherwise s tries checks number is = elim (cases_Bool (is_under_way checks number)) [
  | inl e ↦ rw e (record {
    sum = (let h = without-one checks number is.once e in let k = is.sum in omega (arith, h, k));
    most = is.most;
    once = once-without checks number is.once;
  })
  | inr e ↦ rw (e, without-none checks number e) is
]

counted-reset : (s tries : ℕ) (checks : List ℕ) → IsCounted s tries checks → IsCounted 0 (length checks) checks
counted-reset s tries checks is =
    record { sum = omega arith; most = (let k = is.sum in let m = is.most in omega (arith, k, m)); once = is.once }

counted-none : (s tries : ℕ) (checks : List ℕ) → IsCounted s tries checks → length checks ≡ 0 → IsCounted 0 0 checks
counted-none s tries checks is none = record { sum = omega (arith, none); most = omega arith; once = is.once }

counted-lost : (s tries : ℕ) (checks : List ℕ) → IsCounted s tries checks → IsCounted (s + length checks) tries []
counted-lost s tries checks is = record { sum = (let k = is.sum in omega (arith, k)); most = is.most; once = tt }

-- ---- one event

-- what an event of the other PIN leaves
unmoved : (who : UserType) (s : ℕ) (c d : Charges) (b : Bool) → tries_of d.stored who ≡ tries_of c.stored who
    → charged_checks d who ≡ charged_checks c who → IsCharged who s c → IsCharged who s (cond b d c)
unmoved who s c d true e f is = rw (e, f) is
unmoved who s c d false e f is = is

-- the three parts of a test that a check may begin
not-true : (b : Bool) → not b ≡ true → b ≡ false
not-true true e = let k : false ≡ true = e in absurd cc
not-true false e = refl

may : (c : Charges) (who : UserType) (number : ℕ) → may_begin c who number ≡ true → (tries_of c.stored who < 10)
    × (is_under_way (charged_checks c who) number ≡ false)
may c who number e =
    let p = and_parts (is_some (verifier_of c.stored who))
    (nat_lt (tries_of c.stored who) 10 && not (is_under_way (charged_checks c who) number)) e in
    let q = and_parts (nat_lt (tries_of c.stored who) 10) (not (is_under_way (charged_checks c who) number)) p.1 in
    (ltb-true (tries_of c.stored who) 10 q.0, not-true (is_under_way (charged_checks c who) number) q.1)

begins : (who : UserType) (s : ℕ) (c : Charges) (number : ℕ) (b : Bool) → may_begin c who number ≡ b → IsCharged who s c
    → IsCharged who s (cond b (with_stored (with_checks c who (charged_checks c who ++ number ∷ [])) (charged c.stored who)) c)
begins who s c number false e is = is
begins So s c number true e is = let m = may c So number e in counted-begin s c.stored.so.tries c.so_checks number is m.0 m.1
begins User s c number true e is = let m = may c User number e in counted-begin s c.stored.user.tries c.user_checks number is m.0 m.1

right : (who : UserType) (s : ℕ) (c : Charges) (number : ℕ) (b : Bool) → is_under_way (charged_checks c who) number ≡ b
    → IsCharged who s c → IsCharged who (cond b 0 s)
    (cond b (with_stored (with_checks c who (without (charged_checks c who) number))
    (checked c.stored who true (length (without (charged_checks c who) number)))) c)
right who s c number false e is = is
right So s c number true e is = counted-right s c.stored.so.tries c.so_checks number is e
right User s c number true e is = counted-right s c.stored.user.tries c.user_checks number is e

sets : (who : UserType) (s : ℕ) (c : Charges) (verifier : _) (b : Bool) → IsCharged who s c
    → IsCharged who (cond b 0 s) (cond b (with_stored c (with_pin c.stored who verifier (length (charged_checks c who)))) c)
sets who s c verifier false is = is
sets So s c verifier true is = counted-reset s c.stored.so.tries c.so_checks is
sets User s c verifier true is = counted-reset s c.stored.user.tries c.user_checks is

initializes : (who : UserType) (s : ℕ) (c : Charges) (label : List ℕ) (so : _) (b : Bool) → has_no_user_check c ≡ b
    → IsCharged who s c → IsCharged who (cond b 0 s) (cond b (with_stored c (initialized_record label so (length c.so_checks))) c)
initializes who s c label so false e is = is
initializes So s c label so true e is = counted-reset s c.stored.so.tries c.so_checks is
initializes User s c label so true e is = counted-none s c.stored.user.tries c.user_checks is (eqb-true _ _ e)

one : (who : UserType) (s : ℕ) (c : Charges) (e : Event) → IsCharged who s c → IsCharged who (spent_after who s c e) (happens c e)
one So s c (Begins So number) is = begins So s c number (may_begin c So number) refl is
one So s c (Begins User number) is =
    unmoved So s c (with_stored (with_checks c User (c.user_checks ++ number ∷ [])) (charged c.stored User))
    (may_begin c User number) refl refl is
one User s c (Begins So number) is =
    unmoved User s c (with_stored (with_checks c So (c.so_checks ++ number ∷ [])) (charged c.stored So))
    (may_begin c So number) refl refl is
one User s c (Begins User number) is = begins User s c number (may_begin c User number) refl is
one So s c (EndsRight So number) is = right So s c number (is_under_way c.so_checks number) refl is
one So s c (EndsRight User number) is =
    unmoved So s c (with_stored (with_checks c User (without c.user_checks number))
    (checked c.stored User true (length (without c.user_checks number)))) (is_under_way c.user_checks number) refl refl is
one User s c (EndsRight So number) is =
    unmoved User s c (with_stored (with_checks c So (without c.so_checks number))
    (checked c.stored So true (length (without c.so_checks number)))) (is_under_way c.so_checks number) refl refl is
one User s c (EndsRight User number) is = right User s c number (is_under_way c.user_checks number) refl is
one So s c (EndsOtherwise So number) is = counted-otherwise s c.stored.so.tries c.so_checks number is
one So s c (EndsOtherwise User number) is = is
one User s c (EndsOtherwise So number) is = is
one User s c (EndsOtherwise User number) is = counted-otherwise s c.stored.user.tries c.user_checks number is
one So s c (SetsPin So verifier) is = sets So s c verifier (is_initialized c.stored) is
one So s c (SetsPin User verifier) is =
    unmoved So s c (with_stored c (with_pin c.stored User verifier (length c.user_checks))) (is_initialized c.stored) refl refl is
one User s c (SetsPin So verifier) is =
    unmoved User s c (with_stored c (with_pin c.stored So verifier (length c.so_checks))) (is_initialized c.stored) refl refl is
one User s c (SetsPin User verifier) is = sets User s c verifier (is_initialized c.stored) is
one who s c (Initializes label so) is = initializes who s c label so (has_no_user_check c) refl is
one So s c Restarts is = counted-lost s c.stored.so.tries c.so_checks is
one User s c Restarts is = counted-lost s c.stored.user.tries c.user_checks is

-- ---- a list of events

pub goes_on : (who : UserType) (s : ℕ) (c : Charges) (es : List Event) → IsCharged who s c → IsCharged who (spent who s c es) (after c es)
goes_on who s c [] is = is
goes_on who s c (e ∷ es) is = goes_on who (spent_after who s c e) (happens c e) es (one who s c e is)

pub ten : (who : UserType) (s : ℕ) (c : Charges) (es : List Event) → IsCharged who s c → spent who s c es ≤ 10
ten who s c es is = let k = goes_on who s c es is in let a = k.sum in let b = k.most in omega (arith, a, b)

pub fewer : (who : UserType) (s : ℕ) (c : Charges) (number : ℕ) → IsCharged who s c → is_under_way (charged_checks c who) number ≡ true
    → length (without (charged_checks c who) number) < tries_of c.stored who
fewer who s c number is e = let h = without-one (charged_checks c who) number is.once e in let k = is.sum in omega (arith, h, k)

pub few : (who : UserType) (s : ℕ) (c : Charges) → IsCharged who s c → length (charged_checks c who) ≤ 10
few who s c is = let k = is.sum in let m = is.most in omega (arith, k, m)

pub starts : (who : UserType) (r : TokenRecord) → tries_of r who ≤ tries_limit → IsCharged who (tries_of r who) (charges_opened r)
starts So r few = record { sum = omega arith; most = few; once = tt }
starts User r few = record { sum = omega arith; most = few; once = tt }
