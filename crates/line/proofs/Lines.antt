-- Bytes that are read and written in parts.
use Rattle.std.proofs.Common.{◌≡◌, ℕ, ◌-◌, List, [], ◌∷◌, ◌++◌, length, take, drop, refl, sym, ap, subst, ◌∙◌, append_assoc, arith}
use Rattle.std.specs.List.{AllByRecursion}
use Rattle.door.specs.Ends.{Reading, TookBytes, Writing}
use Rattle.door.proofs.Giving.{gave-nothing, gave-more, took-nothing, took-more}
use Rattle.std.proofs.Math.Seq.{drop-append_seam}
use Rattle.std.proofs.lemmas.List.{append-nil, length-append, take-append-drop}
use Rattle.line.specs.Asking.{Gave, Took, Puts}

-- ---- a writer that is given bytes

-- it took these bytes, and then none
took-still : (a b c : Writing) (x : List ℕ) → TookBytes a b x → TookBytes b c [] → TookBytes a c x
took-still a b c x p q = subst (λ (y : List ℕ). TookBytes a c y) (append-nil x) (took-more a b c x [] p q)

-- the first of the bytes were written and noted, and the rest not yet
pub record Front (bytes rest : List ℕ) (old now : Writing) (noted noted' : List ℕ) : Type 0 where
  pub front : List ℕ
  pub whole : bytes ≡ front ++ rest
  pub wrote : TookBytes old now front
  pub noted_is : noted' ≡ noted ++ front

pub front-none : (bytes : List ℕ) (a : Writing) (noted : List ℕ) → Front bytes bytes a a noted noted
front-none bytes a noted = record { front = []; whole = refl; wrote = took-nothing a; noted_is = sym (append-nil noted) }

-- a write took some of the rest
pub front-more : (bytes rest more piece : List ℕ) (count : ℕ) (a b c : Writing) (n n' n'' : List ℕ) → Front bytes rest a b n n'
    → TookBytes b c (take count rest) → piece ≡ take count rest → more ≡ drop count rest → n'' ≡ n' ++ piece → Front bytes more a c n n''
front-more bytes rest more piece count a b c n n' n'' p q is m notes = record {
  front = p.front ++ take count rest;
  whole = p.whole ∙ ap (λ (t : List ℕ). p.front ++ t)
      (sym (take-append-drop count rest) ∙ ap (λ (t : List ℕ). take count rest ++ t) (sym m))
      ∙ sym (append_assoc p.front (take count rest) more);
  wrote = took-more a b c p.front (take count rest) p.wrote q;
  noted_is = notes ∙ ap (λ (t : List ℕ). n' ++ t) is ∙ ap (λ (t : List ℕ). t ++ take count rest) p.noted_is
      ∙ append_assoc n p.front (take count rest);
}

-- it took none
pub front-kept : (bytes rest : List ℕ) (a b c : Writing) (n n' : List ℕ) → Front bytes rest a b n n' → TookBytes b c []
    → Front bytes rest a c n n'
front-kept bytes rest a b c n n' p k =
    record { front = p.front; whole = p.whole; wrote = took-still a b c p.front p.wrote k; noted_is = p.noted_is }

-- it took no bytes of the rest
pub front-nil : (bytes rest : List ℕ) (count : ℕ) (a b c : Writing) (n n' : List ℕ) → Front bytes rest a b n n'
    → TookBytes b c (take count rest) → count ≡ 0 → Front bytes rest a c n n'
front-nil bytes rest count a b c n n' p q z = front-kept bytes rest a b c n n' p (subst (λ (k : ℕ). TookBytes b c (take k rest)) z q)

pub front-took : (bytes rest : List ℕ) (a b : Writing) (n n' : List ℕ) → Front bytes rest a b n n' → Took a b n n'
front-took bytes rest a b n n' p = record { part = p.front; wrote = p.wrote; noted_is = p.noted_is }

pub front-puts : (bytes rest : List ℕ) (a b : Writing) (n n' : List ℕ) (lacking : ℕ) → Front bytes rest a b n n'
    → length rest ≡ lacking → Puts n n' bytes lacking
front-puts bytes rest a b n n' lacking p is = record { part = p.front; rest = rest; whole = p.whole; noted_is = p.noted_is; lacks = is }

-- what is left of a frame of which all but the last bytes were taken
pub puts-rest : (frame bytes : List ℕ) (sent lacking : ℕ) (n n' : List ℕ) → bytes ≡ drop sent frame → Puts n n' bytes lacking
    → n' ++ drop (length frame - lacking) frame ≡ n ++ drop sent frame
puts-rest frame bytes sent lacking n n' is p =
    let front : List ℕ = take sent frame ++ p.part in
    let whole : frame ≡ front ++ p.rest =
    sym (take-append-drop sent frame) ∙ ap (λ (t : List ℕ). take sent frame ++ t) (sym is ∙ p.whole)
    ∙ sym (append_assoc (take sent frame) p.part p.rest) in
    let count : length frame - lacking ≡ length front = omega (arith, ap length whole, length-append front p.rest, p.lacks) in
    let left : drop (length frame - lacking) frame ≡ p.rest =
    ap (λ (k : ℕ). drop k frame) count ∙ ap (λ (t : List ℕ). drop (length front) t) whole ∙ drop-append_seam front p.rest in
    ap (λ (t : List ℕ). n' ++ t) left ∙ ap (λ (t : List ℕ). t ++ p.rest) p.noted_is ∙ append_assoc n p.part p.rest
    ∙ ap (λ (t : List ℕ). n ++ t) (sym p.whole ∙ is)

-- ---- what was noted of several calls

pub gave-none : (a : Reading) (n : List ℕ) → Gave a a n n
gave-none a n = record { more = []; given = gave-nothing a; noted_is = sym (append-nil n) }

pub gave-then : (a b c : Reading) (n n' n'' : List ℕ) → Gave a b n n' → Gave b c n' n'' → Gave a c n n''
gave-then a b c n n' n'' p q = record {
  more = p.more ++ q.more;
  given = gave-more a b c p.more q.more p.given q.given;
  noted_is = q.noted_is ∙ ap (λ (t : List ℕ). t ++ q.more) p.noted_is ∙ append_assoc n p.more q.more;
}

pub took-none : (a : Writing) (n n' : List ℕ) → n' ≡ n → Took a a n n'
took-none a n n' is = record { part = []; wrote = took-nothing a; noted_is = is ∙ sym (append-nil n) }

pub took-then : (a b c : Writing) (n n' n'' : List ℕ) → Took a b n n' → Took b c n' n'' → Took a c n n''
took-then a b c n n' n'' p q = record {
  part = p.part ++ q.part;
  wrote = took-more a b c p.part q.part p.wrote q.wrote;
  noted_is = q.noted_is ∙ ap (λ (t : List ℕ). t ++ q.part) p.noted_is ∙ append_assoc n p.part q.part;
}

-- and then the writer changed no bytes
pub took-kept : (a b c : Writing) (n n' : List ℕ) → Took a b n n' → TookBytes b c [] → Took a c n n'
took-kept a b c n n' p k = record { part = p.part; wrote = took-still a b c p.part p.wrote k; noted_is = p.noted_is }

pub all-append : {X : Type 0} (P : X → Type 0) (xs ys : List X) → AllByRecursion P xs → AllByRecursion P ys → AllByRecursion P (xs ++ ys)
all-append P [] ys p q = q
all-append P (x ∷ xs) ys p q = (p.0, all-append P xs ys p.1 q)
