-- Whether two words of four bytes are the same, as a test that computes.
use Rattle.std.proofs.Common.{◌≡◌, ℕ, ◌==◌, ◌&&◌, Bool, true, List, [], ◌∷◌, get_or, eqb-true}
use Rattle.std.proofs.lemmas.Bool.{and_parts}

unfoldable pub same_word : List ℕ → List ℕ → Bool
same_word s t =
    (get_or s 0 0 == get_or t 0 0) && ((get_or s 1 0 == get_or t 1 0)
    && ((get_or s 2 0 == get_or t 2 0) && (get_or s 3 0 == get_or t 3 0)))

pub same_word-tells : (a b c d e f g h : ℕ) → same_word (a ∷ b ∷ c ∷ d ∷ []) (e ∷ f ∷ g ∷ h ∷ []) ≡ true
    → a ∷ b ∷ c ∷ d ∷ [] ≡ e ∷ f ∷ g ∷ h ∷ []
unfolding same_word
same_word-tells a b c d e f g h same =
    let one = and_parts (a == e) ((b == f) && ((c == g) && (d == h))) same in
    let two = and_parts (b == f) ((c == g) && (d == h)) one.1 in
    let three = and_parts (c == g) (d == h) two.1 in
    let at0 : a ≡ e = eqb-true a e one.0 in
    let at1 : b ≡ f = eqb-true b f two.0 in
    let at2 : c ≡ g = eqb-true c g three.0 in
    let at3 : d ≡ h = eqb-true d h three.1 in
    λ i. at0 i ∷ at1 i ∷ at2 i ∷ at3 i ∷ []
