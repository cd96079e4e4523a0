-- What ends gave and took of several calls.
use Rattle.std.proofs.Common.{ℕ, List, [], ◌++◌, Option, Some, None, refl, sym, ap, ◌∙◌, append_assoc}
use Rattle.std.specs.Io.KnownBytes.{Appends, Consumes}
use Rattle.std.proofs.lemmas.List.{append-nil}
use Rattle.door.specs.Ends.{GaveBytes, Reading, TookBytes, Writing}

appends-none : (a : Option (List ℕ)) → Appends a a []
appends-none None = tt
appends-none (Some xs) = sym (append-nil xs)

appends-then : (a b c : Option (List ℕ)) (x y : List ℕ) → Appends a b x → Appends b c y → Appends a c (x ++ y)
appends-then None b c x y p q = tt
appends-then (Some ks) None c x y p q = absurd p
appends-then (Some ks) (Some bs) None x y p q = absurd q
appends-then (Some ks) (Some bs) (Some cs) x y p q = q ∙ ap (λ (t : List ℕ). t ++ y) p ∙ append_assoc ks x y

consumes-none : (a : Option (List ℕ)) → Consumes a a []
consumes-none None = tt
consumes-none (Some xs) = refl

consumes-then : (a b c : Option (List ℕ)) (x y : List ℕ) → Consumes a b x → Consumes b c y → Consumes a c (x ++ y)
consumes-then None b c x y p q = tt
consumes-then (Some ks) None c x y p q = absurd p
consumes-then (Some ks) (Some bs) None x y p q = absurd q
consumes-then (Some ks) (Some bs) (Some cs) x y p q = p ∙ ap (λ (t : List ℕ). x ++ t) q ∙ sym (append_assoc x y cs)

pub gave-nothing : (a : Reading) → GaveBytes a a []
gave-nothing a = record { app = refl; gave = sym (append-nil a.gave); left = consumes-none a.left }

pub gave-more : (a b c : Reading) (x y : List ℕ) → GaveBytes a b x → GaveBytes b c y → GaveBytes a c (x ++ y)
gave-more a b c x y p q = record {
  app = q.app ∙ p.app;
  gave = q.gave ∙ ap (λ (t : List ℕ). t ++ y) p.gave ∙ append_assoc a.gave x y;
  left = consumes-then a.left b.left c.left x y p.left q.left;
}

pub took-nothing : (a : Writing) → TookBytes a a []
took-nothing a = record { app = refl; took = sym (append-nil a.took); holds = appends-none a.holds }

pub took-more : (a b c : Writing) (x y : List ℕ) → TookBytes a b x → TookBytes b c y → TookBytes a c (x ++ y)
took-more a b c x y p q = record {
  app = q.app ∙ p.app;
  took = q.took ∙ ap (λ (t : List ℕ). t ++ y) p.took ∙ append_assoc a.took x y;
  holds = appends-then a.holds b.holds c.holds x y p.holds q.holds;
}
