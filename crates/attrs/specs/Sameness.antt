-- Whether two objects have the same attributes in the same order.
use Rattle.std.specs.Prelude.{◌≡◌, ◌==◌, ◌&&◌, Bool, List}
use Rattle.std.specs.Bool.{Decides}
use Rattle.std.specs.Cmp.Lexicographic.{pointwise}
use Rattle.std.specs.Str.{bytes_eq}
use Rattle.std.proofs.Common.{ap, refl}
use Rattle.std.proofs.lemmas.Bool.Decides.{Decides-eqb, Decides-and, Decides-like}
use Rattle.std.proofs.lemmas.Slice.Eq.{bytes_eq-Decides, slice_eq-Decides}
use Rattle.ck_types.specs.declared.entry.Entry.{Entry}

abbrev pub same_entry : Entry → Entry → Bool
same_entry e f = (e.attr_type == f.attr_type) && bytes_eq e.value f.value

abbrev pub same_object : List Entry → List Entry → Bool
same_object x y = pointwise same_entry x y

-- ---- the same is equal

same_entry-Decides : (e f : Entry) → Decides (same_entry e f) (e ≡ f)
same_entry-Decides e f =
    Decides-like {P = (e.attr_type ≡ f.attr_type) × (e.value ≡ f.value)} {Q = e ≡ f} (same_entry e f)
    (λ p i. record { attr_type = p.0 i; value = p.1 i })
    (λ p. (ap (λ (x : Entry). x.attr_type) p, ap (λ (x : Entry). x.value) p))
    (Decides-and (e.attr_type == f.attr_type) (bytes_eq e.value f.value) (Decides-eqb e.attr_type f.attr_type)
    (bytes_eq-Decides e.value f.value))

pub same_object-Decides : (x y : List Entry) → Decides (same_object x y) (x ≡ y)
same_object-Decides x y = slice_eq-Decides {E = same_entry} same_entry-Decides x y (same_object x y) refl
