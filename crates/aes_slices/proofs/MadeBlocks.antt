-- Blocks that are made of blocks.
use Rattle.std.proofs.Common.{◌≡◌, ℕ, ◌<◌, List, [], ◌∷◌, length, map, get_or, ◌∙◌}
use Rattle.std.proofs.lemmas.List.{length-map}
use Rattle.std.proofs.lemmas.List.Elements.{All-map, All-nil}
use Rattle.fips_197.specs.Bytes.{AreBytes, IsBlock}
use Rattle.fips_197.specs.Field.{product}
use Rattle.fips_197.proofs.Blocks.{AreBytes-at, AreBytes-cons}
use Rattle.fips_197.proofs.FieldLaws.{product-lt}
use Rattle.aes_vector.specs.Rows.{pick}

pub IsBlock-map : (f : ℕ → ℕ) (s : List ℕ) → ((x : ℕ) → x < 256 → f x < 256) → IsBlock s → IsBlock (map f s)
IsBlock-map f s keeps block = record {
  size = length-map s f ∙ block.size;
  bytes = All-map (λ b. b < 256) f s (λ k d lt. keeps _ (block.bytes k d lt));
}

pub IsBlock-doubled : (s : List ℕ) → IsBlock s → IsBlock (map (product 2) s)
IsBlock-doubled s block = IsBlock-map (product 2) s (product-lt 2) block

AreBytes-pick : (ks s : List ℕ) → AreBytes s → AreBytes (pick ks s)
AreBytes-pick [] s bytes = All-nil (λ b. b < 256)
AreBytes-pick (k ∷ ks) s bytes = AreBytes-cons (get_or s k 0) (pick ks s) (AreBytes-at s bytes k) (AreBytes-pick ks s bytes)

pub IsBlock-pick : (ks s : List ℕ) → length ks ≡ 16 → IsBlock s → IsBlock (pick ks s)
IsBlock-pick ks s size block = record {
  size = length-map ks (λ k. get_or s k 0) ∙ size;
  bytes = AreBytes-pick ks s block.bytes;
}
