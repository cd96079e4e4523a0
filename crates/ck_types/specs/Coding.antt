-- What a decoder and an encoder of a format return.
use Rattle.std.specs.Prelude.{◌≡◌, ℕ, List, ◌++◌, Option, Some, None, Result, Ok, Err}
use Rattle.std.specs.List.{flat_map, AllByRecursion}
use Rattle.ck_types.specs.declared.fault.CodecFault.{CodecFault}
use Rattle.ck_types.specs.declared.fault.CodecFault.TheVariants as faults
use Rattle.ck_types.specs.Format.{Format}

-- What a decoder returns, seen by view, is what the format decodes, unless memory runs out.
abbrev pub Decodes : {X Y : Type 0} → (X → Y) → Result X CodecFault → Option Y → Type 0
Decodes view (Ok x) decoded = decoded ≡ Some (view x)
Decodes view (Err faults.Malformed) decoded = decoded ≡ None
Decodes view (Err faults.Memory) decoded = Unit {0}

-- An encoder adds the encoding where the value fits, unless memory runs out.
abbrev pub Appends : {U : Type 0} → List ℕ → Type 0 → List ℕ → List ℕ → Result U CodecFault → Type 0
Appends encoding fits old new (Ok done) = (new ≡ old ++ encoding) × fits
Appends encoding fits old new (Err faults.Malformed) = fits → ⊥
Appends encoding fits old new (Err faults.Memory) = Unit {0}

abbrev pub Encodes : {A U : Type 0} → Format A → A → List ℕ → List ℕ → Result U CodecFault → Type 0
Encodes c x old new r = Appends (c.encode x) (c.Fits x) old new r

abbrev pub EncodesAll : {A U : Type 0} → Format A → List A → List ℕ → List ℕ → Result U CodecFault → Type 0
EncodesAll c xs old new r = Appends (flat_map c.encode xs) (AllByRecursion c.Fits xs) old new r
