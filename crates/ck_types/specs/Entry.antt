-- The format of a template's entries.
use Rattle.std.specs.Prelude.{refl}
use Rattle.ck_types.specs.declared.entry.Entry.{Entry}
use Rattle.ck_types.specs.Format.{Format, number64, byte_string, pair, mapped}
use Rattle.ck_types.specs.Canonical.{IsCanonical, number64_canonical, byte_string_canonical, pair_canonical, mapped_canonical}

-- the type, and the value as a byte string
abbrev pub entry : Format Entry
entry = mapped (pair number64 byte_string) (λ p. record { attr_type = p.0; value = p.1 }) (λ e. (e.attr_type, e.value))

pub entry_canonical : IsCanonical entry
entry_canonical =
    mapped_canonical (pair number64 byte_string) (λ p. record { attr_type = p.0; value = p.1 }) (λ e. (e.attr_type, e.value))
    (λ x. refl) (λ y. refl)
    (pair_canonical number64 byte_string number64_canonical byte_string_canonical)
