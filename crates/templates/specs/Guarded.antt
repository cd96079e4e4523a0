-- What no copy and no change takes away (PKCS #11 v3.1, 4.1.2, 4.1.3 and 4.10).
use Rattle.std.specs.Prelude.{◌≡◌, true, false, List}
use Rattle.ck_types.specs.declared.entry.Entry.{Entry}
use Rattle.ck_types.specs.declared.attr_type.AttrType.TheVariants as attr
use Rattle.ck_types.specs.declared.session_state.SessionState.{SessionState}
use Rattle.attrs.specs.Objects.{flag}
use Rattle.attrs.specs.Masking.{is_masked}
use Rattle.templates.specs.Faults.{is_so_state}

-- The value of a sensitive or unextractable key stays masked, and a key that only trusted keys may wrap
-- stays so. Only the SO makes a key trusted.
pub record IsAsGuarded (s : SessionState) (old new : List Entry) : Type 0 where
  pub masked : is_masked old ≡ true → is_masked new ≡ true
  pub wrapped_by_trusted : flag old attr.WrapWithTrusted ≡ true → flag new attr.WrapWithTrusted ≡ true
  pub trusted_by_so : is_so_state s ≡ false → flag new attr.Trusted ≡ true → flag old attr.Trusted ≡ true

-- A change leaves an object a token object or a session object, and private or public.
pub record StaysPlaced (old new : List Entry) : Type 0 where
  pub token : flag new attr.Token ≡ flag old attr.Token
  pub private : flag new attr.Private ≡ flag old attr.Private
