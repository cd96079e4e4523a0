-- C_EncryptInit, C_DecryptInit, C_SignInit and C_VerifyInit: the answer, by the tests in two parts.
use Rattle.std.proofs.Common.{◌≡◌, ℕ, Bool, true, false, List, Option, Some, None, Result, Ok, Err, refl, not, ap, ◌∙◌, sym, subst}
use Rattle.std.specs.Prelude.{is_none, length, ◌==◌, if◌then◌else◌, option_map}
use Rattle.ck_types.specs.declared.entry.Entry.{Entry}
use Rattle.ck_types.specs.declared.attr_type.AttrType.TheVariants as attr
use Rattle.ck_types.specs.declared.mech_type.MechType.{MechType}
use Rattle.ck_types.specs.declared.mech_type.MechType.TheVariants as mechanism
use Rattle.ck_types.specs.declared.rv.Rv.TheVariants as rv
use Rattle.ck_calls.specs.declared.fields.Mechanism.{Mechanism}
use Rattle.ck_calls.specs.declared.reply.Reply.TheVariants.{Code}
use Rattle.ck_mechanisms.specs.Table.{mechanism_for, mech_key_type as key_type_for}
use Rattle.aes_modes.specs.declared.direction.Direction.{Direction}
use Rattle.aes_modes.specs.declared.direction.Direction.TheVariants.{Encrypt, Decrypt}
use Rattle.streams.specs.declared.mechanism.Mechanism.{Mechanism as CipherMechanism}
use Rattle.macs.specs.declared.mechanism.Mechanism.{Mechanism as MacMechanism}
use Rattle.macs.specs.declared.mechanism.Mechanism.TheVariants.{Sha224Hmac, Sha256Hmac, Sha384Hmac, Sha512Hmac}
use Rattle.attrs.specs.Masking.{is_secret_key}
use Rattle.attrs.specs.Objects.{attribute_of, flag, class_of, key_type_of}
use Rattle.precede.specs.declared.condition.Condition.{Condition}
use Rattle.precede.specs.declared.condition.Condition.TheVariants.{OperationActive, NoKey, WrongKeyType, KeyNotPermitted}
use Rattle.keep.specs.Contents.{Contents}
use Rattle.desk.specs.Desks.{DeskState}
use Rattle.sessions.specs.declared.Session.{Session}
use Rattle.ops.specs.declared.place.Kind.{Kind}
use Rattle.ops.specs.declared.place.Kind.TheVariants.{Cipher, Mac}
use Rattle.ops.specs.declared.place.MacPlace.{MacPlace}
use Rattle.ops.specs.declared.place.MacPlace.TheVariants.{Sign, Verify}
use Rattle.ops.specs.Operations.{Operations, mac_started, started}
use Rattle.model_views.specs.Views.{View}
use Rattle.model_views.specs.Changes.{Stays}
use Rattle.model_views.specs.Answering.{Replies, Answer, refuses_by, session_of, object_at}
use Rattle.model_views.specs.Checked.{is_of_type}
use Rattle.model_views.specs.Refusals.{resource_error_in}
use Rattle.model_views.proofs.Refused.{OnRefusal, no-refusal, refusal-if, refusal-row}
use Rattle.model_answers.specs.CipherInit.{place_for, with_parameter}
use Rattle.model_answers.specs.MacInit.{mac_mechanism_with}
use Rattle.model_answers.specs.OperationInit.{is_in_progress, operation_init, permission, purpose_for}
use Rattle.serve_base.specs.Shown.{view_of, Fits, GivesAnswer}
use Rattle.serve_operations.specs.declared.chosen.Chosen.{Chosen}
use Rattle.serve_operations.specs.declared.chosen.Chosen.TheVariants as chosen
use Rattle.serve_operations.specs.Beginning.{Choice, HasKeyType, begins_as, by_key, choice_by, choice_for, choice_of, chosen_with, kind_of, table_begun, uses_aes}
use Rattle.serve_operations.proofs.Ciphering as ciphering
use Rattle.serve_operations.proofs.Signing as signing

-- ---- the type of the key

-- a MAC's mechanism is what was chosen
is-chosen : (p : MacPlace) (m : MacMechanism) (b : Bool) (c : Chosen)
    → option_map (λ m. chosen.Mac p m) (if b then Some m else None) ≡ Some c → chosen.Mac p m ≡ c
is-chosen p m true c is = let k : Some (chosen.Mac p m) ≡ Some c = is in cc
is-chosen p m false c is = let k : None ≡ Some c = is in cc

no-aes : (p : MacPlace) (m : MacMechanism) (c : Chosen) → chosen.Mac p m ≡ c → uses_aes (chosen.Mac p m) ≡ false
    → uses_aes c ≡ true → ⊥
no-aes p m c is other aes = let k : true ≡ false = sym aes ∙ ap uses_aes (sym is) ∙ other in cc

has-type : (kind : Kind) (mech_type : MechType) (parameter : List ℕ) (c : Chosen) → chosen_with kind mech_type parameter ≡ Some c
    → HasKeyType mech_type c
has-type kind mechanism.AesEcb parameter c is aes = refl
has-type kind mechanism.AesCbc parameter c is aes = refl
has-type kind mechanism.AesCbcPad parameter c is aes = refl
has-type kind mechanism.AesCtr parameter c is aes = refl
has-type kind mechanism.AesCmac parameter c is aes = refl
has-type kind mechanism.AesKeyWrap parameter c is aes = refl
has-type kind mechanism.AesKeyGen parameter c is aes = refl
has-type (Mac p) mechanism.Sha224Hmac parameter c is aes =
    absurd (no-aes p Sha224Hmac c (is-chosen p Sha224Hmac (length parameter == 0) c is) refl aes)
has-type (Mac p) mechanism.Sha256Hmac parameter c is aes =
    absurd (no-aes p Sha256Hmac c (is-chosen p Sha256Hmac (length parameter == 0) c is) refl aes)
has-type (Mac p) mechanism.Sha384Hmac parameter c is aes =
    absurd (no-aes p Sha384Hmac c (is-chosen p Sha384Hmac (length parameter == 0) c is) refl aes)
has-type (Mac p) mechanism.Sha512Hmac parameter c is aes =
    absurd (no-aes p Sha512Hmac c (is-chosen p Sha512Hmac (length parameter == 0) c is) refl aes)
has-type (Cipher d) mechanism.Sha224Hmac parameter c is aes = let k : None ≡ Some c = is in cc
has-type (Cipher d) mechanism.Sha256Hmac parameter c is aes = let k : None ≡ Some c = is in cc
has-type (Cipher d) mechanism.Sha384Hmac parameter c is aes = let k : None ≡ Some c = is in cc
has-type (Cipher d) mechanism.Sha512Hmac parameter c is aes = let k : None ≡ Some c = is in cc
has-type (Cipher d) mechanism.GenericSecretKeyGen parameter c is aes = let k : None ≡ Some c = is in cc
has-type (Mac p) mechanism.GenericSecretKeyGen parameter c is aes = let k : None ≡ Some c = is in cc

abbrev IsChosen : Result Choice Condition → Type 0
IsChosen (Err row) = Unit {0}
IsChosen (Ok choice) = HasKeyType choice.0 choice.1

choice-by : (kind : Kind) (mech_type : MechType) (parameter : List ℕ) (c : Option Chosen)
    → chosen_with kind mech_type parameter ≡ c → IsChosen (choice_by mech_type c)
choice-by kind mech_type parameter None is = tt
choice-by kind mech_type parameter (Some c) is = has-type kind mech_type parameter c is

choice-of : (kind : Kind) (mech_type : Option MechType) (parameter : List ℕ) → IsChosen (choice_of kind mech_type parameter)
choice-of kind None parameter = tt
choice-of kind (Some mech_type) parameter = choice-by kind mech_type parameter (chosen_with kind mech_type parameter) refl

choice-if : (busy : Bool) (kind : Kind) (m : Mechanism)
    → IsChosen (if busy then Err OperationActive else choice_of kind (mechanism_for (purpose_for kind) m.mech_type) m.parameter)
choice-if true kind m = tt
choice-if false kind m = choice-of kind (mechanism_for (purpose_for kind) m.mech_type) m.parameter

pub choice-is : (kind : Kind) (s : Option (Session Operations)) (m : Mechanism) (mech_type : MechType) (c : Chosen)
    → choice_for kind s m ≡ Ok (mech_type, c) → HasKeyType mech_type c
choice-is kind s m mech_type c is = subst IsChosen is (choice-if (is_in_progress kind s) kind m)

-- ---- the answer

abbrev pub begins_by : View → ℕ → Result Choice Condition → Option (List Entry) → Answer
begins_by v session (Err row) o = refuses_by v row
begins_by v session (Ok choice) None = refuses_by v NoKey
begins_by v session (Ok choice) (Some o) = by_key choice.0 choice.1 v session o

module _ (v : View) (session : ℕ) (key : ℕ) (there : is_none (session_of v session) ≡ false) where
  module _ (m : Mechanism) where
    cipher-object : (d : Direction) (mech_type : MechType) (cipher : CipherMechanism) (o : Option (List Entry))
        → is_in_progress (Cipher d) (session_of v session) ≡ false → mechanism_for (purpose_for (Cipher d)) m.mech_type ≡ Some mech_type
        → with_parameter mech_type m.parameter ≡ Some cipher → object_at v key ≡ o
        → operation_init (Cipher d) v session (Some m) key ≡ begins_by v session (Ok (mech_type, chosen.Cipher d cipher)) o
    cipher-object Encrypt mech_type cipher None idle built fits found = rw (there, idle, built, fits, found) refl
    cipher-object Decrypt mech_type cipher None idle built fits found = rw (there, idle, built, fits, found) refl
    cipher-object Encrypt mech_type cipher (Some o) idle built fits found = rw (there, idle, built, fits, found) refl
    cipher-object Decrypt mech_type cipher (Some o) idle built fits found = rw (there, idle, built, fits, found) refl

    mac-object : (p : MacPlace) (mech_type : MechType) (mac : MacMechanism) (o : Option (List Entry))
        → is_in_progress (Mac p) (session_of v session) ≡ false → mechanism_for (purpose_for (Mac p)) m.mech_type ≡ Some mech_type
        → mac_mechanism_with mech_type m.parameter ≡ Some mac → object_at v key ≡ o
        → operation_init (Mac p) v session (Some m) key ≡ begins_by v session (Ok (mech_type, chosen.Mac p mac)) o
    mac-object Sign mech_type mac None idle built fits found = rw (there, idle, built, fits, found) refl
    mac-object Verify mech_type mac None idle built fits found = rw (there, idle, built, fits, found) refl
    mac-object Sign mech_type mac (Some o) idle built fits found = rw (there, idle, built, fits, found) refl
    mac-object Verify mech_type mac (Some o) idle built fits found = rw (there, idle, built, fits, found) refl

    at-cipher : (d : Direction) (mech_type : MechType) (cipher : Option CipherMechanism)
        → is_in_progress (Cipher d) (session_of v session) ≡ false → mechanism_for (purpose_for (Cipher d)) m.mech_type ≡ Some mech_type
        → with_parameter mech_type m.parameter ≡ cipher
        → operation_init (Cipher d) v session (Some m) key
        ≡ begins_by v session (choice_by mech_type (option_map (λ x. chosen.Cipher d x) cipher)) (object_at v key)
    at-cipher Encrypt mech_type None idle built fits = rw (there, idle, built, fits) refl
    at-cipher Decrypt mech_type None idle built fits = rw (there, idle, built, fits) refl
    at-cipher d mech_type (Some cipher) idle built fits = cipher-object d mech_type cipher (object_at v key) idle built fits refl

    at-mac : (p : MacPlace) (mech_type : MechType) (mac : Option MacMechanism)
        → is_in_progress (Mac p) (session_of v session) ≡ false → mechanism_for (purpose_for (Mac p)) m.mech_type ≡ Some mech_type
        → mac_mechanism_with mech_type m.parameter ≡ mac
        → operation_init (Mac p) v session (Some m) key
        ≡ begins_by v session (choice_by mech_type (option_map (λ x. chosen.Mac p x) mac)) (object_at v key)
    at-mac Sign mech_type None idle built fits = rw (there, idle, built, fits) refl
    at-mac Verify mech_type None idle built fits = rw (there, idle, built, fits) refl
    at-mac p mech_type (Some mac) idle built fits = mac-object p mech_type mac (object_at v key) idle built fits refl

    at-type : (kind : Kind) (mech_type : Option MechType) → is_in_progress kind (session_of v session) ≡ false
        → mechanism_for (purpose_for kind) m.mech_type ≡ mech_type
        → operation_init kind v session (Some m) key ≡ begins_by v session (choice_of kind mech_type m.parameter) (object_at v key)
    at-type (Cipher Encrypt) None idle built = rw (there, idle, built) refl
    at-type (Cipher Decrypt) None idle built = rw (there, idle, built) refl
    at-type (Mac Sign) None idle built = rw (there, idle, built) refl
    at-type (Mac Verify) None idle built = rw (there, idle, built) refl
    at-type (Cipher d) (Some mech_type) idle built = at-cipher d mech_type (with_parameter mech_type m.parameter) idle built refl
    at-type (Mac p) (Some mech_type) idle built = at-mac p mech_type (mac_mechanism_with mech_type m.parameter) idle built refl

    at-progress : (kind : Kind) (busy : Bool) → is_in_progress kind (session_of v session) ≡ busy
        → operation_init kind v session (Some m) key
        ≡ begins_by v session (if busy then Err OperationActive else choice_of kind (mechanism_for (purpose_for kind) m.mech_type) m.parameter)
        (object_at v key)
    at-progress (Cipher Encrypt) true busy = rw (there, busy) refl
    at-progress (Cipher Decrypt) true busy = rw (there, busy) refl
    at-progress (Mac Sign) true busy = rw (there, busy) refl
    at-progress (Mac Verify) true busy = rw (there, busy) refl
    at-progress kind false idle = at-type kind (mechanism_for (purpose_for kind) m.mech_type) idle refl

    pub init-is : (kind : Kind) (choice : Result Choice Condition) → choice_for kind (session_of v session) m ≡ choice
        → operation_init kind v session (Some m) key ≡ begins_by v session choice (object_at v key)
    init-is kind choice is = at-progress kind (is_in_progress kind (session_of v session)) refl
        ∙ ap (λ r. begins_by v session r (object_at v key)) is

-- ---- what it reveals of a key changes nothing that others see, and is no resource error

abbrev pub IsQuiet : Answer → Type 0
IsQuiet a = (a.change ≡ Stays) × (resource_error_in a.says ≡ None)

quiet-if : (b : Bool) (x y : Answer) → IsQuiet x → IsQuiet y → IsQuiet (if b then x else y)
quiet-if true x y first other = first
quiet-if false x y first other = other

quiet-begins : (c : Chosen) (v : View) (session : ℕ) (o : List Entry) → IsQuiet (begins_as c v session o)
quiet-begins (chosen.Cipher d m) v session o = (refl, refl)
quiet-begins (chosen.Mac p m) v session o = (refl, refl)

pub quiet-key : (mech_type : MechType) (c : Chosen) (session : ℕ) (o : List Entry) (v : View) → IsQuiet (by_key mech_type c v session o)
quiet-key mech_type c session o v =
    quiet-if (not (is_secret_key (class_of o))) _ _ (refl, refl)
    (quiet-if (not (is_of_type (key_type_for mech_type) (key_type_of o))) _ _ (refl, refl)
    (quiet-if (not (flag o (permission (kind_of c)))) _ _ (refl, refl) (quiet-begins c v session o)))

-- a key that is refused leaves the view
begins-alone : (c : Chosen) (v : View) (session : ℕ) (o : List Entry)
    → OnRefusal (λ (a : Answer). a.view ≡ v) (begins_as c v session o)
begins-alone (chosen.Cipher d m) v session o = no-refusal {a = begins_as (chosen.Cipher d m) v session o} refl
begins-alone (chosen.Mac p m) v session o = no-refusal {a = begins_as (chosen.Mac p m) v session o} refl

pub alone-key : (mech_type : MechType) (c : Chosen) (session : ℕ) (o : List Entry) (v : View)
    → OnRefusal (λ (a : Answer). a.view ≡ v) (by_key mech_type c v session o)
alone-key mech_type c session o v =
    refusal-if (not (is_secret_key (class_of o))) (refusal-row v NoKey refl) (
    refusal-if (not (is_of_type (key_type_for mech_type) (key_type_of o))) (refusal-row v WrongKeyType refl) (
    refusal-if (not (flag o (permission (kind_of c)))) (refusal-row v KeyNotPermitted refl) (begins-alone c v session o)))

-- ---- at the desk

pub begins-at : (c : Contents) (d : DeskState) (session : ℕ) (mech_type : MechType) (x : Chosen) (o : List Entry)
    → is_secret_key (class_of o) ≡ true → is_of_type (key_type_for mech_type) (key_type_of o) ≡ true
    → flag o (permission (kind_of x)) ≡ true → Fits c d.handles.entries
    → GivesAnswer (by_key mech_type x (view_of c d) session o) d.sessions.login c (Replies (Code rv.Ok)) c
    (record d { sessions = table_begun d.sessions session x (attribute_of o attr.Value) })
begins-at c d session mech_type (chosen.Cipher direction m) o secret of may fits = rw (secret, of, may)
    (ciphering.gives-with c d session (place_for direction) (Some (started m direction (attribute_of o attr.Value))) (Code rv.Ok) fits)
begins-at c d session mech_type (chosen.Mac place m) o secret of may fits = rw (secret, of, may)
    (signing.gives-with c d session place (Some (mac_started m (attribute_of o attr.Value))) (Code rv.Ok) fits)
