-- The functions of PKCS #11 v3.1 (5) that a request may name, a row each: its number, which is this project's, what its
-- replies carry, its fields in their order, and the call that they make.
use Rattle.std.specs.Prelude.{ℕ, List, Option, Some}
use Rattle.ck_types.specs.declared.entry.Entry.{Entry}
use Rattle.ck_types.specs.Format.{Format, ◌>>=◌, number64, byte_string, pair, whole}
use Rattle.ck_types.specs.Canonical.{IsCanonical, number64_canonical, byte_string_canonical, pair_canonical}
use Rattle.ck_calls.specs.declared.fields.AttributeQuery.{AttributeQuery}
use Rattle.ck_calls.specs.declared.fields.Mechanism.{Mechanism}
use Rattle.ck_calls.specs.declared.function.Function.{Function}
use Rattle.ck_calls.specs.declared.function.Function.TheVariants as functions
use Rattle.ck_calls.specs.declared.shape.Shape.{Shape}
use Rattle.ck_calls.specs.declared.shape.Shape.TheVariants as shapes
use Rattle.ck_calls.specs.declared.call.Call.{Call}
use Rattle.ck_calls.specs.declared.call.Call.TheVariants as calls
use Rattle.ck_calls.specs.Fields.{mechanism, optional_mechanism, template, query, buffer_len, mechanism_canonical, optional_mechanism_canonical, template_canonical, query_canonical, buffer_len_canonical}

-- a format, and that it has one encoding for each value
pub record Coded (A : Type 0) : Type 1 where
  pub format : Format A
  pub canonical : IsCanonical format

abbrev pub coded : {A : Type 0} (c : Format A) → IsCanonical c → Coded A
coded c p = record { format = c; canonical = p }

abbrev pub then : {A B : Type 0} → Coded A → Coded B → Coded (A × B)
then a b = coded (pair a.format b.format) (pair_canonical a.format b.format a.canonical b.canonical)

-- the parts of a request

abbrev pub number : Coded ℕ
number = coded number64 number64_canonical

abbrev pub text : Coded (List ℕ)
text = coded byte_string byte_string_canonical

abbrev pub entries : Coded (List Entry)
entries = coded template template_canonical

abbrev pub queries : Coded (List AttributeQuery)
queries = coded query query_canonical

abbrev pub mechanism_and_parameter : Coded Mechanism
mechanism_and_parameter = coded mechanism mechanism_canonical

abbrev pub maybe_mechanism : Coded (Option Mechanism)
maybe_mechanism = coded optional_mechanism optional_mechanism_canonical

abbrev pub room : Coded (Option ℕ)
room = coded buffer_len buffer_len_canonical

pub data Row : Type 1 where
  row : ℕ → Shape → {A : Type 0} → Coded A → (A → Call) → Row

abbrev pub Fields : Row → Type 0
Fields (row n s {A} c make) = A

abbrev pub encode_row : (r : Row) → Fields r → List ℕ
encode_row (row n s c make) x = c.format.encode x

abbrev pub Fits-row : (r : Row) → Fields r → Type 0
Fits-row (row n s c make) x = c.format.Fits x

abbrev pub make_row : (r : Row) → Fields r → Call
make_row (row n s c make) x = make x

-- the call whose fields are all of the bytes
abbrev pub decode_row : Row → List ℕ → Option Call
decode_row (row n s c make) bytes = whole c.format bytes >>= λ x. Some (make x)

abbrev pub number_of_row : Row → ℕ
number_of_row (row n s c make) = n

abbrev pub shape_of_row : Row → Shape
shape_of_row (row n s c make) = s

abbrev pub one : ℕ → Shape → {A : Type 0} → Coded A → (A → Call) → Row
one n s a make = row n s a make

abbrev pub two : ℕ → Shape → {A B : Type 0} → Coded A → Coded B → (A → B → Call) → Row
two n s a b make = row n s (then a b) (λ x. make x.0 x.1)

abbrev pub three : ℕ → Shape → {A B C : Type 0} → Coded A → Coded B → Coded C → (A → B → C → Call) → Row
three n s a b c make = row n s (then a (then b c)) (λ x. make x.0 x.1.0 x.1.1)

abbrev pub five : ℕ → Shape → {A B C D E : Type 0} → Coded A → Coded B → Coded C → Coded D → Coded E
    → (A → B → C → D → E → Call) → Row
five n s a b c d e make = row n s (then a (then b (then c (then d e)))) (λ x. make x.0 x.1.0 x.1.1.0 x.1.1.1.0 x.1.1.1.1)

abbrev pub row_of : Function → Row
row_of functions.GetTokenInfo = one 1 shapes.TokenInfo number calls.GetTokenInfo
row_of functions.GetMechanismList = one 2 shapes.MechanismList number calls.GetMechanismList
row_of functions.GetMechanismInfo = two 3 shapes.MechanismInfo number number calls.GetMechanismInfo
row_of functions.InitToken = three 4 shapes.Code number text text calls.InitToken
row_of functions.InitPin = two 5 shapes.Code number text calls.InitPin
row_of functions.SetPin = three 6 shapes.Code number text text calls.SetPin
row_of functions.OpenSession = two 7 shapes.Session number number calls.OpenSession
row_of functions.CloseSession = one 8 shapes.Code number calls.CloseSession
row_of functions.CloseAllSessions = one 9 shapes.Code number calls.CloseAllSessions
row_of functions.GetSessionInfo = one 10 shapes.SessionInfo number calls.GetSessionInfo
row_of functions.Login = three 11 shapes.Code number number text calls.Login
row_of functions.Logout = one 12 shapes.Code number calls.Logout
row_of functions.CreateObject = two 13 shapes.Object number entries calls.CreateObject
row_of functions.CopyObject = three 14 shapes.Object number number entries calls.CopyObject
row_of functions.DestroyObject = two 15 shapes.Code number number calls.DestroyObject
row_of functions.GetObjectSize = two 16 shapes.ObjectSize number number calls.GetObjectSize
row_of functions.GetAttributeValue = three 17 shapes.AttributeValues number number queries calls.GetAttributeValue
row_of functions.SetAttributeValue = three 18 shapes.Code number number entries calls.SetAttributeValue
row_of functions.FindObjectsInit = two 19 shapes.Code number entries calls.FindObjectsInit
row_of functions.FindObjects = two 20 shapes.Objects number number calls.FindObjects
row_of functions.FindObjectsFinal = one 21 shapes.Code number calls.FindObjectsFinal
row_of functions.EncryptInit = three 22 shapes.Code number maybe_mechanism number calls.EncryptInit
row_of functions.Encrypt = three 23 shapes.Output number text room calls.Encrypt
row_of functions.EncryptUpdate = three 24 shapes.Output number text room calls.EncryptUpdate
row_of functions.EncryptFinal = two 25 shapes.Output number room calls.EncryptFinal
row_of functions.DecryptInit = three 26 shapes.Code number maybe_mechanism number calls.DecryptInit
row_of functions.Decrypt = three 27 shapes.Output number text room calls.Decrypt
row_of functions.DecryptUpdate = three 28 shapes.Output number text room calls.DecryptUpdate
row_of functions.DecryptFinal = two 29 shapes.Output number room calls.DecryptFinal
row_of functions.SignInit = three 30 shapes.Code number maybe_mechanism number calls.SignInit
row_of functions.Sign = three 31 shapes.Output number text room calls.Sign
row_of functions.SignUpdate = two 32 shapes.Code number text calls.SignUpdate
row_of functions.SignFinal = two 33 shapes.Output number room calls.SignFinal
row_of functions.VerifyInit = three 34 shapes.Code number maybe_mechanism number calls.VerifyInit
row_of functions.Verify = three 35 shapes.Code number text text calls.Verify
row_of functions.VerifyUpdate = two 36 shapes.Code number text calls.VerifyUpdate
row_of functions.VerifyFinal = two 37 shapes.Code number text calls.VerifyFinal
row_of functions.GenerateKey = three 38 shapes.Object number mechanism_and_parameter entries calls.GenerateKey
row_of functions.WrapKey = five 39 shapes.Output number mechanism_and_parameter number number room calls.WrapKey
row_of functions.UnwrapKey = five 40 shapes.Object number mechanism_and_parameter number text entries calls.UnwrapKey
row_of functions.GenerateRandom = two 41 shapes.Random number number calls.GenerateRandom

-- a function, and fields of its row
pub data Request : Type 0 where
  request : (f : Function) → Fields (row_of f) → Request

abbrev pub request_of : Call → Request
request_of (calls.GetTokenInfo slot) = request functions.GetTokenInfo slot
request_of (calls.GetMechanismList slot) = request functions.GetMechanismList slot
request_of (calls.GetMechanismInfo slot mechanism) = request functions.GetMechanismInfo (slot, mechanism)
request_of (calls.InitToken slot pin label) = request functions.InitToken (slot, (pin, label))
request_of (calls.InitPin session pin) = request functions.InitPin (session, pin)
request_of (calls.SetPin session old_pin new_pin) = request functions.SetPin (session, (old_pin, new_pin))
request_of (calls.OpenSession slot flags) = request functions.OpenSession (slot, flags)
request_of (calls.CloseSession session) = request functions.CloseSession session
request_of (calls.CloseAllSessions slot) = request functions.CloseAllSessions slot
request_of (calls.GetSessionInfo session) = request functions.GetSessionInfo session
request_of (calls.Login session user_type pin) = request functions.Login (session, (user_type, pin))
request_of (calls.Logout session) = request functions.Logout session
request_of (calls.CreateObject session template) = request functions.CreateObject (session, template)
request_of (calls.CopyObject session object template) = request functions.CopyObject (session, (object, template))
request_of (calls.DestroyObject session object) = request functions.DestroyObject (session, object)
request_of (calls.GetObjectSize session object) = request functions.GetObjectSize (session, object)
request_of (calls.GetAttributeValue session object query) = request functions.GetAttributeValue (session, (object, query))
request_of (calls.SetAttributeValue session object template) = request functions.SetAttributeValue (session, (object, template))
request_of (calls.FindObjectsInit session template) = request functions.FindObjectsInit (session, template)
request_of (calls.FindObjects session max_count) = request functions.FindObjects (session, max_count)
request_of (calls.FindObjectsFinal session) = request functions.FindObjectsFinal session
request_of (calls.EncryptInit session mechanism key) = request functions.EncryptInit (session, (mechanism, key))
request_of (calls.Encrypt session «data» buffer_len) = request functions.Encrypt (session, («data», buffer_len))
request_of (calls.EncryptUpdate session part buffer_len) = request functions.EncryptUpdate (session, (part, buffer_len))
request_of (calls.EncryptFinal session buffer_len) = request functions.EncryptFinal (session, buffer_len)
request_of (calls.DecryptInit session mechanism key) = request functions.DecryptInit (session, (mechanism, key))
request_of (calls.Decrypt session encrypted_data buffer_len) = request functions.Decrypt (session, (encrypted_data, buffer_len))
request_of (calls.DecryptUpdate session encrypted_part buffer_len) = request functions.DecryptUpdate (session, (encrypted_part, buffer_len))
request_of (calls.DecryptFinal session buffer_len) = request functions.DecryptFinal (session, buffer_len)
request_of (calls.SignInit session mechanism key) = request functions.SignInit (session, (mechanism, key))
request_of (calls.Sign session «data» buffer_len) = request functions.Sign (session, («data», buffer_len))
request_of (calls.SignUpdate session part) = request functions.SignUpdate (session, part)
request_of (calls.SignFinal session buffer_len) = request functions.SignFinal (session, buffer_len)
request_of (calls.VerifyInit session mechanism key) = request functions.VerifyInit (session, (mechanism, key))
request_of (calls.Verify session «data» signature) = request functions.Verify (session, («data», signature))
request_of (calls.VerifyUpdate session part) = request functions.VerifyUpdate (session, part)
request_of (calls.VerifyFinal session signature) = request functions.VerifyFinal (session, signature)
request_of (calls.GenerateKey session mechanism template) = request functions.GenerateKey (session, (mechanism, template))
request_of (calls.WrapKey session mechanism wrapping_key key buffer_len) =
    request functions.WrapKey (session, (mechanism, (wrapping_key, (key, buffer_len))))
request_of (calls.UnwrapKey session mechanism unwrapping_key wrapped_key template) =
    request functions.UnwrapKey (session, (mechanism, (unwrapping_key, (wrapped_key, template))))
request_of (calls.GenerateRandom session len) = request functions.GenerateRandom (session, len)

-- the number of a function
abbrev pub function_number : Function → ℕ
function_number f = number_of_row (row_of f)

-- what the replies to a function carry
abbrev pub shape_of : Function → Shape
shape_of f = shape_of_row (row_of f)

abbrev pub function_of_request : Request → Function
function_of_request (request f x) = f

-- the function that a call is of
abbrev pub function_of : Call → Function
function_of call = function_of_request (request_of call)

abbrev pub encode_request : Request → List ℕ
encode_request (request f x) = encode_row (row_of f) x

abbrev pub Fits-request : Request → Type 0
Fits-request (request f x) = Fits-row (row_of f) x

abbrev pub make_request : Request → Call
make_request (request f x) = make_row (row_of f) x

-- the fields of a call, encoded
abbrev pub encode_fields : Call → List ℕ
encode_fields call = encode_request (request_of call)

-- whether each field of a call has an encoding
abbrev pub Fits-fields : Call → Type 0
Fits-fields call = Fits-request (request_of call)

-- the call of a function with the fields that are all of the bytes
abbrev pub decode_fields : Function → List ℕ → Option Call
decode_fields f bytes = decode_row (row_of f) bytes
