-- What the fields of a request decode to is encoded so, and what is encoded is decoded.
use Rattle.std.proofs.Common.{◌≡◌, ℕ, List, Option, Some, refl, sym, ap, subst, ◌∙◌}
use Rattle.ck_types.specs.Numbers.{first_with}
use Rattle.ck_types.specs.Format.{whole}
use Rattle.ck_types.specs.Canonical.{IsBytes, bind_some, some_is, whole_sound, whole_complete}
use Rattle.ck_types.specs.Numbered.{first_with-inverse, first_with-number}
use Rattle.ck_types.specs.Numbers.{IsInverse}
use Rattle.ck_calls.specs.declared.function.Function.{Function}
use Rattle.ck_calls.specs.declared.function.Function.TheVariants as functions
use Rattle.ck_calls.specs.declared.call.Call.{Call}
use Rattle.ck_calls.specs.declared.call.Call.TheVariants as calls
use Rattle.ck_calls.specs.Functions.{function_number, function_of, functions_all, function_at}
use Rattle.ck_calls.specs.Rows.{Row, row, Fields, encode_row, Fits-row, make_row, decode_row, row_of, Request, request, request_of, encode_request, Fits-request, make_request, encode_fields, Fits-fields, decode_fields}

-- The call that a row makes of some fields is of its function, and has those fields.
pub record Makes (f : Function) (x : Fields (row_of f)) : Type 0 where
  pub is : function_of (make_row (row_of f) x) ≡ f
  pub has : request_of (make_row (row_of f) x) ≡ request f x

row_makes : (f : Function) (x : Fields (row_of f)) → Makes f x
row_makes functions.GetTokenInfo x = record { is = refl; has = refl }
row_makes _ x = record { is = refl; has = refl }

row_sound : (r : Row) (bytes : List ℕ) (call : Call) → IsBytes bytes → decode_row r bytes ≡ Some call
    → (x : Fields r) × (make_row r x ≡ call) × (bytes ≡ encode_row r x) × Fits-row r x
row_sound (row n s c make) bytes call fits e =
    let a = bind_some (whole c.format bytes) (λ x. Some (make x)) call e in
    let t = whole_sound c.format c.canonical bytes a.0 fits a.1 in
    (a.0, some_is (make a.0) call a.2, t.0, t.1)

row_complete : (r : Row) (x : Fields r) → Fits-row r x → decode_row r (encode_row r x) ≡ Some (make_row r x)
row_complete (row n s c make) x fits = rw (whole_complete c.format c.canonical x fits) refl

pub fields_sound : (f : Function) (bytes : List ℕ) (call : Call) → IsBytes bytes → decode_fields f bytes ≡ Some call
    → (bytes ≡ encode_fields call) × Fits-fields call × (function_of call ≡ f)
fields_sound f bytes call fits e =
    let t = row_sound (row_of f) bytes call fits e in
    let makes = row_makes f t.0 in
    let has : request_of call ≡ request f t.0 = subst (λ (y : Call). request_of y ≡ request f t.0) t.1 makes.has in
    (t.2 ∙ sym (ap encode_request has), subst Fits-request (sym has) t.3, subst (λ (y : Call). function_of y ≡ f) t.1 makes.is)

abbrev decode_request : Request → Option Call
decode_request (request f x) = decode_row (row_of f) (encode_row (row_of f) x)

request_complete : (r : Request) → Fits-request r → decode_request r ≡ Some (make_request r)
request_complete (request f x) fits = row_complete (row_of f) x fits

-- A call is the one that its fields make.
made_again : (call : Call) → make_request (request_of call) ≡ call
made_again (calls.GetTokenInfo slot) = refl
made_again _ = refl

decoded_again : (call : Call) → decode_request (request_of call) ≡ decode_fields (function_of call) (encode_fields call)
decoded_again (calls.GetTokenInfo slot) = refl
decoded_again _ = refl

pub fields_complete : (call : Call) → Fits-fields call → decode_fields (function_of call) (encode_fields call) ≡ Some call
fields_complete call fits = sym (decoded_again call) ∙ request_complete (request_of call) fits ∙ ap Some (made_again call)

-- ---- functions by their numbers

all_functions : (f : Function) → first_with function_number functions_all (function_number f) ≡ Some f
all_functions functions.GetTokenInfo = refl
all_functions _ = refl

pub function_at-inverse : (n : ℕ) (r : Option Function) → IsInverse function_number n r → function_at n ≡ r
unfolding function_at
function_at-inverse = first_with-inverse function_number functions_all all_functions

pub function_at-number : (n : ℕ) (f : Function) → function_at n ≡ Some f → function_number f ≡ n
unfolding function_at
function_at-number n f e = first_with-number function_number functions_all n f e

pub function_at-again : (f : Function) → function_at (function_number f) ≡ Some f
unfolding function_at
function_at-again = all_functions
