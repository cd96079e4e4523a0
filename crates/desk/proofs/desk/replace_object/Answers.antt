use Rattle.std.proofs.Common.{◌≡◌, ℕ, ◌+◌, suc, Bool, List, [], ◌∷◌, Option, Some, None, refl, sym, ◌∙◌, ap, set, get_or, arith, inl, inr}
use Rattle.std.specs.Prelude.{◌==◌}
use Rattle.std.specs.List.{position, position_from}
use Rattle.std.proofs.lemmas.Bool.{cases_Bool}
use Rattle.std.proofs.lemmas.Iterator.Adapters.{position_from-zero}
use Rattle.ck_types.specs.declared.entry.Entry.{Entry}
use Rattle.desk.specs.declared.own_object.OwnObject.{OwnObject}
use Rattle.desk.specs.Desks.{replaced_own}
use Rattle.desk.proofs.desk.replace_object.Goals as goal

module _ (handle : ℕ) (o : List Entry) where
  abbrev test : OwnObject → Bool
  test e = e.handle == handle

  abbrev with_object : OwnObject → OwnObject
  with_object e = record { handle = e.handle; session = e.session; object = o }

  none : (k : ℕ) (es : List OwnObject) → position_from test k es ≡ None → es ≡ replaced_own es handle o
  none k [] is = refl
  none k (e ∷ es) is = elim (cases_Bool (test e)) [
    | inl there ↦ let no : Some k ≡ None = rw there at is in cc
    | inr other ↦ rw other (ap (λ xs. e ∷ xs) (none (k + 1) es (rw other at is)))
  ]

  some : (k : ℕ) (es : List OwnObject) (place : ℕ) (d : OwnObject) → position_from test k es ≡ Some place → (q : ℕ)
      × (place ≡ k + q) × (set es q (with_object (get_or es q d)) ≡ replaced_own es handle o)
  some k [] place d is = let no : None ≡ Some place = is in cc
  some k (e ∷ es) place d is = elim (cases_Bool (test e)) [
    | inl there ↦ let same : Some k ≡ Some place = rw there at is in let n : k ≡ place = cc in (0, omega (arith, n), rw there refl)
    | inr other ↦ let rest = some (k + 1) es place d (rw other at is) in
        (suc rest.0, omega (arith, rest.1), rw other (ap (λ xs. e ∷ xs) rest.2))
  ]

-- the index is counted from 0 on
from_zero : (handle : ℕ) (o : List Entry) (es : List OwnObject) (r : Option ℕ) → position (test handle o) es ≡ r
    → position_from (test handle o) 0 es ≡ r
from_zero handle o es r is = sym (position_from-zero (test handle o) es) ∙ is

pub returns-in-Some-clause-items : goal.returns-in-Some-clause-items
returns-in-Some-clause-items c =
    let own = c.args.own.now.items in
    let e = c.index_mut.result.now in
    let at : position (test c.args.handle c.args.object) own ≡ Some c.in-Some.place =
    rw c.deref.ensures.value at (sym c.index_of_handle.ensures ∙ c.in-Some.is) in
    let put = some c.args.handle c.args.object 0 own c.in-Some.place e
    (from_zero c.args.handle c.args.object own (Some c.in-Some.place) at) in
    let same : c.in-Some.place ≡ put.0 = omega (arith, put.1) in
    ap (λ x. set own c.in-Some.place (with_object c.args.handle c.args.object x)) c.index_mut.ensures.value ∙ rw same put.2

pub returns-in_default-clause-items : goal.returns-in_default-clause-items
returns-in_default-clause-items c =
    let own = c.args.own.now.items in
    let at : position (test c.args.handle c.args.object) own ≡ None =
    rw c.deref.ensures.value at (sym c.index_of_handle.ensures ∙ c.in_default.is) in
    none c.args.handle c.args.object 0 own (from_zero c.args.handle c.args.object own None at)
