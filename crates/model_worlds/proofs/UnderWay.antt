-- The checks that are in progress, of an application and of a PIN.
use Rattle.std.proofs.Common.{◌≡◌, ◌≢◌, ℕ, Bool, true, false, cond, not, List, [], ◌∷◌, ◌++◌, map, Option, Some, None, refl, sym, ◌∙◌, ap}
use Rattle.std.specs.Prelude.{filter, ◌==◌, ◌||◌}
use Rattle.std.proofs.lemmas.Bool.{eq-eqb, ne_eqb, eqb-true}
use Rattle.ck_types.specs.declared.user_type.UserType.{UserType}
use Rattle.lists.proofs.ListLemmas.{map-push, filter-map, filter-less, filter-swap}
use Rattle.lists.proofs.IndexLemmas.{append_nil, filter-push}
use Rattle.pin_record.specs.Charges.{is_same_user, is_under_way, without}
use Rattle.pin_record.proofs.Counting.{without-none}
use Rattle.model_worlds.specs.declared.check.Check.{Check}
use Rattle.model_worlds.specs.Worlds.{checking, checks_of, without_checks}
use Rattle.model_worlds.specs.Tries.{checks_by}

-- ---- a check begins

pub by-own : (app : ℕ) (cs : List Check) (o : Option UserType) → checks_by app (cs ++ checks_of app o) ≡ checks_by app cs ++ checks_of app o
by-own app cs None = ap (checks_by app) (append_nil cs) ∙ sym (append_nil (checks_by app cs))
by-own app cs (Some who) =
    let c : Check = record { user = who; app = app } in
    filter-push (λ (x : Check). x.app == app) cs c ∙ ap (λ b. checks_by app cs ++ cond b (c ∷ []) []) (eq-eqb app app refl)

pub by-other : (app b : ℕ) (cs : List Check) (o : Option UserType) → b ≢ app → checks_by b (cs ++ checks_of app o) ≡ checks_by b cs
by-other app b cs None differ = ap (checks_by b) (append_nil cs)
by-other app b cs (Some who) differ =
    let c : Check = record { user = who; app = app } in
    filter-push (λ (x : Check). x.app == b) cs c
    ∙ ap (λ t. checks_by b cs ++ cond t (c ∷ []) []) (ne_eqb app b (λ e. differ (sym e))) ∙ append_nil (checks_by b cs)

pub checking-begun : (other who : UserType) (app : ℕ) (cs : List Check)
    → checking other (cs ++ checks_of app (Some who)) ≡ checking other cs ++ cond (is_same_user other who) (app ∷ []) []
checking-begun other who app cs =
    let c : Check = record { user = who; app = app } in
    ap (map (λ (x : Check). x.app)) (filter-push (λ (x : Check). is_same_user other x.user) cs c)
    ∙ step c (filter (λ (x : Check). is_same_user other x.user) cs) (is_same_user other who) where
      step : (c : Check) (xs : List Check) (b : Bool)
          → map (λ (x : Check). x.app) (xs ++ cond b (c ∷ []) []) ≡ map (λ (x : Check). x.app) xs ++ cond b (c.app ∷ []) []
      step c xs true = map-push (λ (x : Check). x.app) xs c
      step c xs false = ap (map (λ (x : Check). x.app)) (append_nil xs) ∙ sym (append_nil (map (λ (x : Check). x.app) xs))

-- ---- the checks of an application end

pub over-own : (app : ℕ) (cs : List Check) → checks_by app (without_checks app cs) ≡ []
over-own app [] = refl
over-own app (c ∷ cs) = step (c.app == app) refl (over-own app cs) where
  step : (b : Bool) → (c.app == app) ≡ b → checks_by app (without_checks app cs) ≡ []
      → checks_by app (cond (not b) (c ∷ without_checks app cs) (without_checks app cs)) ≡ []
  step true is none = none
  step false is none = ap (λ b. cond b (c ∷ checks_by app (without_checks app cs)) (checks_by app (without_checks app cs))) is ∙ none

pub over-other : (app b : ℕ) (cs : List Check) → b ≢ app → checks_by b (without_checks app cs) ≡ checks_by b cs
over-other app b cs differ = filter-less (λ (c : Check). c.app == b) (λ c. not (c.app == app)) cs
    (λ c is. ap not (ne_eqb c.app app (λ e. differ (sym (eqb-true c.app b is) ∙ e))))

pub checking-over : (who : UserType) (app : ℕ) (cs : List Check) → checking who (without_checks app cs) ≡ without (checking who cs) app
checking-over who app cs =
    ap (map (λ (c : Check). c.app)) (filter-swap (λ (c : Check). is_same_user who c.user) (λ c. not (c.app == app)) cs)
    ∙ sym (filter-map (λ n. not (n == app)) (λ (c : Check). c.app) (filter (λ c. is_same_user who c.user) cs))

-- ---- whether an application checks a PIN

under_way-by : (who : UserType) (app : ℕ) (cs : List Check)
    → is_under_way (checking who cs) app ≡ is_under_way (checking who (checks_by app cs)) app
under_way-by who app [] = refl
under_way-by who app (c ∷ cs) = step (c.app == app) (is_same_user who c.user) refl refl (under_way-by who app cs) where
  step : (b s : Bool) → (c.app == app) ≡ b → is_same_user who c.user ≡ s
      → is_under_way (checking who cs) app ≡ is_under_way (checking who (checks_by app cs)) app
      → is_under_way (map (λ (x : Check). x.app)
      (cond s (c ∷ filter (λ x. is_same_user who x.user) cs) (filter (λ x. is_same_user who x.user) cs))) app
      ≡ is_under_way (checking who (cond b (c ∷ checks_by app cs) (checks_by app cs))) app
  step true true is same h = ap (λ b. (c.app == app) || b) h
      ∙ sym (ap (λ s. is_under_way (map (λ (x : Check). x.app)
      (cond s (c ∷ filter (λ x. is_same_user who x.user) (checks_by app cs)) (filter (λ x. is_same_user who x.user) (checks_by app cs)))) app) same)
  step true false is same h = h
      ∙ sym (ap (λ s. is_under_way (map (λ (x : Check). x.app)
      (cond s (c ∷ filter (λ x. is_same_user who x.user) (checks_by app cs)) (filter (λ x. is_same_user who x.user) (checks_by app cs)))) app) same)
  step false true is same h = ap (λ b. b || is_under_way (checking who cs) app) is ∙ h
  step false false is same h = h

-- by the checks that it has
pub under_way-is : (who : UserType) (app : ℕ) (cs : List Check) (o : Option UserType) → checks_by app cs ≡ checks_of app o
    → is_under_way (checking who cs) app ≡ is_under_way (checking who (checks_of app o)) app
under_way-is who app cs o is = under_way-by who app cs ∙ ap (λ xs. is_under_way (checking who xs) app) is

-- where it checks none of a PIN, none of it ends
pub checking-stays : (who : UserType) (app : ℕ) (cs : List Check) → is_under_way (checking who cs) app ≡ false
    → checking who (without_checks app cs) ≡ checking who cs
checking-stays who app cs none = checking-over who app cs ∙ without-none (checking who cs) app none
