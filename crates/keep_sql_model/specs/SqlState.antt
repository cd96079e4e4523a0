-- What contracts see of a keeper over a connection.
use Rattle.std.specs.Prelude.{ℕ, refl}
use Rattle.std.specs.Coded.{Coded, code_by, coded×, coded_ℕ}
use Rattle.sqlite.specs.Store.{Ghosts}
use Rattle.sqlite.specs.Held.{Held, held_code, state}
use Rattle.pin_record.specs.contracts.record.Record as token
use Rattle.pin_record.specs.Records.{TokenRecord}
use Rattle.keep.specs.Keeping.{Terms}
use Rattle.keep_sql_model.specs.Laws.{terms_by}

pub record SqlState (S : Type 0) : Type 0 where
  pub conn : Held S
  -- the record of the store, at hand
  pub token_record : TokenRecord
  pub failures : ℕ
  -- how many writes were tried
  pub tried : ℕ

abbrev pub sql_terms : {S : Type 0} → Ghosts S → Terms (SqlState S)
sql_terms g = terms_by (λ k. state g k.conn) (λ k. k.token_record) (λ k. k.failures) (λ k. k.tried)

abbrev pub sql_code : {S : Type 0} → Coded S → Coded (SqlState S)
sql_code {S} store =
    code_by (Held S × (TokenRecord × (ℕ × ℕ)))
    (coded× (held_code store) (coded× token.the_row.coded (coded× coded_ℕ coded_ℕ)))
    (λ k. (k.conn, (k.token_record, (k.failures, k.tried))))
    (λ p. record { conn = p.0; token_record = p.1.0; failures = p.1.1.0; tried = p.1.1.1 })
    (λ _. refl)
