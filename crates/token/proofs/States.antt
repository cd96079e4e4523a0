-- What the proofs above the token cite of its states and runs.
use Rattle.std.proofs.Common.{[], arith}
use Rattle.keep.specs.Contents.{Contents}
use Rattle.keep.specs.Keeping.{Terms}
use Rattle.serve_base.specs.Stores.{StoreHas, StoreState}
use Rattle.model_runs.specs.Applications.{ShowsAfter, opening}
use Rattle.model_runs.proofs.Steps.{depicts-opening, fits-empty}
pub use Rattle.model_runs.proofs.Accounts.{accounts-more, accounts-none, accounts-one, accounts-plain}
pub use Rattle.model_runs.proofs.Ids.{blames-more, blames-none, shows-more}
pub use Rattle.model_runs.proofs.Jobs.{open_is, step_ask, step_finish, step_gone, step_reply}
pub use Rattle.model_runs.proofs.Runs.{after-append, left-append, left-more}

-- nobody has come yet, and no id was given
pub shows-at-first : {K : Type 0} (terms : Terms K) (store : StoreState K) (c : Contents) → StoreHas terms store c
    → ShowsAfter terms c 0 (record { store = store; desks = []; checks = [] }) (opening c)
shows-at-first terms store c h = (record { contents = c; has = h; fits = λ b. fits-empty c; depicts = depicts-opening c }, omega arith)
