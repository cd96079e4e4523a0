use Rattle.std.proofs.Common.{ℕ, List, []}
use Rattle.ck_calls.specs.declared.app_call.AppCall.{AppCall}
use Rattle.hall_log.specs.Histories.{Exchange, History}
use Rattle.hall.specs.Given.{Serves}
use Rattle.hall.specs.Terms.{token_terms}
use Rattle.hall.proofs.Giving.{own_so, suits_so}
use Rattle.test_hall.proofs.tests.not_started.held_silent.Given as goal

abbrev pub ghosts-hold_named : goal.ghosts-hold_named
ghosts-hold_named g a = record {
  book = a.opened.seen.book;
  seed = [];
  given = λ (app : ℕ) (bytes : List ℕ). Unit {0};
  was_read = λ (before : List Exchange) (call : AppCall). Unit {0};
  served = λ (h : History). Serves (token_terms g.K.Keep.terms) (λ (before : List Exchange) (call : AppCall). Unit {0}) a.token h;
  own = λ (h : History) so. own_so (token_terms g.K.Keep.terms) (λ (before : List Exchange) (call : AppCall). Unit {0}) a.token h so;
  suited = λ (h : History) so. suits_so (token_terms g.K.Keep.terms) (λ (before : List Exchange) (call : AppCall). Unit {0}) a.token h so;
}
