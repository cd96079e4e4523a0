-- What holds of a keeper that does something more beside another one: what holds of that one.
use Rattle.std.specs.Prelude.{ℕ}
use Rattle.keep.specs.Keeping.{Terms}

abbrev pub terms_behind : {K W : Type 0} → (W → K) → Terms K → Terms W
terms_behind keep terms = record {
  holds = λ w c. terms.holds (keep w) c;
  may_leave = λ w left. terms.may_leave (keep w) left;
  is_steady = λ w. terms.is_steady (keep w);
  doubt = λ w. terms.doubt (keep w);
  failures = λ w. terms.failures (keep w);
  tried = λ w. terms.tried (keep w);
}
