-- Where frames stand.
use Rattle.std.proofs.Common.{◌≡◌, ◌≢◌, inl, inr, ℕ, zero, suc, ◌+◌, ◌-◌, ◌*◌, ◌/◌, ◌<◌, ◌≤◌, List, length, take, drop, refl, sym, subst, ap, ap₂, arith}
use Rattle.std.proofs.Math.Nat.{eq-or-lt_of_le, suc-mul, div-mul-le_self, le-div_iff_mul-le, mul-le-mul_right}
use Rattle.sqlite_wal.specs.Format.{IsFrame, part, stored_sum}
use Rattle.sqlite_wal.specs.Recovery.{Passes, frame, frame_at, frames_len, header, sum_before}
use Rattle.sql_log.specs.Damage.{HasCommit, PassesUnder}

pub start_is : (size at : ℕ) → 32 + at * (24 + size) ≡ frame_at size at
unfolding frames_len
start_is size at = refl

pub header_fits : (size at len : ℕ) → frame_at size at ≤ len → 32 ≤ len
header_fits size at len within = omega (arith, within)

pub frame_is : (log : List ℕ) (size at start : ℕ) → start ≡ frame_at size at
    → take (start + (24 + size) - start) (drop start log) ≡ frame size log at
unfolding part
frame_is log size at start is =
    let len : start + (24 + size) - start ≡ 24 + size = omega arith in
    ap₂ (λ (n a : ℕ). take n (drop a log)) len is

pub head_is : (log : List ℕ) → take 32 log ≡ header log
unfolding part
head_is log = refl

pub salts_are : (log : List ℕ) → take 8 (drop 40 log) ≡ part log 40 8
unfolding part
salts_are log = refl

pub first_sum : (log : List ℕ) (size at : ℕ) → at ≡ 0 → stored_sum (take 32 log) 24 ≡ sum_before size log at
first_sum log size zero is = ap (λ (h : List ℕ). stored_sum h 24) (head_is log)
first_sum log size (suc at) is = absurd (cc)

pub later_sum : (log : List ℕ) (size at : ℕ) → at ≢ 0 → stored_sum (frame size log (at - 1)) 16 ≡ sum_before size log at
later_sum log size zero is = absurd (is refl)
later_sum log size (suc at) is = let n : suc at - 1 ≡ at = omega arith in ap (λ (i : ℕ). stored_sum (frame size log i) 16) n

pub frame_before : (size at len : ℕ) → at ≢ 0 → frame_at size at ≤ len → frame_at size (at - 1) + (24 + size) ≤ len
unfolding frames_len
frame_before size zero len is within = absurd (is refl)
frame_before size (suc at) len is within =
    let n : suc at - 1 ≡ at = omega arith in
    let more = suc-mul at (24 + size) in
    let all : 32 + suc at * (24 + size) ≤ len = within in
    let short : 32 + at * (24 + size) + (24 + size) ≤ len = omega (arith, more, all) in
    rw n short

pub passes_of : (log : List ℕ) (size at : ℕ) → Passes size log at → PassesUnder (take 32 log) size log at
passes_of log size at it = record {
  within = it.within;
  passes = subst (λ (h : List ℕ). IsFrame h (sum_before size log at) (frame size log at)) (sym (head_is log)) it.passes;
}

-- one more frame passes
pub passes_up_to : (log : List ℕ) (size at : ℕ) → ((i : ℕ) → i < at → Passes size log i) → PassesUnder (take 32 log) size log at
    → (i : ℕ) → i < at + 1 → Passes size log i
passes_up_to log size at before it i low = elim (eq-or-lt_of_le {n = i} {m = at} (omega (arith, low))) [
  | inl is ↦ subst (λ (j : ℕ). Passes size log j) (sym is)
      (record {
        within = it.within;
        passes = subst (λ (h : List ℕ). IsFrame h (sum_before size log at) (frame size log at)) (head_is log) it.passes;
      })
  | inr less ↦ before i less
]

-- a frame that is one of those for which the log has the bytes
pub inside : (log : List ℕ) (size at : ℕ) → 32 ≤ length log → at < (length log - 32) / (24 + size)
    → frame_at size at + (24 + size) ≤ length log
unfolding frames_len
inside log size at long few =
    let n = 24 + size in
    let whole : (length log - 32) / n * n ≤ length log - 32 = div-mul-le_self (length log - 32) n in
    let more : suc at * n ≤ (length log - 32) / n * n = mul-le-mul_right n (omega (arith, few)) in
    let step = suc-mul at n in
    omega (arith, whole, more, step, long)

-- a frame for which the log has the bytes is one of those
pub counted : (log : List ℕ) (at : ℕ) → frame_at 4096 at + 4120 ≤ length log → at < (length log - 32) / 4120
unfolding frames_len
counted log at within = (le-div_iff_mul-le {k = 4120} {x = suc at} {y = length log - 32} (omega arith)).1
    (let step = suc-mul at 4120 in omega (arith, within, step))

pub commit_inside : (head log : List ℕ) (from : ℕ) (it : HasCommit head 4096 log from) → it.one < (length log - 32) / 4120
commit_inside head log from it = counted log it.one (it.run it.one it.after (omega arith)).within
