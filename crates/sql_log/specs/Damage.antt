-- Damage in a log that no power cut leaves.
use Rattle.std.specs.Prelude.{◌≢◌, ◌⊎◌, ℕ, ◌+◌, ◌-◌, ◌/◌, ◌<◌, ◌≤◌, ◌==◌, Bool, min, if◌then◌else◌, List, ◌++◌, length, take, drop, slice_index, slice_set}
use Rattle.sqlite_wal.specs.Format.{IsFrame, IsSigned, be32, commit_size, part}
use Rattle.sqlite_wal.specs.Recovery.{Image, IsBegun, Passes, frame, frame_at, header, sum_before}

-- a log that is too short for a frame and has no header that passes its checksum
abbrev pub IsUnwritten : List ℕ → Type 0
IsUnwritten log = (length log ≤ 41) × ((length log < 32) ⊎ (¬ IsSigned (header log)))

-- the log has the frame, and it passes SQLite's test under this header
pub record PassesUnder (head : List ℕ) (size : ℕ) (log : List ℕ) (at : ℕ) : Type 0 where
  pub within : frame_at size at + (24 + size) ≤ length log
  pub passes : IsFrame head (sum_before size log at) (frame size log at)

-- a frame that commits
abbrev pub CommitsAt : ℕ → List ℕ → ℕ → Type 0
CommitsAt size log at = commit_size (frame size log at) ≢ 0

-- each frame from one to another is of the same log, and goes on from the one before it
abbrev pub IsFrameRun : List ℕ → ℕ → List ℕ → ℕ → ℕ → Type 0
IsFrameRun head size log from to = (at : ℕ) → from ≤ at → at ≤ to → PassesUnder head size log at

-- a run of frames with one that commits
pub record HasCommit (head : List ℕ) (size : ℕ) (log : List ℕ) (from : ℕ) : Type 0 where
  pub one : ℕ
  pub after : from ≤ one
  pub run : IsFrameRun head size log from one
  pub commits : CommitsAt size log one

-- a run of frames with two that commit
pub record HasTwoCommits (head : List ℕ) (size : ℕ) (log : List ℕ) (from : ℕ) : Type 0 where
  pub one : ℕ
  pub two : ℕ
  pub after : from ≤ one
  pub later : one < two
  pub run : IsFrameRun head size log from two
  pub first : CommitsAt size log one
  pub second : CommitsAt size log two

-- Frame `bad` fails its test. Behind it, at once or after one more frame, whose checksum goes on from the bad one's, stands a run with
-- two frames that commit. The first may end the transaction of the bad frame. The second is of a transaction that was begun only once
-- that one was on the disk, so no power cut took it back.
pub record IsBroken (size : ℕ) (log : List ℕ) : Type 0 where
  pub bad : ℕ
  pub fails : ¬ Passes size log bad
  pub behind : HasTwoCommits (header log) size log (bad + 1) ⊎ HasTwoCommits (header log) size log (bad + 2)

-- for how many frames the log has the bytes
abbrev pub frame_count : ℕ → List ℕ → ℕ
frame_count size log = (length log - 32) / (24 + size)

-- a frame's gate is shut: the first byte of its salt is 0, or 1 where the header's is 0
abbrev pub is_shut : ℕ → List ℕ → ℕ → Bool
is_shut size log at = slice_index (frame size log at) 8 == (if slice_index log 16 == 0 then 1 else 0)

-- How far frames behind a bad one are looked at. A transaction that has written 2,000 pages goes to the log in parts behind one shut
-- gate. Each part ends in a frame that commits.
abbrev pub end_behind : ℕ → List ℕ → ℕ → ℕ
end_behind size log bad = if is_shut size log bad then min (frame_count size log) (bad + 2000) else frame_count size log

-- two frames that commit, in a run that begins at one frame, and the second before another
abbrev pub IsFollowed : ℕ → List ℕ → ℕ → ℕ → Type 0
IsFollowed size log from end = (it : HasTwoCommits (header log) size log from) × (it.two < end)

-- Frame `bad` is the first that fails its test, and two that commit follow it as far as frames are looked at. A log of more than
-- 4,294,901,760 frames is none of these.
pub record IsPlainlyBroken (size : ℕ) (log : List ℕ) : Type 0 where
  pub bad : ℕ
  pub earlier : (i : ℕ) → i < bad → Passes size log i
  pub fails : ¬ Passes size log bad
  pub there : bad < frame_count size log
  pub few : frame_count size log ≤ 4294901760
  pub behind : IsFollowed size log (bad + 1) (end_behind size log bad) ⊎ IsFollowed size log (bad + 2) (end_behind size log bad)

-- under some header, a run from the first frame on, or the second, has one that commits
pub record HasAnyCommit (size : ℕ) (log : List ℕ) : Type 0 where
  pub head : List ℕ
  pub behind : HasCommit head size log 0 ⊎ HasCommit head size log 1

-- The header fails its checksum, but its first byte isn't 0, as it is while a log is emptied, and a commit stands behind it.
pub record IsBeheaded (size : ℕ) (log : List ℕ) : Type 0 where
  pub unsigned : ¬ IsSigned (header log)
  pub shown : slice_index log 0 ≢ 0
  pub behind : HasAnyCommit size log

-- a damaged header as it may have been: with this fourth byte, which says how words are read, and with the first frame's salts
abbrev pub mended_header : ℕ → List ℕ → List ℕ
mended_header fourth log = let head = slice_set (header log) 3 fourth in take 16 head ++ part log 40 8 ++ drop 24 head

-- a run with a frame that commits begins at the first frame, or at the second
abbrev pub HasEarlyCommit : List ℕ → List ℕ → Type 0
HasEarlyCommit head log = HasCommit head 4096 log 0 ⊎ HasCommit head 4096 log 1

-- The header fails its checksum, but its first byte isn't 0, and a commit stands behind it under one of the headers that it may have
-- been. A log of more than 4,294,901,760 frames is none of these.
pub record IsPlainlyBeheaded (log : List ℕ) : Type 0 where
  pub unsigned : ¬ IsSigned (header log)
  pub shown : slice_index log 0 ≢ 0
  pub few : frame_count 4096 log ≤ 4294901760
  pub behind : HasEarlyCommit (mended_header 0x82 log) log ⊎ HasEarlyCommit (mended_header 0x83 log) log

-- damage that is found for sure
abbrev pub IsPlainlyDamaged : List ℕ → Type 0
IsPlainlyDamaged log =
    (IsSigned (header log) × (be32 (header log) 8 ≤ 65536) × IsPlainlyBroken (be32 (header log) 8) log) ⊎ IsPlainlyBeheaded log

-- pages have the size in the header, or 4096 bytes where it is damaged
abbrev pub IsDamaged : List ℕ → Type 0
IsDamaged log = IsBroken (be32 (header log) 8) log ⊎ IsBeheaded 4096 log

-- What a first opening that was cut off may leave: the log has the header that it writes, or not yet one, and then the database file
-- has a byte at most.
abbrev pub IsFirst : Image → Type 0
IsFirst image = IsBegun 4096 image.log ⊎ ((length image.db ≤ 1) × IsUnwritten image.log)
