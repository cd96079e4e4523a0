use Rattle.std.proofs.Common.{◌≡◌, List, ℕ, sym, arith, ap, ap₂, ◌∙◌, slice_set, take, drop, ◌++◌}
use Rattle.std.proofs.lemmas.List.{append_assoc, drop-drop, length-take-le}
use borrow.Rule.Slice.PartMut.{put_mid}
use Rattle.sql_log.proofs.FrameLemmas.{head_is, salts_are}
use Rattle.sql_log.proofs.damage.header_with.Goals as goal

abbrev mended : ℕ → List ℕ → List ℕ → List ℕ
mended fourth head salts = let set = slice_set head 3 fourth in take 16 set ++ salts ++ drop 24 set

put : (head salts : List ℕ) → put_mid 16 8 head salts ≡ take 16 head ++ salts ++ drop 24 head
put head salts = ap (λ (rest : List ℕ). take 16 head ++ (salts ++ rest)) (drop-drop 8 16 head)
    ∙ sym (append_assoc (take 16 head) salts (drop 24 head))

pub slice_bounds-copy_from_slice-end-2 : goal.slice_bounds-copy_from_slice-end-2
slice_bounds-copy_from_slice-end-2 c = sym (length-take-le 32 c.args.log.now (omega (arith, c.requires.long)))

pub copy_from_slice-requires : goal.copy_from_slice-requires
copy_from_slice-requires c = sym (length-take-le 32 c.args.log.now (omega (arith, c.requires.long)))

pub returns : goal.returns
returns c = put (slice_set c.copy_from_slice.new.self 3 c.args.magic) c.copy_from_slice-2.new.self
    ∙ ap₂ (mended c.args.magic) (c.copy_from_slice.ensures.after ∙ head_is c.args.log.now)
    (c.copy_from_slice-2.ensures.after ∙ salts_are c.args.log.now)
