-- What merging an entry leaves, from comparisons of numbers. Assumes nothing.
use Rattle.std.proofs.Common.{◌≡◌, ℕ, ◌+◌, ◌<◌, min, List, length, get_or, set, ◌∙◌, arith, length-set}
use lib.Seq.{set-get_or}
use Rattle.entries.proofs.CountLaws.{count_more}
use Rattle.pass.specs.Entry.{merged_area}

module _ (n : ℕ) (w : List ℕ) (at l d : ℕ) where
  -- more hops leave the entry
  pub merge_more : get_or w at 0 < l → merged_area n w at l d ≡ w
  unfolding merged_area
  merge_more more =
      let kept : min (get_or w at 0) l ≡ get_or w at 0 = omega arith in
      rw (kept, set-get_or w at 0, count_more (get_or w at 0) (get_or w (at + n) 0) l d more, set-get_or w (at + n) 0)

  -- merging keeps the length
  pub merged_length : length (merged_area n w at l d) ≡ length w
  unfolding merged_area
  merged_length = length-set (set w at (min (get_or w at 0) l)) (at + n) _ ∙ length-set w at (min (get_or w at 0) l)
