-- `drawing::number_of` meets its contract. What is answered has the double's bits by the last comparison. Where a number's share has
-- them, scaling is exact and the guess is that number, so each test passes.
-- Assumes nothing.
use Rattle.std.proofs.Common.{T, sym, refl, ◌∙◌, subst}
use lib.Ieee.{of_bits}
use Rattle.drawing.specs.Reading.{NumberOf}
use Rattle.drawing.proofs.ShareLaws.{share_below}
use Rattle.drawing.proofs.DoubleLaws.{bits_number}
use Rattle.drawing.proofs.ReadLaws.{double_above, none_large, none_guessed, none_same}
use Rattle.drawing.proofs.number_of.Goals as goal
use Rattle.drawing.proofs.number_of.Goals.{else-x-lt9007199254740992-via-then-x-lt9007199254740992+else-share_value-value, else-x-lt9007199254740992-via-else-x-lt9007199254740992}

pub truncating_f64_to_u64-x-requires : goal.truncating_f64_to_u64-x-requires
unfolding of_bits
truncating_f64_to_u64-x-requires c =
    record { lower_bound = double_above c.args.value c.well_formed.0.1 c.requires; upper_bound = subst T (sym c.if-scaled.true) tt }

pub float_to_bits-share_value : goal.float_to_bits-share_value
float_to_bits-share_value c = bits_number _ _ c.share_value.ensures (share_below _ c.if-x-lt9007199254740992.true)

pub float_to_bits-value : goal.float_to_bits-value
float_to_bits-value c = bits_number _ _ refl c.requires

pub returns-then-share_value-value : goal.returns-then-share_value-value
unfolding NumberOf
returns-then-share_value-value c = (c.if-x-lt9007199254740992.true, sym c.share_value.ensures ∙ c.if-share_value-value.true)

pub returns-else-x-lt9007199254740992 : goal.returns-else-x-lt9007199254740992
unfolding of_bits
returns-else-x-lt9007199254740992 c =
    elim c.else-x-lt9007199254740992.branch [
      | else-x-lt9007199254740992-via-then-x-lt9007199254740992+else-share_value-value w ↦
          none_same _ c.well_formed.0.1 _ c.truncating_f64_to_u64-x.ensures _ w.share_value.ensures w.if-share_value-value.false
      | else-x-lt9007199254740992-via-else-x-lt9007199254740992 w ↦
          none_guessed _ c.well_formed.0.1 _ c.truncating_f64_to_u64-x.ensures w.if-x-lt9007199254740992.false
    ]

pub returns-else-scaled : goal.returns-else-scaled
unfolding of_bits
returns-else-scaled c = none_large _ c.well_formed.0.1 c.if-scaled.false
