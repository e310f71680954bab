-- Values of document 01, computed: N = 6 and e = 1, sent as D = 8 and as D = 4 values; the order and the rounding of three copies; and clipping.
use mathlib.Core.Path.{◌≡◌, refl}
use mathlib.Core.Bool.{true, false}
use mathlib.Core.List.{[], ◌∷◌}
use lib.Count.{count_trailing_zeros}
use lib.IntN.{pos, negsuc}
use lib.Ieee.{Float, fin, span, climb, size, odd, units, round, sum, add, lt, eq, le}
use Rattle.pattern.specs.Pattern.{again, grown, shared_from, shared}
use Rattle.joining.specs.declared.Heard.TheVariants.{Nothing, Once, Joined}
use Rattle.joining.specs.Joining.{raw_of, utmost, nethermost, clipped, clipped_of, join_of, plus_zero, value_of, heard_of, home_of}
use Rattle.joining.proofs.ZeroLaws.{minus_zero}
use Rattle.joining.specs.Linked.{magnitude_of, magnitudes, punctures, chosen, link_of}

-- 1, 2.5, 3, -3, 3.5 and -0.0; 512, of whose unit of rounding 2^-15 is the half, and the next float above it
abbrev one : Float
one = fin false 1 (pos 0)

abbrev two_half : Float
two_half = fin false 5 (negsuc 0)

abbrev three : Float
three = fin false 3 (pos 0)

abbrev minus_three : Float
minus_three = fin true 3 (pos 0)

abbrev three_half : Float
three_half = fin false 7 (negsuc 0)

abbrev wide : Float
wide = fin false 1 (pos 9)

abbrev minus_wide : Float
minus_wide = fin true 1 (pos 9)

abbrev half : Float
half = fin false 1 (negsuc 14)

abbrev wider : Float
wider = fin false 8388609 (negsuc 13)

-- sent are 1,1,2,3,4,4,5,6: the first and the fourth bit are joined, and a lone -0.0 stays
pub repeated_home : heard_of (pos 2) 6 1 (one ∷ two_half ∷ minus_zero ∷ three ∷ minus_zero ∷ minus_zero ∷ one ∷ three ∷ [])
    ≡ Joined three_half 2 ∷ Once minus_zero ∷ Once three ∷ Joined minus_zero 2 ∷ Once one ∷ Once three ∷ []
unfolding count_trailing_zeros span climb size odd units round sum add again grown shared_from shared lt eq le clipped raw_of clipped_of join_of heard_of
repeated_home = refl

-- bits 1 and 4 are dropped
pub punctured_home : home_of (negsuc 1) 6 1 (one ∷ minus_zero ∷ two_half ∷ three ∷ [])
    ≡ plus_zero ∷ one ∷ minus_zero ∷ plus_zero ∷ two_half ∷ three ∷ []
unfolding again grown shared_from shared lt eq le clipped raw_of clipped_of join_of value_of heard_of home_of
punctured_home = refl

-- one bit sent three times: 512 + 2^-15 is rounded to 512, twice; 2^-15 + 2^-15 + 512 is exact
pub order_home : (home_of (pos 2) 1 1 (wide ∷ half ∷ half ∷ []) ≡ wide ∷ []) × (home_of (pos 2) 1 1 (half ∷ half ∷ wide ∷ []) ≡ wider ∷ [])
unfolding count_trailing_zeros span climb size odd units round sum add again grown shared_from shared lt eq le clipped raw_of clipped_of join_of value_of heard_of home_of
order_home = (refl, refl)

-- heard once: 1,024 and -1,024 stay, the next floats beyond become them (-1,024.5 too), and -0.0 stays
pub clipped_once : home_of (pos 0) 7 1 (utmost ∷ nethermost ∷ fin false 8388609 (negsuc 12) ∷ fin true 8388609 (negsuc 12) ∷ fin true 2049 (negsuc 0) ∷ fin false 1025 (pos 0) ∷ minus_zero ∷ [])
    ≡ utmost ∷ nethermost ∷ utmost ∷ nethermost ∷ nethermost ∷ utmost ∷ minus_zero ∷ []
unfolding again grown shared_from shared lt eq le clipped raw_of clipped_of join_of value_of heard_of home_of
clipped_once = refl

-- one bit sent three and five times: 1,536 becomes 1,024, but 512 + 512 + 512 - 512 - 512 is 512, which it would not be if sums between were clipped
pub clipped-last : (heard_of (pos 2) 1 1 (wide ∷ wide ∷ wide ∷ []) ≡ Joined utmost 3 ∷ [])
    × (heard_of (pos 4) 1 1 (wide ∷ wide ∷ wide ∷ minus_wide ∷ minus_wide ∷ []) ≡ Joined wide 5 ∷ [])
unfolding count_trailing_zeros span climb size odd units round sum add again grown shared_from shared lt eq le clipped raw_of clipped_of join_of heard_of
clipped-last = (refl, refl)

-- the record of 3.5, 1, -3 and two bits that were not heard; that of -0.0, whose magnitude is +0.0, and 1; and that of nothing heard
pub linked : (link_of (Nothing ∷ Joined three_half 2 ∷ Once one ∷ Nothing ∷ Once minus_three ∷ [])
    ≡ record { least = one; greatest = three_half; punctured = 2 })
    × (link_of (Once minus_zero ∷ Once one ∷ []) ≡ record { least = plus_zero; greatest = one; punctured = 0 })
    × (link_of (Nothing ∷ []) ≡ record { least = plus_zero; greatest = plus_zero; punctured = 1 })
unfolding lt magnitude_of magnitudes punctures chosen link_of
linked = (refl, refl, refl)
