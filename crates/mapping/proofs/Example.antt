-- Values of document 01, and of document 004's loop with runs, by computing.
use Rattle.std.proofs.Common.{◌≡◌, ℕ, [], ◌∷◌, refl}
use Rattle.laws.specs.Sums.{sum_to}
use Rattle.laws.specs.Tables.{table}
use Rattle.mapping.specs.Mapping.{passed, one_more, onward, taker, after_bit, pos_of, place, run, mapped, before, place_of, unmapped, ones, first_run, second_run, in_runs, slot_of, slot_undone}

-- U = 3, 2: PhCH 1 holds 1,3,5, PhCH 2 holds 4,2
three_two : slot_of {A = ℕ} ones (3 ∷ 2 ∷ []) (1 ∷ 2 ∷ 3 ∷ 4 ∷ 5 ∷ []) (0 ∷ 0 ∷ 0 ∷ 0 ∷ 0 ∷ []) ≡ (1 ∷ 3 ∷ 5 ∷ 4 ∷ 2 ∷ [])
unfolding mapped run after_bit taker passed one_more onward place pos_of sum_to
three_two = refl

-- U = 1, 3: 1 and 4,3,2
one_three : slot_of {A = ℕ} ones (1 ∷ 3 ∷ []) (1 ∷ 2 ∷ 3 ∷ 4 ∷ []) (0 ∷ 0 ∷ 0 ∷ 0 ∷ []) ≡ (1 ∷ 4 ∷ 3 ∷ 2 ∷ [])
unfolding mapped run after_bit taker passed one_more onward place pos_of sum_to
one_three = refl

-- and back
three_two_home : slot_undone {A = ℕ} ones (3 ∷ 2 ∷ []) 0 (1 ∷ 3 ∷ 5 ∷ 4 ∷ 2 ∷ []) ≡ (1 ∷ 2 ∷ 3 ∷ 4 ∷ 5 ∷ [])
unfolding unmapped place_of before after_bit taker passed one_more onward place pos_of sum_to table
three_two_home = refl

one_three_home : slot_undone {A = ℕ} ones (1 ∷ 3 ∷ []) 0 (1 ∷ 4 ∷ 3 ∷ 2 ∷ []) ≡ (1 ∷ 2 ∷ 3 ∷ 4 ∷ [])
unfolding unmapped place_of before after_bit taker passed one_more onward place pos_of sum_to table
one_three_home = refl

-- uplink, U = 4, 3 and SF = 16, 8: runs of 1 and 2. 1; 2,3; 4; 5, which fills PhCH 2 in mid-run; then PhCH 1 takes 6 and 7. PhCH 1 holds 1,4,6,7,
-- PhCH 2 holds 5,3,2
uplink-one-two : slot_of {A = ℕ} (in_runs (first_run 16 8) (second_run 16 8)) (4 ∷ 3 ∷ []) (1 ∷ 2 ∷ 3 ∷ 4 ∷ 5 ∷ 6 ∷ 7 ∷ []) (0 ∷ 0 ∷ 0 ∷ 0 ∷ 0 ∷ 0 ∷ 0 ∷ [])
    ≡ (1 ∷ 4 ∷ 6 ∷ 7 ∷ 5 ∷ 3 ∷ 2 ∷ [])
unfolding first_run second_run in_runs mapped run after_bit taker passed one_more onward place pos_of sum_to
uplink-one-two = refl

-- uplink, U = 5, 4 and SF = 8, 16: runs of 2 and 1. 1,2; 3; 4,5; 6; 7, which fills PhCH 1 in mid-run; then PhCH 2 takes 8 and 9. PhCH 1 holds
-- 1,2,4,5,7, PhCH 2 holds 9,8,6,3
uplink-two-one : slot_of {A = ℕ} (in_runs (first_run 8 16) (second_run 8 16)) (5 ∷ 4 ∷ [])
    (1 ∷ 2 ∷ 3 ∷ 4 ∷ 5 ∷ 6 ∷ 7 ∷ 8 ∷ 9 ∷ []) (0 ∷ 0 ∷ 0 ∷ 0 ∷ 0 ∷ 0 ∷ 0 ∷ 0 ∷ 0 ∷ [])
    ≡ (1 ∷ 2 ∷ 4 ∷ 5 ∷ 7 ∷ 9 ∷ 8 ∷ 6 ∷ 3 ∷ [])
unfolding first_run second_run in_runs mapped run after_bit taker passed one_more onward place pos_of sum_to
uplink-two-one = refl

uplink-two-one_home : slot_undone {A = ℕ} (in_runs (first_run 8 16) (second_run 8 16)) (5 ∷ 4 ∷ []) 0 (1 ∷ 2 ∷ 4 ∷ 5 ∷ 7 ∷ 9 ∷ 8 ∷ 6 ∷ 3 ∷ [])
    ≡ (1 ∷ 2 ∷ 3 ∷ 4 ∷ 5 ∷ 6 ∷ 7 ∷ 8 ∷ 9 ∷ [])
unfolding first_run second_run in_runs unmapped place_of before after_bit taker passed one_more onward place pos_of sum_to table
uplink-two-one_home = refl
