-- Laws of gathering: the mode, how long each part is, and that gathering and spreading undo each other.
use mathlib.Core.Path.{◌≡◌, sym, ap, ◌∙◌}
use mathlib.Core.Bool.{Bool, true, false, cond}
use mathlib.Core.List.{List, map}
use Prim.Native.Nat.{ℕ, ◌+◌, ◌*◌, ◌<◌}
use native.Mathlib.Nat.{mul-zero, zero-mul, suc-mul, mul-add}
use native.Mathlib.Omega.{arith}
use borrow.Author.Tests.{eq-eqb, ne_eqb}
use lib.Dec.{eqb}
use lib.ListN.{length, take, drop, length-map}
use lib.Seq.{take_all}
use Rattle.laws.specs.Sums.{sum_to}
use Rattle.laws.specs.Joined.{joined}
use Rattle.laws.proofs.JoinedLaws.{Begins, length-joined, joined-part, joined_same, cut_joined}
use Rattle.laws.proofs.RowLaws.{length-rows, rows-part, cut_rows, rows_same}
use Rattle.sheet.specs.Sizes.{slot_capacity, subframes_of, capacity_all}
use Rattle.sheet.specs.Range.{Accepted}
use Rattle.sheet.specs.declared.Sheet.{Sheet}
use Rattle.interleaving.specs.Second.{second_interleaved, second_undone}
use Rattle.interleaving.proofs.SecondLaws.{second-length, undone_length, second_undone_lem, second_redone}
use Rattle.mapping.specs.Mapping.{at, slot_size}
use Rattle.mapping.proofs.MappedLaws.{unmapped-length, unmapped-mapped, mapped-unmapped}
use Rattle.frame.specs.Frame.{caps_of, runs_of, slot_start, slot_part, slot_share, share_part, in_slots, slot_bits, slot_mapped, spread}
use Rattle.frame.proofs.FrameLaws.{caps-size, length-slot-part, length_share, length_share_made, length-slot, length-slot-bits, spread-map}
use Rattle.frame.proofs.TurnLaws.{runs-some}
use Rattle.frame.proofs.ShareLaws.{share_of_lem, length_shares}
use Rattle.homing.specs.Gather.{assembled, slot_unmapped, part_unmapped, unmapped_slots, undone_slots, undone_bits, gathered}

-- step 8 undone, by the mode
module _ {A : Type 0} (z : A) (sh : Sheet) (xs : List A) where
  pub over_all : sh.mode ≡ 0 → second_undone z xs ≡ undone_bits z sh xs
  unfolding undone_bits
  over_all e = sym (ap (λ (b : Bool). cond b (second_undone z xs) (undone_slots z sh xs)) (eq-eqb sh.mode 0 e))

  pub by_slots : (sh.mode ≡ 0 → ⊥) → undone_slots z sh xs ≡ undone_bits z sh xs
  unfolding undone_bits
  by_slots e = sym (ap (λ (b : Bool). cond b (second_undone z xs) (undone_slots z sh xs)) (ne_eqb sh.mode 0 e))

-- ---- the frame cut into slots, and put together again

module _ {A : Type 0} (sh : Sheet) where
  slot_of : (g : ℕ → ℕ → List A) → ((h t : ℕ) → h < subframes_of sh → t < sh.slots → length (g h t) ≡ slot_capacity sh t) → (h t : ℕ)
      → h < subframes_of sh → t < sh.slots → slot_part sh h t (in_slots sh g) ≡ g h t
  unfolding slot_part
  slot_of g long h t k l = rows-part (slot_capacity sh) g (subframes_of sh) sh.slots long h t k l

  pub parts_all : (xs : List A) → length xs ≡ capacity_all sh → in_slots sh (λ h t. slot_part sh h t xs) ≡ xs
  unfolding slot_part
  parts_all xs full = cut_rows (slot_capacity sh) xs (subframes_of sh) sh.slots ∙ take_all (capacity_all sh) xs (omega arith)

  -- the slots' shares
  pub shares_all : (xs : List A) → length xs ≡ capacity_all sh → joined (λ t. slot_share sh t xs) sh.slots ≡ xs
  unfolding slot_share sum_to
  shares_all xs full =
      cut_joined xs (λ t. subframes_of sh * slot_capacity sh t) (λ t. subframes_of sh * slot_start sh t) sh.slots (mul-zero (subframes_of sh)) (λ t l. mul-add (subframes_of sh) (slot_start sh t) (slot_capacity sh t))
      ∙ take_all (capacity_all sh) xs (omega arith)

  -- a share cut into sub-frames, and put together again
  module _ (t : ℕ) where
    pub share_parts : (ys : List A) → length ys ≡ subframes_of sh * slot_capacity sh t → joined (λ h. share_part sh h t ys) (subframes_of sh) ≡ ys
    unfolding share_part
    share_parts ys full =
        cut_joined ys (λ h. slot_capacity sh t) (λ h. h * slot_capacity sh t) (subframes_of sh) (zero-mul (slot_capacity sh t)) (λ h l. suc-mul h (slot_capacity sh t)) ∙ take_all (subframes_of sh * slot_capacity sh t) ys (omega arith)

    module _ (g : ℕ → List A) (long : (h : ℕ) → h < subframes_of sh → length (g h) ≡ slot_capacity sh t) where
      parts_begin : Begins g (λ h. h * slot_capacity sh t) (subframes_of sh)
      parts_begin = record { first = zero-mul (slot_capacity sh t); next = λ h l. suc-mul h (slot_capacity sh t) ∙ ap (λ (n : ℕ). h * slot_capacity sh t + n) (sym (long h l)) }

      length_parts : length (joined g (subframes_of sh)) ≡ subframes_of sh * slot_capacity sh t
      length_parts = length-joined g (λ h. h * slot_capacity sh t) (subframes_of sh) parts_begin

      part_of : (h : ℕ) → h < subframes_of sh → share_part sh h t (joined g (subframes_of sh)) ≡ g h
      unfolding share_part
      part_of h k =
          ap (λ (n : ℕ). take n (drop (h * slot_capacity sh t) (joined g (subframes_of sh)))) (sym (long h k)) ∙ joined-part g (λ i. i * slot_capacity sh t) (subframes_of sh) h parts_begin k

-- ---- the order of the interleaved elements

module _ {A : Type 0} (sh : Sheet) where
  pub assembled-same : (f g : ℕ → ℕ → List A) → ((h t : ℕ) → h < subframes_of sh → t < sh.slots → f h t ≡ g h t) → assembled sh f ≡ assembled sh g
  unfolding assembled
  assembled-same f g e = by (eqb sh.mode 0)
    where
      by : (b : Bool) → cond b (in_slots sh f) (joined (λ t. joined (λ h. f h t) (subframes_of sh)) sh.slots)
          ≡ cond b (in_slots sh g) (joined (λ t. joined (λ h. g h t) (subframes_of sh)) sh.slots)
      by true = rows_same f g (subframes_of sh) sh.slots e
      by false = joined_same _ _ sh.slots (λ t l. joined_same (λ h. f h t) (λ h. g h t) (subframes_of sh) (λ h k. e h t k l))

  length-assembled : (g : ℕ → ℕ → List A) → ((h t : ℕ) → h < subframes_of sh → t < sh.slots → length (g h t) ≡ slot_capacity sh t)
      → length (assembled sh g) ≡ capacity_all sh
  unfolding assembled
  length-assembled g long = by (eqb sh.mode 0)
    where
      by : (b : Bool) → length (cond b (in_slots sh g) (joined (λ t. joined (λ h. g h t) (subframes_of sh)) sh.slots)) ≡ capacity_all sh
      by true = length-rows (slot_capacity sh) g (subframes_of sh) sh.slots long
      by false = length_shares sh _ (λ t l. length_parts sh t (λ h. g h t) (λ h k. long h t k l))

-- ---- step 8 and its undoing

module _ {A : Type 0} (z : A) (sh : Sheet) where
  module _ (xs : List A) (full : length xs ≡ capacity_all sh) where
    long_undone : (t : ℕ) → t < sh.slots → length (second_undone z (slot_share sh t xs)) ≡ subframes_of sh * slot_capacity sh t
    long_undone t l = undone_length z (slot_share sh t xs) ∙ length_share sh t l xs full

    length_undone : length (undone_bits z sh xs) ≡ capacity_all sh
    unfolding undone_bits undone_slots
    length_undone = by (eqb sh.mode 0)
      where
        by : (b : Bool) → length (cond b (second_undone z xs) (undone_slots z sh xs)) ≡ capacity_all sh
        by true = undone_length z xs ∙ full
        by false = length_shares sh _ long_undone

    -- in mode 1 a slot's interleaved share, cut into sub-frames, is one again
    shared : (t : ℕ) → t < sh.slots
        → joined (λ h. share_part sh h t (second_interleaved (slot_share sh t xs))) (subframes_of sh) ≡ second_interleaved (slot_share sh t xs)
    shared t l = share_parts sh t (second_interleaved (slot_share sh t xs)) (second-length (slot_share sh t xs) ∙ length_share sh t l xs full)

    pub undone_again : undone_bits z sh (assembled sh (slot_bits sh xs)) ≡ xs
    unfolding undone_bits undone_slots assembled slot_bits
    undone_again = by (eqb sh.mode 0)
      where
        by : (b : Bool)
            → let g : ℕ → ℕ → List A = λ h t. cond b (slot_part sh h t (second_interleaved xs)) (share_part sh h t (second_interleaved (slot_share sh t xs))) in
            let ys = cond b (in_slots sh g) (joined (λ t. joined (λ h. g h t) (subframes_of sh)) sh.slots) in
            cond b (second_undone z ys) (undone_slots z sh ys) ≡ xs
        by true = ap (second_undone z) (parts_all sh (second_interleaved xs) (second-length xs ∙ full)) ∙ second_undone_lem z xs
        by false =
            joined_same _ (λ t. slot_share sh t xs) sh.slots
            (λ t l.
            ap (second_undone z) (share_of_lem sh _ (λ j m. length_parts sh j _ (λ h k. length_share_made sh j m xs full h k)) t l ∙ shared t l)
            ∙ second_undone_lem z (slot_share sh t xs))
            ∙ shares_all sh xs full

  module _ (g : ℕ → ℕ → List A) (long : (h t : ℕ) → h < subframes_of sh → t < sh.slots → length (g h t) ≡ slot_capacity sh t) where
    bits-again : (h t : ℕ) → h < subframes_of sh → t < sh.slots → slot_bits sh (undone_bits z sh (assembled sh g)) h t ≡ g h t
    unfolding undone_bits undone_slots assembled slot_bits
    bits-again h t k l = by (eqb sh.mode 0)
      where
        shares : ℕ → List A
        shares j = joined (λ i. g i j) (subframes_of sh)

        long_shares : (j : ℕ) → j < sh.slots → length (shares j) ≡ subframes_of sh * slot_capacity sh j
        long_shares j m = length_parts sh j (λ i. g i j) (λ i n. long i j n m)

        by : (b : Bool)
            → let ys = cond b (in_slots sh g) (joined (λ j. joined (λ i. g i j) (subframes_of sh)) sh.slots) in
            let us = cond b (second_undone z ys) (undone_slots z sh ys) in
            cond b (slot_part sh h t (second_interleaved us)) (share_part sh h t (second_interleaved (slot_share sh t us))) ≡ g h t
        by true = ap (slot_part sh h t) (second_redone z (in_slots sh g)) ∙ slot_of sh g long h t k l
        by false =
            ap (λ (y : List A). share_part sh h t (second_interleaved y))
            (share_of_lem sh _ (long_undone (joined shares sh.slots) (length_shares sh shares long_shares)) t l)
            ∙ ap (share_part sh h t) (second_redone z (slot_share sh t (joined shares sh.slots)) ∙ share_of_lem sh shares long_shares t l)
            ∙ part_of sh t (λ i. g i t) (λ i n. long i t n l) h k

-- ---- gathering and spreading undo each other

module _ {A : Type 0} (z : A) (sh : Sheet) (ok : Accepted sh) where
  pub long-taken : (xs : List A) (h t : ℕ) → h < subframes_of sh → t < sh.slots → length (part_unmapped z sh xs h t) ≡ slot_capacity sh t
  long-taken xs h t k l = unmapped-length (at (caps_of sh t)) (runs_of sh t) (length (caps_of sh t)) z (slot_part sh h t xs) ∙ caps-size sh ok t l

  pub length-gathered : (xs : List A) → length (gathered z sh xs) ≡ capacity_all sh
  unfolding gathered unmapped_slots
  length-gathered xs = length_undone z sh _ (length-assembled sh _ (long-taken xs))

  -- step 9
  module _ (t : ℕ) (p : List A) (l : t < sh.slots) (n : length p ≡ slot_capacity sh t) where
    fills : length p ≡ slot_size (caps_of sh t)
    fills = n ∙ sym (caps-size sh ok t l)

    taken-given : slot_unmapped z sh t (slot_mapped sh t p) ≡ p
    taken-given = unmapped-mapped (at (caps_of sh t)) (runs_of sh t) (length (caps_of sh t)) (λ k h. runs-some sh t k) z p p fills fills

    given-taken : slot_mapped sh t (slot_unmapped z sh t p) ≡ p
    given-taken =
        mapped-unmapped (at (caps_of sh t)) (runs_of sh t) (length (caps_of sh t)) (λ k h. runs-some sh t k) z p (slot_unmapped z sh t p) fills
        (unmapped-length (at (caps_of sh t)) (runs_of sh t) (length (caps_of sh t)) z p)

  module _ (xs : List A) (full : length xs ≡ capacity_all sh) where
    unmapped-again : unmapped_slots z sh (spread sh xs) ≡ assembled sh (slot_bits sh xs)
    unfolding unmapped_slots spread
    unmapped-again =
        assembled-same sh _ (slot_bits sh xs)
        (λ h t k l.
        ap (slot_unmapped z sh t) (slot_of sh _ (length-slot sh xs full) h t k l)
        ∙ taken-given t (slot_bits sh xs h t) l (length-slot-bits sh xs full h t k l))

    pub gathered-spread : gathered z sh (spread sh xs) ≡ xs
    unfolding gathered
    gathered-spread = ap (undone_bits z sh) unmapped-again ∙ undone_again z sh xs full

    pub spread-gathered : spread sh (gathered z sh xs) ≡ xs
    unfolding gathered unmapped_slots spread
    spread-gathered =
        rows_same _ (λ h t. slot_part sh h t xs) (subframes_of sh) sh.slots
        (λ h t k l.
        ap (slot_mapped sh t) (bits-again z sh (part_unmapped z sh xs) (long-taken xs) h t k l)
        ∙ given-taken t (slot_part sh h t xs) l (length-slot-part sh t l xs full h k))
        ∙ parts_all sh xs full

-- a map of the frame is a map of what is gathered, whatever z is
pub gathered-map : {A B : Type 0} (g : A → B) (y : B) (z : A) (sh : Sheet) → Accepted sh → (xs : List A) → length xs ≡ capacity_all sh
    → gathered y sh (map g xs) ≡ map g (gathered z sh xs)
gathered-map g y z sh ok xs full =
    ap (λ (l : List _). gathered y sh (map g l)) (sym (spread-gathered z sh ok xs full))
    ∙ ap (gathered y sh) (sym (spread-map g sh (gathered z sh xs)))
    ∙ gathered-spread y sh ok (map g (gathered z sh xs)) (length-map (gathered z sh xs) g ∙ length-gathered z sh ok xs)
