-- Laws of undoing steps 9 and 8 at once: a slot's values are written into the block that step 8 interleaves together, one slot after the other.
use mathlib.Core.Path.{◌≡◌, refl, sym, ap, ap₂, ◌∙◌}
use mathlib.Core.Bool.{Bool, true, false}
use mathlib.Core.List.{List}
use mathlib.Core.Logic.{◌⊎◌, inl, inr, ⊎_elim}
use Prim.Native.Nat.{ℕ, ◌+◌, ◌*◌, ◌-◌, ◌≤◌, ◌<◌}
use native.Mathlib.Nat.{mul-le-mul_left}
use native.Mathlib.Omega.{arith}
use native.Mathlib.Decide.{dec_lt}
use borrow.Rule.Slice.PartMut.{put_mid, same_len_mid, take_put, drop_put}
use lib.Dec.{eqb}
use lib.ListN.{length, take, drop}
use lib.Seq.{drop-drop}
use Rattle.laws.specs.Sums.{sum_to}
use Rattle.laws.proofs.SumLaws.{sum_more, sum-within}
use Rattle.laws.proofs.FallLaws.{part_ends}
use Rattle.laws.proofs.RowLaws.{part-within, row_room}
use Rattle.sheet.specs.Sizes.{slot_capacity, places_all, subframes_of, capacity_all}
use Rattle.sheet.specs.Range.{Accepted}
use Rattle.sheet.specs.declared.Sheet.{Sheet}
use Rattle.interleaving.specs.Second.{second_interleaved}
use Rattle.interleaving.proofs.SecondLaws.{second-length}
use Rattle.mapping.specs.Mapping.{in_runs, slot_undone}
use Rattle.mapping.specs.declared.Runs.{Runs}
use Rattle.mapping.proofs.LineLaws.{part_put}
use Rattle.frame.specs.Frame.{caps_of, slot_start, slot_part, slot_bits}
use Rattle.frame.specs.Slots.{Spans, RunsAt, block_of, slot_block}
use Rattle.frame.specs.declared.spreading.Block.{Block}
use Rattle.frame.specs.declared.spreading.Span.{Span}
use Rattle.frame.proofs.FrameLaws.{slot-room}
use Rattle.frame.proofs.SpreadLaws.{caps_lent}
use Rattle.frame.proofs.BlockLaws.{block_in, block_by, block_lies, block_long, block_bits}
use Rattle.homing.specs.Gather.{part_unmapped, undone_bits, unmapped_slots, gathered}
use Rattle.homing.specs.Pieces.{Earlier, Through, ThroughAt}
use Rattle.homing.proofs.GatherLaws.{assembled-same, undone_again, long-taken}

-- ---- k elements of a list, from a on, that were lent and came back as y: what lies before or after them

module _ {A : Type 0} (xs y : List A) (a k : ℕ) (b : a + k ≤ length xs) (n : length y ≡ k) where
  put_after : drop (a + k) (put_mid a k xs y) ≡ drop (a + k) xs
  put_after = let q : a + k - a ≡ k = omega arith in rw q at (drop_put a (a + k) xs y (omega arith) b (n ∙ sym q))

  pub put_other : (s c : ℕ) → (s + c ≤ a) ⊎ (a + k ≤ s) → take c (drop s (put_mid a k xs y)) ≡ take c (drop s xs)
  put_other s c (inl l) =
      sym (part-within (put_mid a k xs y) a s c l)
      ∙ ap (λ (l : List A). take c (drop s l)) (take_put a k xs y (omega arith))
      ∙ part-within xs a s c l
  put_other s c (inr l) =
      let q : s ≡ a + k + (s - (a + k)) = omega arith in
      rw q
      (ap (take c) (sym (drop-drop (s - (a + k)) (a + k) (put_mid a k xs y)) ∙ ap (drop (s - (a + k))) put_after ∙ drop-drop (s - (a + k)) (a + k) xs))

-- ---- the blocks of two slots

-- they are one, in which the first has its part, of c places, before the other; or one ends before the other begins
abbrev Clear : ℕ → Block → Block → Type 0
Clear c x y = ((x.from ≡ y.from) × (x.to ≡ y.to) × (x.at + c ≤ y.at)) ⊎ ((x.to ≤ y.from) ⊎ (y.to ≤ x.from))

blocks_clear : (sh : Sheet) (i j h t : ℕ) → j < sh.slots → Earlier i j h t → Clear (slot_capacity sh j) (slot_block sh i j) (slot_block sh h t)
unfolding slot_block block_of
blocks_clear sh i j h t l e = by (eqb sh.mode 0) e (dec_lt j t) (dec_lt t j)
  where
    by : (z : Bool) → Earlier i j h t → Dec (j < t) → Dec (t < j) → Clear (slot_capacity sh j) (block_by sh i j z) (block_by sh h t z)
    by true (inl o) d f = inl (refl, refl, omega (arith, row_room (slot_capacity sh) h sh.slots i j o l))
    by true (inr o) d f = inl (refl, refl, rw o.0 (omega (arith, sum-within (slot_capacity sh) j t o.1)))
    by false o (yes u) f = inr (inl (mul-le-mul_left (subframes_of sh) (sum-within (slot_capacity sh) j t u)))
    by false o (no u) (yes v) = inr (inr (mul-le-mul_left (subframes_of sh) (sum-within (slot_capacity sh) t j v)))
    by false (inl o) (no u) (no v) = let q : j ≡ t = omega arith in inl (rw q (refl, refl, part_ends i h (slot_capacity sh t) o))
    by false (inr o) (no u) (no v) = absurd (omega (arith, o.1))

-- ---- slot after slot: what the loops hold

module _ {A : Type 0} {sh : Sheet} {g : ℕ → ℕ → List A} {out : List A} {h : ℕ} where
  -- one more of a sub-frame: y is written into its block, which comes back as v
  module _ {t : ℕ} (p : Through sh g out h t) (m : h < subframes_of sh) (l : t < sh.slots) {b : Block} (eb : b ≡ slot_block sh h t) {n : ℕ} (en : n ≡ slot_capacity sh t)
      (v : List A) {y : List A} (nv : length v ≡ length (block_in b out)) (ny : length y ≡ slot_capacity sh t) (q : y ≡ g h t)
      (e : second_interleaved v ≡ put_mid b.at n (second_interleaved (block_in b out)) y) where
    abbrev new : List A
    new = put_mid b.from (b.to - b.from) out v

    new_long : length new ≡ capacity_all sh
    new_long = same_len_mid b.from (b.to - b.from) out v nv ∙ p.long

    size : length v ≡ b.to - b.from
    size = nv ∙ block_long sh m l eb out p.long

    inside : b.from + (b.to - b.from) ≤ length out
    inside = omega (arith, block_lies sh m l eb, p.long)

    within : b.at + n ≤ length (second_interleaved (block_in b out))
    within = omega (arith, block_lies sh m l eb, second-length (block_in b out), block_long sh m l eb out p.long)

    block_new : block_in b new ≡ v
    block_new = part_put out v b.from (b.to - b.from) inside size

    kept : (i j : ℕ) → j < sh.slots → Earlier i j h t → slot_bits sh new i j ≡ g i j
    kept i j o w =
        let u : i < subframes_of sh = ⊎_elim (λ x. omega arith) (λ x. omega (arith, x.0)) w in
        sym (block_bits sh u o refl new new_long refl)
        ∙ side (slot_block sh i j) (block_lies sh u o refl).ordered (rw eb (blocks_clear sh i j h t o w))
        ∙ block_bits sh u o refl out p.long refl
        ∙ p.done i j o w
      where
        side : (x : Block) → x.from ≤ x.to → Clear (slot_capacity sh j) x b
            → take (slot_capacity sh j) (drop x.at (second_interleaved (block_in x new))) ≡ take (slot_capacity sh j) (drop x.at (second_interleaved (block_in x out)))
        side x r (inl (f, z, a)) =
            rw (f, z)
            (ap (λ (k : List A). take (slot_capacity sh j) (drop x.at k)) (ap second_interleaved block_new ∙ e)
            ∙ put_other (second_interleaved (block_in b out)) y b.at n within (ny ∙ sym en) x.at (slot_capacity sh j) (inl a))
        side x r (inr a) =
            ap (λ (k : List A). take (slot_capacity sh j) (drop x.at (second_interleaved k)))
            (put_other out v b.from (b.to - b.from) inside size x.from (x.to - x.from)
            (⊎_elim (λ c. inl (omega arith)) (λ c. inr (omega (arith, block_lies sh m l eb))) a))

    put : slot_bits sh new h t ≡ g h t
    put =
        sym (block_bits sh m l eb new new_long en)
        ∙ ap (λ (k : List A). take n (drop b.at k)) (ap second_interleaved block_new ∙ e)
        ∙ part_put (second_interleaved (block_in b out)) y b.at n within (ny ∙ sym en)
        ∙ q

    pub through-turn : Through sh g (put_mid b.from (b.to - b.from) out v) h (t + 1)
    through-turn =
        record {
          long = new_long;
          done = λ i j o. ⊎_elim (λ x. kept i j o (inl x)) (λ x. here i j o x.0 (dec_lt j t) x.1);
        }
      where
        here : (i j : ℕ) → j < sh.slots → i ≡ h → Dec (j < t) → j < t + 1 → slot_bits sh new i j ≡ g i j
        here i j o x (yes u) w = kept i j o (inr (x, u))
        here i j o x (no u) w = let z : j ≡ t = omega arith in rw (x, z) put

-- after the last sub-frame
pub through-end : {A : Type 0} (z : A) (sh : Sheet) (xs : List A) {out : List A} {h : ℕ} → Through sh (part_unmapped z sh xs) out h 0 → subframes_of sh ≤ h → out ≡ gathered z sh xs
unfolding gathered unmapped_slots
through-end z sh xs {out} p l =
    sym (undone_again z sh out p.long)
    ∙ ap (undone_bits z sh) (assembled-same sh (slot_bits sh out) (part_unmapped z sh xs) (λ i j u v. p.done i j v (inl (omega arith))))

-- ---- slot after slot of a sub-frame, as the code lends them

-- before the first
pub slots_begin : {A : Type 0} (sh : Sheet) (g : ℕ → ℕ → List A) (out : List A) (h : ℕ) → Through sh g out h 0 → ThroughAt sh g out h 0 0
unfolding sum_to
slots_begin sh g out h p = record { some = omega arith; begins = refl; through = p }

module _ (sh : Sheet) {h t a : ℕ} (ea : a ≡ slot_start sh t) (m : h < subframes_of sh) (l : t < sh.slots) {most : ℕ} {s : Span} (p : Spans sh.phchs sh.caps t a most s)
    {w x y : ℕ} (ew : w ≡ places_all sh) (ex : x ≡ h * w + a) (ey : y ≡ h * w + s.end) where
  -- its part of the frame, from x up to y
  pub frame_ends : y ≤ capacity_all sh
  frame_ends = omega (arith, ap (λ (n : ℕ). h * n) ew, ea, p.end, slot-room sh t l h m)

  pub frame_lent : {A : Type 0} (xs : List A) → take (y - x) (drop x xs) ≡ slot_part sh h t xs
  unfolding slot_part
  frame_lent xs =
      let n : y - x ≡ slot_capacity sh t = omega (arith, p.end) in
      let e : x ≡ h * places_all sh + slot_start sh t = omega (arith, ap (λ (n : ℕ). h * n) ew, ea) in
      ap₂ (λ (u v : ℕ). take u (drop v xs)) n e

  -- what is undone of it
  pub slot_undone_lem : {A : Type 0} (z : A) (xs : List A) {r : Runs} → RunsAt sh t r
      → slot_undone (in_runs r.first r.other) (take (s.to - s.from) (drop s.from sh.caps)) z (take (y - x) (drop x xs)) ≡ part_unmapped z sh xs h t
  slot_undone_lem {A} z xs k =
      rw (caps_lent sh t ea p) (ap₂ (λ (B : ℕ → ℕ) (w : List A). slot_undone B (caps_of sh t) z w) (sym k.runs) (frame_lent xs))

-- one slot more, whose block was lent and came back as v
module _ {A : Type 0} (z : A) (sh : Sheet) (ok : Accepted sh) (xs : List A) {out : List A} {h t a : ℕ} (i : ThroughAt sh (part_unmapped z sh xs) out h t a)
    (m : h < subframes_of sh) (l : t < sh.slots) {most : ℕ} {s : Span} (p : Spans sh.phchs sh.caps t a most s)
    {w x y : ℕ} (ew : w ≡ places_all sh) (ex : x ≡ h * w + a) (ey : y ≡ h * w + s.end) where
  pub slots_through : {r : Runs} → RunsAt sh t r → {b : Block} → b ≡ slot_block sh h t → {n : ℕ} → n ≡ slot_capacity sh t → (v : List A)
      → length v ≡ length (block_in b out)
      → second_interleaved v
      ≡ put_mid b.at n (second_interleaved (block_in b out)) (slot_undone (in_runs r.first r.other) (take (s.to - s.from) (drop s.from sh.caps)) z (take (y - x) (drop x xs)))
      → ThroughAt sh (part_unmapped z sh xs) (put_mid b.from (b.to - b.from) out v) h (t + 1) s.end
  slots_through k {b} eb {n} en v nv e =
      let q = slot_undone_lem sh i.begins m l p ew ex ey z xs k in
      record {
        some = omega arith;
        begins = p.end ∙ sum_more (slot_capacity sh) t i.begins refl;
        through = through-turn i.through m l eb en v nv (long-taken z sh ok xs h t m l) refl (e ∙ ap (put_mid b.at n (second_interleaved (block_in b out))) q);
      }
