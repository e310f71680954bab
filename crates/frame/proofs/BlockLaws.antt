-- Laws of the blocks that step 8 interleaves together: where they lie, and what of them a slot has in a sub-frame.
use mathlib.Core.Path.{◌≡◌, ap, ap₂, ◌∙◌}
use mathlib.Core.Bool.{Bool, true, false, cond}
use mathlib.Core.List.{List}
use Prim.Native.Nat.{ℕ, ◌+◌, ◌*◌, ◌-◌, ◌≤◌, ◌<◌}
use native.Mathlib.Nat.{mul-add}
use native.Mathlib.Omega.{arith}
use lib.Dec.{eqb}
use lib.ListN.{length, take, drop}
use lib.Seq.{take_all}
use Rattle.laws.proofs.PartLaws.{part_length}
use Rattle.sheet.specs.Sizes.{slot_capacity, places_all, subframes_of, capacity_all}
use Rattle.sheet.specs.Range.{Accepted}
use Rattle.sheet.specs.declared.Sheet.{Sheet}
use Rattle.interleaving.specs.Second.{second_interleaved}
use Rattle.mapping.specs.Mapping.{in_runs, slot_of}
use Rattle.mapping.specs.declared.Runs.{Runs}
use Rattle.frame.specs.Frame.{slot_start, slot_part, slot_share, share_part, slot_bits, slot_mapped}
use Rattle.frame.specs.Slots.{Spans, RunsAt, block_of, slot_block}
use Rattle.frame.specs.declared.spreading.Block.{Block}
use Rattle.frame.specs.declared.spreading.Span.{Span}
use Rattle.frame.proofs.FrameLaws.{slot-room, share_room, share_part-room, length-slot-bits}
use Rattle.frame.proofs.SpreadLaws.{span_size, slot-made}

-- what a block has of the multiplexed elements
abbrev pub block_in : {A : Type 0} → Block → List A → List A
block_in b xs = take (b.to - b.from) (drop b.from xs)

-- it lies within them, and has what a slot of c places has of it
pub record Lies (all c : ℕ) (b : Block) : Type 0 where
  pub ordered : b.from ≤ b.to
  pub within : b.to ≤ all
  pub inside : b.at + c ≤ b.to - b.from

-- by whether all bits are interleaved together
abbrev pub block_by : Sheet → ℕ → ℕ → Bool → Block
block_by sh h t b =
    cond b
    (record { from = 0; to = subframes_of sh * places_all sh; at = h * places_all sh + slot_start sh t })
    (record { from = subframes_of sh * slot_start sh t; to = subframes_of sh * (slot_start sh t + slot_capacity sh t); at = h * slot_capacity sh t })

module _ (sh : Sheet) {h t : ℕ} (m : h < subframes_of sh) (l : t < sh.slots) {b : Block} (eb : b ≡ slot_block sh h t) where
  pub block_lies : Lies (capacity_all sh) (slot_capacity sh t) b
  unfolding slot_block block_of
  block_lies = rw eb (by (eqb sh.mode 0))
    where
      by : (z : Bool) → Lies (capacity_all sh) (slot_capacity sh t) (block_by sh h t z)
      by true = record { ordered = omega arith; within = omega arith; inside = omega (arith, slot-room sh t l h m) }
      by false =
          let e = mul-add (subframes_of sh) (slot_start sh t) (slot_capacity sh t) in
          record { ordered = omega arith; within = omega (arith, share_room sh t l); inside = omega (arith, share_part-room sh t l h m) }

  module _ {A : Type 0} (xs : List A) (full : length xs ≡ capacity_all sh) where
    pub block_long : length (block_in b xs) ≡ b.to - b.from
    block_long = let i = block_lies in part_length xs b.from b.to (omega arith) (omega arith)

    -- interleaved, it has the slot's bits from `at` on
    pub block_bits : {n : ℕ} → n ≡ slot_capacity sh t → take n (drop b.at (second_interleaved (block_in b xs))) ≡ slot_bits sh xs h t
    unfolding slot_block block_of slot_bits slot_part slot_share share_part
    block_bits en = rw (en, eb) (by (eqb sh.mode 0))
      where
        by : (z : Bool)
            → let c = block_by sh h t z in
            take (slot_capacity sh t) (drop c.at (second_interleaved (take (c.to - c.from) (drop c.from xs))))
            ≡ cond z (slot_part sh h t (second_interleaved xs)) (share_part sh h t (second_interleaved (slot_share sh t xs)))
        by true = ap (λ (ys : List A). take (slot_capacity sh t) (drop (h * places_all sh + slot_start sh t) (second_interleaved ys))) (take_all (capacity_all sh - 0) xs (omega arith))
        by false =
            let e : subframes_of sh * (slot_start sh t + slot_capacity sh t) - subframes_of sh * slot_start sh t ≡ subframes_of sh * slot_capacity sh t = omega (arith, mul-add (subframes_of sh) (slot_start sh t) (slot_capacity sh t)) in
            rw e

-- the block by the numbers that the code has
module _ (sh : Sheet) (t : ℕ) {a : ℕ} (ea : a ≡ slot_start sh t) {most : ℕ} {s : Span} (p : Spans sh.phchs sh.caps t a most s) (h : ℕ) {k w : ℕ} {b : Block}
    (ek : k ≡ subframes_of sh) (ew : w ≡ places_all sh) (eb : b ≡ block_of sh.mode k h w a (s.end - a)) where
  pub block_is : b ≡ slot_block sh h t
  unfolding slot_block
  block_is =
      eb
      ∙ ap₂ (λ (x y : ℕ). block_of sh.mode x h y a (s.end - a)) ek ew
      ∙ ap₂ (block_of sh.mode (subframes_of sh) h (places_all sh)) ea (span_size sh t ea p)

  -- steps 8 and 9: what is made of the slot's bits, whatever stood at its places
  pub slot-spread : Accepted sh → h < subframes_of sh → t < sh.slots → {r : Runs} → RunsAt sh t r
      → (bits out : List ℕ) → length bits ≡ capacity_all sh → length out ≡ slot_capacity sh t → {n : ℕ} → n ≡ slot_capacity sh t → {y : List ℕ}
      → y ≡ slot_of (in_runs r.first r.other) (take (s.to - s.from) (drop s.from sh.caps)) (take n (drop b.at (second_interleaved (block_in b bits)))) out
      → y ≡ slot_mapped sh t (slot_bits sh bits h t)
  slot-spread ok m l k bits out full room en e =
      let q = block_bits sh m l block_is bits full en in
      slot-made sh t ea p ok l k _ out (ap length q ∙ length-slot-bits sh bits full h t m l) room e ∙ ap (slot_mapped sh t) q
