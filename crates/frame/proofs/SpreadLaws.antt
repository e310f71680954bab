-- Laws of the code's loops: parts one after the other, one more of them written, and what it lends of a slot.
use mathlib.Core.Path.{◌≡◌, refl, sym, ap, ap₂, ◌∙◌}
use mathlib.Core.List.{List}
use Prim.Native.Nat.{ℕ, ◌+◌, ◌-◌, ◌≤◌, ◌<◌}
use native.Mathlib.Omega.{arith}
use borrow.Rule.Slice.PartMut.{put_mid}
use lib.ListN.{length, take, drop}
use Rattle.laws.specs.Sums.{sum_to}
use Rattle.laws.specs.Joined.{joined}
use Rattle.laws.proofs.SumLaws.{sum_more, sum-within}
use Rattle.laws.proofs.FallLaws.{part_ends}
use Rattle.laws.proofs.PartLaws.{part_length}
use Rattle.laws.proofs.LaidLaws.{laid_none, laid-joined, laid-long, laid-all}
use Rattle.sheet.specs.Fields.{phchs_of}
use Rattle.sheet.specs.Sizes.{slot_capacity, places_all, subframes_of, capacity_all}
use Rattle.sheet.specs.Range.{Accepted}
use Rattle.sheet.specs.declared.Sheet.{Sheet}
use Rattle.sheet.proofs.SizeLaws.{some-subframe}
use Rattle.mapping.specs.Mapping.{at, in_runs, slot_of}
use Rattle.mapping.specs.Runs.{Coded}
use Rattle.mapping.specs.declared.Runs.{Runs}
use Rattle.mapping.proofs.MappedLaws.{mapped_over}
use Rattle.frame.specs.Frame.{caps_of, runs_of, slot_start, slot_mapped}
use Rattle.frame.specs.Slots.{Spanned, Spans, RunsAt, Partwise}
use Rattle.frame.specs.declared.spreading.Span.{Span}
use Rattle.frame.proofs.FrameLaws.{caps-size}
use Rattle.frame.proofs.TurnLaws.{runs-some, turned_coded}

-- ---- parts one after the other: what a loop holds

-- before the first
pub parts_start : {A : Type 0} (c : ℕ → ℕ) (n : ℕ) (made : ℕ → List A) (o : List A) → length o ≡ sum_to c n → {x : ℕ} → x ≡ 0 → Partwise c n made o o 0 x
unfolding sum_to joined
parts_start c n made o full {x} z = rw z (record { some = omega arith; begins = refl; full = full; long = refl; laid = laid_none o })

module _ {A : Type 0} {c : ℕ → ℕ} {n : ℕ} {made : ℕ → List A} {o out : List A} {i x : ℕ} (h : Partwise c n made o out i x) where
  -- the next one, from x up to z, lies within the list; it was lent, and came back as y
  module _ (l : i < n) {z : ℕ} (ez : z ≡ x + c i) where
    pub next-within : z ≤ length out
    next-within = omega (arith, h.begins, h.full, h.long, sum-within c i n l)

    pub next-long : length (take (z - x) (drop x out)) ≡ c i
    next-long = part_length out x z (omega arith) next-within ∙ omega arith

    pub parts_turn : {j : ℕ} → j ≡ i + 1 → {y : List A} → length y ≡ length (take (z - x) (drop x out)) → y ≡ made i
        → Partwise c n made o (put_mid x (z - x) out y) j z
    parts_turn {j} ej {y} m e =
        let d = laid-joined made o out x z i h.laid (omega arith) (m ∙ part_length out x z (omega arith) next-within) e in
        rw ej
        (record {
          some = omega arith;
          begins = ez ∙ sum_more c i h.begins refl;
          full = h.full;
          long = laid-long o _ z _ d (omega (arith, h.long, next-within));
          laid = d;
        })

  -- after the last
  pub parts_end : n ≤ i → out ≡ joined made n
  parts_end l =
      let e : i ≡ n = omega (arith, h.some) in
      laid-all o out x _ h.laid (h.begins ∙ ap (sum_to c) e ∙ sym h.full) ∙ ap (joined made) e

-- ---- a slot as the code lends it

-- a frame has a sub-frame at least
pub places-within : (sh : Sheet) → places_all sh ≤ capacity_all sh
places-within sh = omega (arith, part_ends 0 (subframes_of sh) (places_all sh) (some-subframe sh))

module _ (sh : Sheet) (t : ℕ) {a : ℕ} (ea : a ≡ slot_start sh t) where
  -- what is asked of its span
  pub span_asks : Accepted sh → t < sh.slots → {most : ℕ} → places_all sh ≤ most → Spanned sh.phchs sh.caps t a most
  span_asks ok l b =
      record {
        slot = omega (arith, ok.ranged.few_slots);
        codes = ok.ranged.phch16 t l;
        room = omega (arith, ea, sum-within (slot_capacity sh) t sh.slots l);
      }

  module _ {most : ℕ} {s : Span} (p : Spans sh.phchs sh.caps t a most s) where
    pub span_size : s.end - a ≡ slot_capacity sh t
    span_size = omega (arith, p.end)

    pub caps_lent : take (s.to - s.from) (drop s.from sh.caps) ≡ caps_of sh t
    unfolding caps_of
    caps_lent =
        let e : s.to - s.from ≡ phchs_of sh t = omega (arith, p.to, p.from) in
        ap₂ (λ (x y : ℕ). take x (drop y sh.caps)) e p.from

    -- step 9: what is asked of the slot, and what is made of its bits, whatever stood at its places
    module _ (ok : Accepted sh) (l : t < sh.slots) {r : Runs} (k : RunsAt sh t r) where
      pub slot-fits : {n m : ℕ} → n ≡ slot_capacity sh t → m ≡ slot_capacity sh t
          → Coded (take (s.to - s.from) (drop s.from sh.caps)) r.first r.other n m
      slot-fits en em =
          let z = sym (caps-size sh ok t l) in
          rw caps_lent (turned_coded sh t ok l k (record { bits = en ∙ z; room = em ∙ z }))

      pub slot-made : (bits out : List ℕ) → length bits ≡ slot_capacity sh t → length out ≡ slot_capacity sh t → {y : List ℕ}
          → y ≡ slot_of (in_runs r.first r.other) (take (s.to - s.from) (drop s.from sh.caps)) bits out
          → y ≡ slot_mapped sh t bits
      slot-made bits out n m {y} e =
          let z = sym (caps-size sh ok t l) in
          let q : y ≡ slot_of (runs_of sh t) (caps_of sh t) bits out = rw (caps_lent, ← k.runs) at e in
          q ∙ mapped_over (at (caps_of sh t)) (runs_of sh t) (length (caps_of sh t)) (λ j h. runs-some sh t j) 0 bits out bits (n ∙ z) (m ∙ z) (n ∙ z)
