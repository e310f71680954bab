-- The test of a place is true exactly where the place exists.
use mathlib.Core.Path.{◌≡◌}
use mathlib.Core.Logic.{◌↔◌}
use mathlib.Core.Bool.{Bool, true, ◌&&◌}
use Prim.Native.Nat.{ℕ, ◌-◌}
use Rattle.counters.specs.Counting.{among}
use Rattle.counters.proofs.CountLaws.{both_true, among_true, true_among}
use Rattle.sheet.specs.Fields.{phchs_of, capacity_of}
use Rattle.sheet.specs.Sizes.{subframes_of}
use Rattle.sheet.specs.declared.Sheet.{Sheet}
use Rattle.naming.specs.Name.{has_place, Exists}

-- the tests from the physical channel on, and from the slot on
abbrev in_phch : Sheet → ℕ → ℕ → ℕ → Bool
in_phch sh slot phch place = among phch (phchs_of sh (slot - 1)) && among place (capacity_of sh (slot - 1) (phch - 1))

abbrev in_slot : Sheet → ℕ → ℕ → ℕ → Bool
in_slot sh slot phch place = among slot sh.slots && in_phch sh slot phch place

module _ (sh : Sheet) (subframe slot phch place : ℕ) where
  -- the test is true exactly where the place exists
  pub exists : (has_place sh subframe slot phch place ≡ true) ↔ Exists sh subframe slot phch place
  unfolding has_place
  exists = (there, test)
    where
      there : (among subframe (subframes_of sh) && in_slot sh slot phch place) ≡ true → Exists sh subframe slot phch place
      there h =
          let z = both_true (among subframe (subframes_of sh)) (in_slot sh slot phch place) h in
          let a = both_true (among slot sh.slots) (in_phch sh slot phch place) z.1 in
          let b = both_true (among phch (phchs_of sh (slot - 1))) (among place (capacity_of sh (slot - 1) (phch - 1))) a.1 in
          let f = among_true subframe (subframes_of sh) z.0 in
          let s = among_true slot sh.slots a.0 in
          let p = among_true phch (phchs_of sh (slot - 1)) b.0 in
          let e = among_true place (capacity_of sh (slot - 1) (phch - 1)) b.1 in
          record {
            subframe-from = f.0;
            subframe-to = f.1;
            slot-from = s.0;
            slot-to = s.1;
            phch-from = p.0;
            phch-to = p.1;
            place-from = e.0;
            place-to = e.1;
          }

      test : Exists sh subframe slot phch place → has_place sh subframe slot phch place ≡ true
      test x =
          rw (
            true_among subframe (subframes_of sh) x.subframe-from x.subframe-to,
            true_among slot sh.slots x.slot-from x.slot-to,
            true_among phch (phchs_of sh (slot - 1)) x.phch-from x.phch-to,
            true_among place (capacity_of sh (slot - 1) (phch - 1)) x.place-from x.place-to,
          )
