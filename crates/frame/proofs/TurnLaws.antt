-- How many bits each physical channel of a slot takes at its turn, and what step 9's code is asked for it.
use mathlib.Core.Path.{◌≡◌, refl, sym, ap, ap₂, ◌∙◌}
use mathlib.Core.Bool.{Bool, true, false, cond, not, ◌&&◌}
use mathlib.Core.Logic.{inl, inr, ⊎_elim}
use Prim.Native.Nat.{ℕ, ◌^◌, ◌≤◌, ◌<◌}
use native.Mathlib.Omega.{arith}
use borrow.Author.Tests.{eq-eqb, ne_eqb}
use lib.Dec.{eqb}
use lib.Pow.{pow_pos}
use Rattle.sheet.specs.Counts.{most_paired, most_log}
use Rattle.sheet.specs.Fields.{phchs_of, log_of}
use Rattle.sheet.specs.Range.{Accepted}
use Rattle.sheet.specs.declared.Sheet.{Sheet}
use Rattle.sheet.proofs.NumberLaws.{loads-zero, paired_of}
use Rattle.mapping.specs.Mapping.{ones, first_run, second_run, in_runs, Slot}
use Rattle.mapping.specs.Runs.{Short, Coded}
use Rattle.mapping.specs.declared.Runs.{Runs}
use Rattle.mapping.proofs.RunLaws.{runs-ones, in_runs-some, first-run-some, second-run-some}
use Rattle.frame.specs.Frame.{caps_of, paired_in, factor_of, runs_of}
use Rattle.frame.specs.Slots.{RunsAt}
use Rattle.frame.proofs.FrameLaws.{caps-length}

module _ (sh : Sheet) (t : ℕ) where
  -- where there is no uplink pair bits go one at a time, so in all of downlink
  pub turns-ones : paired_in sh t ≡ false → runs_of sh t ≡ ones
  unfolding runs_of
  turns-ones h = rw h

  pub turns_paired : paired_in sh t ≡ true
      → runs_of sh t ≡ in_runs (first_run (factor_of sh t 0) (factor_of sh t 1)) (second_run (factor_of sh t 0) (factor_of sh t 1))
  unfolding runs_of
  turns_paired h = rw h

  down_single : sh.uplink ≡ 0 → paired_in sh t ≡ false
  down_single z = ap (λ (b : Bool). not b && eqb (phchs_of sh t) most_paired) (eq-eqb sh.uplink 0 z)

  pub downlink_ones : sh.uplink ≡ 0 → runs_of sh t ≡ ones
  downlink_ones z = turns-ones (down_single z)

  -- a run is never empty
  pub runs-some : (p : ℕ) → 0 < runs_of sh t p
  unfolding runs_of
  runs-some p = by (paired_in sh t)
    where
      some : (q : ℕ) → 0 < factor_of sh t q
      some q = pow_pos (log_of sh t q)

      by : (b : Bool) → 0 < cond b (in_runs (first_run (factor_of sh t 0) (factor_of sh t 1)) (second_run (factor_of sh t 0) (factor_of sh t 1))) ones p
      by true = in_runs-some (first-run-some _ _ (some 0) (some 1)) (second-run-some _ _ (some 0) (some 1)) p
      by false = omega arith

  -- one bit at a time, in downlink and where there are not two
  turned_ones : paired_in sh t ≡ false → RunsAt sh t (record { first = 1; other = 1 })
  turned_ones h =
      record {
        runs = turns-ones h ∙ sym runs-ones;
        short = record { first = omega arith; other = omega arith; low = omega arith; little = omega arith };
        few = inr (refl, refl);
      }

  pub turned_down : sh.uplink ≡ 0 → RunsAt sh t (record { first = 1; other = 1 })
  turned_down z = turned_ones (down_single z)

  pub turned_single : (sh.uplink ≡ 0 → ⊥) → (phchs_of sh t ≡ most_paired → ⊥) → RunsAt sh t (record { first = 1; other = 1 })
  turned_single z h = turned_ones (ap₂ (λ (a b : Bool). not a && b) (ne_eqb sh.uplink 0 z) (ne_eqb (phchs_of sh t) most_paired h))

  -- two in uplink
  module _ (ok : Accepted sh) (l : t < sh.slots) (z : sh.uplink ≡ 0 → ⊥) (two : phchs_of sh t ≡ most_paired) {x y : ℕ} (ex : x ≡ log_of sh t 0)
      (ey : y ≡ log_of sh t 1) where
    pub logs_few : (x ≤ most_log) × (y ≤ most_log)
    logs_few =
        let b = (paired_of sh (loads-zero sh ok.loads).uplink z t l).1 in
        (omega (arith, b 0 (omega arith)), omega (arith, b 1 (omega arith)))

    pub turned_paired : {r : Runs} → r.first ≡ first_run (2 ^ x) (2 ^ y) → r.other ≡ second_run (2 ^ x) (2 ^ y) → Short r.first r.other → RunsAt sh t r
    turned_paired {r} ef es k =
        record {
          runs =
              turns_paired (ap₂ (λ (a b : Bool). not a && b) (ne_eqb sh.uplink 0 z) (eq-eqb (phchs_of sh t) most_paired two))
              ∙ sym (ap₂ in_runs (ef ∙ ap₂ (λ (a b : ℕ). first_run (2 ^ a) (2 ^ b)) ex ey) (es ∙ ap₂ (λ (a b : ℕ). second_run (2 ^ a) (2 ^ b)) ex ey));
          short = k;
          few = inl (omega arith);
        }

  -- what mapping the slot is asked
  pub turned_coded : Accepted sh → t < sh.slots → {r : Runs} → RunsAt sh t r → {n m : ℕ} → Slot (caps_of sh t) n m
      → Coded (caps_of sh t) r.first r.other n m
  turned_coded ok l k s =
      record { slot = s; few = ⊎_elim (λ h. inl (omega (arith, caps-length sh ok t l))) inr k.few; small = omega (arith, caps-length sh ok t l, ok.ranged.phch16 t l); runs = k.short }
