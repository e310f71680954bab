-- Where no bit has two copies, each value was heard alone: the link record is that of the values, with the number of bits that were dropped.
use mathlib.Core.Path.{◌≡◌, refl, sym, ap, ap₂, ◌∙◌}
use mathlib.Core.Bool.{Bool, true, false, false≢true}
use mathlib.Core.List.{List, [], ◌∷◌, map}
use mathlib.Core.Logic.{◌⊎◌, inl, inr}
use Prim.Native.Nat.{ℕ, zero, suc, ◌+◌, ◌*◌, ◌-◌, ◌≤◌}
use native.Mathlib.Nat.{zero-lt-suc}
use native.Mathlib.Omega.{arith}
use lib.IntN.{pos, +ℤ_invr}
use lib.ListN.{length, take, drop, length-drop}
use lib.Ieee.{Float}
use Rattle.laws.specs.Sums.{sum_to}
use Rattle.matching.specs.Signed.{signed_by}
use Rattle.pattern.specs.Pattern.{copies_at, after, copies_from, shared_from, Segment}
use Rattle.pattern.proofs.MatchedLaws.{Differs, differs}
use Rattle.pattern.proofs.WalkLaws.{first-apart}
use Rattle.pattern.proofs.SegmentLaws.{sized_same, sized_copies}
use Rattle.joining.specs.declared.Heard.{Heard}
use Rattle.joining.specs.declared.Heard.TheVariants.{Once}
use Rattle.joining.specs.declared.linking.Link.{Link}
use Rattle.joining.specs.Joining.{raw_of, clipped, clipped_of, join_of, heard_of}
use Rattle.joining.specs.Linked.{magnitude_of, magnitudes, punctures, link_of}
use Rattle.joining.proofs.HomeLaws.{heard_by, heard-same}
use Rattle.joining.proofs.HeardLaws.{unheard-all}
use Rattle.joining.proofs.LinkLaws.{made}

-- a bit of one copy, or of none
once_first : (c : ℕ) (vs : List Float) (hs : List Heard) → c ≤ 1 → c ≤ length vs → magnitudes hs ≡ magnitudes (map Once (map clipped (drop c vs)))
    → magnitudes (join_of (take c vs) ∷ hs) ≡ magnitudes (map Once (map clipped vs))
unfolding raw_of clipped_of join_of magnitudes
once_first zero vs hs h k q = q
once_first (suc zero) [] hs h k q = absurd (omega arith)
once_first (suc zero) (v ∷ vs) hs h k q = ap (λ (l : List Float). magnitude_of (clipped v) ∷ l) q
once_first (suc (suc c)) vs hs h k q = absurd (omega arith)

once_from : (P D e n : ℕ) (vs : List Float) → sum_to (copies_from true P D e) n ≡ length vs
    → magnitudes (map join_of (shared_from true P D e n vs)) ≡ magnitudes (map Once (map clipped vs))
unfolding sum_to shared_from
once_from P D e zero [] h = refl
once_from P D e zero (v ∷ vs) h = absurd (omega arith)
once_from P D e (suc n) vs h =
    let c = copies_at true P D e in
    let a = first-apart true P D e n in
    once_first c vs (map join_of (shared_from true P D (after true P D e) n (drop c vs))) (omega arith) (omega arith)
    (once_from P D (after true P D e) n (drop c vs) (rw length-drop (omega arith)))

module _ (less : Bool) (m N e : ℕ) (vs : List Float) (s : Segment less m N (length vs) e) (h : (less ≡ true) ⊎ (m ≡ 0)) where
  once_magnitudes : magnitudes (heard_of (signed_by less m) N e vs) ≡ magnitudes (map Once (map clipped vs))
  once_magnitudes = go less m s h
    where
      go : (less : Bool) (m : ℕ) → Segment less m N (length vs) e → (less ≡ true) ⊎ (m ≡ 0)
          → magnitudes (heard_of (signed_by less m) N e vs) ≡ magnitudes (map Once (map clipped vs))
      go less zero s h = ap magnitudes (heard-same less 0 N e vs refl (sized_same less 0 N (length vs) e s refl))
      go true (suc a) s h =
          ap magnitudes (heard_by true (suc a) N e vs (λ q. zero-lt-suc a))
          ∙ once_from (2 * N) (2 * suc a) e N vs (sized_copies true (suc a) N (length vs) e s (λ q. zero-lt-suc a))
      go false (suc a) s (inl z) = absurd (false≢true z)
      go false (suc a) s (inr z) = absurd (omega arith)

  sized : N ≡ length vs + m
  sized = go less m h (differs (signed_by less m) N (length vs) e s.rates)
    where
      go : (less : Bool) (m : ℕ) → (less ≡ true) ⊎ (m ≡ 0) → Differs (signed_by less m) N (length vs) → N ≡ length vs + m
      go false zero h q = omega arith
      go true zero h q = omega arith
      go true (suc a) h q = omega arith
      go false (suc a) (inl z) q = absurd (false≢true z)
      go false (suc a) (inr z) q = absurd (omega arith)

  once_dropped : punctures (heard_of (signed_by less m) N e vs) ≡ m
  once_dropped = let q : N - length vs ≡ m = omega (arith, sized) in unheard-all (signed_by less m) N e vs s.rates ∙ q

  -- as of so many bits, each sent once
  pub alone : Segment false 0 (length vs) (length vs) 1
  alone =
      record {
        few = omega (arith, s.few, sized);
        most = omega arith;
        rates = record { change = sym (+ℤ_invr (pos (length vs))); empty = λ z. z; start = λ a b. absurd (omega arith) };
      }

  -- l is the record of those
  pub link_alone : {l : Link} → l ≡ link_of (heard_of (signed_by false 0) (length vs) 1 vs)
      → ◌≡◌ {A = Link} (record { least = l.least; greatest = l.greatest; punctured = m }) (link_of (heard_of (signed_by less m) N e vs))
  unfolding link_of
  link_alone q =
      ap {B = Link} (λ (l : Link). record { least = l.least; greatest = l.greatest; punctured = m }) (q ∙ ap link_of (heard-same false 0 (length vs) 1 vs refl refl))
      ∙ sym (ap₂ made once_magnitudes once_dropped)
