-- A slot of at most two PhCHs is the slot of its pair, and stands once every line is copied.
use Rattle.std.proofs.Common.{◌≡◌, ℕ, zero, suc, ◌+◌, ◌<◌, ◌≤◌, List, length, get_or, sym, refl, arith}
use mathlib.Core.Path.{fun_ext}
use lib.ListN.{get_or-eq_default}
use Rattle.laws.specs.Sums.{sum_to}
use Rattle.mapping.specs.declared.pairs.Pair.{Pair}
use Rattle.mapping.specs.Mapping.{place, number_of, in_runs, at, slot_size, slot_of, slot_undone}
use Rattle.mapping.specs.Settled.{Settled}
use Rattle.mapping.specs.Pairs.{caps_in, runs_in, lines, PairOf}
use Rattle.mapping.proofs.TurnLaws.{place_gets, place_of-number}
use Rattle.mapping.proofs.MappedLaws.{Stands, mapped_only, unmapped_only}
use Rattle.mapping.proofs.LineLaws.{Stood, On, pair_runs, pair_total}
use Rattle.mapping.proofs.PairLaws.{line-few}

-- a slot of fewer PhCHs is one of two that has no bits in the others
fewer-number : (U B : ℕ → ℕ) (P p x : ℕ) → P ≤ 2 → ((q : ℕ) → P ≤ q → U q ≡ 0) → p < P → number_of U B 2 p x ≡ number_of U B P p x
unfolding number_of sum_to
fewer-number U B zero p x f n h = absurd (omega arith)
fewer-number U B (suc zero) zero x f n h = omega (arith, n 1 (omega arith))
fewer-number U B (suc zero) (suc p) x f n h = absurd (omega arith)
fewer-number U B (suc (suc zero)) p x f n h = refl
fewer-number U B (suc (suc (suc P))) p x f n h = absurd (omega arith)

fewer-total : (U : ℕ → ℕ) (P : ℕ) → P ≤ 2 → ((q : ℕ) → P ≤ q → U q ≡ 0) → sum_to U P ≡ U 0 + U 1
unfolding sum_to
fewer-total U zero f n = omega (arith, n 0 (omega arith), n 1 (omega arith))
fewer-total U (suc zero) f n = omega (arith, n 1 (omega arith))
fewer-total U (suc (suc zero)) f n = omega arith
fewer-total U (suc (suc (suc P))) f n = absurd (omega arith)

module _ {caps : List ℕ} {b c : ℕ} {t : Pair} (g : PairOf caps b c t) (few : length caps ≤ 2) where
  none : (q : ℕ) → length caps ≤ q → at caps q ≡ 0
  none q l = get_or-eq_default caps 0 l

  same : (q : ℕ) → caps_in t q ≡ at caps q
  same zero = g.first
  same (suc zero) = g.second
  same (suc (suc q)) = sym (none (suc (suc q)) (omega arith))

  pub slot-total : slot_size caps ≡ t.u + t.v
  slot-total = omega (arith, fewer-total (at caps) (length caps) few none, g.first, g.second)

  -- every line is copied
  module _ {A : Type 0} {d : A} {bits w : List A} {j : ℕ} (o : Stood t d bits (On t j) w) (all : lines t ≤ j) where
    stands : Stands (at caps) (in_runs b c) (length caps) d bits w
    stands p x h l =
        let U = caps_in t in
        let B = runs_in t in
        let run = pair_runs g.fit in
        let h' : p < 2 = omega arith in
        let l' : x < U p = rw (same p) l in
        let k = number_of U B 2 p x in
        let i : k < t.u + t.v = rw (← pair_total g.fit) (place_gets U B 2 run p x h' l').0 in
        let s : get_or w (place U p x) d ≡ get_or bits k d =
        rw (place_of-number U B 2 run p x h' l') at (o.stands k i (omega (arith, line-few g.fit k))) in
        rw (fun_ext same, g.run, g.other, fewer-number (at caps) (in_runs b c) (length caps) p x few none h) at s

    pub pair_settled : Settled (in_runs b c) caps d bits w
    pair_settled = record { count = rw slot-total o.count; room = rw slot-total o.room; stands = stands }

-- what is settled is the slot of its bits, and these are its undoing
module _ {A : Type 0} {B : ℕ → ℕ} {caps : List ℕ} {d : A} {bits w : List A} (s : Settled B caps d bits w) (some : (q : ℕ) → q < length caps → 0 < B q) where
  pub settled_slot : (v : List A) → length v ≡ slot_size caps → w ≡ slot_of B caps bits v
  settled_slot v m = mapped_only (at caps) B (length caps) some d bits v s.count m w s.room s.stands

  pub settled_bits : bits ≡ slot_undone B caps d w
  settled_bits = unmapped_only (at caps) B (length caps) some d bits w s.count s.room s.stands
