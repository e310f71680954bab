-- Laws of a slot of three PhCHs of one capacity: where its bits go, and how a bit is put.
use Rattle.std.proofs.Common.{◌≡◌, ℕ, ◌+◌, ◌-◌, ◌*◌, ◌/◌, ◌%◌, ◌<◌, ◌≤◌, min, List, length, get_or, set, sym, refl, ap, ◌∙◌, ap₂, ⊎_elim, add-one, arith, length-set, drop_of_length-le, drop-cons}
use Rattle.laws.specs.Sums.{sum_to}
use Rattle.sheet.specs.Counts.{most_bits}
use Rattle.interleaving.specs.Columns.{height}
use Rattle.interleaving.specs.Second.{second_interleaved, comes_from}
use Rattle.interleaving.proofs.SecondLaws.{second_at, second-length}
use Rattle.interleaving.proofs.WholeLaws.{down-here, down-next}
use Rattle.mapping.specs.declared.rounds.Hands.{Hands}
use Rattle.mapping.specs.Mapping.{place, run, mapped, before, place_of, number_of, ones, in_runs, at, slot_size, slot_of}
use Rattle.mapping.specs.Runs.{Coded}
use Rattle.mapping.specs.Lines.{part_from}
use Rattle.mapping.specs.Rounds.{Threefold, goes, left_from, Hand, Handed, handed_on, Facing, Carried}
use Rattle.mapping.proofs.PlaceLaws.{pos_up, pos_down}
use Rattle.mapping.proofs.RunLaws.{one-runs}
use Rattle.mapping.proofs.AloneLaws.{part-whole}
use Rattle.mapping.proofs.TurnLaws.{number-ones, place_of-number, place_of-within}

-- ---- where bits go

module _ (U : ℕ → ℕ) (b : U 1 ≡ U 0) (c : U 2 ≡ U 0) (x : ℕ) (l : x < U 0) where
  number-first : number_of U ones 3 0 x ≡ 3 * x + 0
  unfolding sum_to
  number-first = omega (arith, number-ones U 3 0 x, b, c)

  number-second : number_of U ones 3 1 x ≡ 3 * x + 1
  unfolding sum_to
  number-second = omega (arith, number-ones U 3 1 x, b, c)

  number-third : number_of U ones 3 2 x ≡ 3 * x + 2
  unfolding sum_to
  number-third = omega (arith, number-ones U 3 2 x, b, c)

  some : (q : ℕ) → q < 3 → 0 < ones q
  some q h = omega arith

  first_goes : place_of U ones 3 (3 * x + 0) ≡ x
  unfolding place sum_to
  first_goes = ap (place_of U ones 3) (sym number-first) ∙ place_of-number U ones 3 some 0 x (omega arith) l ∙ omega (arith, pos_up (U 0) 0 x refl)

  second-goes : place_of U ones 3 (3 * x + 1) ≡ 2 * U 0 - (x + 1)
  unfolding place sum_to
  second-goes =
      ap (place_of U ones 3) (sym number-second) ∙ place_of-number U ones 3 some 1 x (omega arith) (omega (arith, b))
      ∙ omega (arith, b, pos_down (U 1) 1 x (λ e. omega arith))

  third-goes : place_of U ones 3 (3 * x + 2) ≡ 2 * U 0 + x
  unfolding place sum_to
  third-goes =
      ap (place_of U ones 3) (sym number-third) ∙ place_of-number U ones 3 some 2 x (omega arith) (omega (arith, c))
      ∙ omega (arith, b, c, pos_up (U 2) 2 x refl)

module _ {caps : List ℕ} (e : Threefold caps) where
  threefold_size : slot_size caps ≡ 3 * at caps 0
  unfolding sum_to
  threefold_size = rw e.three (omega (arith, e.second, e.third))

  -- the hand of a PhCH whose bit x goes to f x
  hand_of : (p place way : ℕ) (f : ℕ → ℕ) → p < 3 → ((x : ℕ) → x < at caps 0 → place_of (at caps) ones 3 (3 * x + p) ≡ f x) → (0 < at caps 0 → place ≡ f 0)
      → ((x : ℕ) → x + 1 < at caps 0 → (f x + way) % 18446744073709551616 ≡ f (x + 1)) → Hand caps p place way
  hand_of p place way f h g z n = record {
    here = λ l.
        let i : 0 < at caps 0 = omega (arith, threefold_size) in
        let q : 3 * 0 + p ≡ p = omega arith in
        rw e.three (z i ∙ sym (g 0 i) ∙ ap (place_of (at caps) ones 3) q);
    on = λ j m l.
        let x = j / 3 in
        let q : 3 * x + p ≡ j = omega (arith, m) in
        let r : 3 * (x + 1) + p ≡ j + 3 = omega (arith, m) in
        let i : x + 1 < at caps 0 = omega (arith, threefold_size, q) in
        rw e.three
        (ap (λ (k : ℕ). (k + way) % 18446744073709551616) (ap (place_of (at caps) ones 3) (sym q) ∙ g x (omega (arith, i)))
        ∙ n x i
        ∙ sym (g (x + 1) i)
        ∙ ap (place_of (at caps) ones 3) r);
  }

  -- before the first bit
  pub handed_starts : {h : Hands} {u : ℕ} → u ≡ at caps 0 → u < 65536 → h.k ≡ 0 → (h.a ≡ 0) × (h.wa ≡ 1)
      → (h.b ≡ 2 * u - min u 1) × ((h.wb + 1) % 18446744073709551616 ≡ 0) → (h.c ≡ 2 * u) × (h.wc ≡ 1) → Handed caps h
  handed_starts z s k a b c = rw k (record {
    first = hand_of 0 _ _ (λ x. x) (omega arith) (first_goes (at caps) e.second e.third) (λ i. a.0) (λ x i. omega (arith, a, z));
    second = hand_of 1 _ _ (λ x. 2 * at caps 0 - (x + 1)) (omega arith) (second-goes (at caps) e.second e.third) (λ i. omega (arith, b, z)) (λ x i. omega (arith, b, z));
    third = hand_of 2 _ _ (λ x. 2 * at caps 0 + x) (omega arith) (third-goes (at caps) e.second e.third) (λ i. omega (arith, c, z)) (λ x i. omega (arith, c, z));
  })

-- its next bit
hand_next : {caps : List ℕ} {k place way : ℕ} → Hand caps k place way → Hand caps (k + 3) ((place + way) % 18446744073709551616) way
hand_next {k = k} {way = way} h = record {
  here = λ l. ap (λ (n : ℕ). (n + way) % 18446744073709551616) (h.here (omega arith)) ∙ h.on k refl l;
  on = λ j m. h.on j (omega (arith, m));
}

handed_next : {caps : List ℕ} (h : Hands) → Handed caps h → Handed caps (handed_on h)
handed_next h g =
    let q : h.k + 1 + 1 ≡ h.k + 2 = omega arith in
    let r : h.k + 1 + 2 ≡ h.k + 3 = omega arith in
    record { first = g.second; second = rw q g.third; third = rw r (hand_next g.first) }

-- ---- what is left to put

module _ {A : Type 0} (caps : List ℕ) (bits : List A) where
  left-all : (w : List A) → slot_of ones caps bits w ≡ left_from caps bits 0 w
  unfolding mapped before
  left-all w = refl

  left-none : (k : ℕ) (w : List A) → length bits ≤ k → left_from caps bits k w ≡ w
  unfolding run
  left-none k w h = rw (drop_of_length-le bits h) refl

  left-next : (k : ℕ) (w : List A) (d : A) → k < length bits → left_from caps bits k w ≡ left_from caps bits (k + 1) (set w (goes caps k) (get_or bits k d))
  unfolding run before place_of
  left-next k w d h = rw (add-one k, drop-cons bits k d h) refl

-- ---- down a column

pub carried_none : {A : Type 0} {caps : List ℕ} {h : Hands} (bits w : List A) → Handed caps h → Carried caps bits h w h w
carried_none bits w g = record { hands = g; long = refl; left = refl }

pub carried_on : {A : Type 0} {caps : List ℕ} {bits w u v : List A} {h g r : Hands} → Carried caps bits h w g u → Carried caps bits g u r v → Carried caps bits h w r v
carried_on a b = record { hands = b.hands; long = b.long ∙ a.long; left = a.left ∙ b.left }

-- before element `from`, of those from c on
pub record Dealing {A : Type 0} (caps : List ℕ) (bits : List A) (c : ℕ) (h : Hands) (w : List A) (from : ℕ) (g : Hands) (u : List A) : Type 0 where
  pub facing : Facing caps (length bits) (length u) from g
  pub carried : Carried caps (second_interleaved bits) h w g u
  pub ahead : g.k + height 30 (length bits) from ≡ h.k + height 30 (length bits) c

pub dealing_starts : {A : Type 0} {caps : List ℕ} {bits w : List A} {c : ℕ} {h : Hands} → Facing caps (length bits) (length w) c h → Dealing caps bits c h w c h w
dealing_starts {bits = bits} {w} f = record { facing = f; carried = carried_none (second_interleaved bits) w f.hands; ahead = refl }

module _ {A : Type 0} {caps : List ℕ} {bits w : List A} {c : ℕ} {h : Hands} {from : ℕ} {g : Hands} {u : List A} (o : Dealing caps bits c h w from g u) where
  pub dealing_near : (from ≤ length bits + 30) × (g.k ≤ length bits) × (length bits ≤ most_bits)
  dealing_near = let d = o.facing.down in omega (arith, d.near, d.inside, d.most)

  pub dealing_ends : length bits ≤ from → (g.k ≡ h.k + height 30 (length bits) c) × Carried caps (second_interleaved bits) h w g u
  dealing_ends l = (omega (arith, o.ahead), o.carried)

  module _ (l : from < length bits) where
    bit : (g.k < length bits) × (comes_from (length bits) g.k ≡ from)
    bit = down-here o.facing.down l

    goes-there : g.a ≡ goes caps g.k
    goes-there = o.facing.hands.first.here (omega (arith, bit.0, o.facing.slot.bits))

    -- what the next put asks
    pub dealing_ready : (from < length bits) × (g.a < length u) × (g.k + 1 < 18446744073709551616)
    dealing_ready = (
      l,
      omega (arith, goes-there, o.facing.slot.room, place_of-within (at caps) ones (length caps) (λ q z. omega arith) g.k (omega (arith, bit.0, o.facing.slot.bits))),
      omega (arith, dealing_near),
    )

    pub dealing_next : {r : Hands} {v : List A} {to : ℕ} (d : A) → r ≡ handed_on g → v ≡ set u g.a (get_or bits from d) → to ≡ from + 30
        → Dealing caps bits c h w to r v
    dealing_next {r} {v} d e z t =
        let S = second_interleaved bits in
        let n : length v ≡ length u = ap length z ∙ length-set u g.a (get_or bits from d) in
        let x : get_or bits from d ≡ get_or S g.k d = ap (λ (i : ℕ). get_or bits i d) (sym bit.1) ∙ sym (second_at bits g.k d bit.0) in
        let y : v ≡ set u (goes caps g.k) (get_or S g.k d) = z ∙ ap₂ (λ (i : ℕ) (b : A). set u i b) goes-there x in
        let k : g.k < length S = omega (arith, bit.0, second-length bits) in
        rw (e, t) (record {
          facing =
              record {
                slot = rw n o.facing.slot;
                hands = handed_next g o.facing.hands;
                down = down-next o.facing.down l;
              };
          carried =
              record {
                hands = handed_next g o.facing.hands;
                long = n ∙ o.carried.long;
                left = o.carried.left ∙ left-next caps S g.k u d k ∙ ap (left_from caps S (g.k + 1)) (sym y);
              };
          ahead = omega (arith, o.ahead);
        })

-- three more, one after the other
module _ {A : Type 0} {caps : List ℕ} {bits w : List A} {c : ℕ} {h : Hands} {from : ℕ} {g : Hands} {u : List A} (o : Dealing caps bits c h w from g u) (l : from + 60 < length bits) (d : A)
    {r : Hands} {v : List A} (e : r ≡ handed_on g) (z : v ≡ set u g.a (get_or bits from d)) where
  one : Dealing caps bits c h w (from + 30) r v
  one = dealing_next o (omega arith) d e z refl

  pub dealing_second : (from + 30 < length bits) × (r.a < length v) × (r.k + 1 < 18446744073709551616)
  dealing_second = dealing_ready one (omega arith)

  module _ {s : Hands} {x : List A} (e' : s ≡ handed_on r) (z' : x ≡ set v r.a (get_or bits (from + 30) d)) where
    two : Dealing caps bits c h w (from + 60) s x
    two = dealing_next one (omega arith) d e' z' (omega arith)

    pub dealing_third : (from + 60 < length bits) × (s.a < length x) × (s.k + 1 < 18446744073709551616)
    dealing_third = dealing_ready two l

    pub dealing_round : {q : Hands} {y : List A} {to : ℕ} → q ≡ handed_on s → y ≡ set x s.a (get_or bits (from + 60) d) → to ≡ from + 90 → Dealing caps bits c h w to q y
    dealing_round f n t = dealing_next two l d f n (omega (arith, t))

-- all bits are put
pub carried_all : {A : Type 0} {caps : List ℕ} (bits : List A) {h r : Hands} {w v : List A} → Carried caps (second_interleaved bits) h w r v → h.k ≡ 0 → length bits ≤ r.k
    → v ≡ slot_of ones caps (second_interleaved bits) w
carried_all {caps = caps} bits {h} {r} {w} {v} o z l =
    let S = second_interleaved bits in
    sym (left-none caps S r.k v (omega (arith, l, second-length bits)))
    ∙ sym o.left
    ∙ ap (λ (k : ℕ). left_from caps S k w) z
    ∙ sym (left-all caps S w)

-- a slot of three has no other runs
pub threefold_slot : {A : Type 0} {caps : List ℕ} {b c n m : ℕ} → Threefold caps → Coded caps b c n m → (S w : List A) (at : ℕ) → at + length w ≤ length S → length w ≡ length S
    → slot_of ones caps S w ≡ slot_of (in_runs b c) caps (part_from at (length w) S) w
threefold_slot {caps = caps} e k S w at i z =
    let q = one-runs k.runs (⊎_elim (λ l. absurd (omega (arith, e.three))) (λ y. omega arith) k.few) in
    ap₂ (λ (B : ℕ → ℕ) (s : List _). slot_of B caps s w) q (sym (part-whole S at (length w) i z))
