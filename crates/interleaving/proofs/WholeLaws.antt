-- The walk of step 8 over a whole list: down a column, and from column to column.
use Rattle.std.proofs.Common.{◌≡◌, ℕ, suc, ◌+◌, ◌-◌, ◌*◌, ◌<◌, ◌≤◌, List, length, get_or, set, sym, refl, ap, ap₂, ◌∙◌, zero-add, add-one, arith, ext_get_or}
use Rattle.laws.specs.Sums.{sum_to}
use Rattle.laws.specs.Written.{Written}
use Rattle.laws.proofs.WrittenLaws.{write_none, write_one, write_on}
use Rattle.sheet.specs.Counts.{most_bits}
use Rattle.orders.specs.Orders.{order}
use Rattle.orders.proofs.OrderLaws.{order-turn}
use Rattle.interleaving.specs.Columns.{height}
use Rattle.interleaving.specs.Second.{read_before, comes_from}
use Rattle.interleaving.specs.Directions.{Directed}
use Rattle.interleaving.specs.Whole.{Down, Agrees, ColumnPassed}
use Rattle.interleaving.proofs.DirectionLaws.{DirectionLaws, direction_laws}
use Rattle.interleaving.proofs.SecondLaws.{read_suc, read_all, read_within, source_row}

-- ---- down a column

module _ {K c k : ℕ} (d : Down K c k) (h : c < K) where
  -- its first element, and what is left behind it
  pub down-here : (k < K) × (comes_from K k ≡ c)
  down-here =
      let q : k + 0 ≡ k = omega arith in
      (omega (arith, d.inside), ap (comes_from K) (sym q) ∙ d.each 0 (omega arith) ∙ omega arith)

  pub down-next : Down K (c + 30) (k + 1)
  down-next = record {
    near = omega arith;
    inside = omega (arith, d.inside);
    most = d.most;
    each = λ i l.
        let q : k + (i + 1) ≡ k + 1 + i = omega arith in
        ap (comes_from K) (sym q) ∙ d.each (i + 1) (omega arith) ∙ omega arith;
  }

-- the column of turn t, and the index behind it
module _ (K t : ℕ) {c k : ℕ} (h : t < 30) (e : c ≡ get_or order t 0) (b : k ≡ read_before K t) where
  pub turn_ends : k + height 30 K c ≡ read_before K (suc t)
  turn_ends = omega (arith, b, ap (height 30 K) e, read_suc K t)

  pub turn-down : K ≤ most_bits → Down K c k
  turn-down m = record {
    near = omega (arith, e, (order-turn t h).0);
    inside = omega (arith, turn_ends, read_within K (suc t) h);
    most = m;
    each = λ i l. omega (arith, b, e, source_row K t (k + i) h (omega (arith, b)) (omega (arith, turn_ends)));
  }

-- before index k of those from `begin` on, which comes from j if the column goes on
pub record Going {A : Type 0} (z : A) (K : ℕ) (ys old : List A) (c begin : ℕ) (list : List A) (k j : ℕ) : Type 0 where
  pub down : Down K c begin
  pub long : length old ≡ K
  pub from : begin ≤ k
  pub to : k ≤ begin + height 30 K c
  pub next : j ≡ c + 30 * (k - begin)
  pub copied : Agrees z ys old list begin (k - begin)

module _ {A : Type 0} {z : A} {K : ℕ} {ys old : List A} {c begin : ℕ} where
  pub going_starts : Down K c begin → length old ≡ K → Going z K ys old c begin old begin c
  going_starts d e =
      let q : begin - begin ≡ 0 = omega arith in
      record { down = d; long = e; from = omega arith; to = omega arith; next = omega arith; copied = rw q (write_none z _ old begin) }

  module _ {list : List A} {k j : ℕ} (g : Going z K ys old c begin list k j) where
    pub going_long : length list ≡ K
    going_long = g.copied.long ∙ g.long

    -- nothing is far behind the end
    pub going_near : (j ≤ K + 30) × (k ≤ K) × (K ≤ most_bits)
    going_near = (omega (arith, g.next, g.from, g.to, g.down.near), omega (arith, g.to, g.down.inside), g.down.most)

    -- what is left is a column too
    left : k + height 30 K j ≡ begin + height 30 K c
    left = omega (arith, g.next, g.from, g.to)

    pub going_down : Down K j k
    going_down =
        record {
          near = going_near.0;
          inside = omega (arith, left, g.down.inside);
          most = g.down.most;
          each = λ i l.
              let q : begin + (k - begin + i) ≡ k + i = omega (arith, g.from) in
              ap (comes_from K) (sym q) ∙ g.down.each (k - begin + i) (omega (arith, left, g.from)) ∙ omega (arith, g.next);
        }

    pub going_on : {u : List A} {end : ℕ} → ColumnPassed z ys list u K j k end → ColumnPassed z ys old u K c begin end
    going_on {u} p =
        let q : begin + (k - begin) ≡ k = omega (arith, g.from) in
        let r : k - begin + height 30 K j ≡ height 30 K c = omega (arith, left, g.from) in
        let w : Written z (λ i. get_or ys (k + i) z) list u (begin + (k - begin)) (height 30 K j) = rw q p.copied in
        record {
          behind = p.behind ∙ left;
          copied = rw r at (write_on g.copied w (λ i. let y : k + i ≡ begin + (k - begin + i) = omega (arith, g.from) in ap (λ (m : ℕ). get_or ys m z) y));
        }

    module _ (h : j < K) where
      inside : k < begin + height 30 K c
      inside = omega (arith, g.next, g.from, g.to)

      pub going_index : k < K
      going_index = (down-here going_down h).0

      pub going_source : j ≡ comes_from K k
      going_source = sym (down-here going_down h).1

      pub going_more : {u : List A} {m i : ℕ} → u ≡ set list k (get_or ys k z) → m ≡ k + 1 → i ≡ j + 30 → Going z K ys old c begin u m i
      going_more {u} {m} {i} e x y =
          let q : begin + (k - begin) ≡ k = omega (arith, g.from) in
          let r : k - begin + 1 ≡ m - begin = omega (arith, g.from, x) in
          let w : Agrees z ys old (set list (begin + (k - begin)) (get_or ys k z)) begin (k - begin + 1) =
          write_one g.copied (omega (arith, g.long, going_index)) (ap (λ (n : ℕ). get_or ys n z) (sym q)) in
          record {
            down = g.down;
            long = g.long;
            from = omega (arith, g.from, x);
            to = omega (arith, inside, x);
            next = omega (arith, g.next, g.from, x, y);
            copied = rw e (rw (q, r) at w);
          }

-- what is copied in a direction stands there once step 8 is done
module _ {A : Type 0} {rows sent : List A → List A → List A} {seen made : List A → List A} {reads writes : ℕ → ℕ → ℕ}
    (d : Directed rows sent seen made reads writes) (from : List A) where
  abbrev laws : DirectionLaws rows sent seen made reads writes
  laws = direction_laws d

  module _ {z : A} {old : List A} {c begin k j : ℕ} (to : List A) (g : Going z (length from) (seen from) old c begin (made to) k j) where
    pub copied-long : length to ≡ length from
    copied-long = sym (laws.made_long to) ∙ going_long g

    module _ (h : j < length from) where
      pub copied-inside : (reads j k < length from) × (writes j k < length to)
      copied-inside =
          let b = laws.below j k (length from) (length from) h (going_index g h) in
          let s = laws.same (length from) in
          (omega (arith, b.0, s.0), omega (arith, b.1, s.1, copied-long))

      pub copied_on : {u : List A} {m i : ℕ} → u ≡ set to (writes j k) (get_or from (reads j k) z) → m ≡ k + 1 → i ≡ j + 30
          → Going z (length from) (seen from) old c begin (made u) m i
      copied_on e x y =
          let r : reads (length from) (length to) ≡ length from = ap (reads (length from)) copied-long ∙ (laws.same (length from)).0 in
          let q : j ≡ comes_from (reads (length from) (length to)) k = going_source g h ∙ ap (λ (n : ℕ). comes_from n k) (sym r) in
          going_more g h
          (ap made e
          ∙ ap (λ (n : ℕ). made (set to (writes n k) (get_or from (reads n k) z))) q
          ∙ laws.goes z from to k k (omega (arith, r, going_index g h))
          ∙ ap₂ (λ (a b : ℕ). set (made to) a (get_or (seen from) b z)) (laws.same k).1 (laws.same k).0)
          x
          y

-- ---- from column to column

-- before turn t, which begins at index k
pub record Columned {A : Type 0} (z : A) (K : ℕ) (ys old list : List A) (t k : ℕ) : Type 0 where
  pub most : K ≤ most_bits
  pub whole : length ys ≡ K
  pub long : length old ≡ K
  pub some : t ≤ 30
  pub begun : k ≡ read_before K t
  pub copied : Agrees z ys old list 0 k

module _ {A : Type 0} {z : A} {K : ℕ} {ys old : List A} where
  pub columned_starts : K ≤ most_bits → length ys ≡ K → length old ≡ K → Columned z K ys old old 0 0
  unfolding sum_to
  columned_starts m e q = record { most = m; whole = e; long = q; some = omega arith; begun = refl; copied = write_none z _ old 0 }

  module _ {list : List A} {t k : ℕ} (g : Columned z K ys old list t k) where
    pub columned_long : length list ≡ K
    columned_long = g.copied.long ∙ g.long

    pub columned_ends : 30 ≤ t → list ≡ ys
    columned_ends h =
        let q : t ≡ 30 = omega (arith, g.some) in
        let e : k ≡ K = g.begun ∙ ap (read_before K) q ∙ read_all K in
        ext_get_or z list ys (columned_long ∙ sym g.whole)
        (λ i l. let y = g.copied.there i (omega (arith, e, columned_long)) in rw (zero-add i) at y)

    module _ {c : ℕ} (h : t < 30) (e : c ≡ get_or order t 0) where
      pub columned_down : Down K c k
      columned_down = turn-down K t h e g.begun g.most

      pub columned_more : {u : List A} {end : ℕ} → ColumnPassed z ys list u K c k end → Columned z K ys old u (t + 1) end
      columned_more {u} p =
          record {
            most = g.most;
            whole = g.whole;
            long = g.long;
            some = omega arith;
            begun = p.behind ∙ turn_ends K t h e g.begun ∙ ap (read_before K) (sym (add-one t));
            copied =
                rw p.behind (write_on g.copied (rw (zero-add k) p.copied) (λ i. ap (λ (m : ℕ). get_or ys m z) (sym (zero-add (k + i)))));
          }
