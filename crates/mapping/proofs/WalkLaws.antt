-- Laws of the walk through a slot: where it starts, a bit of a stretch, and where it stands after the stretch.
use Rattle.std.proofs.Common.{◌≡◌, ℕ, ◌+◌, ◌-◌, ◌<◌, ◌≤◌, min, List, length, get_or, set, sym, refl, ap, ◌∙◌, arith}
use Rattle.laws.specs.Sums.{sum_to}
use Rattle.laws.proofs.SumLaws.{sum_more, sum-within}
use Rattle.mapping.specs.declared.Mark.{Mark}
use Rattle.mapping.specs.declared.Stretch.{Stretch}
use Rattle.mapping.specs.Mapping.{pos_of, place, ones, at, slot_size, Slot}
use Rattle.mapping.specs.Settled.{Settled}
use Rattle.mapping.specs.Strides.{walk, Steps, Least, Marked, Leg, Onward, Done, Standing, Along}
use Rattle.mapping.proofs.StrideLaws.{walk-fits, walk_start, walk-next, walk-number, walk_inside}
use Rattle.mapping.proofs.DoneLaws.{done-start, done_put, done-take, done-all}

pub walk_starts : (caps : List ℕ) (low : ℕ) → slot_size caps + length caps < 18446744073709551616 → Least caps (length caps) low
    → Marked caps (record { low = low; p = 0; base = 0; first = 0; x = 0; k = 0 })
unfolding sum_to
walk_starts caps low s l =
    let z = walk_start (at caps) (length caps) in
    record { small = s; least = l; inside = omega arith; begins = refl; number = sym z; part = omega arith; fits = omega arith; bit = λ h. sym z }

pub leg_of : {caps : List ℕ} {m : Mark} {u s e : ℕ} → Marked caps m × (m.p < length caps) → u ≡ at caps m.p
    → Steps (at caps) (length caps) m.p m.x s e → Leg caps m (record { room = u; stride = s; end = e })
leg_of h e s = record { mark = h.0; inside = h.1; room = e; steps = s }

module _ {caps : List ℕ} {m : Mark} {r : Stretch} (g : Leg caps m r) where
  pub leg-within : m.base + r.room ≤ slot_size caps
  leg-within = omega (arith, g.mark.begins, g.room, sum-within (at caps) m.p (length caps) g.inside)

  pub base_fits : m.base + r.room < 18446744073709551616
  base_fits = omega (arith, leg-within, g.mark.small)

  first_next : m.first + min r.room 1 ≡ walk (at caps) (length caps) (m.p + 1) 0
  first_next = omega (arith, g.mark.number, g.room, walk-next (at caps) (length caps) m.p g.inside)

  pub first_fits : m.first + min r.room 1 < 18446744073709551616
  first_fits = omega (arith, first_next, walk-fits (at caps) (length caps) (m.p + 1) 0, g.mark.small)

  -- the PhCH goes on
  pub onward-here : (k : ℕ) → (r.end < r.room → k ≡ walk (at caps) (length caps) m.p r.end) → r.end < r.room
      → Onward caps m r (record { low = m.low; p = m.p; base = m.base; first = m.first; x = r.end; k = k })
  onward-here k e h = record {
    mark =
        record {
          small = g.mark.small;
          least = g.mark.least;
          inside = g.mark.inside;
          begins = g.mark.begins;
          number = g.mark.number;
          part = g.steps.last;
          fits = omega (arith, e h, walk-fits (at caps) (length caps) m.p r.end);
          bit = λ l. e h;
        };
    moved = refl;
    nearer = omega (arith, leg-within, g.inside, g.steps.far (omega (arith, g.room, g.steps.from)));
  }

  -- it is full
  pub onward-next : (f : ℕ) → f ≡ m.first + min r.room 1 → r.room ≤ r.end
      → Onward caps m r (record { low = m.low; p = m.p + 1; base = m.base + r.room; first = f; x = 0; k = f })
  onward-next f e h = record {
    mark =
        record {
          small = g.mark.small;
          least = g.mark.least;
          inside = omega (arith, g.inside);
          begins = sum_more (at caps) m.p g.mark.begins g.room;
          number = e ∙ first_next;
          part = omega arith;
          fits = omega (arith, e, first_next, walk-fits (at caps) (length caps) (m.p + 1) 0);
          bit = λ l. e ∙ first_next;
        };
    moved = omega (arith, g.room, g.steps.last);
    nearer = omega (arith, leg-within, g.inside, g.room, g.steps.from, g.steps.last);
  }

module _ {A : Type 0} {caps : List ℕ} {d : A} {bits : List A} {m : Mark} {r : Stretch} {x k : ℕ} {w : List A}
    (a : Along caps d bits m r x k w) where
  pub along_ends : r.end ≤ x → Along caps d bits m r r.end k w
  along_ends h = let e : x ≡ r.end = omega (arith, a.to) in rw e at a

  module _ (h : x < r.end) where
    inside : x < at caps m.p
    inside = omega (arith, a.leg.steps.last)

    pub along_room : x < r.room
    along_room = omega (arith, inside, a.leg.room)

    number : k ≡ walk (at caps) (length caps) m.p x
    number = a.bit along_room

    -- the bit and its place are there
    pub along_bit : k < length bits
    along_bit = omega (arith, number, a.done.count, walk_inside (at caps) (length caps) m.p x a.leg.inside inside)

    pub along_place : {n : ℕ} → n < m.base + r.room → n < length w
    along_place l = omega (arith, leg-within a.leg, a.done.room)

    pub along_fits : k + r.stride < 18446744073709551616
    along_fits = omega (arith, along_bit, a.done.count, a.leg.steps.less, a.leg.mark.small)

    next : x + 1 < r.room → k + r.stride ≡ walk (at caps) (length caps) m.p (x + 1)
    next l = omega (arith, number, a.leg.room, a.leg.steps.step x a.from h (omega (arith, a.leg.room)))

    module _ (n : ℕ) (z : n ≡ m.base + (pos_of r.room (m.p + 1) x - 1)) where
      spot : n ≡ place (at caps) m.p x
      unfolding place
      spot = omega (arith, z, a.leg.mark.begins, ap (λ (u : ℕ). pos_of u (m.p + 1) x) a.leg.room)

      went : (b v : List A) → Done (at caps) (length caps) d b (sum_to (at caps) m.p + x + 1) v → Along caps d b m r (x + 1) (k + r.stride) v
      went b v o =
          let e : sum_to (at caps) m.p + x + 1 ≡ m.base + (x + 1) = omega (arith, a.leg.mark.begins) in
          record { leg = a.leg; from = omega (arith, a.from); to = omega arith; bit = next; done = rw e at o }

      before : Done (at caps) (length caps) d bits (sum_to (at caps) m.p + x) w
      before = rw a.leg.mark.begins at a.done

      -- the slot is written, or the bits
      pub along_put : Along caps d bits m r (x + 1) (k + r.stride) (set w n (get_or bits k d))
      along_put =
          went bits _
          (done_put (at caps) (length caps) d m.p x n k bits w a.leg.inside inside spot
          (number ∙ walk-number (at caps) (length caps) m.p x a.leg.inside inside) before)

      pub along_take : Along caps d (set bits k (get_or w n d)) m r (x + 1) (k + r.stride) w
      along_take =
          went _ w
          (done-take (at caps) (length caps) d m.p x n k bits w a.leg.inside inside spot
          (number ∙ walk-number (at caps) (length caps) m.p x a.leg.inside inside) before)

module _ {A : Type 0} {caps : List ℕ} {d : A} {bits : List A} {m : Mark} {w : List A} where
  pub standing_starts : Marked caps m × (m.base + m.x ≡ 0) → Slot caps (length bits) (length w) → Standing caps d bits m w
  standing_starts h s = record { mark = h.0; done = rw h.1 (done-start (at caps) (length caps) d bits w s.bits s.room) }

  -- a stretch is entered, and left
  module _ {r : Stretch} where
    pub along_starts : Standing caps d bits m w → Leg caps m r → Along caps d bits m r m.x m.k w
    along_starts s g =
        record { leg = g; from = omega arith; to = g.steps.from; bit = λ h. s.mark.bit (omega (arith, g.room)); done = s.done }

    pub standing_next : {n : Mark} {k : ℕ} → Along caps d bits m r r.end k w → Onward caps m r n → Standing caps d bits n w
    standing_next a o = record { mark = o.mark; done = rw o.moved a.done }

  -- every PhCH is full
  module _ (s : Standing caps d bits m w) (h : length caps ≤ m.p) where
    all : sum_to (at caps) (length caps) ≤ m.base + m.x
    all = let e : m.p ≡ length caps = omega (arith, s.mark.inside) in omega (arith, s.mark.begins, ap (sum_to (at caps)) e)

    pub standing_settled : Settled ones caps d bits w
    standing_settled = record {
      count = s.done.count;
      room = s.done.room;
      stands = done-all (at caps) (length caps) d bits w (m.base + m.x) all s.done;
    }
