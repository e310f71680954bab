-- Laws of a stretch as a line: copying along it is going along the stretch.
use Rattle.std.proofs.Common.{◌≡◌, ℕ, zero, suc, ◌+◌, ◌-◌, ◌*◌, ◌<◌, ◌≤◌, List, length, get_or, set, sym, refl, ap, ◌∙◌, ⊎_elim, suc-mul, arith}
use Rattle.interleaving.specs.Second.{second_interleaved}
use Rattle.interleaving.specs.Directions.{Directed}
use Rattle.mapping.specs.declared.Mark.{Mark}
use Rattle.mapping.specs.declared.Stretch.{Stretch}
use Rattle.mapping.specs.Mapping.{pos_of}
use Rattle.mapping.specs.Strides.{Along}
use Rattle.mapping.specs.Lines.{bit_on, spot_on, index_on, copied, line_along, Within, part_from}
use Rattle.mapping.specs.declared.lines.Line.{Line}
use borrow.Rule.Slice.PartMut.{put_mid}
use Rattle.mapping.proofs.LineLaws.{Over, over_part, over_more, part_length, copied-length, copied-part, copied_over}
use Rattle.mapping.proofs.WalkLaws.{leg-within, along_room, along_bit, along_put, along_take}

module _ {A : Type 0} {caps : List ℕ} {d : A} {bits : List A} {m : Mark} {r : Stretch} {w : List A} (a : Along caps d bits m r m.x m.k w) where
  -- i bits of it, written to the slot or taken back
  spot : (i : ℕ) → spot_on (line_along m r) i ≡ m.base + (pos_of r.room (m.p + 1) (m.x + i) - 1)
  spot i = let e : m.x + i * 1 ≡ m.x + i = omega arith in rw e

  next : (i : ℕ) {b v : List A} → Along caps d b m r (m.x + i + 1) (bit_on (line_along m r) i + r.stride) v
      → Along caps d b m r (m.x + suc i) (bit_on (line_along m r) (suc i)) v
  next i o =
      let e : m.x + i + 1 ≡ m.x + suc i = omega arith in
      let q : bit_on (line_along m r) i + r.stride ≡ bit_on (line_along m r) (suc i) = omega (arith, suc-mul i r.stride) in
      rw (e, q) at o

  pub line_put : (i : ℕ) → i ≤ r.end - m.x → Along caps d bits m r (m.x + i) (bit_on (line_along m r) i) (copied d (bit_on (line_along m r)) (spot_on (line_along m r)) bits i w)
  unfolding copied
  line_put zero h = let e : m.x + 0 ≡ m.x = omega arith in let q : m.k + 0 * r.stride ≡ m.k = omega arith in rw (e, q) a
  line_put (suc i) h = next i (along_put (line_put i (omega arith)) (omega arith) (spot_on (line_along m r) i) (spot i))

  pub line-take : (i : ℕ) → i ≤ r.end - m.x → Along caps d (copied d (spot_on (line_along m r)) (bit_on (line_along m r)) w i bits) m r (m.x + i) (bit_on (line_along m r) i) w
  unfolding copied
  line-take zero h = let e : m.x + 0 ≡ m.x = omega arith in let q : m.k + 0 * r.stride ≡ m.k = omega arith in rw (e, q) a
  line-take (suc i) h = next i (along_take (line-take i (omega arith)) (omega arith) (spot_on (line_along m r) i) (spot i))

  -- all of it
  whole : {b v : List A} → Along caps d b m r (m.x + (r.end - m.x)) (bit_on (line_along m r) (r.end - m.x)) v
      → Along caps d b m r r.end (bit_on (line_along m r) (r.end - m.x)) v
  whole o = let e : m.x + (r.end - m.x) ≡ r.end = omega (arith, a.to) in rw e at o

  pub stretch_put : {v : List A} → v ≡ copied d (bit_on (line_along m r)) (spot_on (line_along m r)) bits (r.end - m.x) w
      → Along caps d bits m r r.end (bit_on (line_along m r) (r.end - m.x)) v
  stretch_put e = rw e (whole (line_put (r.end - m.x) (omega arith)))

  pub stretch_take : {v : List A} → v ≡ copied d (spot_on (line_along m r)) (bit_on (line_along m r)) w (r.end - m.x) bits
      → Along caps d v m r r.end (bit_on (line_along m r) (r.end - m.x)) w
  stretch_take e = rw e (whole (line-take (r.end - m.x) (omega arith)))

  -- it lies within the slot
  pub stretch_within : {n : ℕ} → length bits ≡ n → n < 4294967296 → length caps ≤ 16 → Within n (length w) (line_along m r)
  stretch_within {n} e l few = record {
    given = λ i h. omega (arith, e, along_bit (line_put i (omega arith)) (omega arith));
    inside = λ i h. let q : m.x + i * 1 ≡ m.x + i = omega arith in rw q (along_room (line_put i (omega arith)) (omega arith));
    room = omega (arith, leg-within a.leg, a.done.room);
    few = (l, omega (arith, e, a.done.count, a.done.room), omega (arith, e, a.done.count, a.leg.mark.fits));
    near = (omega (arith, a.leg.steps.less), omega arith);
    some = a.leg.steps.some;
  }

  -- the same through step 8: the slot's bits are a part of S, which is interleaved
  module _ (S : List A) (at n : ℕ) (q : bits ≡ part_from at n S) {places : ℕ} (g : Within n places (line_along m r)) {l : Line} (k : l ≡ line_along m r) where
    pub through_put : {v : List A} → v ≡ copied d (index_on at l) (spot_on l) S l.count w
        → Along caps d bits m r r.end (bit_on (line_along m r) (r.end - m.x)) v
    through_put e =
        stretch_put
        (e
        ∙ ap (λ (x : Line). copied d (index_on at x) (spot_on x) S x.count w) k
        ∙ copied-part d (bit_on (line_along m r)) (spot_on (line_along m r)) at n S w (r.end - m.x) g.given
        ∙ ap (λ (x : List A). copied d (bit_on (line_along m r)) (spot_on (line_along m r)) x (r.end - m.x) w) (sym q))

    module _ {old : List A} (b : at + n ≤ length old) (o : Over at n old S) {v : List A} (e : v ≡ copied d (spot_on l) (index_on at l) w l.count S) where
      abbrev taken : List A
      taken = copied d (spot_on (line_along m r)) (bit_on (line_along m r)) w (r.end - m.x) (part_from at n S)

      over : v ≡ put_mid at n S taken
      over =
          e
          ∙ ap (λ (x : Line). copied d (spot_on x) (index_on at x) w x.count S) k
          ∙ copied_over d (spot_on (line_along m r)) (bit_on (line_along m r)) at n w S (r.end - m.x) o.fits g.given

      sized : length taken ≡ n
      sized = copied-length d (spot_on (line_along m r)) (bit_on (line_along m r)) w (part_from at n S) (r.end - m.x) ∙ part_length S at n o.fits

      pub through_over : Over at n old v
      through_over = over_more taken b o sized over

      pub through-take : Along caps d (part_from at n v) m r r.end (bit_on (line_along m r) (r.end - m.x)) w
      through-take =
          stretch_take
          (over_part taken b o sized over
          ∙ ap (λ (x : List A). copied d (spot_on (line_along m r)) (bit_on (line_along m r)) w (r.end - m.x) x) (sym q))

module _ {A : Type 0} {rows sent : List A → List A → List A} {seen made : List A → List A} {reads writes : ℕ → ℕ → ℕ} (b : Directed rows sent seen made reads writes)
    {caps : List ℕ} {d : A} {m : Mark} {r : Stretch} (from u v : List A) where
  -- a stretch that is copied through step 8, whichever way
  pub crossed : {at n places : ℕ} {l : Line} {old : List A} → Along caps d (part_from at n (second_interleaved (rows from u))) m r m.x m.k (sent from u)
      → Within n places (line_along m r) → l ≡ line_along m r → at + n ≤ length old → Over at n old (second_interleaved (rows from u))
      → made v ≡ copied d (λ i. reads (index_on at l i) (spot_on l i)) (λ i. writes (index_on at l i) (spot_on l i)) (seen from) l.count (made u)
      → Along caps d (part_from at n (second_interleaved (rows from v))) m r r.end (bit_on (line_along m r) (r.end - m.x)) (sent from v)
      × Over at n old (second_interleaved (rows from v))
  crossed {at} {n} =
      ⊎_elim
      (λ w. rw (w.row, w.other, w.source, w.target, w.read, w.write) (λ a g k y o e. (through_put a (second_interleaved from) at n refl g k e, o)))
      (λ w. rw (w.row, w.other, w.source, w.target, w.read, w.write)
      (λ a g k y o e. (through-take a (second_interleaved u) at n refl g k y o e, through_over a (second_interleaved u) at n refl g k y o e)))
      b

  -- and one bit of it without step 8
  pub filled : {x k : ℕ} → Along caps d (rows from u) m r x k (sent from u) → x < r.end → (n : ℕ) → n ≡ m.base + (pos_of r.room (m.p + 1) x - 1)
      → v ≡ set u (writes k n) (get_or from (reads k n) d) → Along caps d (rows from v) m r (x + 1) (k + r.stride) (sent from v)
  filled =
      ⊎_elim
      (λ w. rw (w.row, w.other, w.read, w.write) (λ a h n z e. rw e (along_put a h n z)))
      (λ w. rw (w.row, w.other, w.read, w.write) (λ a h n z e. rw e (along_take a h n z)))
      b
