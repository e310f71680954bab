-- Laws of copying along a line: its loop, and what stands once a line of a pair is copied, whichever way.
use Rattle.std.proofs.Common.{◌≡◌, ℕ, zero, suc, ◌+◌, ◌-◌, ◌*◌, ◌%◌, ◌<◌, ◌≤◌, ◌⊎◌, List, [], ◌∷◌, ◌++◌, length, get_or, take, drop, set, sym, refl, ap, ◌∙◌, ap₂, inl, inr, ⊎_elim, mul-le-mul_right, suc-mul, suc-add, mul-le-mul_left, zero-add, add-one, arith, length-drop, length-set, length-take-le, get_or-drop, get_or-set_other, get_or-take, get_or-set_same, take_at, ext_get_or, drop_at}
use mathlib.Core.Path.{fun_ext}
use native.Mathlib.Decide.{dec_lt, ℕ_discrete}
use borrow.Rule.Slice.PartMut.{put_mid, put_same, same_len_mid, take_put}
use lib.Arith.{lt_of_le-ne}
use lib.Seq.{set-append_left}
use Rattle.laws.specs.Sums.{sum_to}
use Rattle.laws.proofs.TestLaws.{split}
use Rattle.sheet.specs.Counts.{most_bits}
use Rattle.interleaving.specs.Second.{second_interleaved, read_before, comes_from}
use Rattle.interleaving.specs.Directions.{Directed}
use Rattle.interleaving.specs.Turns.{Seated}
use Rattle.interleaving.specs.declared.second.Seat.{Seat}
use Rattle.interleaving.proofs.DirectionLaws.{direction_laws}
use Rattle.interleaving.proofs.SecondLaws.{source_below}
use Rattle.mapping.specs.declared.pairs.Pair.{Pair}
use Rattle.mapping.specs.declared.lines.Line.{Line}
use Rattle.mapping.specs.declared.lines.Walk.{Walk}
use Rattle.mapping.specs.Mapping.{pos_of}
use Rattle.mapping.specs.Lines.{bit_on, rank_on, spot_on, index_on, copied, whole_line, Within, Walked, Way, Passed, Ready, part_from}
use Rattle.mapping.specs.Pairs.{caps_in, runs_in, place_in, line_of, Fit, Traced}
use Rattle.mapping.proofs.PlaceLaws.{pos_up, pos_down, pos_in}
use Rattle.mapping.proofs.TurnLaws.{place_of-within, place_of-apart}
use Rattle.mapping.proofs.RunLaws.{in_runs-some}

-- ---- a walk along a line

module _ {l : Line} {at : ℕ} {w : Walk} (c : Walked l at w) where
  -- the index tells whether there is one more
  pub walked-some : w.k < at + l.bit + l.count * l.step → w.i < l.count
  walked-some h =
      split l.count w.i (λ le. let e : w.i ≡ l.count = omega (arith, c.far) in absurd (omega (arith, c.index, ap (λ (n : ℕ). n * l.step) e)))
      (λ lt. lt)

  pub walked_ends : 0 < l.step → at + l.bit + l.count * l.step ≤ w.k → w.i ≡ l.count
  walked_ends p h =
      split l.count w.i (λ le. omega (arith, c.far))
      (λ lt. let m : suc w.i ≤ l.count = lt in absurd (omega (arith, c.index, mul-le-mul_right l.step m)))

  -- one more is one of a slot's
  pub walked-inside : {bits places : ℕ} → Within bits places l → w.k < at + l.bit + l.count * l.step → w.k < at + bits
  walked-inside g h = omega (arith, c.index, g.given w.i (walked-some h))

-- the place of the next bit is one way on
pub spot_next : {l : Line} {way bits places : ℕ} (i : ℕ) → Way l way → Within bits places l → i + 1 < l.count → (spot_on l i + way) % 18446744073709551616 ≡ spot_on l (i + 1)
spot_next {l} {way} i v g h = elim (ℕ_discrete (l.p % 2) 0) [
  | yes e ↦
      omega (
        arith,
        v.up e,
        pos_up l.room l.p (rank_on l i) e,
        pos_up l.room l.p (rank_on l (i + 1)) e,
        g.inside (i + 1) h,
        g.room,
        g.few,
      )
  | no e ↦
      omega (
        arith,
        v.down e,
        pos_down l.room l.p (rank_on l i) e,
        pos_down l.room l.p (rank_on l (i + 1)) e,
        g.inside (i + 1) h,
        g.room,
        g.few,
      )
]

pub walked_more : {l : Line} {at way bits places : ℕ} {w r : Walk} → Way l way → Within bits places l → Walked l at w → w.i < l.count → Passed l way w r
    → Walked l at r
walked_more {l} {at} {way} {w = w} {r} v g c h p = record {
  far = omega (arith, p.i);
  index = rw p.i (omega (arith, c.index, p.k));
  place = λ m. p.place ∙ ap (λ (n : ℕ). (n + way) % 18446744073709551616) (c.place h) ∙ spot_next w.i v g (omega (arith, p.i)) ∙ ap (spot_on l) (sym p.i);
}

module _ {A : Type 0} (d : A) (from to : ℕ → ℕ) (src : List A) where
  pub copied-length : (old : List A) (n : ℕ) → length (copied d from to src n old) ≡ length old
  unfolding copied
  copied-length old zero = refl
  copied-length old (suc n) = length-set (copied d from to src n old) (to n) (get_or src (from n) d) ∙ copied-length old n

  pub copied_none : (old : List A) → old ≡ copied d from to src 0 old
  unfolding copied
  copied_none old = refl

  -- i are copied into w, where j were into v
  pub record Copied (j : ℕ) (v : List A) (i : ℕ) (w : List A) : Type 0 where
    pub long : length w ≡ length v
    pub more : (old : List A) → v ≡ copied d from to src j old → w ≡ copied d from to src i old

module _ {A : Type 0} {d : A} {from to : ℕ → ℕ} {src : List A} where
  pub copied-same : (j : ℕ) (v : List A) → Copied d from to src j v j v
  copied-same j v = record { long = refl; more = λ old q. q }

  pub copied_more : {j i m n : ℕ} {v w u : List A} → Copied d from to src j v i w → m ≡ from i → n ≡ to i → u ≡ set w n (get_or src m d)
      → Copied d from to src j v (i + 1) u
  unfolding copied
  copied_more {i = i} {m} {n} {w = w} c a b e = record {
    long = ap length e ∙ length-set w n (get_or src m d) ∙ c.long;
    more = λ old q. e ∙ rw (add-one i, a, b, c.more old q);
  }

-- a line's numbers fit
pub within_span : {bits places : ℕ} {l : Line} → Within bits places l → l.count * l.step ≤ bits + 32
within_span {bits} {places} {l} g =
    split l.count 0 (λ le. let e : l.count ≡ 0 = omega arith in rw e (omega arith))
    (λ lt.
    let c = l.count - 1 in
    let e : l.count ≡ suc c = omega arith in
    let b : bit_on l c < bits = g.given c (omega arith) in
    rw e (omega (arith, b, g.near, suc-mul c l.step)))

-- ---- copying through step 8

-- a line's indices of turn t, up to `last`; they come from every 30th element
pub record Turn (n places at : ℕ) (l : Line) (way t last : ℕ) : Type 0 where
  pub within : Within places places l
  pub inside : at + places ≤ n
  pub most : n ≤ most_bits
  pub moves : Way l way
  pub number : t < 30
  pub row : (k m : ℕ) → read_before n t ≤ k → k + m < last → comes_from n (k + m) ≡ comes_from n k + 30 * m
  pub ends : (last ≤ n) × (last ≤ at + l.bit + l.count * l.step)

pub turn_starts : {n places at : ℕ} {l : Line} {way k last : ℕ} {s : Seat} → Within places places l
    → (at + places ≤ n) × (n ≤ most_bits) → Way l way → Seated n k s → (last ≤ s.end) × (last ≤ at + l.bit + l.count * l.step)
    → Turn n places at l way s.turn last
turn_starts g h v e b = record {
  within = g;
  inside = h.0;
  most = h.1;
  moves = v;
  number = e.turn;
  row = λ k m r q. e.row k m r (omega (arith, b));
  ends = (omega (arith, b, e.last), b.1);
}

-- within the turn: what the walk has passed is copied into u, where j elements were into v
pub record Copying {A : Type 0} (n places at : ℕ) (l : Line) (way t last : ℕ) (d : A) (from to : ℕ → ℕ) (src : List A) (j : ℕ) (v : List A) (w : Walk) (u : List A) : Type 0 where
  pub turn : Turn n places at l way t last
  pub walked : Walked l at w
  pub begun : read_before n t ≤ w.k
  pub comes : w.k < last → w.seat ≡ comes_from n w.k
  pub copied : Copied d from to src j v w.i u

pub copying_starts : {A : Type 0} {n places at : ℕ} {l : Line} {way last : ℕ} {d : A} {from to : ℕ → ℕ} {src : List A} {w : Walk} {s : Seat} (v : List A) → Turn n places at l way s.turn last → Walked l at w
    → Seated n w.k s → Copying n places at l way s.turn last d from to src w.i v (record { i = w.i; k = w.k; seat = s.from; place = w.place }) v
copying_starts {w = w} v t c e = record {
  turn = t;
  walked = record { far = c.far; index = c.index; place = c.place };
  begun = e.begun;
  comes = λ h. e.from;
  copied = copied-same w.i v;
}

module _ {A : Type 0} {n places at : ℕ} {l : Line} {way t last : ℕ} {d : A} {from to : ℕ → ℕ} {src : List A} {j : ℕ} {v : List A} {w : Walk} {u : List A} (c : Copying n places at l way t last d from to src j v w u) (h : w.k < last) where
  one : w.i < l.count
  one = walked-some c.walked (omega (arith, c.turn.ends))

  -- where it reads and writes
  pub copying_ready : Ready n places l w
  copying_ready =
      let x = c.turn.within.inside w.i one in
      record {
        seat = omega (arith, c.comes h, source_below n w.k (omega (arith, c.turn.ends)));
        place = omega (arith, c.walked.place one, c.turn.within.room, x, pos_in l.room (l.p + 1) (rank_on l w.i) x);
        index = (omega (arith, c.walked.index, mul-le-mul_left w.i c.turn.within.some), omega (arith, c.turn.ends));
        few = (omega (arith, c.turn.most), omega (arith, c.turn.within.few));
        near = c.turn.within.near.0;
      }

  copying_more : {r : Walk} {x : List A} → Passed l way w r → x ≡ set u (to w.i) (get_or src (from w.i) d)
      → Copying n places at l way t last d from to src j v r x
  copying_more {r} {x} p e = record {
    turn = c.turn;
    walked = walked_more c.turn.moves c.turn.within c.walked one p;
    begun = omega (arith, c.begun, p.k);
    comes = λ m. p.seat ∙ omega (arith, c.comes h, c.turn.row w.k l.step c.begun (omega (arith, p.k))) ∙ ap (comes_from n) (sym p.k);
    copied = rw p.i (copied_more c.copied refl refl e);
  }

-- elements go between the walk's seat and its place
pub record Moving {A : Type 0} (seen made : List A → List A) (reads writes : ℕ → ℕ → ℕ) (n places at : ℕ) (l : Line) (way t last : ℕ) (d : A) (from : List A) (j : ℕ) (v : List A) (w : Walk) (u : List A) : Type 0 where
  pub copying : Copying n places at l way t last d (λ i. reads (index_on at l i) (spot_on l i)) (λ i. writes (index_on at l i) (spot_on l i)) (seen from) j (made v) w (made u)
  pub long : (reads (length from) (length u) ≡ n) × (writes (length from) (length u) ≡ places)

module _ {A : Type 0} {rows sent : List A → List A → List A} {seen made : List A → List A} {reads writes : ℕ → ℕ → ℕ} (b : Directed rows sent seen made reads writes) {n places at : ℕ} {l : Line} {way t last : ℕ} {d : A} {from : List A} {j : ℕ} {v : List A} {w : Walk} {u : List A}
    (p : Moving seen made reads writes n places at l way t last d from j v w u) (h : w.k < last) where
  pub move_ready : Ready (reads (length from) (length u)) (writes (length from) (length u)) l w
  move_ready = rw (p.long.0, p.long.1) (copying_ready p.copying h)

  pub move_more : {r : Walk} {x : List A} → Passed l way w r → x ≡ set u (writes w.seat w.place) (get_or from (reads w.seat w.place) d)
      → Moving seen made reads writes n places at l way t last d from j v r x
  move_more {x = x} q e =
      let c = p.copying in
      let K = reads (length from) (length u) in
      let s : w.seat ≡ comes_from K w.k = c.comes h ∙ ap (λ (m : ℕ). comes_from m w.k) (sym p.long.0) in
      let m : length x ≡ length u = ap length e ∙ length-set u (writes w.seat w.place) (get_or from (reads w.seat w.place) d) in
      record {
        copying =
            copying_more c h q
            (ap made e
            ∙ ap (λ (i : ℕ). made (set u (writes i w.place) (get_or from (reads i w.place) d))) s
            ∙ (direction_laws b).goes d from u w.k w.place (omega (arith, c.turn.ends, p.long.0))
            ∙ ap₂ (λ (k i : ℕ). set (made u) (writes k i) (get_or (seen from) (reads k i) d)) c.walked.index (c.walked.place (one c h)));
        long = (ap (λ (i : ℕ). reads (length from) i) m ∙ p.long.0, ap (λ (i : ℕ). writes (length from) i) m ∙ p.long.1);
      }

-- ---- a part of a longer list

set_append_right : {A : Type 0} (xs ys : List A) (i : ℕ) (a : A) → set (xs ++ ys) (length xs + i) a ≡ xs ++ set ys i a
set_append_right [] ys i a = ap (λ (n : ℕ). set ys n a) (zero-add i)
set_append_right (x ∷ xs) ys i a =
    ap (λ (n : ℕ). set (x ∷ xs ++ ys) n a) (suc-add (length xs) i) ∙ ap (λ (l : List _). x ∷ l) (set_append_right xs ys i a)

pub part_length : {A : Type 0} (w : List A) (at n : ℕ) → at + n ≤ length w → length (part_from at n w) ≡ n
part_length w at n b = length-take-le n (drop at w) (omega (arith, length-drop at w))

module _ {A : Type 0} (d : A) (from to : ℕ → ℕ) (at n : ℕ) where
  -- what is read of a part
  pub copied-part : (src w : List A) (c : ℕ) → ((i : ℕ) → i < c → from i < n)
      → copied d (λ i. at + from i) to src c w ≡ copied d from to (part_from at n src) c w
  unfolding copied
  copied-part src w zero h = refl
  copied-part src w (suc c) h =
      ap₂ (λ (l : List A) (x : A). set l (to c) x) (copied-part src w c (λ i m. h i (omega arith)))
      (sym (get_or-take n (drop at src) (from c) d (h c (omega arith)) ∙ get_or-drop at src (from c) d))

  -- what is written over a part
  pub copied_over : (src w : List A) (c : ℕ) → at + n ≤ length w → ((i : ℕ) → i < c → to i < n)
      → copied d from (λ i. at + to i) src c w ≡ put_mid at n w (copied d from to src c (part_from at n w))
  unfolding copied
  copied_over src w zero b h = sym (put_same at n w)
  copied_over src w (suc c) b h =
      let x = get_or src (from c) d in
      let ys = copied d from to src c (part_from at n w) in
      let m : length ys ≡ n = copied-length d from to src (part_from at n w) c ∙ part_length w at n b in
      ap (λ (l : List A). set l (at + to c) x) (copied_over src w c b (λ i l. h i (omega arith)))
      ∙ ap (λ (k : ℕ). set (put_mid at n w ys) (k + to c) x) (sym (length-take-le at w (omega arith)))
      ∙ set_append_right (take at w) _ (to c) x
      ∙ ap (λ (l : List A). take at w ++ l) (set-append_left ys _ (to c) x (omega (arith, m, h c (omega arith))))

-- all of a list, in order
module _ {A : Type 0} (d : A) (src w : List A) (e : length w ≡ length src) where
  first_of : (i j : ℕ) → i ≤ length src → j < i → get_or (copied d (λ k. k) (λ k. k) src i w) j d ≡ get_or src j d
  unfolding copied
  first_of zero j h l = absurd (omega arith)
  first_of (suc i) j h l = elim (ℕ_discrete j i) [
    | yes q ↦ rw q (get_or-set_same (copied d (λ k. k) (λ k. k) src i w) i (get_or src i d) d (omega (arith, e, copied-length d (λ k. k) (λ k. k) src w i)))
    | no q ↦ get_or-set_other (copied d (λ k. k) (λ k. k) src i w) i j (get_or src i d) d q ∙ first_of i j (omega arith) (lt_of_le-ne {i = j} {k = i} (omega arith) q)
  ]

  pub copied_all : copied d (λ k. k) (λ k. k) src (length src) w ≡ src
  copied_all =
      ext_get_or d _ _ (copied-length d (λ k. k) (λ k. k) src w (length src) ∙ e)
      (λ j l. first_of (length src) j (omega arith) (omega (arith, copied-length d (λ k. k) (λ k. k) src w (length src), e)))

-- a line of a whole slot: where it stands, and what copying along it does
pub whole-within : (n : ℕ) → n < 4294967296 → Within n n (whole_line n)
whole-within n h = record {
  given = λ i l. omega arith;
  inside = λ i l. omega arith;
  room = omega arith;
  few = (h, h, omega arith);
  near = (omega arith, omega arith);
  some = omega arith;
}

module _ {A : Type 0} (d : A) (at n : ℕ) where
  spots : spot_on (whole_line n) ≡ (λ i. i)
  unfolding pos_of
  spots = fun_ext (λ i. omega arith)

  bits : bit_on (whole_line n) ≡ (λ i. i)
  bits = fun_ext (λ i. omega arith)

  pub whole_put : (S w : List A) → at + n ≤ length S → length w ≡ n → copied d (index_on at (whole_line n)) (spot_on (whole_line n)) S n w ≡ part_from at n S
  whole_put S w b e =
      let m = part_length S at n b in
      copied-part d (bit_on (whole_line n)) (spot_on (whole_line n)) at n S w n (λ i l. omega arith)
      ∙ ap₂ (λ (f g : ℕ → ℕ). copied d f g (part_from at n S) n w) bits spots
      ∙ ap (λ (k : ℕ). copied d (λ i. i) (λ i. i) (part_from at n S) k w) (sym m)
      ∙ copied_all d (part_from at n S) w (e ∙ sym m)

  pub whole_take : (S ys : List A) → at + n ≤ length S → length ys ≡ n → copied d (spot_on (whole_line n)) (index_on at (whole_line n)) ys n S ≡ put_mid at n S ys
  whole_take S ys b e =
      copied_over d (spot_on (whole_line n)) (bit_on (whole_line n)) at n ys S n b (λ i l. omega arith)
      ∙ ap (put_mid at n S)
      (ap₂ (λ (f g : ℕ → ℕ). copied d f g ys n (part_from at n S)) spots bits
      ∙ ap (λ (k : ℕ). copied d (λ i. i) (λ i. i) ys k (part_from at n S)) (sym e)
      ∙ copied_all d ys (part_from at n S) (part_length S at n b ∙ sym e))

module _ {A : Type 0} (w ys : List A) (at n : ℕ) (b : at + n ≤ length w) (m : length ys ≡ n) where
  pub part_put : part_from at n (put_mid at n w ys) ≡ ys
  part_put = ap (take n) (drop_at (take at w) _ at (length-take-le at w (omega arith))) ∙ take_at ys _ n m

  -- a part written twice
  pub put_put : (zs : List A) → put_mid at n (put_mid at n w ys) zs ≡ put_mid at n w zs
  put_put zs =
      ap₂ (λ (u v : List A). u ++ (zs ++ v)) (take_put at n w ys (omega arith))
      (ap (drop n) (drop_at (take at w) _ at (length-take-le at w (omega arith))) ∙ drop_at ys _ n m)

-- ---- a list of which one part is written, time after time

pub record Over {A : Type 0} (at n : ℕ) (old w : List A) : Type 0 where
  pub fits : at + n ≤ length w
  pub is : w ≡ put_mid at n old (part_from at n w)

pub over_starts : {A : Type 0} (at n : ℕ) (old : List A) → at + n ≤ length old → Over at n old old
over_starts at n old b = record { fits = b; is = sym (put_same at n old) }

module _ {A : Type 0} {at n : ℕ} {old w v : List A} (ys : List A) (l : at + n ≤ length old) (o : Over at n old w) (m : length ys ≡ n) (e : v ≡ put_mid at n w ys) where
  pub over_part : part_from at n v ≡ ys
  over_part = ap (part_from at n) e ∙ part_put w ys at n o.fits m

  pub over_more : Over at n old v
  over_more = record {
    fits = omega (arith, ap length e ∙ same_len_mid at n w ys (m ∙ sym (part_length w at n o.fits)), o.fits);
    is =
        e
        ∙ ap (λ (x : List A). put_mid at n x ys) o.is
        ∙ put_put old (part_from at n w) at n l (part_length w at n o.fits) ys
        ∙ ap (put_mid at n old) (sym over_part);
  }

-- the bits of which S holds stand in w where they go
pub record Stood {A : Type 0} (t : Pair) (d : A) (bits : List A) (S : ℕ → Type 0) (w : List A) : Type 0 where
  pub count : length bits ≡ t.u + t.v
  pub room : length w ≡ t.u + t.v
  pub stands : (k : ℕ) → k < t.u + t.v → S k → get_or w (place_in t k) d ≡ get_or bits k d

-- those of the first j lines, and of line j the first i
abbrev pub On : Pair → ℕ → ℕ → Type 0
On t j k = line_of t k < j

abbrev Into : Pair → ℕ → Line → ℕ → ℕ → Type 0
Into t j l i k = (line_of t k < j) ⊎ ((n : ℕ) × (n < i) × (k ≡ bit_on l n))

module _ {t : Pair} (f : Fit t) where
  pub pair_runs : (q : ℕ) → q < 2 → 0 < runs_in t q
  pair_runs q h = in_runs-some f.runs.first f.runs.other q

  pub pair_total : sum_to (caps_in t) 2 ≡ t.u + t.v
  unfolding sum_to
  pair_total = omega arith

  place_inside : (k : ℕ) → k < t.u + t.v → place_in t k < t.u + t.v
  place_inside k h = rw (← pair_total) (place_of-within (caps_in t) (runs_in t) 2 pair_runs k (rw pair_total h))

  place_other : (j k : ℕ) → j < t.u + t.v → k < t.u + t.v → place_in t j ≡ place_in t k → j ≡ k
  place_other j k h l = place_of-apart (caps_in t) (runs_in t) 2 pair_runs j k (rw pair_total h) (rw pair_total l)

  module _ {A : Type 0} {d : A} {bits w : List A} where
    -- one bit more
    module _ (S S' : ℕ → Type 0) (o : Stood t d bits S w) (b n : ℕ) (h : b < t.u + t.v) (e : place_in t b ≡ n)
        (cover : (k : ℕ) → S' k → (k ≡ b → ⊥) → S k) where
      stood_put : Stood t d bits S' (set w n (get_or bits b d))
      stood_put = record {
        count = o.count;
        room = length-set w n (get_or bits b d) ∙ o.room;
        stands = λ k l s. elim (ℕ_discrete k b) [
          | yes z ↦ rw (z, e) (get_or-set_same w n (get_or bits b d) d (omega (arith, place_inside b h, o.room)))
          | no z ↦
              get_or-set_other w n (place_in t k) (get_or bits b d) d (λ x. z (place_other k b l h (x ∙ sym e))) ∙ o.stands k l (cover k s z)
        ];
      }

      stood_take : Stood t d (set bits b (get_or w n d)) S' w
      stood_take = record {
        count = length-set bits b (get_or w n d) ∙ o.count;
        room = o.room;
        stands = λ k l s. elim (ℕ_discrete k b) [
          | yes z ↦ rw (z, e) (sym (get_or-set_same bits b (get_or w n d) d (omega (arith, o.count))))
          | no z ↦ o.stands k l (cover k s z) ∙ sym (get_or-set_other bits b k (get_or w n d) d z)
        ];
      }

    pub stood_none : length bits ≡ t.u + t.v → length w ≡ t.u + t.v → Stood t d bits (On t 0) w
    stood_none h l = record { count = h; room = l; stands = λ k a s. absurd (omega arith) }

  module _ (j : ℕ) (l : Line) (g : Traced t j l) where
    into_less : (i k : ℕ) → Into t j l (suc i) k → (k ≡ bit_on l i → ⊥) → Into t j l i k
    into_less i k (inl x) z = inl x
    into_less i k (inr x) z =
        split i x.0
        (λ h. let e : x.0 ≡ i = omega (arith, x.1) in absurd (z (x.2 ∙ ap (bit_on l) e)))
        (λ h. inr (x.0, h, x.2))

    module _ {A : Type 0} {d : A} {bits w : List A} (o : Stood t d bits (On t j) w) where
      into_none : Stood t d bits (Into t j l 0) w
      into_none = record { count = o.count; room = o.room; stands = λ k a s. ⊎_elim (o.stands k a) (λ x. absurd (omega (arith, x.1))) s }

      into_put : (i : ℕ) → i ≤ l.count → Stood t d bits (Into t j l i) (copied d (bit_on l) (spot_on l) bits i w)
      unfolding copied
      into_put zero h = into_none
      into_put (suc i) h =
          stood_put _ _ (into_put i (omega arith)) (bit_on l i) (spot_on l i) (g.within.given i h) (g.goes i h) (into_less i)

      into_take : (i : ℕ) → i ≤ l.count → Stood t d (copied d (spot_on l) (bit_on l) w i bits) (Into t j l i) w
      unfolding copied
      into_take zero h = into_none
      into_take (suc i) h =
          stood_take _ _ (into_take i (omega arith)) (bit_on l i) (spot_on l i) (g.within.given i h) (g.goes i h) (into_less i)

    whole : {A : Type 0} {d : A} {bits w : List A} → Stood t d bits (Into t j l l.count) w → Stood t d bits (On t (j + 1)) w
    whole o = record {
      count = o.count;
      room = o.room;
      stands = λ k a s. elim (dec_lt (line_of t k) j) [
        | yes h ↦ o.stands k a (inl h)
        | no h ↦ o.stands k a (inr (g.all k a (omega arith)))
      ];
    }

    -- one line more
    module _ {A : Type 0} {d : A} {bits w : List A} (o : Stood t d bits (On t j) w) where
      pub line_put : {v : List A} → v ≡ copied d (bit_on l) (spot_on l) bits l.count w → Stood t d bits (On t (j + 1)) v
      line_put e = rw e (whole (into_put o l.count (omega arith)))

      pub line-take : {v : List A} → v ≡ copied d (spot_on l) (bit_on l) w l.count bits → Stood t d v (On t (j + 1)) w
      line-take e = rw e (whole (into_take o l.count (omega arith)))

      pub line-within : Within (length bits) (length w) l
      line-within = rw (o.count, o.room) g.within

-- a line that is copied through step 8, whichever way
module _ {A : Type 0} {rows sent : List A → List A → List A} {seen made : List A → List A} {reads writes : ℕ → ℕ → ℕ} (b : Directed rows sent seen made reads writes)
    {t : Pair} (f : Fit t) {j : ℕ} {l : Line} (g : Traced t j l) {d : A} {at n places : ℕ} (from u v : List A) {old : List A} where
  pub line_crossed : Stood t d (part_from at n (second_interleaved (rows from u))) (On t j) (sent from u) → Within n places l → at + n ≤ length old
      → Over at n old (second_interleaved (rows from u))
      → made v ≡ copied d (λ i. reads (index_on at l i) (spot_on l i)) (λ i. writes (index_on at l i) (spot_on l i)) (seen from) l.count (made u)
      → Stood t d (part_from at n (second_interleaved (rows from v))) (On t (j + 1)) (sent from v) × Over at n old (second_interleaved (rows from v))
  line_crossed =
      ⊎_elim
      (λ w. rw (w.row, w.other, w.source, w.target, w.read, w.write)
      (λ o i y r e. (line_put f _ _ g o (e ∙ copied-part d (bit_on l) (spot_on l) at n (second_interleaved from) u l.count i.given), r)))
      (λ w. rw (w.row, w.other, w.source, w.target, w.read, w.write)
      (λ o i y r e.
      let S = second_interleaved u in
      let taken = copied d (spot_on l) (bit_on l) from l.count (part_from at n S) in
      let many : length taken ≡ n = copied-length d (spot_on l) (bit_on l) from (part_from at n S) l.count ∙ part_length S at n r.fits in
      let q = e ∙ copied_over d (spot_on l) (bit_on l) at n from S l.count r.fits i.given in
      (line-take f _ _ g o (over_part taken y r many q), over_more taken y r many q)))
      b
