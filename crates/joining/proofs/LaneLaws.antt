-- A walk dealt out to lanes: each bit goes to one of four records that start from the same one, and the four put together are the record of all.
use mathlib.Core.Path.{◌≡◌, refl, sym, ap, ap₂, ◌∙◌, subst}
use mathlib.Core.Bool.{Bool, true, false, cond, false≢true}
use mathlib.Core.List.{List, [], ◌∷◌}
use Prim.Native.Nat.{ℕ, zero, suc, ◌+◌, ◌*◌, ◌<◌}
use native.Mathlib.Omega.{arith}
use borrow.Author.Tests.{ne_eqb, ltb-false}
use lib.Dec.{T}
use lib.ListN.{length}
use lib.Ieee.{Float, nan, inf, fin, binary32, up, down, lt, fits}
use Rattle.joining.specs.declared.Heard.{Heard}
use Rattle.joining.specs.declared.linking.Link.{Link}
use Rattle.joining.specs.Joining.{join_of, value_of}
use Rattle.joining.specs.Whole.{bound, Under}
use Rattle.joining.specs.Linked.{magnitude_of, with_magnitude, with_value, with_heard, both_of}
use Rattle.joining.proofs.ExtremeLaws.{plain, upward}
use Rattle.joining.proofs.MagnitudeLaws.{same-value}
use Rattle.joining.proofs.LinkLaws.{first-value, Surveying, survey_turn}
use Rattle.joining.proofs.MadeLaws.{join_under, join_voice}

-- ---- magnitudes and their order

-- finite, not below 0, and an f32, so that its number says its bits
abbrev fair : Float → Bool
fair nan = false
fair (inf s) = false
fair (fin true m e) = false
fair (fin false m e) = fits binary32 (fin false m e)

fair_plain : (x : Float) → fair x ≡ true → plain x ≡ true
fair_plain nan h = h
fair_plain (inf s) h = h
fair_plain (fin true m e) h = h
fair_plain (fin false m e) h = refl

record Order (better : Float → Float → Bool) : Type 0 where
  other : (x y : Float) → fair x ≡ true → fair y ≡ true → better x y ≡ true → better y x ≡ false
  on : (x y z : Float) → fair x ≡ true → fair y ≡ true → fair z ≡ true → better x y ≡ false → better y z ≡ false → better x z ≡ false
  equal : (x y : Float) → fair x ≡ true → fair y ≡ true → better x y ≡ false → better y x ≡ false → x ≡ y

lt_equal : (x y : Float) → fair x ≡ true → fair y ≡ true → lt x y ≡ false → lt y x ≡ false → x ≡ y
unfolding lt
lt_equal nan y h k s t = absurd (false≢true h)
lt_equal (inf b) y h k s t = absurd (false≢true h)
lt_equal (fin true m e) y h k s t = absurd (false≢true h)
lt_equal (fin false m e) nan h k s t = absurd (false≢true k)
lt_equal (fin false m e) (inf b) h k s t = absurd (false≢true k)
lt_equal (fin false m e) (fin true n d) h k s t = absurd (false≢true k)
lt_equal (fin false m e) (fin false n d) h k s t =
    let a = m * up e * down d in
    let b = n * up d * down e in
    let q : a ≡ b = omega (arith, ltb-false a b s, ltb-false b a t) in
    same-value (fin false m e) false n d (subst T (sym h) tt) (subst T (sym k) tt) (refl, q)

abbrev above : Float → Float → Bool
above x y = lt y x

up-order : Order lt
up-order =
    record {
      other = λ x y h k t. upward.other x y (fair_plain x h) (fair_plain y k) t;
      on = λ x y z h k l s t. upward.on x y z (fair_plain x h) (fair_plain y k) (fair_plain z l) s t;
      equal = lt_equal;
    }

down-order : Order above
down-order =
    record {
      other = λ x y h k t. up-order.other y x k h t;
      on = λ x y z h k l s t. up-order.on z y x l k h t s;
      equal = λ x y h k s t. lt_equal x y h k t s;
    }

-- ---- the better of two

abbrev pick : (Float → Float → Bool) → Float → Float → Float
pick better a b = cond (better b a) b a

module _ (better : Float → Float → Bool) (o : Order better) where
  comm : (a b : Float) → fair a ≡ true → fair b ≡ true → pick better a b ≡ pick better b a
  comm a b ha hb = go (better b a) (better a b) refl refl
    where
      go : (s t : Bool) → better b a ≡ s → better a b ≡ t → cond s b a ≡ cond t a b
      go true true e u = absurd (false≢true (sym (o.other b a hb ha e) ∙ u))
      go true false e u = refl
      go false true e u = refl
      go false false e u = o.equal a b ha hb u e

  strict : (x m l : Float) → fair x ≡ true → fair m ≡ true → fair l ≡ true → better x m ≡ true → better m l ≡ true → better x l ≡ true
  strict x m l hx hm hl s t = go (better x l) refl
    where
      go : (b : Bool) → better x l ≡ b → b ≡ true
      go true e = refl
      go false e = absurd (false≢true (sym (o.on m x l hm hx hl (o.other x m hx hm s) e) ∙ t))

  assoc : (l m x : Float) → fair l ≡ true → fair m ≡ true → fair x ≡ true
      → pick better l (pick better m x) ≡ pick better (pick better l m) x
  assoc l m x hl hm hx = go (better m l) (better x m) refl refl
    where
      go : (s t : Bool) → better m l ≡ s → better x m ≡ t → pick better l (cond t x m) ≡ pick better (cond s m l) x
      go true true e u = ap (λ (b : Bool). cond b x l) (strict x m l hx hm hl u e) ∙ sym (ap (λ (b : Bool). cond b x m) u)
      go true false e u = ap (λ (b : Bool). cond b m l) e ∙ sym (ap (λ (b : Bool). cond b x m) u)
      go false true e u = refl
      go false false e u = ap (λ (b : Bool). cond b m l) e ∙ sym (ap (λ (b : Bool). cond b x l) (o.on x m l hx hm hl u e))

  keeps : (l x : Float) → fair l ≡ true → fair x ≡ true → fair (pick better l x) ≡ true
  keeps l x h k = go (better x l)
    where
      go : (b : Bool) → fair (cond b x l) ≡ true
      go true = k
      go false = h

  swapped : (l m x : Float) → fair l ≡ true → fair m ≡ true → fair x ≡ true → pick better (pick better l x) m ≡ pick better (pick better l m) x
  swapped l m x h k s = sym (assoc l x m h s k) ∙ ap (pick better l) (comm x m s k) ∙ assoc l m x h k s

  -- a value put to one of four, and to all of them put together
  module _ (a b c d x : Float) (ha : fair a ≡ true) (hb : fair b ≡ true) (hc : fair c ≡ true) (hd : fair d ≡ true) (hx : fair x ≡ true) where
    left : fair (pick better a b) ≡ true
    left = keeps a b ha hb

    right : fair (pick better c d) ≡ true
    right = keeps c d hc hd

    to_a : pick better (pick better (pick better a x) b) (pick better c d) ≡ pick better (pick better (pick better a b) (pick better c d)) x
    to_a = ap (λ (l : Float). pick better l (pick better c d)) (swapped a b x ha hb hx) ∙ swapped (pick better a b) (pick better c d) x left right hx

    to_b : pick better (pick better a (pick better b x)) (pick better c d) ≡ pick better (pick better (pick better a b) (pick better c d)) x
    to_b = ap (λ (l : Float). pick better l (pick better c d)) (assoc a b x ha hb hx) ∙ swapped (pick better a b) (pick better c d) x left right hx

    to_c : pick better (pick better a b) (pick better (pick better c x) d) ≡ pick better (pick better (pick better a b) (pick better c d)) x
    to_c = ap (pick better (pick better a b)) (swapped c d x hc hd hx) ∙ assoc (pick better a b) (pick better c d) x left right hx

    to_d : pick better (pick better a b) (pick better c (pick better d x)) ≡ pick better (pick better (pick better a b) (pick better c d)) x
    to_d = ap (pick better (pick better a b)) (assoc c d x hc hd hx) ∙ assoc (pick better a b) (pick better c d) x left right hx

-- ---- a record, by a bit that was heard

-- of a bit that was heard, one value is put to a record
pub record Voiced (h : Heard) : Type 0 where
  said : (l : Link) (n : ℕ) → with_heard l n h ≡ with_value l n (value_of h)
  sound : fair (magnitude_of (value_of h)) ≡ true

is_true : (b : Bool) → T b → b ≡ true
is_true true t = refl
is_true false t = absurd t

fair_magnitude : (x : Float) (n : ℕ) → Under x n → T (fits binary32 x) → fair (magnitude_of x) ≡ true
unfolding fits magnitude_of
fair_magnitude nan n u t = absurd u
fair_magnitude (inf s) n u t = absurd u
fair_magnitude (fin s zero e) n u t = refl
fair_magnitude (fin true (suc m) e) n u t = is_true _ t
fair_magnitude (fin false (suc m) e) n u t = is_true _ t

pub voiced : {h : Heard} (xs : List Float) → h ≡ join_of xs → 0 < length xs → T (fits binary32 (value_of h)) → Voiced h
voiced [] q k t = absurd (omega arith)
voiced {h} (x ∷ xs) q k t =
    record { said = rw q (join_voice x xs).said; sound = fair_magnitude (value_of h) bound (rw q (join_under (x ∷ xs))) t }

-- a record that has a value, and no punctured bit
abbrev Lane : Link → Type 0
Lane l = (fair l.least ≡ true) × (fair l.greatest ≡ true) × (l.punctured ≡ 0)

module _ {h : Heard} (v : Voiced h) where
  next : (l : Link) (n : ℕ) → l.punctured ≡ 0 → 0 < n → with_heard l n h ≡ with_magnitude l false (magnitude_of (value_of h))
  unfolding with_value
  next l n z s = v.said l n ∙ ap (λ (t : Bool). with_magnitude l t (magnitude_of (value_of h))) (ne_eqb l.punctured n (λ q. omega arith))

  lane_next : (l : Link) → Lane l → Lane (with_magnitude l false (magnitude_of (value_of h)))
  lane_next l i =
      let x = magnitude_of (value_of h) in
      (keeps lt up-order l.least x i.0 v.sound, keeps above down-order l.greatest x i.1 v.sound, i.2)

-- of `all` bits, the four lanes have the first n, and `hs` are left
pub record Dealt (all : List Heard) (a b c d : Link) (n : ℕ) (hs : List Heard) : Type 0 where
  pub whole : Surveying all (both_of (both_of a b) (both_of c d)) n hs
  pub some : 0 < n
  in_a : Lane a
  in_b : Lane b
  in_c : Lane c
  in_d : Lane d

-- ---- one bit to one lane

abbrev of : Link → Float → Float → Link
of l s t = record { least = s; greatest = t; punctured = l.punctured }

module _ {all : List Heard} {a b c d : Link} {n : ℕ} {hs : List Heard} (s : Dealt all a b c d n hs) {h : Heard} {hs' : List Heard} (q : hs ≡ h ∷ hs')
    (v : Voiced h) {k : ℕ} (k0 : 0 < k) where
  goes : (l : Link) → l ≡ with_magnitude (both_of (both_of a b) (both_of c d)) false (magnitude_of (value_of h)) → Surveying all l (n + 1) hs'
  goes l e = survey_turn s.whole q (e ∙ sym (next v (both_of (both_of a b) (both_of c d)) n s.in_a.2 s.some))

  by : (l : Link) → Lane l → {l' : Link} → l' ≡ with_heard l k h → l' ≡ with_magnitude l false (magnitude_of (value_of h))
  by l i r = r ∙ next v l k i.2 k0

  pub deal_a : {a' : Link} → a' ≡ with_heard a k h → Dealt all a' b c d (n + 1) hs'
  deal_a r =
      let y = magnitude_of (value_of h) in
      let a' = with_magnitude a false y in
      rw (by a s.in_a r)
      (record {
        whole = goes (both_of (both_of a' b) (both_of c d))
            (ap₂ (of a)
            (to_a lt up-order a.least b.least c.least d.least y s.in_a.0 s.in_b.0 s.in_c.0 s.in_d.0 v.sound)
            (to_a above down-order a.greatest b.greatest c.greatest d.greatest y s.in_a.1 s.in_b.1 s.in_c.1 s.in_d.1 v.sound));
        some = omega arith;
        in_a = lane_next v a s.in_a;
        in_b = s.in_b;
        in_c = s.in_c;
        in_d = s.in_d;
      })

  pub deal_b : {b' : Link} → b' ≡ with_heard b k h → Dealt all a b' c d (n + 1) hs'
  deal_b r =
      let y = magnitude_of (value_of h) in
      let b' = with_magnitude b false y in
      rw (by b s.in_b r)
      (record {
        whole = goes (both_of (both_of a b') (both_of c d))
            (ap₂ (of a)
            (to_b lt up-order a.least b.least c.least d.least y s.in_a.0 s.in_b.0 s.in_c.0 s.in_d.0 v.sound)
            (to_b above down-order a.greatest b.greatest c.greatest d.greatest y s.in_a.1 s.in_b.1 s.in_c.1 s.in_d.1 v.sound));
        some = omega arith;
        in_a = s.in_a;
        in_b = lane_next v b s.in_b;
        in_c = s.in_c;
        in_d = s.in_d;
      })

  pub deal_c : {c' : Link} → c' ≡ with_heard c k h → Dealt all a b c' d (n + 1) hs'
  deal_c r =
      let y = magnitude_of (value_of h) in
      let c' = with_magnitude c false y in
      rw (by c s.in_c r)
      (record {
        whole = goes (both_of (both_of a b) (both_of c' d))
            (ap₂ (of a)
            (to_c lt up-order a.least b.least c.least d.least y s.in_a.0 s.in_b.0 s.in_c.0 s.in_d.0 v.sound)
            (to_c above down-order a.greatest b.greatest c.greatest d.greatest y s.in_a.1 s.in_b.1 s.in_c.1 s.in_d.1 v.sound));
        some = omega arith;
        in_a = s.in_a;
        in_b = s.in_b;
        in_c = lane_next v c s.in_c;
        in_d = s.in_d;
      })

  pub deal_d : {d' : Link} → d' ≡ with_heard d k h → Dealt all a b c d' (n + 1) hs'
  deal_d r =
      let y = magnitude_of (value_of h) in
      let d' = with_magnitude d false y in
      rw (by d s.in_d r)
      (record {
        whole = goes (both_of (both_of a b) (both_of c d'))
            (ap₂ (of a)
            (to_d lt up-order a.least b.least c.least d.least y s.in_a.0 s.in_b.0 s.in_c.0 s.in_d.0 v.sound)
            (to_d above down-order a.greatest b.greatest c.greatest d.greatest y s.in_a.1 s.in_b.1 s.in_c.1 s.in_d.1 v.sound));
        some = omega arith;
        in_a = s.in_a;
        in_b = s.in_b;
        in_c = s.in_c;
        in_d = lane_next v d s.in_d;
      })

-- ---- the first bit, which all lanes start from

same : (x : Float) (b : Bool) → cond b x x ≡ x
same x true = refl
same x false = refl

four_same : (better : Float → Float → Bool) (x : Float) → pick better (pick better x x) (pick better x x) ≡ x
four_same better x = ap₂ (pick better) (same x (better x x)) (same x (better x x)) ∙ same x (better x x)

all_same : (l : Link) → both_of (both_of l l) (both_of l l) ≡ l
all_same l = ap₂ (of l) (four_same lt l.least) (four_same above l.greatest)

start : {all hs : List Heard} (l : Link) → Lane l → Surveying all l 1 hs → Dealt all l l l l 1 hs
start {all} {hs} l i s =
    record {
      whole = subst (λ (k : Link). Surveying all k 1 hs) (sym (all_same l)) s;
      some = omega arith;
      in_a = i;
      in_b = i;
      in_c = i;
      in_d = i;
    }

-- z is the record of no bit, and l that of the first
pub deal_start : {all hs : List Heard} (z : Link) {l a b c d : Link} (h : Heard) → z.punctured ≡ 0 → l ≡ with_heard z 0 h → Voiced h
    → (a ≡ l) × (b ≡ l) × (c ≡ l) × (d ≡ l) → Surveying all l 1 hs → Dealt all a b c d 1 hs
deal_start {all} {hs} z {l} h p r v q s =
    let m = magnitude_of (value_of h) in
    let e : l ≡ with_magnitude z true m = r ∙ v.said z 0 ∙ sym (first-value z 0 (value_of h) m p refl) in
    rw (q.0, q.1, q.2, q.3) (rw e (start (with_magnitude z true m) (v.sound, v.sound, p) (rw e at s)))

-- ---- two lanes, by the tests of the code

pub both_by : (l k : Link) (b d : Bool) → lt k.least l.least ≡ b → lt l.greatest k.greatest ≡ d
    → ◌≡◌ {A = Link} (record { least = cond b k.least l.least; greatest = cond d k.greatest l.greatest; punctured = l.punctured }) (both_of l k)
both_by l k b d p q =
    ap₂ {C = Link} (λ (s t : Bool). record { least = cond s k.least l.least; greatest = cond t k.greatest l.greatest; punctured = l.punctured })
    (sym p) (sym q)

pub none_dealt : {all : List Heard} {a b c d : Link} {n : ℕ} {hs : List Heard} → Dealt all a b c d n hs
    → (a.punctured ≡ 0) × (b.punctured ≡ 0) × (c.punctured ≡ 0) × (d.punctured ≡ 0)
none_dealt s = (s.in_a.2, s.in_b.2, s.in_c.2, s.in_d.2)
