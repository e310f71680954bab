-- What is left to send of a segment, one turn of a loop at a time.
use mathlib.Core.Path.{◌≡◌, refl, sym, ap, ◌∙◌, subst}
use mathlib.Core.Bool.{Bool, true, false}
use mathlib.Core.List.{List, [], ◌∷◌, ◌++◌, map}
use Prim.Native.Nat.{ℕ, zero, suc, ◌+◌, ◌*◌, ◌-◌, ◌≤◌, ◌<◌}
use native.Mathlib.Nat.{suc-mul}
use native.Mathlib.Omega.{arith}
use lib.ListN.{length, get_or, set, take, drop, replicate}
use lib.Seq.{set-get_or}
use Rattle.laws.proofs.PartLaws.{replicate-map}
use Rattle.laws.proofs.TestLaws.{split}
use Rattle.laws.proofs.TodoLaws.{Todo, todo_all, todo_turn, todo_over, todo_put, todo_room}
use Rattle.matching.specs.Signed.{signed_by}
use Rattle.pattern.specs.Pattern.{walked, matched, as_is, Rates, Segment}
use Rattle.pattern.specs.Every.{every, Strided}
use Rattle.pattern.specs.Run.{Copied, Ran, Gone}
use Rattle.pattern.proofs.WalkLaws.{walked_keep, walked-drop, walked_more, walked-map, walked_of}
use Rattle.pattern.proofs.MatchedLaws.{length-matched}
use Rattle.pattern.proofs.SegmentLaws.{matched_by}
use Rattle.pattern.proofs.EveryLaws.{every-length, every-within, every-turn, every-next, every_past}
use Rattle.laws.proofs.WrittenLaws.{write_before}

-- from bit i on
abbrev pub left : Bool → ℕ → ℕ → ℕ → ℕ → List ℕ → ℕ → ℕ → List ℕ
left less m n from step src e i = walked as_is less (2 * n) (2 * m) e (drop i (every 0 from step n src))

map_same : (y : ℕ) (xs : List ℕ) → map (λ x. y) xs ≡ replicate (length xs) y
map_same y [] = refl
map_same y (x ∷ xs) = ap (λ (l : List ℕ). y ∷ l) (map_same y xs)

-- of fillers only fillers are sent
walked_same : (less : Bool) (P D e k y : ℕ) → walked as_is less P D e (replicate k y) ≡ replicate (length (walked as_is less P D e (replicate k y))) y
walked_same less P D e k y =
    let g : ℕ → ℕ = λ x. y in
    ap (walked as_is less P D e) (replicate-map g k y)
    ∙ walked_of g as_is less P D e (replicate k y)
    ∙ walked-map as_is g less P D e (replicate k y)
    ∙ map_same y (walked as_is less P D e (replicate k y))

-- what is left is alike: it is all of what a loop puts from k on
pub rest_alike : (y : ℕ) {old out list : List ℕ} {k : ℕ} {rest : List ℕ} → Todo old out list k rest → rest ≡ replicate (length rest) y
    → take k list ++ replicate (length list - k) y ≡ out
rest_alike y {list = list} {k = k} {rest = rest} t q =
    let d : length list - k ≡ length rest = omega (arith, t.ends, t.long) in
    let r : replicate (length list - k) y ≡ rest = ap (λ (n : ℕ). replicate n y) d ∙ sym q in
    ap (λ (l : List ℕ). take k list ++ l) r ∙ t.same

-- the next bit is `bit` and stands at j: what is left from it on is to be written from k on
pub record Sending (less : Bool) (m n from step : ℕ) (src : List ℕ) (start : ℕ) (old dst : List ℕ) (e k j : ℕ) : Type 0 where
  pub bit : ℕ
  pub index : j ≡ from + bit * step
  pub above : 0 < e
  pub todo : Todo old (left less m n from step src start 0) dst k (left less m n from step src e bit)

pub sending_starts : (less : Bool) (m n from step : ℕ) (src : List ℕ) (start : ℕ) (dst : List ℕ) → Segment less m n (length dst) start → 0 < m → 0 < start
    → Sending less m n from step src start dst dst start 0 from
sending_starts less m n from step src start dst s h pos =
    let xs = every 0 from step n src in
    let d = signed_by less m in
    let q = subst (λ (N : ℕ). Rates d N (length dst) start → length (matched as_is d N start xs) ≡ length dst) (every-length 0 from step n src) (length-matched as_is d (length dst) start xs) in
    record {
      bit = 0;
      index = omega arith;
      above = pos;
      todo = todo_all _ _ (ap length (sym (matched_by as_is less m n start xs h)) ∙ q s.rates);
    }

module _ {less : Bool} {m n from step : ℕ} {src : List ℕ} {start : ℕ} {old dst : List ℕ} {e k j : ℕ} (s : Sending less m n from step src start old dst e k j) where
  pub sending_over : {was : List ℕ} → length old ≡ length was → Sending less m n from step src start was dst e k j
  sending_over q = record { bit = s.bit; index = s.index; above = s.above; todo = todo_over s.todo q }

  -- past the contents the rest are fillers
  pub sending_ends : 0 < m → length src ≤ j → take k dst ++ replicate (length dst - k) 0 ≡ matched as_is (signed_by less m) n start (every 0 from step n src)
  sending_ends h p =
      let r : left less m n from step src e s.bit ≡ replicate (length (left less m n from step src e s.bit)) 0 =
      rw (every_past 0 from step n src s.bit j s.index p) (walked_same less (2 * n) (2 * m) e (n - s.bit) 0) in
      rest_alike 0 s.todo r ∙ sym (matched_by as_is less m n start (every 0 from step n src) h)

  module _ (w : Strided step n (length src)) (h : j < length src) where
    next : drop s.bit (every 0 from step n src) ≡ get_or src j 0 ∷ drop (s.bit + 1) (every 0 from step n src)
    next = every-next 0 from step n src s.bit j s.index (every-within 0 from step n src s.bit j s.index w h)

    turn : {dst' : List ℕ} {e' k' : ℕ} → 0 < e' → Todo old (left less m n from step src start 0) dst' k' (left less m n from step src e' (s.bit + 1))
        → Sending less m n from step src start old dst' e' k' (j + step)
    turn p t = record { bit = s.bit + 1; index = every-turn 0 from step n src s.bit j s.index; above = p; todo = t }

    kept : 2 * m < e → left less m n from step src e s.bit ≡ get_or src j 0 ∷ left less m n from step src (e - 2 * m) (s.bit + 1)
    kept lt = rw next (walked_keep as_is (2 * n) (2 * m) e (get_or src j 0) _ less lt)

    pub sending_keep : 2 * m < e → Sending less m n from step src start old (set dst k (get_or src j 0)) (e - 2 * m) (k + 1) (j + step)
    sending_keep lt = turn (omega arith) (todo_put s.todo (kept lt))

    pub kept_room : 2 * m < e → k < length dst
    kept_room lt = todo_room s.todo (rw (kept lt) (omega arith))

-- a run of bits side by side: each of them is kept, and what was put behind k does no harm
module _ {less : Bool} {m n from step : ℕ} {src : List ℕ} {start : ℕ} {old dst : List ℕ} (e k j c : ℕ) where
  sending_next : Sending less m n from step src start old dst (e - c * (2 * m)) (k + c) (j + c) → Strided step n (length src) → step ≡ 1
      → suc c * (2 * m) < e → j + c < length src → get_or dst (k + c) 0 ≡ get_or src (j + c) 0
      → Sending less m n from step src start old dst (e - suc c * (2 * m)) (k + suc c) (j + suc c)
  sending_next s w q h b t =
      let f = suc-mul c (2 * m) in
      let qe : e - suc c * (2 * m) ≡ e - c * (2 * m) - 2 * m = omega arith in
      let qk : k + suc c ≡ k + c + 1 = omega arith in
      let qj : j + suc c ≡ j + c + step = omega arith in
      rw (qe, qk, qj) (rw (← t, set-get_or dst (k + c) 0) at (sending_keep s w b (omega arith)))

module _ {less : Bool} {m n from step : ℕ} {src : List ℕ} {start : ℕ} {old dst : List ℕ} {e k j : ℕ} where
  sending_put : {dst' : List ℕ} {c : ℕ} → Sending less m n from step src start old dst e k j → Copied src dst dst' j k c
      → Sending less m n from step src start old dst' e k j
  sending_put s c =
      let t = s.todo in
      let q = write_before c (omega (arith, t.ends, t.long)) in
      record { bit = s.bit; index = s.index; above = s.above; todo = record { same = rw q t.same; ends = t.ends; long = c.long ∙ t.long } }

  sending_none : Sending less m n from step src start old dst e k j → Sending less m n from step src start old dst (e - 0 * (2 * m)) (k + 0) (j + 0)
  sending_none s =
      let qe : e - 0 * (2 * m) ≡ e = omega arith in
      let qk : k + 0 ≡ k = omega arith in
      let qj : j + 0 ≡ j = omega arith in
      rw (qe, qk, qj) s

  sending_keeps : (c : ℕ) → Sending less m n from step src start old dst e k j → Strided step n (length src) → (0 < c → step ≡ 1) → c * (2 * m) < e
      → ((i : ℕ) → i < c → j + i < length src) → ((i : ℕ) → i < c → get_or dst (k + i) 0 ≡ get_or src (j + i) 0)
      → Sending less m n from step src start old dst (e - c * (2 * m)) (k + c) (j + c)
  sending_keeps zero s w q h b t = sending_none s
  sending_keeps (suc c) s w q h b t =
      let g = sending_keeps c s w (λ h. q (omega arith)) (omega (arith, suc-mul c (2 * m))) (λ i l. b i (omega arith)) (λ i l. t i (omega arith)) in
      sending_next e k j c g w (q (omega arith)) h (b c (omega arith)) (t c (omega arith))

pub sending_run : {less : Bool} {m n from step : ℕ} {src : List ℕ} {start : ℕ} {old dst dst' : List ℕ} {e k j e' k' j' : ℕ}
    → Sending less m n from step src start old dst e k j → Strided step n (length src) → (r : Ran (2 * m) src dst dst' e k j e' k' j')
    → (0 < r.bits → step ≡ 1) → Sending less m n from step src start old dst' e' k' j'
sending_run {m = m} {e = e} {e' = e'} s w r b =
    let q : e' ≡ e - r.bits * (2 * m) = omega (arith, r.falls) in
    rw (q, r.puts, r.reads) (sending_keeps r.bits (sending_put s r.copied) w b (omega (arith, r.falls, r.above)) r.within r.copied.there)

-- from one bit to the next, and over a run behind it
pub sending_gone : {less : Bool} {m n from step : ℕ} {src : List ℕ} {start : ℕ} {old dst dst' : List ℕ} {e k j e' k' j' : ℕ}
    → Sending less m n from step src start old dst e k (j + step) → Strided step n (length src) → Gone step (2 * m) src dst dst' e k j e' k' j'
    → Sending less m n from step src start old dst' e' k' j'
sending_gone s w g = sending_run s w g.run g.beside

-- a bit that is dropped
pub sending_drop : {m n from step : ℕ} {src : List ℕ} {start : ℕ} {old dst : List ℕ} {e k j : ℕ} (s : Sending true m n from step src start old dst e k j)
    → Strided step n (length src) → j < length src → e ≤ 2 * m → m ≤ n
    → Sending true m n from step src start old dst (e + 2 * n - 2 * m) k (j + step)
sending_drop {m} {n} {from} {step} {src} {e = e} {j = j} s w h le few =
    turn s w h (omega (arith, s.above)) (todo_turn s.todo (rw (next s w h) (walked-drop as_is (2 * n) (2 * m) e (get_or src j 0) _ le)))

-- one that is sent once more
module _ {m n from step : ℕ} {src : List ℕ} {start : ℕ} {old dst : List ℕ} {e k j : ℕ} (s : Sending false m n from step src start old dst e k j)
    (w : Strided step n (length src)) (h : j < length src) where
  more : e ≤ 2 * m → left false m n from step src e s.bit ≡ get_or src j 0 ∷ left false m n from step src (e + 2 * n) s.bit
  more le =
      let b : s.bit < n = every-within 0 from step n src s.bit j s.index w h in
      rw (next s w h) (walked_more (2 * n) (2 * m) e (get_or src j 0) _ (omega arith) s.above le)

  pub sending_more : e ≤ 2 * m → Sending false m n from step src start old (set dst k (get_or src j 0)) (e + 2 * n) (k + 1) j
  sending_more le = record { bit = s.bit; index = s.index; above = omega (arith, s.above); todo = todo_put s.todo (more le) }

  pub more_room : k < length dst
  more_room = todo_room s.todo (split e (2 * m) (λ le. rw (more le) (omega arith)) (λ lt. rw (kept s w h lt) (omega arith)))
