-- The walk that fills a segment with the values of its bits.
use mathlib.Core.Path.{◌≡◌, refl, ap, ◌∙◌}
use mathlib.Core.Bool.{Bool}
use mathlib.Core.List.{List, map}
use Prim.Native.Nat.{ℕ, zero, suc, ◌+◌, ◌*◌, ◌-◌, ◌≤◌, ◌<◌}
use native.Mathlib.Nat.{suc-mul}
use native.Mathlib.Omega.{arith}
use lib.ListN.{length, get_or, set, take, drop}
use lib.Seq.{set-get_or}
use lib.Ieee.{Float, nan}
use Rattle.laws.proofs.WrittenLaws.{write_before}
use Rattle.laws.proofs.TodoLaws.{Todo, todo_all, todo_turn, todo_put, todo_done}
use Rattle.matching.specs.Signed.{signed_by}
use Rattle.pattern.specs.Pattern.{copies_at, after, shared_from, Segment}
use Rattle.pattern.proofs.SegmentLaws.{stands}
use Rattle.joining.specs.declared.Heard.{Heard}
use Rattle.joining.specs.Joining.{raw_of, clipped, join_of, value_of, home_of, Clips}
use Rattle.joining.proofs.ClipLaws.{clip_heard}
use Rattle.joining.proofs.HomeLaws.{length_home, heard_by}
use Rattle.joining.proofs.PlaceLaws.{Place, left, once_heard, place-start, place-room, place-next, left_next}

-- what bits get by their shares of the values sent
abbrev given : List (List Float) → List Float
given ls = map value_of (map join_of ls)

pub record Filling (less : Bool) (m start : ℕ) (vs old list : List Float) (e k i : ℕ) : Type 0 where
  pub place : Place less m (length old) vs e k i
  pub todo : Todo old (home_of (signed_by less m) (length old) start vs) list i (given (left less m (length old) vs e k i))

pub fill_start : (less : Bool) (m start : ℕ) (vs old : List Float) → Segment less m (length old) (length vs) start → 0 < m
    → Filling less m start vs old old start 0 0
unfolding home_of
fill_start less m start vs old s h =
    let all = home_of (signed_by less m) (length old) start vs in
    let long = length_home (signed_by less m) (length old) start vs in
    let q : length old - 0 ≡ length old = omega arith in
    record {
      place = place-start less m (length old) start vs s (stands less m (length old) (length vs) start s h) (λ q. h);
      todo = rw q (todo_turn (todo_all old all long) (ap (map value_of) (heard_by less m (length old) start vs (λ q. h))));
    }

module _ {less : Bool} {m start : ℕ} {vs old list : List Float} {e k i : ℕ} (f : Filling less m start vs old list e k i) where
  pub fill_end : length old ≤ i → list ≡ home_of (signed_by less m) (length old) start vs
  fill_end h = let q : length old - i ≡ 0 = omega arith in todo_done f.todo (rw q (unfold shared_from in refl))

  -- one bit: h was heard of it, and x is written
  pub fill_turn : i < length old → {h : Heard} {v x : Float} {k' e' : ℕ} → let P = 2 * length old in let D = 2 * m in
      (h ≡ raw_of (take (copies_at less P D e) (drop k vs))) × (k' ≡ k + copies_at less P D e) × (e' ≡ after less P D e) → v ≡ value_of h → x ≡ clipped v
      → Filling less m start vs old (set list i x) e' k' (i + 1)
  unfolding join_of
  fill_turn b t qv qx =
      rw (qx, qv, t.0, ← clip_heard (raw_of (take (copies_at less (2 * length old) (2 * m) e) (drop k vs))))
      (record { place = place-next f.place b t.1 t.2; todo = todo_put f.todo (ap given (left_next f.place b t.1 t.2)) })

  -- one bit of one copy
  pub fill_once : i < length old → 2 * m < e → {x : Float} → x ≡ clipped (get_or vs k nan) → Filling less m start vs old (set list i x) (e - 2 * m) (k + 1) (i + 1)
  unfolding value_of
  fill_once b d q = fill_turn b (once_heard less (2 * length old) (2 * m) e k vs d (place-room f.place b)) refl q

  fill_over : {list' : List Float} {n : ℕ} → Clips vs list list' k i n → Filling less m start vs old list' e k i
  fill_over w =
      let t = f.todo in
      let q = write_before w (omega (arith, f.place.upto, t.long)) in
      record { place = f.place; todo = record { same = rw q t.same; ends = t.ends; long = w.long ∙ t.long } }

-- n bits of one copy each, for e stands above n falls
pub fill_run : {less : Bool} {m start : ℕ} {vs old list list' : List Float} {e k i n : ℕ} → Filling less m start vs old list e k i
    → Clips vs list list' k i n → n * (2 * m) < e → i + n ≤ length old → Filling less m start vs old list' (e - n * (2 * m)) (k + n) (i + n)
fill_run {less} {m} {start} {vs} {old} {list' = list'} {e = e} {k = k} {i = i} {n = n} f w h b = go n (fill_over f w) w.there h b
  where
    go : (n : ℕ) → Filling less m start vs old list' e k i → ((j : ℕ) → j < n → get_or list' (i + j) nan ≡ clipped (get_or vs (k + j) nan))
        → n * (2 * m) < e → i + n ≤ length old → Filling less m start vs old list' (e - n * (2 * m)) (k + n) (i + n)
    go zero f t h b =
        let qe : e - 0 * (2 * m) ≡ e = omega arith in
        let qk : k + 0 ≡ k = omega arith in
        let qi : i + 0 ≡ i = omega arith in
        rw (qe, qk, qi) f
    go (suc n) f t h b =
        let s = suc-mul n (2 * m) in
        let qe : e - suc n * (2 * m) ≡ e - n * (2 * m) - 2 * m = omega arith in
        let qk : k + suc n ≡ k + n + 1 = omega arith in
        let qi : i + suc n ≡ i + n + 1 = omega arith in
        let g = go n f (λ j l. t j (omega arith)) (omega arith) (omega arith) in
        rw (qe, qk, qi) (rw (set-get_or list' (i + n) nan) at (fill_once g (omega arith) (omega arith) (t n (omega arith))))
