-- A slot of one PhCH has its bits as they come, whatever the runs.
use Rattle.std.proofs.Common.{◌≡◌, ℕ, zero, suc, ◌+◌, ◌%◌, ◌≤◌, true, false, cond, eqb, List, [], ◌∷◌, length, get_or, set, sym, refl, ap, ◌∙◌, arith, take_all}
use borrow.Rule.Slice.PartMut.{put_mid, same_len_mid}
use Rattle.laws.specs.Sums.{sum_to}
use Rattle.laws.proofs.TableLaws.{tabled}
use Rattle.mapping.specs.Mapping.{Turn, start, next, passed, one_more, onward, taker, had, after_bit, place, run, mapped, before, place_of, unmapped, ones, at, slot_size, slot_of, slot_undone}
use Rattle.mapping.specs.Lines.{part_from}
use Rattle.mapping.proofs.PlaceLaws.{pos_up}
use Rattle.mapping.proofs.MappedLaws.{mapped-length, unmapped-mapped}
use Rattle.mapping.proofs.LineLaws.{part_length, part_put}

module _ (U : ℕ → ℕ) where
  -- the turn is always its own
  stays : (B : ℕ → ℕ) (n : ℕ) → onward B 1 0 n ≡ 0
  unfolding onward
  stays B n = elim (eqb (n % B 0) 0) as (λ x. cond x (next 1 0) 0 ≡ 0) [ true ↦ refl | false ↦ refl ]

  takes : (t : Turn) → t.p ≡ 0 → taker U 1 t ≡ 0
  unfolding taker passed
  takes t e = rw e (elim (eqb (t.fb 0) (U 0)) as (λ x. cond x (next 1 0) 0 ≡ 0) [ true ↦ refl | false ↦ refl ])

  module _ (B : ℕ → ℕ) where
    keeps : (t : Turn) → t.p ≡ 0 → (after_bit U B 1 t).p ≡ 0
    unfolding after_bit
    keeps t e = ap (λ (p : ℕ). onward B 1 p (suc (had U 1 t))) (takes t e) ∙ stays B (suc (had U 1 t))

    has_more : (t : Turn) → t.p ≡ 0 → (after_bit U B 1 t).fb 0 ≡ suc (t.fb 0)
    unfolding after_bit one_more
    has_more t e = ap (λ (p : ℕ). one_more t.fb p 0) (takes t e)

    counts : (k : ℕ) → ((before U B 1 k).p ≡ 0) × ((before U B 1 k).fb 0 ≡ k)
    unfolding before
    counts zero = (refl, refl)
    counts (suc k) =
        let c = counts k in
        (keeps (before U B 1 k) c.0, has_more (before U B 1 k) c.0 ∙ ap suc c.1)

    own-place : (k : ℕ) → place_of U B 1 k ≡ k
    unfolding place_of place sum_to
    own-place k =
        let c = counts k in
        let t = before U B 1 k in
        ap (λ (p : ℕ). place U p (t.fb p)) (takes t c.0) ∙ ap (place U 0) c.1 ∙ omega (arith, pos_up (U 0) 0 k refl)

    undone : {A : Type 0} (d : A) (ys : List A) → length ys ≡ sum_to U 1 → unmapped U B 1 d ys ≡ ys
    unfolding unmapped
    undone d ys n = sym (tabled _ ys (sum_to U 1) d n (λ k h. ap (λ (i : ℕ). get_or ys i d) (sym (own-place k))))

  -- so the length of a run is of no account
  module _ (B C : ℕ → ℕ) where
    alike : (t : Turn) → t.p ≡ 0 → after_bit U B 1 t ≡ after_bit U C 1 t
    unfolding after_bit
    alike t e =
        let f : ℕ → Turn = λ p. record { p = p; fb = one_more t.fb (taker U 1 t) } in
        ap f (keeps B t e ∙ sym (keeps C t e))

    any_run : {A : Type 0} (bits : List A) (t : Turn) (w : List A) → t.p ≡ 0 → run U B 1 bits t w ≡ run U C 1 bits t w
    unfolding run
    any_run [] t w e = refl
    any_run (b ∷ bits) t w e =
        let v = set w (place U (taker U 1 t) (had U 1 t)) b in
        ap (λ (u : Turn). run U B 1 bits u v) (alike t e) ∙ any_run bits (after_bit U C 1 t) v (keeps C t e)

    any_mapped : {A : Type 0} (bits w : List A) → mapped U B 1 bits w ≡ mapped U C 1 bits w
    unfolding mapped
    any_mapped bits w = any_run bits start w refl

  same : {A : Type 0} (B : ℕ → ℕ) (d : A) (xs w : List A) → length xs ≡ sum_to U 1 → length w ≡ sum_to U 1 → mapped U B 1 xs w ≡ xs
  same B d xs w n m =
      any_mapped B ones xs w
      ∙ sym (undone ones d (mapped U ones 1 xs w) (mapped-length U ones 1 xs w ∙ m))
      ∙ unmapped-mapped U ones 1 (λ q l. omega arith) d xs w n m

module _ {A : Type 0} (d : A) (B : ℕ → ℕ) (caps : List ℕ) (one : length caps ≡ 1) where
  -- mapped, and undone
  pub alone_slot : (xs w : List A) → length xs ≡ slot_size caps → length w ≡ slot_size caps → slot_of B caps xs w ≡ xs
  alone_slot xs w n m = rw one (same (at caps) B d xs w (rw one at n) (rw one at m))

  pub alone_undone : (ys : List A) → length ys ≡ slot_size caps → slot_undone B caps d ys ≡ ys
  alone_undone ys n = rw one (undone (at caps) B d ys (rw one at n))

-- ---- where it has all that step 8 interleaves

pub part-whole : {A : Type 0} (S : List A) (at n : ℕ) → at + n ≤ length S → n ≡ length S → part_from at n S ≡ S
part-whole S at n b e = let z : at ≡ 0 = omega arith in rw z (take_all n S (omega arith))

put_whole : {A : Type 0} (S ys : List A) (at n : ℕ) → at + n ≤ length S → n ≡ length S → length ys ≡ n → put_mid at n S ys ≡ ys
put_whole S ys at n b e m =
    let l : length (put_mid at n S ys) ≡ length S = same_len_mid at n S ys (m ∙ sym (part_length S at n b)) in
    sym (part-whole (put_mid at n S ys) at n (omega (arith, l)) (e ∙ sym l)) ∙ part_put S ys at n b m

module _ {A : Type 0} (d : A) (B : ℕ → ℕ) (caps : List ℕ) (one : length caps ≡ 1) (S w : List A) (m : length w ≡ slot_size caps) (at : ℕ)
    (b : at + length w ≤ length S) (e : length w ≡ length S) where
  pub alone_put : S ≡ slot_of B caps (part_from at (length w) S) w
  alone_put =
      sym (alone_slot d B caps one S w (sym e ∙ m) m)
      ∙ ap (λ (l : List A). slot_of B caps l w) (sym (part-whole S at (length w) b e))

  pub alone_take : w ≡ put_mid at (length w) S (slot_undone B caps d w)
  alone_take =
      sym (put_whole S w at (length w) b e refl) ∙ ap (put_mid at (length w) S) (sym (alone_undone d B caps one w m))
