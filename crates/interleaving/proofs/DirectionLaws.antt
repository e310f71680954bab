-- Laws of a direction through step 8: what goes between a seat and a place goes, once step 8 is done, between the seat's index and the place.
use Rattle.std.proofs.Common.{◌≡◌, ℕ, ◌<◌, List, length, get_or, set, sym, refl, ap, ◌∙◌, ⊎_elim}
use Rattle.interleaving.specs.Second.{second_interleaved, comes_from}
use Rattle.interleaving.specs.Directions.{Directed}
use Rattle.interleaving.proofs.SecondLaws.{second_at, second-length, second-set}

pub record DirectionLaws {A : Type 0} (rows sent : List A → List A → List A) (seen made : List A → List A) (reads writes : ℕ → ℕ → ℕ) : Type 0 where
  pub sizes : (from to : List A) → (reads (length from) (length to) ≡ length (rows from to)) × (writes (length from) (length to) ≡ length (sent from to))
  pub seen_long : (xs : List A) → length (seen xs) ≡ length xs
  pub made_long : (xs : List A) → length (made xs) ≡ length xs
  pub either : (i j : ℕ) → (reads (reads i j) (writes i j) ≡ i) × (writes (reads i j) (writes i j) ≡ j)
  pub same : (n : ℕ) → (reads n n ≡ n) × (writes n n ≡ n)
  pub below : (i j m n : ℕ) → i < m → j < n → (reads i j < reads m n) × (writes i j < writes m n)
  pub goes : (z : A) (from to : List A) (k place : ℕ) → (let K = reads (length from) (length to) in k < K →
      made (set to (writes (comes_from K k) place) (get_or from (reads (comes_from K k) place) z))
      ≡ set (made to) (writes k place) (get_or (seen from) (reads k place) z))

ahead : {A : Type 0} → DirectionLaws {A = A} (λ from to. from) (λ from to. to) second_interleaved (λ xs. xs) (λ i j. i) (λ i j. j)
ahead = record {
  sizes = λ from to. (refl, refl);
  seen_long = second-length;
  made_long = λ xs. refl;
  either = λ i j. (refl, refl);
  same = λ n. (refl, refl);
  below = λ i j m n h l. (h, l);
  goes = λ z from to k place h. ap (set to place) (sym (second_at from k z h));
}

undoing : {A : Type 0} → DirectionLaws {A = A} (λ from to. to) (λ from to. from) (λ xs. xs) second_interleaved (λ i j. j) (λ i j. i)
undoing = record {
  sizes = λ from to. (refl, refl);
  seen_long = λ xs. refl;
  made_long = second-length;
  either = λ i j. (refl, refl);
  same = λ n. (refl, refl);
  below = λ i j m n h l. (l, h);
  goes = λ z from to k place h. second-set to k (get_or from place z) h;
}

pub direction_laws : {A : Type 0} {rows sent : List A → List A → List A} {seen made : List A → List A} {reads writes : ℕ → ℕ → ℕ} → Directed rows sent seen made reads writes
    → DirectionLaws rows sent seen made reads writes
direction_laws {A} d =
    ⊎_elim (λ w. rw (w.row, w.other, w.source, w.target, w.read, w.write) (ahead {A = A})) (λ w. rw (w.row, w.other, w.source, w.target, w.read, w.write) (undoing {A = A})) d

-- what is copied of lists that are long enough is there, and what is written keeps both as long
module _ {A : Type 0} {rows sent : List A → List A → List A} {seen made : List A → List A} {reads writes : ℕ → ℕ → ℕ}
    (d : Directed rows sent seen made reads writes) (from : List A) where
  pub one_inside : (to : List A) {i j : ℕ} → i < length (rows from to) → j < length (sent from to)
      → (reads i j < length from) × (writes i j < length to)
  one_inside to {i} {j} h l =
      let w = direction_laws d in
      let z = w.sizes from to in
      let b = w.below i j (reads (length from) (length to)) (writes (length from) (length to)) (rw z.0 h) (rw z.1 l) in
      let e = w.either (length from) (length to) in
      (rw e.0 at b.0, rw e.1 at b.1)

  pub sides_kept : (to new : List A) → length new ≡ length to
      → (length (rows from new) ≡ length (rows from to)) × (length (sent from new) ≡ length (sent from to))
  sides_kept to new e =
      let w = direction_laws d in
      let y = w.sizes from new in
      let z = w.sizes from to in
      (sym y.0 ∙ ap (λ (n : ℕ). reads (length from) n) e ∙ z.0, sym y.1 ∙ ap (λ (n : ℕ). writes (length from) n) e ∙ z.1)
