-- A number that is the first line's that holds, and what is given by it: the answers that document 01 says.
use mathlib.Core.Path.{◌≡◌, refl, sym, ap, ◌∙◌, subst}
use mathlib.Core.Logic.{◌↔◌, ◌≢◌}
use mathlib.Core.Bool.{Bool, true, false, cond}
use mathlib.Core.List.{List, [], ◌∷◌, ◌++◌}
use Prim.Native.Nat.{ℕ, ◌<◌}
use native.Mathlib.Decide.{ℕ_discrete}
use native.Mathlib.Omega.{arith}
use borrow.Author.Tests.{ltb-true, eq-eqb, ne_eqb}
use lib.ListN.{length, get_or}
use Rattle.laws.specs.FirstFail.{first_fail}
use Rattle.laws.proofs.TestLaws.{split}
use Rattle.counters.specs.Lines.{Line, line, first_of, given}
use Rattle.counters.proofs.LineLaws.{clear_of, append_clear, first-append, given_yes, given_no, given_read}
use Rattle.looking.specs.Looking.{look_lines, indexed}
use Rattle.looking.proofs.LookLaws.{Early, early_numbered, early_not}
use Rattle.demands.specs.Exactly.{Saying}
use Rattle.demands.specs.Answers.{Answers, Points}
use Rattle.demands.proofs.ExactLaws.{Means, apart, exactly}
use Rattle.demands.proofs.TestMeans.{bad_in, good_till}

-- ---- the number, and what is left beside it

module _ {ls : List Line} {ss : List Saying} (means : Means ls ss) (alone : apart ls ≡ true) where
  pub answers : {X : Type 0} {number : ℕ} {left : X} (made kept : X) → number ≡ first_of ls → left ≡ given (first_of ls) made kept
      → Answers ss number left made kept
  answers made kept n l = record {
    numbers = exactly means alone n;
    accepted = λ z. l ∙ given_yes (first_of ls) made kept (sym n ∙ z);
    refused = λ z. l ∙ given_no (first_of ls) made kept (λ q. z (n ∙ q));
  }

  -- the number stands in the answer that is given
  pub answers_in : {X Y : Type 0} (number : Y → ℕ) (rest : Y → X) {y : Y} (made kept : Y) → number made ≡ 0 → number kept ≡ first_of ls
      → y ≡ given (first_of ls) made kept → Answers ss (number y) (rest y) (rest made) (rest kept)
  answers_in number rest made kept z k e =
      let n = first_of ls in
      answers (rest made) (rest kept)
      (ap number e
      ∙ given_read number made kept n
      ∙ elim (ℕ_discrete n 0) [
        | yes q ↦ given_yes n (number made) (number kept) q ∙ z ∙ sym q
        | no q ↦ given_no n (number made) (number kept) q ∙ k
      ])
      (ap rest e ∙ given_read rest made kept n)

-- ---- the position

-- 12 is given where its line holds
last_line : (a b : Bool) → first_of (line a 11 ∷ line b 12 ∷ []) ≡ 12 → b ≡ true
last_line true b e = absurd (omega arith)
last_line false true e = refl
last_line false false e = absurd (omega arith)

twelve : (head : List Line) → Early head → (a b : Bool) → first_of (head ++ line a 11 ∷ line b 12 ∷ []) ≡ 12 → b ≡ true
twelve head early a b e =
    let tail : List Line = line a 11 ∷ line b 12 ∷ [] in
    split (first_of head) 0
    (λ le. last_line a b (sym (append_clear tail (clear_of (early_numbered early) (omega arith))) ∙ e))
    (λ lt. absurd (early_not early (first-append head tail (λ z. omega arith) ∙ e)))

module _ {A : Type 0} (test : A → Bool) (d : A) (Bad : A → Type 0) (bad : (x : A) → (test x ≡ false) ↔ Bad x)
    {head : List Line} (early : Early head) (values : List A) (needed width room : ℕ) where
  abbrev n : ℕ
  n = first_of (head ++ look_lines test values needed width room)

  abbrev first : ℕ
  first = first_fail test values

  module _ (count : ℕ) {number at : ℕ} (same : number ≡ n) (here : at ≡ given n count (indexed n first)) where
    there : number ≡ 12 → first < length values
    there e = ltb-true first (length values) (twelve head early _ _ (sym same ∙ e))

    at-refused : number ≢ 0 → at ≡ indexed n first
    at-refused z = here ∙ given_no n _ _ (λ q. z (same ∙ q))

    at_bad : number ≡ 12 → at ≡ first
    at_bad e = at-refused (λ z. omega arith) ∙ ap (λ (b : Bool). cond b first 0) (eq-eqb n 12 (sym same ∙ e))

    pub points : Points Bad d values count number at
    points = record {
      counted = λ z. here ∙ given_yes n _ _ (sym same ∙ z);
      nowhere = λ z k. at-refused z ∙ ap (λ (b : Bool). cond b first 0) (ne_eqb n 12 (λ q. k (same ∙ q)));
      bad_there = λ e. subst (λ (i : ℕ). (i < length values) × Bad (get_or values i d)) (sym (at_bad e)) (there e, bad_in test d Bad bad values (there e));
      good_before = λ e j l. good_till test d Bad bad values j (subst (λ (i : ℕ). j < i) (at_bad e) l);
    }

  -- a call that writes nothing
  pub points_none : {number at : ℕ} → number ≡ n → at ≡ indexed n first → Points Bad d values 0 number at
  points_none same here =
      points 0 same
      (here ∙ elim (ℕ_discrete n 0) [
        | yes q ↦ ap (λ (b : Bool). cond b first 0) (ne_eqb n 12 (λ k. omega arith)) ∙ sym (given_yes n 0 (indexed n first) q)
        | no q ↦ sym (given_no n 0 (indexed n first) q)
      ])
