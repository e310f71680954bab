-- Laws of what a call leaves.
use mathlib.Core.Path.{◌≡◌, sym, ap, ◌∙◌}
use mathlib.Core.List.{List}
use Prim.Native.Nat.{ℕ}
use Rattle.std.specs.Prelude.{Result}
use Rattle.counters.specs.Refusals.{answer_number, at_of}
use Rattle.counters.specs.declared.refusal.Refusal.{Refusal}
use Rattle.counters.proofs.LineLaws.{given_yes, given_no}
use Rattle.counters.proofs.PromiseLaws.{with_lasts}
use Rattle.counters.proofs.RefusalLaws.{answer_same}
use Rattle.looking.specs.Outcome.{Outcome, outcome, wrote}

module _ {A : Type 0} where
  made : {n m a b : ℕ} {x y : List A} → n ≡ m → a ≡ b → x ≡ y → outcome n a x ≡ outcome m b y
  made p q r = rw (p, q, r)

  -- a refusal
  pub wrote_no : (n count : ℕ) (new old : List A) {m : ℕ} → m ≡ n → (m ≡ 0 → ⊥) → outcome m 0 old ≡ wrote n count new old
  wrote_no n count new old e z =
      made e (sym (given_no n count 0 (λ q. z (e ∙ q)))) (sym (given_no n new old (λ q. z (e ∙ q))))

  -- an accepted call
  pub wrote_yes : (n count : ℕ) (new old : List A) {c : ℕ} {b : List A} → 0 ≡ n → c ≡ count → b ≡ new → outcome 0 c b ≡ wrote n count new old
  wrote_yes n count new old e p q =
      made e (p ∙ sym (given_yes n count 0 (sym e))) (q ∙ sym (given_yes n new old (sym e)))

  -- two that are equal to one: in Rattle an answer and the buffer, in C the number, the buffer and `at`
  pub answer_and : {L : Type 0} (lasts : List A → L) {x y : Result ℕ Refusal} {a b : List A} {c : Outcome A} → outcome (answer_number x) (at_of x) a ≡ c
      → outcome (answer_number y) (at_of y) b ≡ c → (x ≡ y) × (lasts a ≡ lasts b)
  answer_and lasts {x} {y} p q =
      let e = p ∙ sym q in
      (answer_same x y (ap (λ (z : Outcome A). z.number) e) (ap (λ (z : Outcome A). z.at) e), ap (λ (z : Outcome A). lasts z.buffer) e)

  module _ {L : Type 0} {a b c : Outcome A} where
    pub number_and : (lasts : List A → ℕ → L) → a ≡ c → b ≡ c
        → (a.number ≡ b.number) × (lasts a.buffer a.at ≡ lasts b.buffer b.at)
    number_and lasts = with_lasts (λ (z : Outcome A). z.number) (λ (z : Outcome A). lasts z.buffer z.at)
