-- Laws of calls that open a sheet, look at lent values and write others.
use mathlib.Core.Path.{◌≡◌, refl, sym, ap, subst, ◌∙◌}
use mathlib.Core.Bool.{Bool, true, false, not, ◌&&◌, ◌||◌, cond}
use mathlib.Core.List.{List, [], ◌∷◌, ◌++◌}
use Prim.Native.Nat.{ℕ, ◌-◌, ◌≤◌, ◌<◌}
use native.Mathlib.Omega.{arith}
use borrow.Author.Tests.{ne_eqb, eqb-false, ltb-true, ltb-false, not-true}
use lib.Dec.{eqb, ltb}
use Rattle.std.specs.Prelude.{Result, Ok, Err, IfOk}
use Rattle.laws.specs.FirstFail.{first_fail}
use Rattle.laws.proofs.TestLaws.{or_left, or_right}
use Rattle.counters.specs.Lines.{Line, line, first_of, given}
use Rattle.counters.specs.Refusals.{refusal_number, refusal_at, Refuses}
use Rattle.counters.specs.declared.refusal.Refusal.{Refusal}
use Rattle.counters.proofs.CountLaws.{both_true}
use Rattle.counters.proofs.LineLaws.{Numbered, none, more, each, clear_of, append_clear, first-append, given_yes, given_no}
use Rattle.counters.proofs.RefusalLaws.{refusal_positive}
use Rattle.sheet.specs.Fields.{sheet_of}
use Rattle.sheet.specs.Numbers.{read_lines}
use Rattle.sheet.specs.declared.Sheet.{Sheet}
use Rattle.opening.specs.Opening.{AsOpened, refused, opened}
use Rattle.opening.specs.declared.Opened.{Opened}
use Rattle.looking.specs.Outcome.{outcome}
use Rattle.looking.specs.Looking.{last_frame, frame_lines, no_trch, look_lines, indexed, looked, Looks}

-- ---- a channel by its number

-- TrCH k is there
pub trch_there : (sh : Sheet) (k : ℕ) → no_trch sh k ≡ false → (0 < k) × (k - 1 < sh.channels)
trch_there sh k h =
    let a : k ≡ 0 → ⊥ = eqb-false k 0 (or_left _ (ltb sh.channels k) h) in
    let b : k ≤ sh.channels = ltb-false sh.channels k (or_right (eqb k 0) _ h) in
    (omega arith, omega arith)

-- ---- the lent values

pub either_left : {a : Bool} (b : Bool) → a ≡ true → a || b ≡ true
either_left b e = ap (λ (x : Bool). x || b) e

pub either_right : (a : Bool) {b : Bool} → b ≡ true → a || b ≡ true
either_right true e = refl
either_right false e = e

pub both_clear : {a b : Bool} → a ≡ false → b ≡ false → a || b ≡ false
both_clear p q = rw (p, q) refl

-- ---- what the call leaves

-- lines whose numbers are above 0 and not 12
pub data Early : List Line → Type 0 where
  no_line : Early []
  and_line : {l : Line} {ls : List Line} → 0 < l.number → (l.number ≡ 12 → ⊥) → Early ls → Early (l ∷ ls)

pub early_numbered : {ls : List Line} → Early ls → Numbered ls
early_numbered no_line = none
early_numbered (and_line a b e) = more a (early_numbered e)

either_not : (b : Bool) (n r : ℕ) → (n ≡ 12 → ⊥) → (r ≡ 12 → ⊥) → cond b n r ≡ 12 → ⊥
either_not true n r p q = p
either_not false n r p q = q

pub early_not : {ls : List Line} → Early ls → first_of ls ≡ 12 → ⊥
early_not no_line = λ q. omega arith
early_not (and_line {l} {ls} a b e) = either_not l.holds l.number (first_of ls) b (early_not e)

-- a list that is written out is looked through by computing
abbrev early : ℕ → Bool
early n = ltb 0 n && not (eqb n 12)

early_of : (ls : List Line) → each early ls ≡ true → Early ls
early_of [] h = no_line
early_of (l ∷ ls) h =
    let a = both_true (early l.number) (each early ls) h in
    let b = both_true (ltb 0 l.number) (not (eqb l.number 12)) a.0 in
    and_line (ltb-true 0 l.number b.0) (eqb-false l.number 12 (not-true _ b.1)) (early_of ls a.1)

pub early_read : (s : List ℕ) → Early (read_lines s)
early_read s = early_of (read_lines s) refl

pub early_more : {xs : List Line} (b : Bool) (n : ℕ) → Early xs → 0 < n → (n ≡ 12 → ⊥) → Early (xs ++ line b n ∷ [])
early_more b n no_line p q = and_line p q no_line
early_more b n (and_line x y e) p q = and_line x y (early_more b n e p q)

pub early_frame : (s : List ℕ) (frame : ℕ) → Early (frame_lines s frame)
early_frame s frame = early_more (ltb last_frame frame) 9 (early_read s) (omega arith) (λ q. omega arith)

-- lines behind others: what the first list refuses stays so, and where it is clear the second's number is given
pub number_first : (xs ys : List Line) (r : Refusal) → refusal_number r ≡ first_of xs → refusal_number r ≡ first_of (xs ++ ys)
number_first xs ys r e = e ∙ first-append xs ys (λ q. omega (arith, e, q, refusal_positive r))

pub number_second : {xs : List Line} (ys : List Line) → Numbered xs → 0 ≡ first_of xs → {n : ℕ} → n ≡ first_of ys → n ≡ first_of (xs ++ ys)
number_second ys p z e = e ∙ sym (append_clear ys (clear_of p (sym z)))

-- what is lent an opened sheet, and refuses by lines of its own: behind the others
pub opened_refuses : {A : Type 0} (xs : List Line) → Numbered xs → (s : List ℕ) (tail : Sheet → List Line) (P : Opened → Type 0) (x : Result A Refusal) →
    AsOpened xs s P x → ((o : Opened) → P o → Refuses (tail o.fields) x) → Refuses (xs ++ tail (sheet_of s)) x
opened_refuses xs p s tail P x (refused n e) k = (e.0 ∙ first-append xs (tail (sheet_of s)) n, e.1)
opened_refuses xs p s tail P x (opened o f z h) k =
    let e = k o h in
    (number_second (tail (sheet_of s)) p (sym z) (e.0 ∙ ap (λ (sh : Sheet). first_of (tail sh)) f), e.1)

-- and what it says of the opened sheet's fields it says of the bytes' own
pub opened_says : {A : Type 0} (xs : List Line) (s : List ℕ) (Q : Sheet → A → Type 0) (P : Opened → Type 0) (x : Result A Refusal) →
    AsOpened xs s P x → ((o : Opened) → P o → IfOk x (Q o.fields)) → IfOk x (Q (sheet_of s))
opened_says xs s Q P (Ok y) (refused n e) k = absurd (n (sym e.0))
opened_says xs s Q P (Err r) (refused n e) k = tt
opened_says xs s Q P x (opened o f z h) k = subst (λ (sh : Sheet). IfOk x (Q sh)) f (k o h)

-- what is given with a refusal's number, and with 0
module _ {X : Type 0} (n : ℕ) (yes no : X) where
  pub given_refused : (r : Refusal) → refusal_number r ≡ n → no ≡ given n yes no
  given_refused r e = sym (given_no n yes no (λ q. omega (arith, e, q, refusal_positive r)))

  pub given_accepted : 0 ≡ n → yes ≡ given n yes no
  given_accepted e = sym (given_yes n yes no (sym e))

-- other lines, and then a look at lent values: refused by the lines, or by what was looked at
module _ {A : Type 0} (test : A → Bool) (head : List Line) (early : Early head) (vs : List A) (needed n room : ℕ) where
  abbrev tail : List Line
  tail = look_lines test vs needed n room

  pub looks_early : (B : Type 0) (r : Refusal) → refusal_number r ≡ first_of head → refusal_at r ≡ 0 → Looks {B = B} test head vs needed n room (Err r)
  looks_early B r e i =
      let f = e ∙ first-append head tail (λ q. omega (arith, e, q, refusal_positive r)) in
      (f, i ∙ sym (ap (λ (b : Bool). cond b (first_fail test vs) 0) (ne_eqb (first_of (head ++ tail)) 12 (λ q. early_not early (sym e ∙ f ∙ q)))))

  pub looks_late : {B : Type 0} → 0 ≡ first_of head → (x : Result B Refusal) → Looks {B = B} test [] vs needed n room x → Looks {B = B} test head vs needed n room x
  looks_late {B = B} z x l =
      let w : first_of (head ++ tail) ≡ first_of tail = append_clear tail (clear_of (early_numbered early) (sym z)) in
      (l.0 ∙ sym w, l.1 ∙ ap (λ (k : ℕ). indexed k (first_fail test vs)) (sym w))

-- all that the call leaves, of a refusal and where it accepts
module _ {A : Type 0} where
  left : {a b c d : ℕ} {x y : List A} → a ≡ b → c ≡ d → x ≡ y → outcome a c x ≡ outcome b d y
  left p q r = rw (p, q, r)

  pub looked_no : (n bad count : ℕ) (new old : List A) {m i : ℕ} → m ≡ n → (m ≡ 0 → ⊥) → i ≡ indexed n bad → outcome m i old ≡ looked n bad count new old
  looked_no n bad count new old e z h =
      left e (h ∙ sym (given_no n count (indexed n bad) (λ q. z (e ∙ q)))) (sym (given_no n new old (λ q. z (e ∙ q))))

  pub looked_yes : (n bad count : ℕ) (new old : List A) → 0 ≡ n → {c : ℕ} {b : List A} → c ≡ count → b ≡ new → outcome 0 c b ≡ looked n bad count new old
  looked_yes n bad count new old e p q =
      left e (p ∙ sym (given_yes n count (indexed n bad) (sym e))) (q ∙ sym (given_yes n new old (sym e)))
