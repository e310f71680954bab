-- Step 6's way back over its own text: the shares of the bits are the values, one after the other; the share of a bit is what the text sends of it, copy
-- 0, 1, .. in order; and how many it has does not depend on what the values are. With `length-shared` of MatchedLaws they leave no other `shared`.
use mathlib.Core.Path.{◌≡◌, sym, ap, ap₂, ◌∙◌}
use mathlib.Core.List.{List, [], ◌++◌}
use Prim.Native.Nat.{ℕ, zero, suc, ◌-◌, ◌≤◌, ◌<◌, min}
use native.Mathlib.Omega.{arith}
use lib.IntN.{ℤ}
use lib.ListN.{length, get_or, take, drop, length-take, length-drop}
use lib.Seq.{take-add, take_all}
use Rattle.laws.specs.Joined.{joined}
use Rattle.laws.specs.Tables.{table}
use Rattle.laws.proofs.TableLaws.{table-length}
use Rattle.pattern.specs.Closed.{sent_before}
use Rattle.pattern.specs.Pattern.{copies_of, shared, Rates}
use Rattle.pattern.specs.Text.{matched_text}
use Rattle.pattern.proofs.MatchedLaws.{sent_none, sent_more, sent_all, shared-matched, shared_at}
use Rattle.pattern.proofs.TextLaws.{matched-text}

module _ {A : Type 0} (d : ℤ) (N W e : ℕ) (vs : List A) (r : Rates d N W e) where
  dealt_to : (n : ℕ) → n ≤ N → joined (λ m. get_or (shared d N e vs) m []) n ≡ take (sent_before d N e n) vs
  unfolding joined
  dealt_to zero l = sym (ap (λ (k : ℕ). take k vs) (sent_none d N W e r))
  dealt_to (suc n) l =
      ap₂ (λ (x y : List A). x ++ y) (dealt_to n (omega arith)) (shared_at d N W e n vs r (omega arith))
      ∙ sym (take-add (sent_before d N e n) (copies_of d N e n) vs)
      ∙ ap (λ (k : ℕ). take k vs) (sym (sent_more d N W e n r))

  -- the shares of the N bits, one after the other, are the values
  pub dealt : length vs ≡ W → joined (λ m. get_or (shared d N e vs) m []) N ≡ vs
  dealt long = dealt_to N (omega arith) ∙ take_all (sent_before d N e N) vs (omega (arith, sent_all d N W e r))

-- of what the text sends of xs, bit m's share is copy 0, 1, .. of its own x
pub own : {A B : Type 0} (f : A → ℕ → B) (d : ℤ) (W e m : ℕ) (xs : List A) (z : A) → Rates d (length xs) W e → m < length xs
    → get_or (shared d (length xs) e (matched_text f d (length xs) e xs)) m []
    ≡ table (f (get_or xs m z)) 0 (length (get_or (shared d (length xs) e (matched_text f d (length xs) e xs)) m []))
own f d W e m xs z r l =
    let copies = copies_of d (length xs) e m in
    let is =
    ap (λ (sent : List _). get_or (shared d (length xs) e sent) m []) (matched-text f d (length xs) W e xs r) ∙ shared-matched f d e m xs z l in
    is ∙ ap (table (f (get_or xs m z)) 0) (sym (ap length is ∙ table-length (f (get_or xs m z)) 0 copies))

-- as many values for a bit as of any others
pub as_many : {A B : Type 0} (d : ℤ) (N W e m : ℕ) (vs : List A) (ws : List B) → Rates d N W e → m < N → length vs ≡ length ws
    → length (get_or (shared d N e vs) m []) ≡ length (get_or (shared d N e ws) m [])
as_many d N W e m vs ws r l q =
    let c = copies_of d N e m in
    let b = sent_before d N e m in
    ap length (shared_at d N W e m vs r l)
    ∙ length-take c (drop b vs)
    ∙ ap (min c) (length-drop b vs ∙ ap (λ (n : ℕ). n - b) q ∙ sym (length-drop b ws))
    ∙ sym (ap length (shared_at d N W e m ws r l) ∙ length-take c (drop b ws))
