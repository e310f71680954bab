-- Where there is no bit, or d = 0, no start counts.
use mathlib.Core.Path.{◌≡◌, refl, sym, ap, ◌∙◌}
use mathlib.Core.Bool.{false}
use mathlib.Core.List.{List, [], ◌∷◌}
use Prim.Native.Nat.{ℕ, zero, suc, ◌*◌, ◌<◌}
use native.Mathlib.Omega.{arith}
use lib.IntN.{ℤ, pos, negsuc, nat_abs}
use lib.ListN.{length, take, drop}
use Rattle.pattern.specs.Pattern.{again, grown, after, walked, matched, shared_from, shared}
use Rattle.pattern.proofs.MatchedLaws.{matched-same}

-- of what is sent
pub matched-start : {A B : Type 0} (f : A → ℕ → B) (d : ℤ) (N e s : ℕ) (xs : List A) → length xs ≡ N → (0 < N → 0 < nat_abs d → e ≡ s)
    → matched f d N e xs ≡ matched f d N s xs
unfolding matched walked
matched-start f d N e s [] n h = refl
matched-start f (pos zero) N e s (x ∷ xs) n h = matched-same f N e (x ∷ xs) ∙ sym (matched-same f N s (x ∷ xs))
matched-start f (pos (suc a)) N e s (x ∷ xs) n h = ap (λ (k : ℕ). matched f (pos (suc a)) N k (x ∷ xs)) (h (omega arith) (omega arith))
matched-start f (negsuc a) N e s (x ∷ xs) n h = ap (λ (k : ℕ). matched f (negsuc a) N k (x ∷ xs)) (h (omega arith) (omega arith))

-- of what is shared out again
shared_same : {A : Type 0} (P e s n : ℕ) (vs : List A) → shared_from false P 0 e n vs ≡ shared_from false P 0 s n vs
unfolding again grown shared_from
shared_same P e s zero vs = refl
shared_same P e s (suc n) vs =
    ap (λ (l : List (List _)). take 1 vs ∷ l) (shared_same P (after false P 0 e) (after false P 0 s) n (drop 1 vs))

pub shared_start : {A : Type 0} (d : ℤ) (N e s : ℕ) (vs : List A) → (0 < N → 0 < nat_abs d → e ≡ s) → shared d N e vs ≡ shared d N s vs
unfolding shared shared_from
shared_start d zero e s vs h = refl
shared_start (pos zero) (suc N) e s vs h = shared_same (2 * suc N) e s (suc N) vs
shared_start (pos (suc a)) (suc N) e s vs h = ap (λ (k : ℕ). shared (pos (suc a)) (suc N) k vs) (h (omega arith) (omega arith))
shared_start (negsuc a) (suc N) e s vs h = ap (λ (k : ℕ). shared (negsuc a) (suc N) k vs) (h (omega arith) (omega arith))
