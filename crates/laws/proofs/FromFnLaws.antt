-- The array that std's array::from_fn makes, by a closure that stays as it was, is the table of what that gives.
use mathlib.Core.Path.{◌≡◌, subst, ◌∙◌}
use mathlib.Core.List.{List}
use Prim.Native.Nat.{ℕ, zero, suc, ◌+◌, ◌<◌}
use native.Mathlib.Nat.{add-zero, zero-add}
use native.Mathlib.Omega.{arith}
use denote.Param.Members.{Mut, Called}
use lib.ListN.{get_or}
use Rattle.std.specs.Array.{IsFromFnResultFrom, IsFromFnResult}
use Rattle.laws.specs.Tables.{table}
use Rattle.laws.proofs.TableLaws.{tabled}

module _ {F B : Type 0} (g : Mut F (ℕ × Unit {0}) B) (f : F) (h : ℕ → B) (same : (i : ℕ) (y : B) (q : F) → Called g f (i, tt) y q → (y ≡ h i) × (q ≡ f)) where
  made_at : (ys : List B) (i n : ℕ) → IsFromFnResultFrom g f ys i n → (d : B) (j : ℕ) → j < n → get_or ys (i + j) d ≡ h (i + j)
  made_at ys i zero e d j l = absurd (omega arith)
  made_at ys i (suc n) (q, y, at, call, rest) d zero l = rw (add-zero i) (at.1 d ∙ (same i y q call).0)
  made_at ys i (suc n) (q, y, at, call, rest) d (suc j) l =
      let s : i + 1 + j ≡ i + suc j = omega arith in
      let r = subst (λ (x : F). IsFromFnResultFrom g x ys (i + 1) n) (same i y q call).1 rest in
      subst (λ (x : ℕ). get_or ys x d ≡ h x) s (made_at ys (i + 1) n r d j (omega arith))

  pub made-table : (ys : List B) (n : ℕ) (d : B) → IsFromFnResult g f ys n → ys ≡ table h 0 n
  made-table ys n d k = tabled h ys n d k.long (λ j l. subst (λ (x : ℕ). get_or ys x d ≡ h x) (zero-add j) (made_at ys 0 n k.each d j l))
