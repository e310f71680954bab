use mathlib.Core.Path.{◌≡◌, refl, ap}
use mathlib.Core.List.{List}
use Prim.Native.Nat.{ℕ, ◌+◌, ◌<◌}
use native.Mathlib.Omega.{arith}
use lib.ListN.{length, get_or, set, length-set}
use Rattle.pattern.specs.Run.{Copied}
use Rattle.laws.proofs.WrittenLaws.{write_none, write_one}
use Rattle.pattern.proofs.runs.copy_eight.Goals as goal

module _ (src : List ℕ) (j k : ℕ) where
  -- the bit that is i further on
  abbrev put : ℕ → List ℕ → List ℕ
  put i l = set l (k + i) (get_or src (j + i) 0)

  eight : (l : List ℕ) → k + 7 < length l → Copied src l (put 7 (put 6 (put 5 (put 4 (put 3 (put 2 (put 1 (set l k (get_or src j 0))))))))) j k 8
  eight l h =
      let j0 : j ≡ j + 0 = omega arith in
      let k0 : k + 0 ≡ k = omega arith in
      let w0 = write_one (write_none 0 (λ i. get_or src (j + i) 0) l k) {x = get_or src j 0} (omega arith) (ap (λ (x : ℕ). get_or src x 0) j0) in
      let w3 = write_one (write_one (write_one (rw k0 at w0) (omega arith) refl) (omega arith) refl) (omega arith) refl in
      write_one (write_one (write_one (write_one w3 (omega arith) refl) (omega arith) refl) (omega arith) refl) (omega arith) refl

pub bounds-dst-k-2 : goal.bounds-dst-k-2
bounds-dst-k-2 c = simp length-set (omega arith)

pub bounds-dst-k-3 : goal.bounds-dst-k-3
bounds-dst-k-3 c = simp length-set (omega arith)

pub bounds-dst-k-4 : goal.bounds-dst-k-4
bounds-dst-k-4 c = simp length-set (omega arith)

pub bounds-dst-k-5 : goal.bounds-dst-k-5
bounds-dst-k-5 c = simp length-set (omega arith)

pub bounds-dst-k-6 : goal.bounds-dst-k-6
bounds-dst-k-6 c = simp length-set (omega arith)

pub bounds-dst-k-7 : goal.bounds-dst-k-7
bounds-dst-k-7 c = simp length-set (omega arith)

pub bounds-dst-k-8 : goal.bounds-dst-k-8
bounds-dst-k-8 c = simp length-set (omega arith)

pub shape_of-dst : goal.shape_of-dst
shape_of-dst c = simp length-set

pub returns : goal.returns
returns c = let a = c.args in eight a.src.now a.j a.k a.dst.now (omega arith)
