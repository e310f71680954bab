use Rattle.std.proofs.Common.{◌≡◌, ℕ, ◌+◌, ◌*◌, ◌<◌, ◌≤◌, length, get_or}
use Rattle.pattern.proofs.copy_by.Given as goal

abbrev pub invariant-loop-x : goal.invariant-loop-x
invariant-loop-x l =
    (l.j < length l.src → l.j ≡ l.from + l.x-index * l.step)
    × (length l.src ≤ l.j → length l.src ≤ l.from + l.x-index * l.step)
    × ((k : ℕ) → k < l.x-index → get_or l.dst k 0 ≡ get_or l.src (l.from + k * l.step) 0)
