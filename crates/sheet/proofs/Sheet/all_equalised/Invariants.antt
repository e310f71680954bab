use Prim.Native.Nat.{◌*◌}
use lib.ListN.{get_or}
use Rattle.laws.proofs.SumLaws.{Summed}
use Rattle.sheet.specs.Counts.{most_frames}
use Rattle.sheet.specs.Sizes.{frames_in, segment_in}
use Rattle.sheet.proofs.Sheet.all_equalised.Given as goal

abbrev pub invariant-loop-i : goal.invariant-loop-i
invariant-loop-i l = Summed (λ k. frames_in (get_or l.self.tti k 0) * segment_in (get_or l.self.e k 0) (frames_in (get_or l.self.tti k 0))) (most_frames * 65535) l.i-end l.sum l.i
