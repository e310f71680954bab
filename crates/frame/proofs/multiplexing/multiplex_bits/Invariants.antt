use mathlib.Core.Path.{◌≡◌}
use Rattle.laws.specs.Sums.{sum_to}
use Rattle.laws.specs.Laid.{Laid}
use Rattle.laws.specs.Joined.{joined}
use Rattle.sheet.specs.Fields.{encoded_of}
use Rattle.matching.specs.Shares.{cut_of}
use Rattle.pattern.specs.Pattern.{as_is}
use Rattle.frame.specs.Frame.{sent_of, bits_of}
use Rattle.frame.proofs.multiplexing.multiplex_bits.Given as goal

abbrev pub invariant-loop-i : goal.invariant-loop-i
invariant-loop-i l =
    (l.from ≡ sum_to (encoded_of l.opened.fields) l.i)
    × Laid l.initial.out l.out (cut_of l.opened.fields l.i) (joined (λ k. sent_of as_is l.opened.fields l.frame.0 k (bits_of l.opened.fields l.contents k)) l.i)
