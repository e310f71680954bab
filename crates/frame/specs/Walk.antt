-- Step 6's numbers of one channel in a frame, as the code of sending and of taking back works with them.
use Rattle.std.specs.Prelude.{◌≡◌, ℕ, ◌<◌}
use Rattle.sheet.specs.Sizes.{size_of}
use Rattle.sheet.specs.declared.Sheet.{Sheet}
use Rattle.matching.specs.Signed.{signed_by}
use Rattle.matching.specs.Shares.{share_of, change_of}
use Rattle.pattern.specs.Pattern.{Segment}
use Rattle.frame.specs.Frame.{start_at}
use Rattle.frame.specs.declared.walking.Walk.{Walk}

-- N, d, and the start, which counts only where there is a pattern
pub record Walks (sh : Sheet) (number i : ℕ) (w : Walk) : Type 0 where
  pub size : w.n ≡ size_of sh i
  pub change : signed_by w.d.less w.d.size ≡ change_of sh i
  pub start : 0 < size_of sh i → 0 < w.d.size → w.e ≡ start_at sh number i
  pub fits : Segment w.d.less w.d.size w.n (share_of sh i) w.e
