-- Each call of this crate is promised: its contract, as the toolchain reads it out of the code, takes all inputs and determines the result and the last
-- values of all that was lent for writing. A statement names the call alone, so that a contract that leaves a part open is refused here.
use mathlib.Core.Path.{refl}
use mathlib.Core.List.{List}
use Prim.Native.Nat.{ℕ}
use Rattle.counters.specs.Promised.{Promised}
use Rattle.counters.proofs.RefusalLaws.{told_alone, count_same}
use Rattle.sheet.specs.Fields.{blank}
use Rattle.sheet.specs.Numbers.{SheetAnswer, read_left}
use Rattle.looking.proofs.OutcomeLaws.{answer_and}
use Rattle.sheets.proofs.sheet_read as SheetRead
use Rattle.sheets.specs.contracts.sheet_read as SheetReadContract
use Rattle.sheets.proofs.sheet_length as SheetLength
use Rattle.sheets.specs.contracts.sheet_length as SheetLengthContract
use Rattle.sheets.proofs.sheet_write as SheetWrite
use Rattle.sheets.specs.contracts.sheet_write as SheetWriteContract

pub sheet_read : Promised SheetReadContract.ended SheetRead.Reads.Asked SheetRead.Reads.Learnt
sheet_read = record { takes_all = λ κs inputs. tt; one_answer = λ κs inputs x y v w. told_alone blank (λ (z : SheetAnswer). z.number) (λ (z : SheetAnswer). z.sheet) read_left (λ r. refl) (λ r. refl) }

pub sheet_length : Promised SheetLengthContract.ended SheetLength.Reads.Asked SheetLength.Reads.Learnt
sheet_length = record { takes_all = λ κs inputs. tt; one_answer = λ κs inputs x y v w p q. (count_same p q, refl) }

pub sheet_write : Promised SheetWriteContract.ended SheetWrite.Reads.Asked SheetWrite.Reads.Learnt
sheet_write = record { takes_all = λ κs inputs. tt; one_answer = λ κs inputs x y v w. answer_and (λ (buffer : List ℕ). (tt, (buffer, tt))) }
