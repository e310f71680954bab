-- The listing is promised: the contract of `list_sheet`, as the toolchain reads it out of the code, takes all inputs and determines the text.
use Rattle.counters.specs.Promised.{Promised}
use Rattle.counters.proofs.PromiseLaws.{alone}
use Rattle.listing.specs.contracts.list_sheet as ListSheet
use Rattle.listing.proofs.list_sheet.Reads as ListSheetReads

pub list_sheet : Promised ListSheet.ended ListSheetReads.Asked ListSheetReads.Learnt
list_sheet = record { takes_all = λ κs inputs. tt; one_answer = λ κs inputs x y v w p q. alone p.0 q.0 }
