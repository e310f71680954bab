-- Each call that C links is promised, as the library's call of its name is: its contract, as the toolchain reads it out of the code, takes all inputs and
-- determines the result and the last values of all that was lent for writing.
use Rattle.counters.specs.Promised.{Promised}
use Rattle.ummervia.proofs.Unique as Unique
use Rattle.ummervia_c.proofs.umv_sheet_read as UmvSheetRead
use Rattle.ummervia_c.specs.contracts.umv_sheet_read as UmvSheetReadContract
use Rattle.ummervia_c.proofs.umv_sheet_length as UmvSheetLength
use Rattle.ummervia_c.specs.contracts.umv_sheet_length as UmvSheetLengthContract
use Rattle.ummervia_c.proofs.umv_sheet_write as UmvSheetWrite
use Rattle.ummervia_c.specs.contracts.umv_sheet_write as UmvSheetWriteContract
use Rattle.ummervia_c.proofs.umv_sizes as UmvSizes
use Rattle.ummervia_c.specs.contracts.umv_sizes as UmvSizesContract
use Rattle.ummervia_c.proofs.umv_channel as UmvChannel
use Rattle.ummervia_c.specs.contracts.umv_channel as UmvChannelContract
use Rattle.ummervia_c.proofs.umv_build as UmvBuild
use Rattle.ummervia_c.specs.contracts.umv_build as UmvBuildContract
use Rattle.ummervia_c.proofs.umv_multiplex as UmvMultiplex
use Rattle.ummervia_c.specs.contracts.umv_multiplex as UmvMultiplexContract
use Rattle.ummervia_c.proofs.umv_spread as UmvSpread
use Rattle.ummervia_c.specs.contracts.umv_spread as UmvSpreadContract
use Rattle.ummervia_c.proofs.umv_part as UmvPart
use Rattle.ummervia_c.specs.contracts.umv_part as UmvPartContract
use Rattle.ummervia_c.proofs.umv_name as UmvName
use Rattle.ummervia_c.specs.contracts.umv_name as UmvNameContract
use Rattle.ummervia_c.proofs.umv_gather as UmvGather
use Rattle.ummervia_c.specs.contracts.umv_gather as UmvGatherContract
use Rattle.ummervia_c.proofs.umv_take_back as UmvTakeBack
use Rattle.ummervia_c.specs.contracts.umv_take_back as UmvTakeBackContract
use Rattle.ummervia_c.proofs.umv_finish as UmvFinish
use Rattle.ummervia_c.specs.contracts.umv_finish as UmvFinishContract
use Rattle.ummervia_c.proofs.umv_heard as UmvHeard
use Rattle.ummervia_c.specs.contracts.umv_heard as UmvHeardContract
use Rattle.ummervia_c.proofs.umv_link as UmvLink
use Rattle.ummervia_c.specs.contracts.umv_link as UmvLinkContract

pub umv_sheet_read : Promised UmvSheetReadContract.ended UmvSheetRead.Reads.Asked UmvSheetRead.Reads.Learnt
umv_sheet_read = Unique.umv_sheet_read

pub umv_sheet_length : Promised UmvSheetLengthContract.ended UmvSheetLength.Reads.Asked UmvSheetLength.Reads.Learnt
umv_sheet_length = Unique.umv_sheet_length

pub umv_sheet_write : Promised UmvSheetWriteContract.ended UmvSheetWrite.Reads.Asked UmvSheetWrite.Reads.Learnt
umv_sheet_write = Unique.umv_sheet_write

pub umv_sizes : Promised UmvSizesContract.ended UmvSizes.Reads.Asked UmvSizes.Reads.Learnt
umv_sizes = Unique.umv_sizes

pub umv_channel : Promised UmvChannelContract.ended UmvChannel.Reads.Asked UmvChannel.Reads.Learnt
umv_channel = Unique.umv_channel

pub umv_build : Promised UmvBuildContract.ended UmvBuild.Reads.Asked UmvBuild.Reads.Learnt
umv_build = Unique.umv_build

pub umv_multiplex : Promised UmvMultiplexContract.ended UmvMultiplex.Reads.Asked UmvMultiplex.Reads.Learnt
umv_multiplex = Unique.umv_multiplex

pub umv_spread : Promised UmvSpreadContract.ended UmvSpread.Reads.Asked UmvSpread.Reads.Learnt
umv_spread = Unique.umv_spread

pub umv_part : Promised UmvPartContract.ended UmvPart.Reads.Asked UmvPart.Reads.Learnt
umv_part = Unique.umv_part

pub umv_name : Promised UmvNameContract.ended UmvName.Reads.Asked UmvName.Reads.Learnt
umv_name = Unique.umv_name

pub umv_gather : Promised UmvGatherContract.ended UmvGather.Reads.Asked UmvGather.Reads.Learnt
umv_gather = Unique.umv_gather

pub umv_take_back : Promised UmvTakeBackContract.ended UmvTakeBack.Reads.Asked UmvTakeBack.Reads.Learnt
umv_take_back = Unique.umv_take_back

pub umv_finish : Promised UmvFinishContract.ended UmvFinish.Reads.Asked UmvFinish.Reads.Learnt
umv_finish = Unique.umv_finish

pub umv_heard : Promised UmvHeardContract.ended UmvHeard.Reads.Asked UmvHeard.Reads.Learnt
umv_heard = Unique.umv_heard

pub umv_link : Promised UmvLinkContract.ended UmvLink.Reads.Asked UmvLink.Reads.Learnt
umv_link = Unique.umv_link
